-- What follows from the definitions alone. Each law is the contract of a function that does nothing.
use Rattle.std.specs.Prelude.{◌≡◌, ◌≢◌, ◌<◌, ◌≤◌, ◌↔◌, ◌*◌, ◌^◌, true, ℕ, suc, List, [], ◌∷◌, ◌++◌, length, Option, Some, None}
use Rattle.std.specs.List.{All}
use Rattle.hc_range.specs.Order.{IsAtMost, IsBelow}
use Rattle.hc_base.specs.declared.numbers.Logical.{Logical}
use Rattle.hc_base.specs.Content.{Ascends, Child, Content, Entry, IsContent, IsEntryOf, IsWithin, keys}
use Rattle.hc_base.specs.Lookup.{Among, but}
use Rattle.hc_base.specs.Words.{IsNumber}
use Rattle.hc_page.specs.Drafts.{child_of}
use Rattle.hc_page.specs.Puts.{put_entry}
use Rattle.hc_shape.specs.Changes.{cut_shape, first_leaf, first_shape, first_top, grown_shape, Grows, Halves, HalvesInner, IsChildAt, Posts, Puts, Unputs}
use Rattle.hc_shape.specs.Halves.{AreEntriesOf, CanHalve, HalvesFit, IsCut, IsPlace, left_half, right_half}
use Rattle.hc_shape.specs.Leaves.{CanCut, LowsAscend, moved, number_of, with_next}
use Rattle.hc_shape.specs.Plans.{IsHalvedInner, IsPutHalved}
use Rattle.hc_shape.specs.Shape.{AreLinked, entry_of, IsNamed, IsReached, IsShape, IsUnreached, leaf_of, number_at, Shape, Stays}
use Rattle.hc_shape.specs.Versions.{but_key, HasPut, HasPutHalved, HasUnput, is_same_key, version_of}

-- A cut moves the keys of one number from the cut on to the new one; each other key stays where it was.
abbrev pub ACutMovesKeys : Type 0
ACutMovesKeys = (low : ℕ → List ℕ) (numbers : List ℕ) (at new : ℕ) (cut : List ℕ) → CanCut low numbers at new cut
    → (key : List ℕ) → number_of (but low new cut) key (with_next at new numbers) ≡ moved at new cut key (number_of low key numbers)

-- and the low fences ascend after it
abbrev pub ACutKeepsOrder : Type 0
ACutKeepsOrder = (low : ℕ → List ℕ) (numbers : List ℕ) (at new : ℕ) (cut : List ℕ) → CanCut low numbers at new cut
    → LowsAscend (but low new cut) (with_next at new numbers)

-- A key has the number whose low fence is not above it, where the low fence of each number further right is.
abbrev pub AKeyHasItsNumber : Type 0
AKeyHasItsNumber = (low : ℕ → List ℕ) (numbers : List ℕ) (key : List ℕ) (n : ℕ) → LowsAscend low numbers → Among n numbers → IsAtMost (low n) key
    → ((m : ℕ) → Among m numbers → IsBelow (low n) (low m) → IsBelow key (low m)) → number_of low key numbers ≡ n

-- In ascending entries each is the version of its key.
abbrev pub AnEntryIsItsKeysVersion : Type 0
AnEntryIsItsKeysVersion = (es : List Entry) (e : Entry) → Ascends (keys es) → Among e es → version_of es e.key ≡ Some e

-- Two keys are the same exactly where they are one.
abbrev pub SameKeysAreOne : Type 0
SameKeysAreOne = (a b : List ℕ) → (is_same_key a b ≡ true) ↔ (a ≡ b)

-- An entry that is put in its key's place is the version of its key, and changes no other key's.
abbrev pub APutIsOfOneKey : Type 0
APutIsOfOneKey = (es : List Entry) (e : Entry) → HasPut es (put_entry e es) e

-- So it is where the list is cut in two, and the cut parts the keys.
abbrev pub ACutPutIsOfOneKey : Type 0
ACutPutIsOfOneKey = (old left right : List Entry) (cut : List ℕ) (e : Entry)
    → All (λ x. IsBelow x.key cut) left → All (λ x. IsAtMost cut x.key) right → left ++ right ≡ put_entry e old
    → HasPutHalved old left right cut e

-- An entry that is taken out leaves its key without one, and changes no other key's.
abbrev pub AnUnputIsOfOneKey : Type 0
AnUnputIsOfOneKey = (before after : List Entry) (e : Entry)
    → All (λ x. IsBelow x.key e.key) before → All (λ x. IsBelow e.key x.key) after
    → HasUnput (before ++ (e ∷ after)) (before ++ after) e.key None

-- Where an older entry of the key is put back in its place, the key has that one.
abbrev pub AnUnputLeavesAnOlder : Type 0
AnUnputLeavesAnOlder = (es : List Entry) (older : Entry) → HasUnput es (put_entry older es) older.key (Some older)

-- Where one small entry more than fits is put, both halves of the cut fit.
abbrev pub TheHalvesFit : Type 0
TheHalvesFit = (c : Content) (e : Entry) (fresh : Logical) (k : ℕ) → CanHalve c e → IsCut c fresh (put_entry e c.entries) k
    → HalvesFit c fresh (put_entry e c.entries) k

-- There is such a place.
abbrev pub SomePlaceFits : Type 0
SomePlaceFits = (c : Content) (e : Entry) (fresh : Logical) → CanHalve c e
    → (k : ℕ) × IsPlace c (put_entry e c.entries) k × HalvesFit c fresh (put_entry e c.entries) k

-- Where the entries can be cut there is a cut.
abbrev pub ThereIsACut : Type 0
ThereIsACut = (c : Content) (fresh : Logical) (es : List Entry) (j : ℕ) → IsPlace c es j → (k : ℕ) × IsCut c fresh es k

-- Both halves are contents: what a page has to meet but for its size.
abbrev pub HalvesAreContents : Type 0
HalvesAreContents = (c : Content) (fresh : Logical) (es : List Entry) (k : ℕ) → IsContent c → IsNumber fresh.0 → AreEntriesOf c es
    → 0 < k → k < length es → IsContent (left_half c fresh es k) × IsContent (right_half c fresh es k)

-- There is one cut at most.
abbrev pub OneCut : Type 0
OneCut = (c : Content) (fresh : Logical) (es : List Entry) (j k : ℕ) → IsCut c fresh es j → IsCut c fresh es k → j ≡ k

-- The halves of a leaf with an entry put, at the cut, are what `IsPutHalved` says.
abbrev pub ACutIsAPutHalved : Type 0
ACutIsAPutHalved = (c : Content) (e : Entry) (fresh : Logical) (k : ℕ) → c.level ≡ 0 → Ascends (keys (put_entry e c.entries))
    → IsCut c fresh (put_entry e c.entries) k
    → IsPutHalved c e fresh (left_half c fresh (put_entry e c.entries) k) (right_half c fresh (put_entry e c.entries) k)

-- Those of an inner page with a child more are what `IsHalvedInner` says.
abbrev pub ACutIsAHalvedInner : Type 0
ACutIsAHalvedInner = (c : Content) (key : List ℕ) (child fresh : Logical) (k : ℕ) → 0 < c.level → IsCut c fresh (put_entry (child_of key child) c.entries) k
    → IsHalvedInner c key child fresh (left_half c fresh (put_entry (child_of key child) c.entries) k)
    (right_half c fresh (put_entry (child_of key child) c.entries) k)

-- a key has this entry now, or none, and each other key what it had
abbrev pub ChangesEntry : (ℕ → Content) → Shape → (ℕ → Content) → Shape → List ℕ → Option Entry → Type 0
ChangesEntry node s after t at o = (key : List ℕ) → entry_of after t key ≡ but_key (entry_of node s) at o key

-- each key has the entry that it had
abbrev pub KeepsEntries : (ℕ → Content) → Shape → (ℕ → Content) → Shape → Type 0
KeepsEntries node s after t = (key : List ℕ) → entry_of after t key ≡ entry_of node s key

-- The two pages at the start have a shape.
abbrev pub ShapeFirst : Type 0
ShapeFirst = (node : ℕ → Content) → node 1 ≡ first_leaf → node 2 ≡ first_top → IsShape node first_shape

-- A page at a number that no link reaches does not matter.
abbrev pub ShapeMapped : Type 0
ShapeMapped = (node : ℕ → Content) (s : Shape) (n : ℕ) (c : Content) → IsShape node s → IsUnreached s n
    → IsShape (but node n c) s × KeepsEntries node s (but node n c) s

-- A put keeps the shape, and changes one key's entry; so does an unput.
abbrev pub ShapePut : Type 0
ShapePut = (node : ℕ → Content) (s : Shape) (n : ℕ) (e : Entry) (new : Content) → Puts node s n e new
    → IsShape (but node n new) s × ChangesEntry node s (but node n new) s e.key (Some e)

abbrev pub ShapeUnput : Type 0
ShapeUnput = (node : ℕ → Content) (s : Shape) (n : ℕ) (key : List ℕ) (older : Option Entry) (new : Content)
    → Unputs node s n key older new
    → IsShape (but node n new) s × ChangesEntry node s (but node n new) s key older

-- A put with a halving changes one key's entry too. The new number is next to the leaf's own, and has its keys from the cut on.
abbrev pub ShapeHalved : Type 0
ShapeHalved = (node : ℕ → Content) (s : Shape) (n : ℕ) (e : Entry) (fresh : Logical) (left right : Content)
    → Halves node s n e fresh left right
    → IsShape (but node n left) (cut_shape s 0 n fresh.0 right.low) × Stays s (cut_shape s 0 n fresh.0 right.low)
    × ((key : List ℕ) → leaf_of (cut_shape s 0 n fresh.0 right.low) key ≡ moved n fresh.0 right.low key (leaf_of s key))
    × ChangesEntry node s (but node n left) (cut_shape s 0 n fresh.0 right.low) e.key (Some e)

-- A child more keeps the shape and each key's entry.
abbrev pub ShapePosted : Type 0
ShapePosted = (node : ℕ → Content) (s : Shape) (k n : ℕ) (key : List ℕ) (child : Logical) (new : Content)
    → Posts node s k n key child new
    → IsShape (but node n new) s × KeepsEntries node s (but node n new) s

-- A halving of an inner page puts the new number next to the page's own, and keeps each key's entry.
abbrev pub ShapeHalvedInner : Type 0
ShapeHalvedInner = (node : ℕ → Content) (s : Shape) (k n : ℕ) (key : List ℕ) (child fresh : Logical) (left right : Content)
    → HalvesInner node s k n key child fresh left right
    → IsShape (but node n left) (cut_shape s (suc k) n fresh.0 right.low) × Stays s (cut_shape s (suc k) n fresh.0 right.low)
    × KeepsEntries node s (but node n left) (cut_shape s (suc k) n fresh.0 right.low)

-- A growth puts two numbers on the top's old level, and the top on one of its own above; it keeps each key's entry.
abbrev pub ShapeGrown : Type 0
ShapeGrown = (node : ℕ → Content) (s : Shape) (k : ℕ) (key : List ℕ) (child first second : Logical) (left right top : Content)
    → Grows node s k key child first second left right top
    → IsShape (but node 2 top) (grown_shape s first.0 second.0 right.low) × Stays s (grown_shape s first.0 second.0 right.low)
    × KeepsEntries node s (but node 2 top) (grown_shape s first.0 second.0 right.low)

-- What stays from one shape to the next, and from that to a third, stays from the first to the third.
abbrev pub StaysOn : Type 0
StaysOn = (s t u : Shape) → Stays s t → Stays t u → Stays s u

-- On each level the pages' fences part all keys: a key is within the fences of its number's page, and of no other.
abbrev pub FencesPartKeys : Type 0
FencesPartKeys = (node : ℕ → Content) (s : Shape) (k : ℕ) (key : List ℕ) → IsShape node s → k ≤ s.level 2
    → Among (number_at s k key) (s.numbers k) × IsWithin (node (number_at s k key)).low (node (number_at s k key)).high key
    × ((n : ℕ) → Among n (s.numbers k) → IsWithin (node n).low (node n).high key → number_at s k key ≡ n)

-- A right link leads to a number of the same level, whose low fence is the page's high fence, and greater than its low one.
abbrev pub ALinkLeadsRight : Type 0
ALinkLeadsRight = (node : ℕ → Content) (s : Shape) (k n : ℕ) (m : Logical) → IsShape node s
    → Among n (s.numbers k) → (node n).right ≡ Some m
    → Among m.0 (s.numbers k) × IsBelow (s.low n) (s.low m.0) × ((node n).high ≡ Some (s.low m.0))

-- An entry of an inner page names a number one level down whose low fence is the entry's key. So the last entry at or below a
-- key names one whose low fence is at or below it.
abbrev pub AnEntryLeadsDown : Type 0
AnEntryLeadsDown = (node : ℕ → Content) (s : Shape) (k n : ℕ) (e : Entry) → IsShape node s
    → Among n (s.numbers (suc k)) → Among e (node n).entries
    → (m : Logical) × (e.held ≡ Child m) × Among m.0 (s.numbers k) × (s.low m.0 ≡ e.key)

-- There is an entry at or below each key from the page's low fence on.
abbrev pub AKeyHasAWayDown : Type 0
AKeyHasAWayDown = (node : ℕ → Content) (s : Shape) (k n : ℕ) (key : List ℕ) → IsShape node s
    → Among n (s.numbers (suc k)) → IsAtMost (s.low n) key
    → (e : Entry) × Among e (node n).entries × IsAtMost e.key key

-- The entries of one level name different numbers: two that name the same one are one entry of one page.
abbrev pub ChildrenDiffer : Type 0
ChildrenDiffer = (node : ℕ → Content) (s : Shape) (k n i : ℕ) (e f : Entry) (m : Logical) → IsShape node s
    → Among n (s.numbers (suc k)) → Among i (s.numbers (suc k))
    → Among e (node n).entries → Among f (node i).entries → e.held ≡ Child m → f.held ≡ Child m → (n ≡ i) × (e ≡ f)

-- Below the top a level has at least twice as many numbers as the one above it.
abbrev pub TwiceAsMany : Type 0
TwiceAsMany = (node : ℕ → Content) (s : Shape) (k : ℕ) → IsShape node s → suc k < s.level 2
    → 2 * length (s.numbers (suc k)) ≤ length (s.numbers k)

-- The top's level is at most d where there are fewer leaves than 2 to the power d: at most the number of binary digits of the
-- number of leaves.
abbrev pub LevelsByLeaves : Type 0
LevelsByLeaves = (node : ℕ → Content) (s : Shape) (d : ℕ) → IsShape node s → length (s.numbers 0) < 2 ^ d → s.level 2 ≤ d

-- It is at most d where the numbers that links reach are at most 2 to the power d: at most 20 where these are at most 2 to the
-- power 20.
abbrev pub LevelsByNumbers : Type 0
LevelsByNumbers = (node : ℕ → Content) (s : Shape) (d : ℕ) → IsShape node s
    → ((n : ℕ) → IsReached s n → n ≤ 2 ^ d) → s.level 2 ≤ d

-- Numbers 1 and 2 are reached, with the empty low fence, and number 1 is a leaf.
abbrev pub TheFirstTwo : Type 0
TheFirstTwo = (node : ℕ → Content) (s : Shape) → IsShape node s
    → (IsReached s 1 × (s.level 1 ≡ 0) × (s.low 1 ≡ [])) × (IsReached s 2 × (s.low 2 ≡ []))

-- A number of a level is reached, and on that level, which is not above the top's.
abbrev pub ANumberHasItsLevel : Type 0
ANumberHasItsLevel = (node : ℕ → Content) (s : Shape) (k n : ℕ) → IsShape node s → Among n (s.numbers k)
    → IsReached s n × (s.level n ≡ k) × (k ≤ s.level 2)

-- A number with its low fence can be an entry of an inner page.
abbrev pub AChildIsAnEntry : Type 0
AChildIsAnEntry = (node : ℕ → Content) (s : Shape) (k : ℕ) (key : List ℕ) (child : Logical) → IsShape node s
    → IsChildAt s k key child → IsEntryOf 1 (child_of key child)

-- The numbers of a level are in the order of their pages' links, from the first to the last.
abbrev pub LevelsAreLinked : Type 0
LevelsAreLinked = (node : ℕ → Content) (s : Shape) (k : ℕ) → IsShape node s → k ≤ s.level 2 → AreLinked node (s.numbers k)

-- Where each number of a level but the first is named one level up, the last entry at or below a key, of the page that has the
-- key, names the number that has it: a descent takes no right link.
abbrev pub ADescentGoesStraight : Type 0
ADescentGoesStraight = (node : ℕ → Content) (s : Shape) (k n : ℕ) (key : List ℕ) (e : Entry) (m : Logical) → IsShape node s
    → ((i : ℕ) → Among i (s.numbers k) → s.low i ≢ [] → IsNamed node s k i)
    → Among n (s.numbers (suc k)) → IsWithin (node n).low (node n).high key → Among e (node n).entries
    → e.held ≡ Child m → IsAtMost e.key key
    → ((f : Entry) → Among f (node n).entries → IsBelow e.key f.key → IsBelow key f.key) → number_at s k key ≡ m.0

-- After a page is cut in two, links reach the new number, and each other number that they did not reach they do not reach still.
abbrev pub ACutReachesOneMore : Type 0
ACutReachesOneMore = (s : Shape) (k at new : ℕ) (cut : List ℕ) → Among at (s.numbers k)
    → IsReached (cut_shape s k at new cut) new
    × ((m : ℕ) → IsUnreached s m → m ≢ new → IsUnreached (cut_shape s k at new cut) m)

-- So it is after a growth, but for the two new ones.
abbrev pub AGrowthReachesTwoMore : Type 0
AGrowthReachesTwoMore = (node : ℕ → Content) (s : Shape) (first second : ℕ) (cut : List ℕ) → IsShape node s
    → IsUnreached s first → IsUnreached s second → first ≢ second
    → IsReached (grown_shape s first second cut) first × IsReached (grown_shape s first second cut) second
    × ((m : ℕ) → IsUnreached s m → m ≢ first → m ≢ second → IsUnreached (grown_shape s first second cut) m)
