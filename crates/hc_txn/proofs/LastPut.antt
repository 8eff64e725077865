-- The last cell that own writes put.
use Rattle.std.proofs.Common.{◌≡◌, ◌∙◌, refl, sym, ap, subst, ℕ, true, Option, Some, None, List, [], ◌∷◌, ◌++◌, append_assoc, map, inl, inr}
use Rattle.std.proofs.lemmas.List.{append-nil}
use Rattle.std.proofs.lemmas.Bool.{true≢false}
use Rattle.hc_range.specs.declared.range.Range.{Range}
use Rattle.hc_range.specs.Order.{is_below}
use Rattle.hc_range.proofs.ByteOrder.{below_flip, below_irrefl}
use Rattle.hc_core.specs.Desk.{AreAscendingWrites}
use Rattle.hc_base.specs.Lookup.{Among}
use Rattle.hc_core.specs.declared.cells.Cell.{Cell}
use Rattle.hc_core.specs.declared.cells.Write.{Write}
use Rattle.hc_txn.specs.Kept.{Known}
use Rattle.hc_txn.specs.Laid.{standing, with_standing}
use Rattle.hc_txn.specs.Laying.{AreStandingIn, ArePutNothing, IsLastOwn, IsLastPut, PutsNothing}
use Rattle.hc_txn.specs.declared.kept.Kept.{Kept}
use Rattle.hc_txn.proofs.KeptEntries.{seen, shown}
use Rattle.hc_txn.proofs.LaidCells.{below_writes}
use Rattle.hc_txn.proofs.Parts.{among_append}

standing_more : (key : List ℕ) (now : Option (Option (List ℕ))) (rest more : List Write) → with_standing key now rest ++ more ≡ with_standing key now (rest ++ more)
standing_more key None rest more = refl
standing_more key (Some rec) rest more = refl

module _ {K : Type 0} (bytes : K → List ℕ) where
  -- the own writes of entries with one more at the end
  pub standing_push : (es : List (K × Kept)) (e : K × Kept) → standing (seen bytes (es ++ e ∷ [])) ≡ standing (seen bytes es) ++ with_standing (bytes e.0) e.1.now []
  standing_push [] e = refl
  standing_push (f ∷ es) e =
      ap (with_standing (bytes f.0) f.1.now) (standing_push es e) ∙ sym (standing_more (bytes f.0) f.1.now (standing (seen bytes es)) (with_standing (bytes e.0) e.1.now []))

-- those that were passed over put nothing
abbrev pub HasPassed : List Write → List Write → Type 0
HasPassed all rest = (after : List Write) × (all ≡ rest ++ after) × ArePutNothing after

nothing_put : (key : List ℕ) (now : Option (Option (List ℕ))) (after : List Write) → PutsNothing now → ArePutNothing after → ArePutNothing (with_standing key now [] ++ after)
nothing_put key None after h nothing = nothing
nothing_put key (Some None) after h nothing = λ w a. elim a [ inl e ↦ ap (λ (x : Write). x.rec) e | inr b ↦ nothing w b ]
nothing_put key (Some (Some rec)) after h nothing = absurd h

pub passed_more : (all before : List Write) (key : List ℕ) (now : Option (Option (List ℕ))) → PutsNothing now → HasPassed all (before ++ with_standing key now []) → HasPassed all before
passed_more all before key now h passed =
    (with_standing key now [] ++ passed.0, passed.1 ∙ append_assoc before (with_standing key now []) passed.0, nothing_put key now passed.0 h passed.2)

-- the last that puts a record
pub last_found : (all before : List Write) (key rec : List ℕ) (now : Option (Option (List ℕ))) → now ≡ Some (Some rec) → HasPassed all (before ++ with_standing key now [])
    → IsLastPut all (Some (record { key = key; rec = rec }))
last_found all before key rec now e passed =
    (before, passed.0, passed.1 ∙ append_assoc before (with_standing key now []) passed.0 ∙ ap (λ (n : Option (Option (List ℕ))). before ++ (with_standing key n [] ++ passed.0)) e, passed.2)

-- and where all were passed over there is none
pub last_none : (all : List Write) → HasPassed all [] → IsLastPut all None
last_none all passed = λ w a. passed.2 w (subst (λ (ws : List Write). Among w ws) passed.1 a)

-- what comes before a write among others in order has a lower key
before_below : (before : List Write) (w : Write) (after : List Write) (x : Write) → AreAscendingWrites (before ++ w ∷ after) → Among x before → is_below x.key w.key ≡ true
before_below [] w after x h a = absurd a
before_below (b ∷ before) w after x h (inl e) =
    subst (λ (y : Write). is_below y.key w.key ≡ true) (sym e) (below_writes b.key (before ++ w ∷ after) h.0 w ((among_append w before (w ∷ after)).1 (inr (inl refl))))
before_below (b ∷ before) w after x h (inr a) = before_below before w after x h.1 a

-- the last of the writes that stand in a range, as an own write
pub last_own : (range : Range) (own writes : List Write) (cell : Option Cell) → AreStandingIn range own writes → IsLastPut writes cell → IsLastOwn range own cell
last_own range own writes None stand last = λ key rec inside e. last (record { key = key; rec = rec }) ((stand.1 key rec).1 (inside, e))
last_own range own writes (Some cell) stand last =
    let w : Write = record { key = cell.key; rec = Some cell.rec } in
    let all = among_append w last.0 (w ∷ last.1) in
    let this = (stand.1 cell.key (Some cell.rec)).0 (subst (λ (ws : List Write). Among w ws) (sym last.2) (all.1 (inr (inl refl)))) in (
      this.0,
      this.1,
      λ key rec inside above e.
          let a = subst (λ (ws : List Write). Among (record { key = key; rec = rec }) ws) last.2 ((stand.1 key rec).1 (inside, e)) in
          elim ((among_append (record { key = key; rec = rec }) last.0 (w ∷ last.1)).0 a) [
            | inl b ↦ absurd (true≢false (sym above ∙ below_flip key cell.key (before_below last.0 w last.1 (record { key = key; rec = rec }) (subst AreAscendingWrites last.2 stand.0) b)))
            | inr b ↦ elim b [
              | inl same ↦ absurd (true≢false (sym above ∙ ap (is_below cell.key) (ap (λ (x : Write). x.key) same) ∙ below_irrefl cell.key))
              | inr c ↦ last.3 (record { key = key; rec = rec }) c
            ]
          ],
    )
