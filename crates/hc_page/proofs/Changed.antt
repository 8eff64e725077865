-- A leaf's content with one entry changed is a content.
use Rattle.std.proofs.Common.{◌≡◌, ℕ, zero, suc, ◌+◌, ◌-◌, ◌<◌, ◌≤◌, List, [], ◌∷◌, ◌++◌, length, take, drop, get_or, sym, ap, subst, ◌∙◌, arith, length-append, length-drop, length-take-le, append-nil, append_assoc}
use Rattle.std.specs.List.{All}
use Rattle.std.proofs.lemmas.List.{get_or-map, length-map, take-append-drop, drop-drop}
use Rattle.std.proofs.lemmas.List.Elements.{All-head, All-tail, All-cons, All-take, All-drop, All-append, All-get_or, All-from_get_or}
use Rattle.hc_range.specs.Order.{IsBelow}
use Rattle.hc_base.specs.Content.{Content, Entry, Ascends, IsContent, IsEntryOf, IsWithin, BeginsAt, keys}
use Rattle.hc_base.specs.Layout.{used_words, all_words, entry_words, low_words, fence_words}
use Rattle.hc_page.specs.Drafts.{entries_from, IsDraft, HasRoom}
use Rattle.hc_page.specs.declared.writer.Draft.{Draft}
use Rattle.hc_page.specs.Puts.{CanPut, CanTake, CanBegin, CanEnd, IsAround, with_entries, without_entry}
use Rattle.hc_page.proofs.Entries.{all_words-split, entry_there}
use Rattle.hc_page.proofs.Putting.{put_is, around_lesser, around_greater}

-- what holds of the keys of entries
key_of : (es : List Entry) (i : ℕ) (d : Entry) → i < length es → get_or (keys es) i [] ≡ (get_or es i d).key
key_of es i d within = get_or-map (λ entry. entry.key) es i d [] within

pub of_keys : (P : List ℕ → Type 0) (d : Entry) (es : List Entry) → All P (keys es) → All (λ x. P x.key) es
of_keys P d es all =
    All-from_get_or (λ x. P x.key) es d
    (λ i within. subst P (key_of es i d within) (All-get_or P (keys es) i [] (omega (arith, length-map es (λ (entry : Entry). entry.key))) all))

pub to_keys : (P : List ℕ → Type 0) (d : Entry) (es : List Entry) → All (λ x. P x.key) es → All P (keys es)
to_keys P d es all =
    All-from_get_or P (keys es) []
    (λ i small.
    let within : i < length es = omega (arith, length-map es (λ (entry : Entry). entry.key)) in
    subst P (sym (key_of es i d within)) (All-get_or (λ x. P x.key) es i d within all))

map_all : (P Q : Entry → Type 0) (d : Entry) (xs : List Entry) → ((x : Entry) → P x → Q x) → All P xs → All Q xs
map_all P Q d xs step all = All-from_get_or Q xs d (λ i within. step (get_or xs i d) (All-get_or P xs i d within all))

ascends_drop : (a : ℕ) (es : List Entry) → Ascends (keys es) → Ascends (keys (drop a es))
ascends_drop zero es up = up
ascends_drop (suc a) [] up = up
ascends_drop (suc a) (x ∷ es) up = ascends_drop a es up.1

-- entries in between are left out
pub ascends_cut : (es : List Entry) (b a : ℕ) → b ≤ a → Ascends (keys es) → Ascends (keys (take b es ++ drop a es))
ascends_cut es zero a order up = ascends_drop a es up
ascends_cut [] (suc b) zero order up = absurd (omega arith)
ascends_cut [] (suc b) (suc a) order up = up
ascends_cut (x ∷ es) (suc b) zero order up = absurd (omega arith)
ascends_cut (x ∷ es) (suc b) (suc a) order up =
    let P = λ (z : Entry). IsBelow x.key z.key in
    let after : All P es = of_keys (λ k. IsBelow x.key k) x es up.0 in
    (to_keys (λ k. IsBelow x.key k) x (take b es ++ drop a es) (All-append P (take b es) (drop a es) (All-take P b es after) (All-drop P a es after)), ascends_cut es b a (omega arith) up.1)

-- another one comes in between
pub ascends_put : (es : List Entry) (e : Entry) (b a : ℕ) → b ≤ a → Ascends (keys es) → All (λ x. IsBelow x.key e.key) (take b es) → All (λ x. IsBelow e.key x.key) (drop a es)
    → Ascends (keys (take b es ++ (e ∷ drop a es)))
ascends_put es e zero a order up lesser greater = (to_keys (λ k. IsBelow e.key k) e (drop a es) greater, ascends_drop a es up)
ascends_put [] e (suc b) zero order up lesser greater = absurd (omega arith)
ascends_put [] e (suc b) (suc a) order up lesser greater = (to_keys (λ k. IsBelow e.key k) e [] greater, up)
ascends_put (x ∷ es) e (suc b) zero order up lesser greater = absurd (omega arith)
ascends_put (x ∷ es) e (suc b) (suc a) order up lesser greater =
    let P = λ (z : Entry). IsBelow x.key z.key in
    let L = λ (z : Entry). IsBelow z.key e.key in
    let after : All P es = of_keys (λ k. IsBelow x.key k) x es up.0 in
    let below_e : IsBelow x.key e.key = All-head L x (take b es) lesser in (
      to_keys (λ k. IsBelow x.key k) x (take b es ++ (e ∷ drop a es))
          (All-append P (take b es) (e ∷ drop a es) (All-take P b es after) (All-cons P e (drop a es) below_e (All-drop P a es after))),
      ascends_put es e b a (omega arith) up.1 (All-tail L x (take b es) lesser) greater,
    )

-- a leaf with other entries
pub with_content : (c : Content) (zs : List Entry) (d : Entry) → IsContent c → c.level ≡ 0 → All (IsEntryOf c.level) zs → Ascends (keys zs) → All (λ x. IsWithin c.low c.high x.key) zs
    → IsContent (with_entries c zs)
with_content c zs d is leaf entries up within = record {
  level = is.level;
  own = is.own;
  right = is.right;
  low = is.low;
  high = is.high;
  mark = is.mark;
  entries = entries;
  ascending = up;
  within = to_keys (IsWithin c.low c.high) d zs within;
  begins = subst (λ l. BeginsAt l c.low (keys zs)) (sym leaf) tt;
}

-- the content after a put
pub put_content : (words : List ℕ) (e : Entry) (c : Content) (b a : ℕ) → CanPut words e c → IsAround c.entries e.key b a → IsContent (with_entries c (take b c.entries ++ (e ∷ drop a c.entries)))
put_content words e c b a can around =
    let es = c.entries in
    let is = can.page.content in
    let E = IsEntryOf c.level in
    let W = λ (x : Entry). IsWithin c.low c.high x.key in
    let fences : All W es = of_keys (IsWithin c.low c.high) e es is.within in
    with_content c (take b es ++ (e ∷ drop a es)) e is can.leaf
    (All-append E (take b es) (e ∷ drop a es) (All-take E b es is.entries) (All-cons E e (drop a es) (subst (λ l. IsEntryOf l e) (sym can.leaf) can.entry) (All-drop E a es is.entries)))
    (ascends_put es e b a around.order is.ascending (around_lesser es e b a around) (around_greater es e b a around))
    (All-append W (take b es) (e ∷ drop a es) (All-take W b es fences) (All-cons W e (drop a es) can.within (All-drop W a es fences)))

-- and without an entry
pub taken_content : (words : List ℕ) (slot : ℕ) (c : Content) (d : Entry) → CanTake words slot c → IsContent (without_entry c slot)
taken_content words slot c d can =
    let es = c.entries in
    let is = can.page.content in
    let E = IsEntryOf c.level in
    let W = λ (x : Entry). IsWithin c.low c.high x.key in
    let fences : All W es = of_keys (IsWithin c.low c.high) d es is.within in
    with_content c (take slot es ++ drop (slot + 1) es) d is can.leaf
    (All-append E (take slot es) (drop (slot + 1) es) (All-take E slot es is.entries) (All-drop E (slot + 1) es is.entries))
    (ascends_cut es slot (slot + 1) (omega arith) is.ascending)
    (All-append W (take slot es) (drop (slot + 1) es) (All-take W slot es fences) (All-drop W (slot + 1) es fences))

-- how many words the parts take
pub put_sizes : (words : List ℕ) (e : Entry) (c : Content) (b a total : ℕ) → CanPut words e c → IsAround c.entries e.key b a → total ≡ b + 1 + (length c.entries - a)
    → entries_from total c + length (all_words (take b c.entries)) + length (entry_words e) + length (all_words (drop a c.entries)) ≤ 256
put_sizes words e c b a total can around is =
    let es = c.entries in
    let fits : used_words (with_entries c (take b es ++ (e ∷ drop a es))) ≤ 256 = subst (λ zs. used_words (with_entries c zs) ≤ 256) (put_is es e b a around) can.fits in
    omega (
      arith,
      fits,
      is,
      around.in_list,
      around.order,
      length-append (take b es) (e ∷ drop a es),
      length-take-le b es (omega (arith, around.in_list, around.order)),
      length-drop a es,
      all_words-split (take b es) (e ∷ drop a es),
      length-append (entry_words e) (all_words (drop a es)),
      length-append (low_words c.level c.low) (fence_words c.high),
    )

pub taken_sizes : (words : List ℕ) (slot : ℕ) (c : Content) (total : ℕ) → CanTake words slot c → total ≡ length c.entries - 1
    → entries_from total c + length (all_words (take slot c.entries)) + length (all_words (drop (slot + 1) c.entries)) ≤ 256
taken_sizes words slot c total can is =
    let es = c.entries in
    let fits : used_words c ≤ 256 = can.page.fits in
    let there = can.there in
    let whole : length (all_words es) ≡ length (all_words (take slot es)) + length (all_words (drop slot es)) =
    ap (λ zs. length (all_words zs)) (sym (take-append-drop slot es)) ∙ all_words-split (take slot es) (drop slot es) in
    let rest : length (all_words (drop slot es)) ≡ length (all_words (take 1 (drop slot es))) + length (all_words (drop (slot + 1) es)) =
    ap (λ zs. length (all_words zs)) (sym (take-append-drop 1 (drop slot es)) ∙ ap (λ zs. take 1 (drop slot es) ++ zs) (drop-drop 1 slot es)) ∙ all_words-split (take 1 (drop slot es)) (drop (slot + 1) es) in
    omega (arith, fits, is, there, whole, rest, length-append (low_words c.level c.low) (fence_words c.high))

-- The steps of a put.
pub can_begin_put : (words : List ℕ) (e : Entry) (c : Content) (b a n total : ℕ) → CanPut words e c → IsAround c.entries e.key b a → n ≡ length c.entries → total ≡ b + 1 + (n - a) → CanBegin words b total c
can_begin_put words e c b a n total can around all is = record {
  page = can.page;
  in_list = omega (arith, around.order, around.in_list);
  count = omega (arith, is);
  room = omega (arith, put_sizes words e c b a total can around (omega (arith, is, all)));
}

pub has_room_put : (words : List ℕ) (e : Entry) (c : Content) (b a n : ℕ) (draft : Draft) (out : List ℕ) → CanPut words e c → IsAround c.entries e.key b a → n ≡ length c.entries
    → draft.total ≡ b + 1 + (n - a) → IsDraft draft out (with_entries c (take b c.entries)) → HasRoom draft out e
has_room_put words e c b a n draft out can around all is drafted = (
  with_entries c (take b c.entries),
  drafted,
  omega (arith, is, drafted.count, length-take-le b c.entries (omega (arith, around.order, around.in_list))),
  omega (arith, drafted.used, drafted.first, put_sizes words e c b a draft.total can around (omega (arith, is, all))),
)

pub can_end_put : (words : List ℕ) (e : Entry) (c : Content) (b a n : ℕ) (draft : Draft) (out : List ℕ) → CanPut words e c → IsAround c.entries e.key b a → n ≡ length c.entries
    → draft.total ≡ b + 1 + (n - a) → IsDraft draft out (with_entries c (take b c.entries ++ (e ∷ []))) → CanEnd words a draft out c (take b c.entries ++ (e ∷ []))
can_end_put words e c b a n draft out can around all is drafted =
    let es = c.entries in
    let size : length (take b es) ≡ b = length-take-le b es (omega (arith, around.order, around.in_list)) in
    let long : length (take b es ++ (e ∷ [])) ≡ b + 1 = omega (arith, size, length-append (take b es) (e ∷ [])) in
    let mine : length (all_words (take b es ++ (e ∷ []))) ≡ length (all_words (take b es)) + length (entry_words e) =
    all_words-split (take b es) (e ∷ []) ∙ ap (λ ws. length (all_words (take b es)) + length ws) (append-nil (entry_words e)) in
    record {
      drafted = drafted;
      page = can.page;
      in_list = around.in_list;
      count = omega (arith, drafted.count, long, is, all);
      room = omega (arith, drafted.used, drafted.first, mine, put_sizes words e c b a draft.total can around (omega (arith, is, all)));
      content = subst (λ zs. IsContent (with_entries c zs)) (sym (append_assoc (take b es) (e ∷ []) (drop a es))) (put_content words e c b a can around);
    }

-- The steps of taking an entry out.
pub can_begin_without : (words : List ℕ) (slot n : ℕ) (c : Content) → CanTake words slot c → n ≡ length c.entries → CanBegin words slot (n - 1) c
can_begin_without words slot n c can all =
    let there = can.there in
    record {
      page = can.page;
      in_list = omega (arith, there);
      count = omega (arith, there, all);
      room = omega (arith, taken_sizes words slot c (n - 1) can (omega (arith, all)));
    }

pub can_end_without : (words : List ℕ) (slot n : ℕ) (draft : Draft) (out : List ℕ) (c : Content) → CanTake words slot c → n ≡ length c.entries
    → draft.total ≡ n - 1 → IsDraft draft out (with_entries c (take slot c.entries)) → CanEnd words (slot + 1) draft out c (take slot c.entries)
can_end_without words slot n draft out c can all is drafted =
    let there = can.there in
    record {
      drafted = drafted;
      page = can.page;
      in_list = omega (arith, there);
      count = omega (arith, drafted.count, there, all, is, length-take-le slot c.entries (omega (arith, there)));
      room = omega (arith, drafted.used, drafted.first, taken_sizes words slot c draft.total can (omega (arith, is, all)));
      content = taken_content words slot c (entry_there c.entries slot there).0 can;
    }
