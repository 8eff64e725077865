-- The next entry after those that are copied.
use Rattle.std.proofs.Common.{◌≡◌, ℕ, zero, suc, ◌+◌, ◌<◌, ◌≤◌, List, [], ◌∷◌, ◌++◌, length, take, drop, refl, sym, ap, subst, ◌∙◌, arith, Some, length-append, append-nil}
use Rattle.std.specs.List.{All, slice_get}
use Rattle.std.specs.Option.{option_copied}
use Rattle.std.proofs.lemmas.List.{map-append, length-map, take-append-drop, take_all}
use Rattle.std.proofs.lemmas.List.Elements.{All-append, All-cons, All-head, All-tail, All-get_or, All-from_get_or}
use Rattle.std.proofs.lemmas.Option.{get_or_from_slice_get}
use Rattle.hc_range.specs.Order.{IsBelow}
use Rattle.hc_range.proofs.ByteOrder.{below_trans}
use Rattle.hc_base.specs.Content.{Content, Entry, Ascends, BeginsAt, IsContent, IsEntryOf, IsWithin, keys}
use Rattle.hc_base.specs.Layout.{IsPage, all_words, entry_words, low_words, fence_words}
use Rattle.hc_page.specs.declared.validity.Copied.{Copied}
use Rattle.hc_page.specs.declared.writer.Draft.{Draft}
use Rattle.hc_page.specs.declared.writer.Head.{Head}
use Rattle.hc_page.specs.Drafts.{IsDraft, IsWhole, with_last, fences, started}
use Rattle.hc_page.specs.Reading.{level_in, count_in}
use Rattle.hc_page.specs.Puts.{with_entries}
use Rattle.hc_page.specs.Told.{last_key, BeginsSoFar, IsNext, IsSoFar, IsCopied, HasWhole, MayFollow}
use Rattle.hc_page.proofs.Entries.{all_words-split, count_is, entry_there, key_at, slice_get_inside}
use Rattle.hc_page.proofs.Ranges.{take_one}

-- no list is all of it
none_of : {A : Type 0} (P : A → Type 0) (d : A) → All P []
none_of P d = All-from_get_or P [] d (λ i within. absurd (omega arith))

one_of : {A : Type 0} (P : A → Type 0) (x : A) → P x → All P (x ∷ [])
one_of P x is = All-cons P x [] is (none_of P x)

keys_more : (es : List Entry) (e : Entry) → keys (es ++ (e ∷ [])) ≡ keys es ++ (e.key ∷ [])
keys_more es e = map-append (λ entry. entry.key) es (e ∷ [])

-- a key that is above the last one is above all
all_before : (level : ℕ) (low key : List ℕ) (es : List Entry) → Ascends (keys es) → IsNext level low (last_key es) key → All (λ other. IsBelow other key) (keys es)
all_before level low key [] up next = none_of (λ other. IsBelow other key) key
all_before level low key (e ∷ []) up next = one_of (λ other. IsBelow other key) e.key next
all_before level low key (e ∷ f ∷ es) up next =
    let rest = all_before level low key (f ∷ es) up.1 next in
    All-cons (λ other. IsBelow other key) e.key (keys (f ∷ es))
    (below_trans e.key f.key key (All-head (λ other. IsBelow e.key other) f.key (keys es) up.0) (All-head (λ other. IsBelow other key) f.key (keys es) rest)) rest

-- keys with a greater one at their end
ascends_more : (ks : List (List ℕ)) (key : List ℕ) → Ascends ks → All (λ other. IsBelow other key) ks → Ascends (ks ++ (key ∷ []))
ascends_more [] key up below = (none_of (λ other. IsBelow key other) key, tt)
ascends_more (k ∷ ks) key up below = (
  All-append (λ other. IsBelow k other) ks (key ∷ []) up.0 (one_of (λ other. IsBelow k other) key (All-head (λ other. IsBelow other key) k ks below)),
  ascends_more ks key up.1 (All-tail (λ other. IsBelow other key) k ks below),
)

begins_more : (level : ℕ) (low key : List ℕ) (es : List Entry) → BeginsSoFar level low (keys es) → IsNext level low (last_key es) key → BeginsSoFar level low (keys es ++ (key ∷ []))
begins_more zero low key es begins next = tt
begins_more (suc level) low key [] begins next = next
begins_more (suc level) low key (e ∷ es) begins next = begins

-- the content with one entry more
pub more_so_far : (c : Content) (e : Entry) → IsSoFar c → IsEntryOf c.level e → MayFollow c (last_key c.entries) e.key → IsSoFar (with_last c (e ∷ []))
more_so_far c e so_far of may = record {
  head = record { level = so_far.head.level; own = so_far.head.own; right = so_far.head.right; low = so_far.head.low; high = so_far.head.high };
  mark = so_far.mark;
  entries = All-append (IsEntryOf c.level) c.entries (e ∷ []) so_far.entries (one_of (IsEntryOf c.level) e of);
  ascending = subst (λ ks. Ascends ks) (sym (keys_more c.entries e)) (ascends_more (keys c.entries) e.key so_far.ascending (all_before c.level c.low e.key c.entries so_far.ascending may.next));
  within = subst (λ ks. All (IsWithin c.low c.high) ks) (sym (keys_more c.entries e)) (All-append (IsWithin c.low c.high) (keys c.entries) (e.key ∷ []) so_far.within (one_of (IsWithin c.low c.high) e.key may.within));
  begins = subst (λ ks. BeginsSoFar c.level c.low ks) (sym (keys_more c.entries e)) (begins_more c.level c.low e.key c.entries so_far.begins may.next);
}

pub last_more : (es : List Entry) (e : Entry) → last_key (es ++ (e ∷ [])) ≡ Some e.key
last_more [] e = refl
last_more (x ∷ []) e = refl
last_more (x ∷ y ∷ es) e = last_more (y ∷ es) e

-- the whole of it
pub whole_content : (c : Content) → IsSoFar c → (0 < c.level → 0 < length c.entries) → IsContent c
whole_content c so_far some = record {
  level = so_far.head.level;
  own = so_far.head.own;
  right = so_far.head.right;
  low = so_far.head.low;
  high = so_far.head.high;
  mark = so_far.mark;
  entries = so_far.entries;
  ascending = so_far.ascending;
  within = so_far.within;
  begins = begins c.level c.entries so_far.begins some;
}
  where
    begins : (level : ℕ) (es : List Entry) → BeginsSoFar level c.low (keys es) → (0 < level → 0 < length es) → BeginsAt level c.low (keys es)
    begins zero es so_far some = tt
    begins (suc level) [] so_far some = absurd (let no : 0 < 0 = some (omega arith) in omega (arith, no))
    begins (suc level) (e ∷ es) so_far some = so_far

-- the next key of a page comes after the last one before it
after_last : (level : ℕ) (low : List ℕ) (x : Entry) (ys : List Entry) (j : ℕ) (e : Entry) → Ascends (keys (x ∷ ys)) → slice_get ys j ≡ Some e → IsNext level low (last_key (x ∷ take j ys)) e.key
after_last level low x [] j e up there = absurd (let no : j < 0 = slice_get_inside [] j e there in omega (arith, no))
after_last level low x (y ∷ ys) zero e up there =
    subst (λ z. IsBelow x.key z.key) (get_or_from_slice_get (y ∷ ys) 0 e e there) (All-head (λ other. IsBelow x.key other) y.key (keys ys) up.0)
after_last level low x (y ∷ ys) (suc j) e up there = after_last level low y ys j e up.1 there

next_is : (level : ℕ) (low : List ℕ) (es : List Entry) (i : ℕ) (e : Entry) → Ascends (keys es) → BeginsAt level low (keys es) → slice_get es i ≡ Some e → IsNext level low (last_key (take i es)) e.key
next_is level low [] i e up begins there = absurd (let no : i < 0 = slice_get_inside [] i e there in omega (arith, no))
next_is zero low (x ∷ es) zero e up begins there = tt
next_is (suc level) low (x ∷ es) zero e up begins there = subst (λ z. low ≡ z.key) (get_or_from_slice_get (x ∷ es) 0 e e there) begins
next_is level low (x ∷ es) (suc i) e up begins there = after_last level low x es i e up there

pub may_follow_on : (words : List ℕ) (d : Content) (i : ℕ) (e : Entry) → IsPage words d → slice_get d.entries i ≡ Some e → MayFollow (with_entries d (take i d.entries)) (last_key (take i d.entries)) e.key
may_follow_on words d i e page there = record {
  within = subst (IsWithin d.low d.high) (key_at d.entries i e there)
      (All-get_or (IsWithin d.low d.high) (keys d.entries) i [] (omega (arith, length-map d.entries (λ entry. entry.key), slice_get_inside d.entries i e there)) page.content.within);
  next = next_is d.level d.low d.entries i e page.content.ascending page.content.begins there;
}

-- and its entry is the next one
pub taken_more : (es : List Entry) (i : ℕ) (e : Entry) → slice_get es i ≡ Some e → take (i + 1) es ≡ take i es ++ (e ∷ [])
taken_more es i e there = take_one es i e (slice_get_inside es i e there) (get_or_from_slice_get es i e e there)

-- it has room
pub room_on : (words out : List ℕ) (draft : Draft) (c d : Content) (i : ℕ) (e : Entry) → IsPage words d → slice_get d.entries i ≡ Some e → IsDraft draft out c → draft.total ≡ length d.entries
    → c ≡ with_entries d (take i d.entries) → draft.used + length (entry_words e) ≤ 256
room_on words out draft c d i e page there drafted total same =
    let es = d.entries in
    let whole : length (all_words es) ≡ length (all_words (take (i + 1) es)) + length (all_words (drop (i + 1) es)) =
    ap (λ zs. length (all_words zs)) (sym (take-append-drop (i + 1) es)) ∙ all_words-split (take (i + 1) es) (drop (i + 1) es) in
    let next : length (all_words (take (i + 1) es)) ≡ length (all_words (take i es)) + length (entry_words e) =
    ap (λ zs. length (all_words zs)) (taken_more es i e there) ∙ (all_words-split (take i es) (e ∷ []) ∙ ap (λ ws. length (all_words (take i es)) + length ws) (append-nil (entry_words e))) in
    let fence : length (fences c) ≡ length (fences d) = ap (λ x. length (fences x)) same in
    let mine : length (all_words c.entries) ≡ length (all_words (take i es)) = ap (λ x. length (all_words x.entries)) same in
    omega (arith, whole, next, fence, mine, drafted.used, drafted.first, total, page.fits, length-append (low_words d.level d.low) (fence_words d.high))

module _ (words out : List ℕ) (head : Head) (copied : Copied) (c : Content) (is : IsCopied words head copied out c) where
  -- a page has the next entry
  pub next_there : (d : Content) → IsPage words d → copied.draft.count < copied.draft.total → (e : Entry) × (slice_get d.entries copied.draft.count ≡ Some e)
  next_there d page more = entry_there d.entries copied.draft.count (omega (arith, more, is.total, count_is words d page))

  -- it has room, and comes after the last one
  pub next_fits : (d : Content) (e : Entry) → IsPage words d → slice_get d.entries copied.draft.count ≡ Some e → copied.draft.used + length (entry_words e) ≤ 256
  next_fits d e page there = room_on words out copied.draft c d copied.draft.count e page there is.drafted (is.total ∙ count_is words d page) (is.same d page)

  pub next_follows : (d : Content) (e : Entry) → IsPage words d → slice_get d.entries copied.draft.count ≡ Some e → MayFollow (started head) (option_copied copied.last) e.key
  next_follows d e page there =
      let may : MayFollow (with_entries d (take copied.draft.count d.entries)) (last_key (take copied.draft.count d.entries)) e.key = may_follow_on words d copied.draft.count e page there in
      let mine : MayFollow c (last_key c.entries) e.key = subst (λ x. MayFollow x (last_key x.entries) e.key) (sym (is.same d page)) may in
      subst (λ x. MayFollow x (option_copied copied.last) e.key) is.started
      (record { within = mine.within; next = subst (λ last. IsNext c.level c.low last e.key) (sym is.last) mine.next })

  -- it is one more
  pub next_count : (after : Copied) (new : List ℕ) (e : Entry) → IsDraft after.draft new (with_last c (e ∷ [])) → after.draft.count ≡ copied.draft.count + 1
  next_count after new e drafted = omega (arith, drafted.count, is.drafted.count, length-append c.entries (e ∷ []))

  -- the entries with one more are copied
  pub next_copied : (e : Entry) (after : Copied) (new : List ℕ) → IsEntryOf (level_in words) e → MayFollow (started head) (option_copied copied.last) e.key
      → IsDraft after.draft new (with_last c (e ∷ [])) → after.draft.total ≡ copied.draft.total → option_copied after.last ≡ Some e.key
      → ((d : Content) → IsPage words d → slice_get d.entries copied.draft.count ≡ Some e) → IsCopied words head after new (with_last c (e ∷ []))
  next_copied e after new of may drafted total last there =
      let mine : MayFollow (with_entries c []) (option_copied copied.last) e.key = subst (λ x. MayFollow x (option_copied copied.last) e.key) (sym is.started) may in
      let next : after.draft.count ≡ copied.draft.count + 1 = next_count after new e drafted in
      record {
        drafted = drafted;
        started = is.started;
        so_far = more_so_far c e is.so_far (subst (λ l. IsEntryOf l e) (sym is.level) of) (record { within = mine.within; next = subst (λ l. IsNext c.level c.low l e.key) is.last mine.next });
        last = last ∙ sym (last_more c.entries e);
        total = total ∙ is.total;
        level = is.level;
        same = λ d page.
            ap (λ x. with_last x (e ∷ [])) (is.same d page)
            ∙ ap (λ es. with_entries d es) (sym (taken_more d.entries copied.draft.count e (there d page)) ∙ ap (λ n. take n d.entries) (sym next));
      }

  -- with the last entry all is there
  pub all_copied : copied.draft.count ≡ copied.draft.total → (0 < (started head).level → 0 < copied.draft.total) → IsWhole copied.draft out c
  all_copied all enough = (
    is.drafted,
    all,
    whole_content c is.so_far (λ inner. omega (arith, is.drafted.count, all, enough (subst (λ x. 0 < x.level) is.started inner))),
  )

  pub all_same : (d : Content) → IsPage words d → copied.draft.count ≡ copied.draft.total → c ≡ d
  all_same d page all =
      is.same d page ∙ ap (λ es. with_entries d es) (take_all copied.draft.count d.entries (omega (arith, all, is.total, count_is words d page)))

-- so what is written is a page, and the same as the words where these are one
module _ (words : List ℕ) (head : Head) (draft : Draft) (out : List ℕ) (has : HasWhole words head draft out) (total : ℕ) (total_is : total ≡ count_in words) (enough : 0 < head.level → 0 < total) where
  its_whole : IsWhole has.0.draft out has.1.0
  its_whole =
      let whole : has.0.draft.count ≡ has.0.draft.total = ap (λ x. x.count) has.2 ∙ (has.3 ∙ sym (ap (λ x. x.total) has.2)) in
      all_copied words out head has.0 has.1.0 has.1.1 whole (λ inner. omega (arith, enough inner, total_is, has.1.1.total))

  pub whole_is : (c : Content) × IsWhole draft out c
  whole_is = (has.1.0, subst (λ x. IsWhole x out has.1.0) has.2 its_whole)

  pub same_is : (d : Content) → IsPage words d → IsWhole draft out d
  same_is d page =
      let whole : has.0.draft.count ≡ has.0.draft.total = ap (λ x. x.count) has.2 ∙ (has.3 ∙ sym (ap (λ x. x.total) has.2)) in
      subst (λ x. IsWhole draft out x) (all_same words out head has.0 has.1.0 has.1.1 d page whole) (subst (λ x. IsWhole x out has.1.0) has.2 its_whole)
