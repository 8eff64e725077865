-- Writing: a page is written from its head on, entry after entry.
use Rattle.std.proofs.Common.{◌≡◌, sym, ap, subst, ◌∙◌, ℕ, ◌+◌, ◌-◌, ◌<◌, ◌≤◌, List, [], ◌∷◌, ◌++◌, length, take, drop, get_or, Option, Some, None, arith, length-append, length-drop, length-take-le, append-nil}
use Rattle.std.specs.List.{slice_get}
use Rattle.std.specs.Option.{option_copied}
use Rattle.std.proofs.lemmas.List.{get_or-take, get_or-drop, take-append-drop, take_all}
use Rattle.std.proofs.lemmas.Option.{get_or_from_slice_get}
use Rattle.hc_base.specs.Content.{Content, Entry, IsFence, OfSome}
use Rattle.hc_base.specs.Layout.{all_words, entry_words, fence_words, low_words, record_bytes}
use Rattle.hc_page.specs.declared.writer.Draft.{Draft}
use Rattle.hc_page.specs.declared.writer.Head.{Head}
use Rattle.hc_page.specs.Drafts.{IsDraft, IsWhole, entries_from, started, with_last}
use Rattle.hc_page.specs.Puts.{with_entries}
use Rattle.hc_page.proofs.Entries.{all_words-split}
use Rattle.hc_page.proofs.Ranges.{range, take_one}
use Rattle.hc_split.specs.declared.joined.Joined.{Joined}
use Rattle.hc_split.specs.Joined.{CanPush, CanWrite, joined_entries, part_of}

pub high_short : (high : Option (List ℕ)) → OfSome IsFence high → length (record_bytes high) ≤ 463
high_short None fence = omega arith
high_short (Some high) fence = fence.0

module _ (joined : Joined) (head : Head) (from to : ℕ) (c : Content) (can : CanWrite joined head from to c) where
  long : length (range (joined_entries joined c) from to) ≡ to - from
  long = length-take-le (to - from) (drop from (joined_entries joined c)) (omega (arith, length-drop from (joined_entries joined c), can.in_list, can.order))

  pub can_begin : (entries_from (to - from) (started head) ≤ 256) × (length head.low.now ≤ 463) × (length (record_bytes (option_copied head.high)) ≤ 463)
  can_begin = (
    omega (arith, can.fits, long, length-append (low_words (started head).level (started head).low) (fence_words (started head).high)),
    can.content.low.0,
    high_short (option_copied head.high) can.content.high,
  )

  read : (slot : ℕ) (e : Entry) → from ≤ slot → slot < to → slice_get (joined_entries joined c) slot ≡ Some e → get_or (range (joined_entries joined c) from to) (slot - from) e ≡ e
  read slot e after before there =
      get_or-take (to - from) (drop from (joined_entries joined c)) (slot - from) e (omega (arith, after, before))
      ∙ (get_or-drop from (joined_entries joined c) (slot - from) e
      ∙ (ap (λ n. get_or (joined_entries joined c) n e) (let z : from + (slot - from) ≡ slot = omega (arith, after) in z)
      ∙ get_or_from_slice_get (joined_entries joined c) slot e e there))

  next_taken : (slot : ℕ) (e : Entry) → from ≤ slot → slot < to → slice_get (joined_entries joined c) slot ≡ Some e
      → take (slot + 1 - from) (range (joined_entries joined c) from to) ≡ take (slot - from) (range (joined_entries joined c) from to) ++ (e ∷ [])
  next_taken slot e after before there =
      ap (λ n. take n (range (joined_entries joined c) from to)) (let z : slot + 1 - from ≡ slot - from + 1 = omega (arith, after) in z)
      ∙ take_one (range (joined_entries joined c) from to) (slot - from) e (omega (arith, long, after, before)) (read slot e after before there)

-- The steps.
pub can_push : (joined : Joined) (head : Head) (from to slot : ℕ) (c : Content) (e : Entry) (draft : Draft) (out : List ℕ) → CanWrite joined head from to c
    → from ≤ slot → slot < to → draft.total ≡ to - from → slice_get (joined_entries joined c) slot ≡ Some e
    → IsDraft draft out (with_entries (started head) (take (slot - from) (range (joined_entries joined c) from to))) → CanPush joined slot draft out c e
can_push joined head from to slot c e draft out can after before total there is =
    let r = range (joined_entries joined c) from to in
    let taken = take (slot - from) r in
    let size : length taken ≡ slot - from = length-take-le (slot - from) r (omega (arith, long joined head from to c can, after, before)) in
    let next : length (all_words (take (slot + 1 - from) r)) ≡ length (all_words taken) + length (entry_words e) =
    ap (λ es. length (all_words es)) (next_taken joined head from to c can slot e after before there)
    ∙ (all_words-split taken (e ∷ []) ∙ ap (λ ws. length (all_words taken) + length ws) (append-nil (entry_words e))) in
    let all : length (all_words r) ≡ length (all_words (take (slot + 1 - from) r)) + length (all_words (drop (slot + 1 - from) r)) =
    ap (λ es. length (all_words es)) (sym (take-append-drop (slot + 1 - from) r)) ∙ all_words-split (take (slot + 1 - from) r) (drop (slot + 1 - from) r) in
    let from_there = ap (λ n. entries_from n (started head)) total in
    record {
      joined_is = can.joined_is;
      there = there;
      room = (
        with_entries (started head) taken,
        is,
        omega (arith, is.count, size, total, after, before),
        omega (arith, is.used, is.first, from_there, next, all, can.fits, long joined head from to c can, length-append (low_words (started head).level (started head).low) (fence_words (started head).high)),
      );
    }

pub none_written : (joined : Joined) (head : Head) (from to : ℕ) (c : Content) (draft : Draft) (out : List ℕ) (n : ℕ) → n ≡ 0 → IsDraft draft out (started head)
    → IsDraft draft out (with_entries (started head) (take n (range (joined_entries joined c) from to)))
none_written joined head from to c draft out n none is = subst (λ m. IsDraft draft out (with_entries (started head) (take m (range (joined_entries joined c) from to)))) (sym none) is

pub one_more : (joined : Joined) (head : Head) (from to slot : ℕ) (c : Content) (e : Entry) (draft : Draft) (out : List ℕ) → CanWrite joined head from to c
    → from ≤ slot → slot < to → slice_get (joined_entries joined c) slot ≡ Some e
    → IsDraft draft out (with_last (with_entries (started head) (take (slot - from) (range (joined_entries joined c) from to))) (e ∷ []))
    → IsDraft draft out (with_entries (started head) (take (slot + 1 - from) (range (joined_entries joined c) from to)))
one_more joined head from to slot c e draft out can after before there is =
    subst (λ es. IsDraft draft out (with_entries (started head) es)) (sym (next_taken joined head from to c can slot e after before there)) is

pub whole : (joined : Joined) (head : Head) (from to slot : ℕ) (c : Content) (draft : Draft) (out : List ℕ) → CanWrite joined head from to c → to ≤ slot
    → draft.total ≡ to - from → IsDraft draft out (with_entries (started head) (take (slot - from) (range (joined_entries joined c) from to))) → IsWhole draft out (part_of joined head from to c)
whole joined head from to slot c draft out can all total is =
    let r = range (joined_entries joined c) from to in
    let size = long joined head from to c can in
    let drafted : IsDraft draft out (part_of joined head from to c) =
    subst (λ es. IsDraft draft out (with_entries (started head) es)) (take_all (slot - from) r (omega (arith, size, all))) is in
    (drafted, omega (arith, drafted.count, size, total), can.content)
