-- Pair: an inner page of two children.
use Rattle.std.proofs.Common.{◌≡◌, ap, ℕ, zero, suc, ◌<◌, ◌≤◌, List, [], ◌∷◌, ◌++◌, length, arith, length-append}
use Rattle.std.specs.Option.{option_copied}
use Rattle.std.proofs.lemmas.List.Elements.{All-head, All-tail}
use Rattle.hc_base.specs.declared.numbers.Logical.{Logical}
use Rattle.hc_base.specs.Content.{Entry, IsContent, IsEntryOf}
use Rattle.hc_base.specs.Layout.{fence_words, low_words, record_bytes, words_of}
use Rattle.hc_base.proofs.Places.{words_of-length}
use Rattle.hc_page.specs.declared.writer.Draft.{Draft}
use Rattle.hc_page.specs.declared.writer.Head.{Head}
use Rattle.hc_page.specs.Drafts.{IsDraft, IsWhole, HasRoom, child_of, entries_from, started, with_last}
use Rattle.hc_page.specs.Puts.{with_entries}
use Rattle.hc_split.proofs.Parting.{high_small, low_small}
use Rattle.hc_split.proofs.Writing.{high_short}

inner_entry : (level : ℕ) (e : Entry) → 0 < level → IsEntryOf level e → IsEntryOf 1 e
inner_entry zero e some of = absurd (omega (arith, some))
inner_entry (suc level) e some of = of

module _ (head : Head) (first second : Logical) (key : List ℕ) (inner : 0 < head.level)
    (is : IsContent (with_entries (started head) (child_of head.low.now first ∷ child_of key second ∷ []))) where
  fences_small : length (low_words (started head).level (started head).low ++ fence_words (started head).high) ≤ 116
  fences_small =
      omega (arith, low_small (started head).level (started head).low is.low.0, high_small (started head).high is.high, length-append (low_words (started head).level (started head).low) (fence_words (started head).high))

  pub room : (entries_from 2 (started head) ≤ 256) × (length head.low.now ≤ 463) × (length (record_bytes (option_copied head.high)) ≤ 463)
  room = (omega (arith, fences_small), is.low.0, high_short (option_copied head.high) is.high)

  pub entry_1 : IsEntryOf 1 (child_of head.low.now first)
  entry_1 = inner_entry head.level (child_of head.low.now first) inner (All-head (IsEntryOf head.level) (child_of head.low.now first) (child_of key second ∷ []) is.entries)

  pub entry_2 : IsEntryOf 1 (child_of key second)
  entry_2 =
      inner_entry head.level (child_of key second) inner
      (All-head (IsEntryOf head.level) (child_of key second) [] (All-tail (IsEntryOf head.level) (child_of head.low.now first) (child_of key second ∷ []) is.entries))

  pub room_1 : (draft : Draft) (words : List ℕ) → draft.total ≡ 2 → IsDraft draft words (started head) → HasRoom draft words (child_of head.low.now first)
  room_1 draft words total drafted = (
    started head,
    drafted,
    omega (arith, drafted.count, total),
    omega (arith, drafted.used, drafted.first, ap (λ n. entries_from n (started head)) total, fences_small, words_of-length head.low.now, is.low.0),
  )

  pub room_2 : (draft : Draft) (words : List ℕ) → draft.total ≡ 2 → IsDraft draft words (with_last (started head) (child_of head.low.now first ∷ [])) → HasRoom draft words (child_of key second)
  room_2 draft words total drafted = (
    with_last (started head) (child_of head.low.now first ∷ []),
    drafted,
    omega (arith, drafted.count, total),
    omega (
      arith,
      drafted.used,
      drafted.first,
      ap (λ n. entries_from n (started head)) total,
      fences_small,
      words_of-length head.low.now,
      words_of-length key,
      is.low.0,
      entry_2.1.0,
      length-append (words_of head.low.now) [],
    ),
  )

  pub whole : (draft : Draft) (words : List ℕ) → draft.total ≡ 2
      → IsDraft draft words (with_last (with_last (started head) (child_of head.low.now first ∷ [])) (child_of key second ∷ []))
      → IsWhole draft words (with_entries (started head) (child_of head.low.now first ∷ child_of key second ∷ []))
  whole draft words total drafted = (drafted, omega (arith, drafted.count, total), is)
