-- The reply to a query, by what the look-up found.
use Rattle.std.proofs.Common.{◌≡◌, ◌∙◌, ap, sym, ℕ, ℤ, List, [], ◌∷◌, length, map, Option, Some}
use Rattle.std.specs.Prelude.{option_to_list}
use Rattle.std.specs.Ordering.{int_cmp}
use Rattle.std.specs.List.Sorted.{IsStrictlySortedBy}
use Rattle.std.specs.Map.{keys_of}
use Rattle.std.proofs.lemmas.List.{length-map}
use Rattle.std.proofs.lemmas.Simd.{map-map}
use Rattle.hc_value.specs.declared.value.Value.TheVariants.{Int}
use Rattle.hc_transcript.specs.declared.reply.Row.{Row}
use Rattle.hc_transcript.specs.declared.reply.Line.TheVariants.{Ok}
use Rattle.hc_transcript.specs.declared.reply.Ending.TheVariants.{Snapshot}
use Rattle.hc_transcript.specs.declared.reply.Reply.{Reply}
use Rattle.hc_meaning.specs.declared.statement.Statement.TheVariants.{Select}
use Rattle.hc_meaning.specs.Database.{Db, value_at, rows_at}
use Rattle.hc_meaning.specs.Run.{selected}
use Rattle.hc_meaning.specs.Played.{reply_to}
use Rattle.hc_top.proofs.Table.{rows_at-is}

-- the row of a value
abbrev pub row_of : ℤ → Row
row_of v = record { values = Int v ∷ [] }

-- the reply to a query that found these rows, so many commits before it
abbrev replied : ℕ → List Row → ℕ → Reply
replied commits rows count = record { rows = rows; last = Ok count; ending = Some (Snapshot commits) }

-- the reply with what the look-up found is the reply to the query
pub select_reply : (commits : ℕ) (rows : Db) (id : ℤ) (found : List Row) (count : ℕ) (value : Option ℤ) → IsStrictlySortedBy int_cmp (keys_of rows) → value ≡ value_at rows id → found ≡ map row_of (option_to_list value) → count ≡ length found
    → replied commits found count ≡ reply_to commits rows (Select id)
select_reply commits rows id found count value sorted is found_is counts =
    let same : found ≡ (selected (rows_at rows id)).rows =
    found_is ∙ ap (λ (o : Option ℤ). map row_of (option_to_list o)) is ∙ ap (λ (l : List ℤ). map row_of l) (sym (rows_at-is rows id sorted)) ∙ map-map row_of (λ (row : ℤ × ℤ). row.1) (rows_at rows id) in
    let many : count ≡ length (rows_at rows id) = counts ∙ ap (λ (l : List Row). length l) same ∙ length-map (rows_at rows id) (λ row. record { values = Int row.1 ∷ [] }) in
    ap (λ (l : List Row). replied commits l count) same ∙ ap (λ n. replied commits (selected (rows_at rows id)).rows n) many
