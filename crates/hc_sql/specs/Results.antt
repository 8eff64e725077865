-- A query's results: groups, HAVING, items and order keys of each row, DISTINCT, a stable order, OFFSET and LIMIT. Nothing is read
-- for it, and an overflow anywhere in it refuses the query.
use Rattle.std.specs.Prelude.{Bool, true, false, ℕ, List, [], ◌∷◌, length, map, Option, Some, None, if◌then◌else◌}
use Rattle.std.specs.Option.{option_map, option_and_then}
use Rattle.hc_value.specs.declared.value.Value.{Value}
use Rattle.hc_ast.specs.declared.bound.Bound.{Bound}
use Rattle.hc_transcript.specs.declared.reply.Line.{Line}
use Rattle.hc_transcript.specs.declared.reply.Line.TheVariants as line
use Rattle.hc_transcript.specs.declared.refusal.Refusal.TheVariants.{Overflow}
use Rattle.hc_schema.specs.Binding.Queries.{Query}
use Rattle.hc_expr.specs.Values.{values_of}
use Rattle.hc_sql.specs.Work.{Work, give, next, need}
use Rattle.hc_sql.specs.Select.{meets, candidates}
use Rattle.hc_sql.specs.Grouping.{group_rows, all_some}
use Rattle.hc_sql.specs.Sorting.{Result, sorted, distinct_of, cut}

-- what a statement answers: the rows of a query, and its last line
pub record Reply : Type 0 where
  pub rows : List (List Value)
  pub last : Line

-- a reply without rows
abbrev pub done : ℕ → Reply
done count = record { rows = []; last = line.Ok count }

-- the rows whose results are asked for: those of groups where there are any
abbrev pub result_rows : Query → List (List Value) → Option (List (List Value))
result_rows q rows = if q.grouped then group_rows q.groups q.aggregates rows else Some rows

-- HAVING keeps a row
abbrev pub is_kept : Option Bound → List Value → Option Bool
is_kept None row = Some true
is_kept (Some e) row = meets (e ∷ []) row

abbrev pub with_kept : List Value → List (List Value) → Bool → List (List Value)
with_kept row rest true = row ∷ rest
with_kept row rest false = rest

-- the rows that HAVING keeps
abbrev pub kept_rows : Option Bound → List (List Value) → Option (List (List Value))
kept_rows having [] = Some []
kept_rows having (row ∷ rows) = option_and_then (λ keeps. option_map (λ rest. with_kept row rest keeps) (kept_rows having rows)) (is_kept having row)

-- the items and the order keys of a row
abbrev pub result_of : Query → List Value → Option Result
result_of q row =
    option_and_then (λ shown. option_map (λ keys. record { shown = shown; keys = keys }) (values_of row (map (λ key. key.value) q.order))) (values_of row q.items)

-- the results in the order of rows
abbrev pub all_results : Query → List (List Value) → Option (List Result)
all_results q rows =
    option_and_then (λ found. option_and_then (λ kept. all_some (map (result_of q) kept)) (kept_rows q.having found)) (result_rows q rows)

-- what is left of the results, in their order
abbrev pub ordered : Query → List Result → List Result
ordered q results = cut q.offset q.limit (sorted (map (λ key. key.desc) q.order) (distinct_of q.distinct results))

abbrev pub reply_of : List Result → Reply
reply_of results = record { rows = map (λ r. r.shown) results; last = line.Ok (length results) }

-- a query
abbrev pub run_query : Query → Work Reply
run_query q =
    next (candidates q.tables q.conjuncts) (λ rows.
    next (need Overflow (all_results q rows)) (λ results.
    give (reply_of (ordered q results))))
