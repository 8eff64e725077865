-- The tables of a bound statement are among those that it was bound over.
use Rattle.std.proofs.Common.{ℕ, List, [], ◌∷◌, ◌++◌, Bool, true, false, Ok, Err, if◌then◌else◌}
use Rattle.std.specs.List.{AllByRecursion}
use Rattle.hc_ast.specs.declared.query.Select.{Select}
use Rattle.hc_ast.specs.declared.query.FromTable.{FromTable}
use Rattle.hc_schema.specs.declared.table.Table.{Table}
use Rattle.hc_schema.specs.Binding.Names.{same_name}
use Rattle.hc_schema.specs.Binding.Faults.{Judged, Ambiguous, after, walk}
use Rattle.hc_schema.specs.Binding.Scopes.{table_called, with_source, is_source}
use Rattle.hc_schema.specs.Binding.Queries.{Query, From, Setting, with_called, with_table, no_tables, called, sources, setting_of, query_in, query, items, conjuncts, groups_of, having, order}
use Rattle.hc_sql.proofs.DecidedLooks.{Any}

-- P of a meaning
abbrev pub OnMeaning : {A : Type 0} → (A → Type 0) → Judged A → Type 0
OnMeaning P (Ok a) = P a
OnMeaning P (Err fault) = Unit {0}

pub after_on : {A B : Type 0} (P : A → Type 0) (Q : B → Type 0) (x : Judged A) (f : A → Judged B) → OnMeaning P x → ((a : A) → P a → OnMeaning Q (f a)) → OnMeaning Q (after x f)
after_on P Q (Ok a) f holds each = each a holds
after_on P Q (Err fault) f holds each = tt

pub any_on : {A : Type 0} (x : Judged A) → OnMeaning Any x
any_on (Ok a) = tt
any_on (Err fault) = tt

walk_on : {A S : Type 0} (P : S → Type 0) (step : S → A → Judged S) (made : S) (xs : List A) → P made → ((s : S) (x : A) → P s → OnMeaning P (step s x)) → OnMeaning P (walk step made xs)
walk_on P step made [] holds each = holds
walk_on P step made (x ∷ xs) holds each = after_on P P (step made x) (λ next. walk step next xs) (each made x holds) (λ next still. walk_on P step next xs still each)

all_with : {A : Type 0} (P : A → Type 0) (xs : List A) (x : A) → AllByRecursion P xs → P x → AllByRecursion P (xs ++ x ∷ [])
all_with P [] x all holds = (holds, tt)
all_with P (y ∷ xs) x all holds = (all.0, all_with P xs x all.1 holds)

module _ (P : Table → Type 0) where
  pub called_on : (tables : List Table) (name : List ℕ) → AllByRecursion P tables → OnMeaning P (table_called tables name)
  called_on [] name all = tt
  called_on (t ∷ tables) name all = by_test (same_name t.name name) (called_on tables name all.1)
    where
      by_test : (here : Bool) → OnMeaning P (table_called tables name) → OnMeaning P (if here then Ok t else table_called tables name)
      by_test true rest = all.0
      by_test false rest = rest

  abbrev OfFrom : From → Type 0
  OfFrom from = AllByRecursion P from.tables

  with_called_on : (before : From) (name : List ℕ) (t : Table) → OfFrom before → P t → OnMeaning OfFrom (with_called before name t)
  with_called_on before name t all holds = by_test (is_source before.scope name)
    where
      by_test : (taken : Bool) → OnMeaning OfFrom (if taken then Err (Ambiguous name) else Ok (record { tables = before.tables ++ t ∷ []; scope = with_source before.scope name t }))
      by_test true = tt
      by_test false = all_with P before.tables t all holds

  sources_on : (tables : List Table) (from : List FromTable) → AllByRecursion P tables → OnMeaning OfFrom (sources tables from)
  sources_on tables from all =
      walk_on OfFrom (with_table tables) no_tables from tt
      (λ before x holds. after_on P OfFrom (table_called tables x.name) (λ t. with_called before (called x.alias t) t) (called_on tables x.name all)
      (λ t there. with_called_on before (called x.alias t) t holds there))

  abbrev OfQuery : Query → Type 0
  OfQuery q = AllByRecursion P q.tables

  pub query_on : (tables : List Table) (q : Select) → AllByRecursion P tables → OnMeaning OfQuery (query tables q)
  query_on tables q all =
      after_on OfFrom OfQuery (sources tables q.tables) (λ from. query_in q from.tables (setting_of from.scope q)) (sources_on tables q.tables all)
      (λ from holds. in_on from.tables (setting_of from.scope q) holds)
    where
      in_on : (found : List Table) (setting : Setting) → AllByRecursion P found → OnMeaning OfQuery (query_in q found setting)
      in_on found setting holds =
          after_any (items setting q.items) _ (λ answers.
          after_any (conjuncts setting.scope q) _ (λ kept.
          after_any (groups_of setting.scope q) _ (λ groups.
          after_any (having setting q.having) _ (λ chosen.
          after_any (order setting q.distinct answers q.order) _ (λ keys. holds)))))
        where
          after_any : {A : Type 0} (x : Judged A) (f : A → Judged Query) → ((a : A) → OnMeaning OfQuery (f a)) → OnMeaning OfQuery (after x f)
          after_any x f each = after_on Any OfQuery x f (any_on x) (λ a any. each a)
