use Rattle.std.proofs.Common.{◌≡◌, ◌∷◌, IsTrue, rules, sym, subst}
use Rattle.std.specs.List.{AllByRecursion}
use Rattle.hc_text.specs.Names.{SameName}
use Rattle.hc_schema.specs.declared.table.Column.{Column}
use Rattle.hc_schema.proofs.NameLists.{differ_first, differ_rest, differ_all}
use Rattle.hc_schema.proofs.checks.do_columns_differ.Goals as goal

pub returns-then-not-lacks_column : goal.returns-then-not-lacks_column
returns-then-not-lacks_column c =
    let parts : c.loop-column.left.now ≡ c.in-Some.column.now ∷ c.in-Some.rest.now = search rules in (
      (λ no. absurd cc),
      λ differ.
          let new = differ_first (λ (x : Column). x.name) c.loop-column.left.now c.in-Some.rest.now c.in-Some.column.now parts (c.loop-column.invariant.0 differ) in
          let yes : IsTrue c.lacks_column.result = c.lacks_column.ensures.1 (subst (λ n. AllByRecursion (λ (x : Column). SameName n x.name → ⊥) c.in-Some.rest.now) (sym c.as_str.ensures.text) new) in
          absurd cc,
    )

pub loop-column-preserved : goal.loop-column-preserved
loop-column-preserved c =
    let parts : c.loop-column.left.now ≡ c.in-Some.column.now ∷ c.in-Some.rest.now = search rules in
    let yes : IsTrue c.lacks_column.result = cc in
    let new = subst (λ n. AllByRecursion (λ (x : Column). SameName n x.name → ⊥) c.in-Some.rest.now) c.as_str.ensures.text (c.lacks_column.ensures.0 yes) in (
      (λ differ. differ_rest (λ (x : Column). x.name) c.loop-column.left.now c.in-Some.rest.now c.in-Some.column.now parts (c.loop-column.invariant.0 differ)),
      λ differ. c.loop-column.invariant.1 (differ_all (λ (x : Column). x.name) c.loop-column.left.now c.in-Some.rest.now c.in-Some.column.now parts new differ),
    )
