use Rattle.std.proofs.Common.{◌≡◌, List, [], ◌∷◌, IsTrue, rules, sym, subst}
use Rattle.std.specs.List.{AllByRecursion}
use Rattle.hc_text.specs.Names.{SameName}
use Rattle.hc_schema.specs.declared.table.Index.{Index}
use Rattle.hc_schema.specs.Tables.{NamesDiffer, index_names}
use Rattle.hc_schema.proofs.NameLists.{empty_by_length, new_to, new_from, differ_first, differ_rest, differ_all}
use Rattle.hc_schema.proofs.checks.do_indexes_differ.Goals as goal

pub returns-then-not-lacks_index : goal.returns-then-not-lacks_index
returns-then-not-lacks_index c = (
  (λ no. absurd cc),
  λ differ.
      let yes : IsTrue c.lacks_index.result = c.lacks_index.ensures.1 (new_from (λ (x : Index). x.name) c.args.name.now c.args.indexes.now differ.0) in
      absurd cc,
)

pub returns-then-not-lacks_index-2 : goal.returns-then-not-lacks_index-2
returns-then-not-lacks_index-2 c =
    let parts : c.loop-index.left.now ≡ c.in-Some.index.now ∷ c.in-Some.rest.now = search rules in (
      (λ no. absurd cc),
      λ differ.
          let new = differ_first (λ (x : Index). x.name) c.loop-index.left.now c.in-Some.rest.now c.in-Some.index.now parts (c.loop-index.invariant.0 differ.1) in
          let yes : IsTrue c.lacks_index-in-Some.result = c.lacks_index-in-Some.ensures.1 (subst (λ n. AllByRecursion (λ (x : Index). SameName n x.name → ⊥) c.in-Some.rest.now) (sym c.as_str.ensures.text) new) in
          absurd cc,
    )

pub loop-index-preserved : goal.loop-index-preserved
loop-index-preserved c =
    let parts : c.loop-index.left.now ≡ c.in-Some.index.now ∷ c.in-Some.rest.now = search rules in
    let yes : IsTrue c.lacks_index-in-Some.result = cc in
    let new = subst (λ n. AllByRecursion (λ (x : Index). SameName n x.name → ⊥) c.in-Some.rest.now) c.as_str.ensures.text (c.lacks_index-in-Some.ensures.0 yes) in (
      (λ differ. differ_rest (λ (x : Index). x.name) c.loop-index.left.now c.in-Some.rest.now c.in-Some.index.now parts (c.loop-index.invariant.0 differ)),
      λ differ. c.loop-index.invariant.1 (differ_all (λ (x : Index). x.name) c.loop-index.left.now c.in-Some.rest.now c.in-Some.index.now parts new differ),
    )

pub returns : goal.returns
returns c =
    let none : c.loop-index.left.now ≡ [] = empty_by_length c.loop-index.left.now c.in_default.ensures.cases in
    let yes : IsTrue c.lacks_index.result = cc in (
      (λ _. (
        new_to (λ (x : Index). x.name) c.args.name.now c.args.indexes.now (c.lacks_index.ensures.0 yes),
        c.loop-index.invariant.1 (subst (λ (l : List Index). NamesDiffer (index_names l)) (sym none) tt),
      )),
      λ _. cc,
    )
