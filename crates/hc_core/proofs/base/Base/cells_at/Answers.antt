use Rattle.std.proofs.Common.{◌≡◌, ◌∙◌, ◌+◌, ◌-◌, sym, ap, arith, drop, take, List}
use Rattle.std.proofs.lemmas.List.{drop-take}
use Rattle.hc_core.specs.Base.{cells_within}
use Rattle.hc_core.specs.Commits.{cells_of}
use Rattle.hc_core.specs.declared.cells.Cell.{Cell}
use Rattle.hc_core.specs.declared.commit.Commit.{Commit}
use Rattle.hc_core.proofs.Steps.{ok_map}
use Rattle.hc_core.proofs.base.Base.cells_at.Goals as goal

-- those of the base are gone on with
pub returns : goal.returns
returns c =
    let n = c.args.self.now.count in
    let more = c.args.snapshot - n in
    let whole : n + more ≡ c.args.snapshot = omega (arith, c.if-snapshot-self.false) in
    let rest : take more (drop n c.args.log.now) ≡ drop n (take c.args.snapshot c.args.log.now) =
    sym (drop-take n more c.args.log.now) ∙ ap (λ k. drop n (take k c.args.log.now)) whole in
    ok_map c.cells_over-2.result _ _ c.cells_over-2.ensures (λ cells is. (
      n,
      omega (arith, c.if-snapshot-self.false),
      is ∙ ap (λ (log : List Commit). cells_of c.args.range.now c.in_ok-cells.cells.items log) rest
          ∙ ap (λ (found : List Cell). cells_of c.args.range.now found (drop n (take c.args.snapshot c.args.log.now)))
          (c.in_ok-cells.ensures ∙ ap (cells_within c.args.range.now) c.requires.based.cells),
    ))
