use Rattle.std.proofs.Common.{◌≡◌, ◌+◌, ◌^◌, ◌∙◌, arith}
use Rattle.std.proofs.lemmas.Bool.{eqb-true, eq-eqb}
use Rattle.hc_schema.proofs.CatalogKeys.{end_long, end_read}
use Rattle.hc_schema.proofs.tree.ends_with_zero.Goals as goal

pub returns-in-Some : goal.returns-in-Some
returns-in-Some c values n fits key =
    let e : c.from_be_bytes.result ≡ 2 ^ 63 + n = c.from_be_bytes.ensures ∙ end_read values n c.args.key.now c.in-Some.last.now fits key c.in-Some.ensures.cases.1 in
    ((λ yes. omega (arith, e, eqb-true _ _ yes)), λ none. eq-eqb _ _ (omega (arith, e, none)))

pub returns-in-None : goal.returns-in-None
returns-in-None c values n fits key = absurd (omega (arith, end_long values n c.args.key.now key, c.in-None.ensures.cases))
