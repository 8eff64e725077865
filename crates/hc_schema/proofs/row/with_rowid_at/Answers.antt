use Rattle.std.proofs.Common.{◌≡◌, List, Some, IsTrue, set, sym, subst, ap, ◌∙◌, FitsSigned, w64, rules}
use Rattle.std.specs.Prelude.{slice_get}
use Rattle.std.proofs.lemmas.Int.{to_z-of_z}
use Rattle.hc_value.specs.declared.value.Value.{Value}
use Rattle.hc_value.specs.declared.value.Value.TheVariants.{Int, Null}
use Rattle.hc_schema.proofs.RowCells.{stored_back, has_rowid, put_back, cleared_null}
use Rattle.hc_schema.proofs.row.with_rowid_at.Goals as goal

pub returns-then-not-has_null-clause-all : goal.returns-then-not-has_null-clause-all
returns-then-not-has_null-clause-all c values lt is stored =
    let null = cleared_null c.args.stored values c.args.k lt stored in
    let yes : IsTrue c.has_null.result = c.has_null.ensures.1 (subst (λ (l : List Value). slice_get l c.args.k ≡ Some Null) (sym c.as_slice.ensures) null) in
    absurd cc

pub returns-clause-some : goal.returns-clause-some
returns-clause-some c =
    let fits : FitsSigned w64 c.args.rowid = search rules in
    let yes : IsTrue c.has_null.result = cc in
    let null : slice_get c.args.stored c.args.k ≡ Some Null = subst (λ (l : List Value). slice_get l c.args.k ≡ Some Null) c.as_slice.ensures (c.has_null.ensures.0 yes) in
    let new : c.set.new.self ≡ set c.args.stored c.args.k (Int c.args.rowid) = c.set.ensures ∙ ap (λ z. set c.args.stored c.args.k (Int z)) (to_z-of_z w64 c.args.rowid fits) in
    (stored_back c.args.stored c.set.new.self c.args.k (Int c.args.rowid) null new, has_rowid c.args.stored c.set.new.self c.args.k (Int c.args.rowid) null new)

pub returns-clause-all : goal.returns-clause-all
returns-clause-all c values lt is stored =
    let fits : FitsSigned w64 c.args.rowid = search rules in
    let new : c.set.new.self ≡ set c.args.stored c.args.k (Int c.args.rowid) = c.set.ensures ∙ ap (λ z. set c.args.stored c.args.k (Int z)) (to_z-of_z w64 c.args.rowid fits) in
    ap Some (put_back c.args.stored values c.set.new.self c.args.k (Int c.args.rowid) is stored new)
