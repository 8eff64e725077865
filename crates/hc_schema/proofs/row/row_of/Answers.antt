use Rattle.std.proofs.Common.{◌≡◌, ℤ, List, [], ◌∷◌, Some, None, IsTrue, IfSome, FitsSigned, w64, to_z, of_z, sym, subst, ap, ◌∙◌}
use Rattle.std.proofs.lemmas.Int.{to_z-of_z}
use Rattle.hc_value.specs.declared.value.Value.{Value}
use Rattle.hc_value.specs.declared.value.Value.TheVariants.{Int}
use Rattle.hc_key.specs.Keys.{key_bytes}
use Rattle.hc_core.specs.declared.cells.Cell.{Cell}
use Rattle.hc_schema.specs.Cells.{stored_values}
use Rattle.hc_schema.specs.declared.table.Column.{Column}
use Rattle.hc_schema.specs.Tables.{Pairwise}
use Rattle.hc_schema.specs.Databases.{FitsColumn}
use Rattle.hc_schema.specs.Reading.{IsRecord}
use Rattle.hc_schema.proofs.Pairs.{some_same}
use Rattle.hc_schema.proofs.RowCells.{row_sized, row_record, row_found}
use Rattle.hc_schema.proofs.row.row_of.Goals as goal

pub returns-in_default-with_rowid-clause-none : goal.returns-in_default-with_rowid-clause-none
returns-in_default-with_rowid-clause-none c row is =
    let t = c.args.table.now in
    let key = c.in_ok-rowid.ensures.all row.rowid is.0.rowid (c.as_slice.ensures ∙ ap (λ (x : Cell). x.key) is.1) in
    let rowid : c.in-Some.rowid ≡ row.rowid = some_same _ _ (sym c.in-Some.is ∙ key) in
    let fits : FitsSigned w64 c.in-Some.rowid = subst (FitsSigned w64) (sym rowid) is.0.rowid in
    let same : row.rowid ≡ to_z w64 (of_z w64 c.in-Some.rowid) = sym (to_z-of_z w64 c.in-Some.rowid fits ∙ rowid) in
    let rec = c.in_ok-stored.ensures.all (stored_values t.alias row.values) (subst (IsRecord (stored_values t.alias row.values)) (sym c.as_slice-2.ensures) (row_record t c.args.cell.now row c.requires is)) in
    let stored = some_same _ _ (sym c.in-Some-2.is ∙ rec) in
    let found = c.with_rowid.ensures.all row same (row_sized t row c.requires is.0) is.0.alias stored in
    let no : Some row.values ≡ None = sym found ∙ c.in_default-with_rowid.is in
    absurd cc

pub returns-then-do_fit-clause-found : goal.returns-then-do_fit-clause-found
returns-then-do_fit-clause-found c =
    let t = c.args.table.now in
    let key = subst (λ o. IfSome o (λ (n : ℤ). FitsSigned w64 n × (c.as_slice.result.now ≡ key_bytes t.tree (Int n ∷ [])))) c.in-Some.is c.in_ok-rowid.ensures.found in
    let same : c.in-Some.rowid ≡ to_z w64 (of_z w64 c.in-Some.rowid) = sym (to_z-of_z w64 c.in-Some.rowid key.0) in
    let rec = subst (λ o. IfSome o (λ (l : List Value). IsRecord l c.as_slice-2.result.now)) c.in-Some-2.is c.in_ok-stored.ensures.found in
    let some = c.in-Some-with_rowid.ensures.some in
    let yes : IsTrue c.do_fit.result = cc in
    let fit = subst (λ (l : List Value). Pairwise FitsColumn t.columns l) c.as_slice-4.ensures (subst (λ (l : List Column). Pairwise FitsColumn l c.as_slice-4.result.now) c.as_slice-3.ensures (c.do_fit.ensures.0 yes)) in
    row_found t c.args.cell.now (record { rowid = to_z w64 (of_z w64 c.in-Some.rowid); values = c.in-Some-with_rowid.values }) c.in-Some-2.stored (subst (FitsSigned w64) same key.0)
    (sym c.as_slice.ensures ∙ key.1 ∙ ap (λ n. key_bytes t.tree (Int n ∷ [])) same) (subst (IsRecord c.in-Some-2.stored) c.as_slice-2.ensures rec) some.0 some.1 fit
