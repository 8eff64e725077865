use Rattle.std.proofs.Common.{◌∙◌, ap, sym}
use Rattle.hc_schema.specs.Binding.Statements.{binding, insert, update, delete}
use Rattle.hc_bind.proofs.Statements.{found_answers, query_answers}
use Rattle.hc_bind.proofs.statement.bind_ungrouped.Goals as goal

pub returns-in-Select : goal.returns-in-Select
returns-in-Select c = query_answers c.args.tables.now c.args.stmt.now c.in-Select.q c.select.result c.in-Select.is c.select.ensures

pub returns-in-Insert : goal.returns-in-Insert
returns-in-Insert c =
    found_answers c.args.tables.now c.args.stmt.now (insert c.args.tables.now c.as_str.result.now c.in-Insert.columns c.as_slice.result.now) c.found.result
    (ap (binding c.args.tables.now) c.in-Insert.is
    ∙ ap (λ name. insert c.args.tables.now name c.in-Insert.columns c.in-Insert.rows) (sym c.as_str.ensures.text)
    ∙ ap (insert c.args.tables.now c.as_str.result.now c.in-Insert.columns) (sym c.as_slice.ensures))
    (c.found.ensures _ c.insert.ensures)

pub returns-in-Update : goal.returns-in-Update
returns-in-Update c =
    found_answers c.args.tables.now c.args.stmt.now (update c.args.tables.now c.as_str-in-Update.result.now c.as_slice-in-Update.result.now c.in-Update.filter) c.found-in-Update.result
    (ap (binding c.args.tables.now) c.in-Update.is
    ∙ ap (λ name. update c.args.tables.now name c.in-Update.sets c.in-Update.filter) (sym c.as_str-in-Update.ensures.text)
    ∙ ap (λ sets. update c.args.tables.now c.as_str-in-Update.result.now sets c.in-Update.filter) (sym c.as_slice-in-Update.ensures))
    (c.found-in-Update.ensures _ c.update.ensures)

pub returns-in-Delete : goal.returns-in-Delete
returns-in-Delete c =
    found_answers c.args.tables.now c.args.stmt.now (delete c.args.tables.now c.as_str-in-Delete.result.now c.in-Delete.filter) c.found-in-Delete.result
    (ap (binding c.args.tables.now) c.in-Delete.is
    ∙ ap (λ name. delete c.args.tables.now name c.in-Delete.filter) (sym c.as_str-in-Delete.ensures.text))
    (c.found-in-Delete.ensures _ c.delete.ensures)
