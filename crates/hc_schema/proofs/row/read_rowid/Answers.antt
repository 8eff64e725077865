use Rattle.std.proofs.Common.{◌<◌, ◌^◌, [], ◌∷◌, length, ap, sym, ◌∙◌, rules, arith}
use Rattle.hc_value.specs.declared.value.Value.TheVariants.{Int}
use Rattle.hc_schema.proofs.RowCells.{row_key_len}
use Rattle.hc_schema.proofs.row.read_rowid.Goals as goal

pub returns-then-key-clause-all : goal.returns-then-key-clause-all
returns-then-key-clause-all c rowid fits key = absurd (omega (arith, c.if-key.true, ap length key, row_key_len c.args.tree rowid))

pub returns-in-Ok-clause-all : goal.returns-in-Ok-clause-all
returns-in-Ok-clause-all c rowid fits key =
    let small : c.in-Ok.found < 2 ^ 32 = search rules in
    let tree : c.args.tree < 2 ^ 32 = search rules in
    let same = c.keys_of_different_lists_differ.ensures c.in-Ok.found c.args.tree c.in-Ok.values (Int rowid ∷ []) small tree c.in-Ok.ensures.found.0 (fits, tt) (sym c.in-Ok.ensures.found.1 ∙ key) in
    c.rowid_from.ensures.all rowid same.0 (c.as_slice.ensures ∙ same.1)
