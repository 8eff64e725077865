use Rattle.std.proofs.Common.{pos, sym, subst, ◌∙◌, w64, refl}
use Rattle.std.proofs.lemmas.Int.{to_z-of_z}
use Rattle.hc_schema.proofs.Pairs.{after_ok}
use Rattle.hc_schema.specs.Tables.{Pairwise}
use Rattle.hc_schema.specs.Cells.{kind_number}
use Rattle.hc_schema.specs.Reading.{IsNumberOf}
use Rattle.hc_schema.proofs.TableCells.{number_pairs, numbers_tail, kind_fits}
use Rattle.hc_schema.proofs.reading.index_from.Goals as goal

pub returns : goal.returns
returns c =
    after_ok c.index_with.result _ _ c.index_with.ensures
    (λ answer found index are tree values.
    found index (c.as_str.ensures.text ∙ rw values refl) tree (rw values (to_z-of_z w64 (pos (kind_number index.kind)) (kind_fits index.kind)))
    (subst (λ l. Pairwise IsNumberOf l index.columns) (sym (numbers_tail index c.args.values.now values)) (number_pairs index.columns are)))
