use Rattle.std.proofs.Common.{◌∙◌, ap, subst, arith, length}
use Rattle.hc_record.specs.Reading.{Gives, reading}
use Rattle.hc_record.proofs.Records.{is_found, reading_again}
use Rattle.hc_record.proofs.decoding.decode.Goals as goal

pub returns-clause-found : goal.returns-clause-found
returns-clause-found c = is_found c.args.bytes.now c.all.result (λ i. omega (arith, c.type_inv.bytes i)) c.all.ensures

pub returns-clause-only : goal.returns-clause-only
returns-clause-only c =
    λ values are e. subst (λ read. Gives (λ found. found) c.all.result read) (ap reading e ∙ reading_again values are (omega (arith, c.requires, ap length e))) c.all.ensures
