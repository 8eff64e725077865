use Rattle.hc_record.proofs.Records.{none_begins_another}
use Rattle.hc_record.proofs.laws.no_encoding_begins_another.Goals as goal

pub returns : goal.returns
returns c = none_begins_another
