use Rattle.hc_schema.proofs.OneRecord.{one_record}
use Rattle.hc_schema.proofs.laws.a_key_has_one_record.Goals as goal

pub returns : goal.returns
returns c = one_record c.keys_of_different_lists_differ.ensures
