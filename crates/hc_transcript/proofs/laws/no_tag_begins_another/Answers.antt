use Rattle.hc_transcript.proofs.Tags.{no_tag_begins_another}
use Rattle.hc_transcript.proofs.laws.no_tag_begins_another.Goals as goal

pub returns : goal.returns
returns c = no_tag_begins_another
