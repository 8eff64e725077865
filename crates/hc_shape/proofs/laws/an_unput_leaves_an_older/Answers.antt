use Rattle.hc_shape.proofs.Versions.{put_of_one}
use Rattle.hc_shape.proofs.laws.an_unput_leaves_an_older.Goals as goal

pub returns : goal.returns
returns c = put_of_one
