use Rattle.hc_record.proofs.Tails.{tail_found, tail_told}
use Rattle.hc_record.proofs.laws.a_tail_follows_a_record.Goals as goal

pub returns : goal.returns
returns c = λ bytes at short fits. (tail_found bytes at fits, tail_told bytes at short)
