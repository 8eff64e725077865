-- By whether a turn is past the last page.
use Rattle.hc_pool.proofs.Turns.{each_turn, turn_of, turns_differ}
use Rattle.hc_pool.proofs.laws.each_page_has_its_turn.Goals as goal

pub returns : goal.returns
returns c = λ pages from some within. (each_turn pages from some within, λ p first last. turn_of pages from p some within first last, λ m n one other same. turns_differ pages from m n some within one other same)
