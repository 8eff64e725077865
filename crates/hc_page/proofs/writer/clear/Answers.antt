-- What is not set is 0.
use Rattle.std.proofs.Common.{◌≡◌, ◌≤◌, ℕ, List, get_or, set, ◌∙◌, arith, get_or-set_other}
use Rattle.std.specs.Prelude.{replicate}
use Rattle.hc_page.proofs.Written.{zeros_are}
use Rattle.hc_page.proofs.writer.clear.Goals as goal

others : (zs : List ℕ) (a b d i : ℕ) → 3 ≤ i → get_or (set (set (set zs 0 a) 1 b) 2 d) i 0 ≡ get_or zs i 0
others zs a b d i past =
    get_or-set_other (set (set zs 0 a) 1 b) 2 i d 0 (omega arith) ∙ (get_or-set_other (set zs 0 a) 1 i b 0 (omega arith) ∙ get_or-set_other zs 0 i a 0 (omega arith))

pub returns-clause-rest : goal.returns-clause-rest
returns-clause-rest c = λ i past. let zs : List ℕ = replicate 256 0 in others zs c.args.first c.args.second c.args.third i past ∙ zeros_are 256 i
