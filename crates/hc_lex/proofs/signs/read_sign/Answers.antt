use Rattle.std.proofs.Common.{◌≡◌, ◌∷◌, IfSome, IfNone, arith, sym, subst}
use Rattle.hc_lex.specs.Flaws.{BeginsStray}
use Rattle.hc_lex.specs.Pieces.{Skips}
use Rattle.hc_lex.specs.Tokens.{IsToken}
use Rattle.hc_lex.proofs.Classes.{bar_is_left, sign_class}
use Rattle.hc_lex.proofs.signs.read_sign.Goals as goal
use Rattle.hc_lex.proofs.signs.read_sign.Goals.{After-read_bar}

is_bar : (c : After-read_bar) → c.args.first ≡ 124
is_bar c =
    bar_is_left c.args.first (sign_class c.args.first c.requires.sign) (omega arith) (omega arith) (omega arith) (omega arith) (omega arith) (omega arith) (omega arith)
    (omega arith) (omega arith) (omega arith) (omega arith) (omega arith) (omega arith) (omega arith)

pub returns-in_default-clause-some : goal.returns-in_default-clause-some
returns-in_default-clause-some c =
    subst (λ first. IfSome c.read_bar.result (λ read. Skips (IsToken read.0) (first ∷ c.args.tail.now) read.1.now)) (sym (is_bar c)) c.read_bar.ensures.some

pub returns-in_default-clause-none : goal.returns-in_default-clause-none
returns-in_default-clause-none c = subst (λ first. IfNone c.read_bar.result (BeginsStray (first ∷ c.args.tail.now))) (sym (is_bar c)) c.read_bar.ensures.none
