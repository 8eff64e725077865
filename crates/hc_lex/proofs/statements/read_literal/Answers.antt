use Rattle.std.proofs.Common.{◌∷◌, inl, refl}
use Rattle.hc_lex.proofs.PartLemmas.{open_literal}
use Rattle.hc_lex.proofs.statements.read_literal.Goals as goal

pub returns-in-Some : goal.returns-in-Some
returns-in-Some c = let skips = c.in-Some.ensures.some in (skips.0, skips.1, inl (c.args.quote, c.requires, inl skips.2))

pub returns-in-None : goal.returns-in-None
returns-in-None c = open_literal (c.args.quote ∷ c.args.tail.now) c.args.quote c.args.tail.now refl c.requires c.in-None.ensures.none
