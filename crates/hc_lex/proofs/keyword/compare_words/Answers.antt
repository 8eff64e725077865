use Rattle.std.proofs.Common.{◌≡◌, rules, refl}
use Rattle.std.specs.Char.{to_ascii_lowercase}
use Rattle.std.specs.Ordering.{nat_cmp}
use Rattle.std.proofs.lemmas.Iterator.{YieldsList-from_map, YieldsList-from_slice}
use Rattle.std.proofs.lemmas.Iterator.Search.{cmp_from_yields_List}
use Rattle.hc_lex.proofs.keyword.compare_words.Goals as goal

pub returns : goal.returns
returns c =
    cmp_from_yields_List (λ x y. y ≡ x) _ nat_cmp _ c.cmp.ensures.ran
    (YieldsList-from_map _ to_ascii_lowercase (YieldsList-from_slice c.args.one.now cc) c.map.ensures.closure (λ x r q k. search rules))
    (λ it e. YieldsList-from_map _ to_ascii_lowercase (YieldsList-from_slice c.args.other.now cc) c.map-other.ensures.closure (λ x r q k. search rules))
    (λ x y. refl)
