use Rattle.hc_parse.proofs.Texts.Digits.{pairs_on}
use Rattle.hc_parse.proofs.quoted.digit_bytes.Goals as goal

pub pairs-preserved : goal.pairs-preserved
pairs-preserved c =
    pairs_on c.pairs.out.items _ c.pairs.rest.now c.in-Some.tail.now c.in-Some-split_first.after.now _ _ _ _ _
    (c.in-Some.ensures.cases.0) (c.in-Some-split_first.ensures.cases.0) c.digit_value.ensures.value c.digit_value-in-Some.ensures.value
    c.in_ok-push.ensures.items c.pairs.invariant
