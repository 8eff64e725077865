use Rattle.std.proofs.Common.{◌∙◌, ap, ℕ, ◌-◌, List, ◌++◌, length, take, drop, inl, sym, subst, arith}
use Rattle.std.proofs.lemmas.List.{nil_from_length}
use Rattle.hc_transcript.specs.declared.tag.LineTag.{LineTag}
use Rattle.hc_reply.proofs.Words.{whole_word}
use Rattle.hc_reply.proofs.Tags.{Tried, begun_at_start, begun_by, missed_by, tried_more, mismatch_there}
use Rattle.hc_reply.proofs.expected_tag.expect_among.Goals as goal

pub loop-tag-init : goal.loop-tag-init
loop-tag-init c = record {
  tried = λ tag may. inl (c.requires.each tag);
  begun = begun_at_start c.args.allowed c.args.bytes.now c.requires.some;
  within = omega arith;
}

pub returns-then-n-words-clause-found : goal.returns-then-n-words-clause-found
returns-then-n-words-clause-found c = (
  sym c.may_come.ensures ∙ c.if-may_come.true,
  whole_word c.tag_words-words.result.now c.args.bytes.now c.common-n.result c.common-n.ensures.count (omega (arith, c.if-n-words.true))
      ∙ ap (λ (l : List ℕ). l ++ take (length c.args.bytes.now - c.common-n.result) (drop c.common-n.result c.args.bytes.now)) c.tag_words-words.ensures,
)

pub loop-tag-preserved-then-n-most : goal.loop-tag-preserved-then-n-most
loop-tag-preserved-then-n-most c = record {
  tried = tried_more c.args.allowed c.loop-tag.left.now c.in-Some.others.now c.in-Some.tag.now c.loop-tag.most c.common-n.result c.args.bytes.now c.in-Some.ensures.cases.0 (omega (arith, c.if-n-most.true))
      (λ may. missed_by c.in-Some.tag.now c.common-n.result c.common-n.result c.args.bytes.now c.tag_words-words.result.now c.tag_words-words.ensures c.common-n.ensures.count (λ whole. omega (arith, c.if-n-words.false, whole)) (omega arith))
      c.loop-tag.invariant.tried;
  begun = begun_by c.args.allowed c.in-Some.tag.now c.common-n.result c.args.bytes.now c.tag_words-words.result.now (sym c.may_come.ensures ∙ c.if-may_come.true) c.tag_words-words.ensures c.common-n.ensures.count;
  within = c.common-n.ensures.within.1;
}

pub loop-tag-preserved-else-n-most : goal.loop-tag-preserved-else-n-most
loop-tag-preserved-else-n-most c = record {
  tried = tried_more c.args.allowed c.loop-tag.left.now c.in-Some.others.now c.in-Some.tag.now c.loop-tag.most c.loop-tag.most c.args.bytes.now c.in-Some.ensures.cases.0 (omega arith)
      (λ may. missed_by c.in-Some.tag.now c.common-n.result c.loop-tag.most c.args.bytes.now c.tag_words-words.result.now c.tag_words-words.ensures c.common-n.ensures.count (λ whole. omega (arith, c.if-n-words.false, whole)) (omega (arith, c.if-n-most.false)))
      c.loop-tag.invariant.tried;
  begun = c.loop-tag.invariant.begun;
  within = c.loop-tag.invariant.within;
}

pub returns-clause-stop : goal.returns-clause-stop
returns-clause-stop c =
    mismatch_there c.args.allowed c.loop-tag.most c.args.bytes.now
    (subst (λ (l : List LineTag). Tried c.args.allowed l c.loop-tag.most c.args.bytes.now) (nil_from_length c.loop-tag.left.now c.in_default.ensures.cases) c.loop-tag.invariant.tried)
    c.loop-tag.invariant.begun
