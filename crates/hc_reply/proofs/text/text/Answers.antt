use Rattle.std.proofs.lemmas.List.{nil_from_length}
use Rattle.hc_reply.proofs.Texts.{mismatch_without_quote, mismatch_at_end, mismatch_at_byte, goes_further, written_further}
use Rattle.hc_reply.proofs.text.text.Goals as goal

pub returns-in_default-clause-stop : goal.returns-in_default-clause-stop
returns-in_default-clause-stop c = mismatch_without_quote c.args.bytes.now c.in_default.ensures.none

pub returns-in_default-next_expected-clause-stop : goal.returns-in_default-next_expected-clause-stop
returns-in_default-next_expected-clause-stop c =
    mismatch_at_byte c.loop-byte.out.items c.args.bytes.now c.loop-byte.rest.now c.in-Some-split_first.left.now c.in-Some-split_first.byte.now c.loop-byte.expected
    c.loop-byte.invariant.alive c.loop-byte.invariant.goes c.loop-byte.invariant.written c.in-Some-split_first.ensures.cases.0
    c.in_default-next_expected.ensures.refused c.in_default-next_expected.ensures.goes_on

pub loop-byte-preserved : goal.loop-byte-preserved
loop-byte-preserved c = record {
  written = rw c.in_ok-push.ensures.items (written_further c.loop-byte.out.items c.args.bytes.now c.loop-byte.rest.now c.in-Some-split_first.left.now c.in-Some-after_double.next_bytes.now c.in-Some-split_first.byte.now
      c.loop-byte.invariant.written c.in-Some-split_first.ensures.cases.0 c.in-Some-after_double.ensures.some);
  alive = c.in-Some-next_expected.ensures.next.0;
  goes = rw c.in_ok-push.ensures.items (goes_further c.loop-byte.out.items c.loop-byte.expected c.in-Some-next_expected.next c.in-Some-split_first.byte.now
      c.loop-byte.invariant.goes c.in-Some-next_expected.ensures.next);
}

pub returns-clause-stop : goal.returns-clause-stop
returns-clause-stop c =
    mismatch_at_end c.loop-byte.out.items c.args.bytes.now c.loop-byte.rest.now c.loop-byte.expected
    c.loop-byte.invariant.alive c.loop-byte.invariant.goes c.loop-byte.invariant.written (nil_from_length c.loop-byte.rest.now c.in_default-split_first.ensures.cases)
