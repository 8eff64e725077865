-- The tags that were tried have no more bytes in common than the most, and so many begin one.
use Rattle.std.proofs.Common.{◌≤◌, length}
use Rattle.hc_reply.proofs.Tags.{IsBegun, Tried}
use Rattle.hc_reply.proofs.expected_tag.expect_among.Given as goal

abbrev pub invariant-loop-tag : goal.invariant-loop-tag
invariant-loop-tag l = record {
  tried : Tried l.allowed l.left l.most l.bytes;
  begun : IsBegun l.allowed l.most l.bytes;
  within : l.most ≤ length l.bytes;
}

abbrev pub decreases-loop-tag : goal.decreases-loop-tag
decreases-loop-tag l = length l.left
