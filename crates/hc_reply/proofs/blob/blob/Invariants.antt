-- The digits so far are written, each byte with two.
use Rattle.std.proofs.Common.{◌≡◌, ◌++◌, length}
use Rattle.hc_reply.specs.Blobs.{IsBlob}
use Rattle.hc_reply.proofs.Blobs.{begun}
use Rattle.hc_reply.proofs.blob.blob.Given as goal

abbrev pub invariant-loop-high : goal.invariant-loop-high
invariant-loop-high l = record {
  written : l.bytes ≡ begun l.out.items ++ l.rest;
  is : IsBlob l.limit l.out.items;
}

abbrev pub decreases-loop-high : goal.decreases-loop-high
decreases-loop-high l = length l.rest
