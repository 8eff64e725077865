-- The least number of the range gets smaller.
use Rattle.hc_reply.proofs.number.+begins_within.Given as goal

abbrev pub decreases-begins_within : goal.decreases-begins_within
decreases-begins_within l = l.low
