-- Each step leaves one place less.
use Rattle.hc_record.proofs.place.+skip.Given as goal

abbrev pub decreases-skip : goal.decreases-skip
decreases-skip l = l.place
