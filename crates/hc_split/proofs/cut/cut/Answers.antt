-- Each place is compared with the best one so far.
use Rattle.std.proofs.Common.{◌+◌, ◌≤◌, length, refl, arith}
use Rattle.hc_shape.specs.Halves.{larger}
use Rattle.hc_split.specs.Joined.{joined_entries}
use Rattle.hc_split.proofs.Best.{best_cut, best_first, best_next, best_still, can_measure, first_place, least_by}
use Rattle.hc_split.proofs.cut.cut.Goals.{else-words-fewest, then-words-fewest}
use Rattle.hc_split.proofs.cut.cut.Goals as goal

pub places-init : goal.places-init
places-init c = λ d fresh has.
    let a = c.least_in_half-least.result in
    let size = length (joined_entries c.args.joined.now d) in
    let room = first_place c.args.joined.now c.args.frame d a has c.least_in_half-least.ensures.least in
    best_first (larger d fresh (joined_entries c.args.joined.now d)) a (a + 1) size c.larger_at-fewest.result refl room
    (c.larger_at-fewest.ensures.larger d fresh (can_measure c.args.joined.now c.args.frame d a a has c.least_in_half-least.ensures.least room))

pub places-preserved : goal.places-preserved
places-preserved c = λ d fresh has.
    let a = c.least_in_half-least.result in
    let es = joined_entries c.args.joined.now d in
    let at = c.places.at in
    let b = c.places.invariant d fresh has in
    let within : at + a ≤ length es = omega (arith, c.places-test.true, c.count.ensures.count d has.joined_is, first_place c.args.joined.now c.args.frame d a has c.least_in_half-least.ensures.least) in
    let words = c.larger_at-words.ensures.larger d fresh (can_measure c.args.joined.now c.args.frame d a at has c.least_in_half-least.ensures.least within) in
    elim c.if-words-fewest.branch [
      | then-words-fewest w ↦
          rw w.best-is
          (rw w.fewest-is
          (best_next (larger d fresh es) a at (length es) c.places.best c.places.fewest c.larger_at-words.result b (omega arith) within words w.if-words-fewest.true))
      | else-words-fewest w ↦
          rw w.best-is
          (rw w.fewest-is (best_still (larger d fresh es) a at (length es) c.places.best c.places.fewest c.larger_at-words.result b words w.if-words-fewest.false))
    ]

pub returns : goal.returns
returns c = record {
  cut = λ d fresh has.
      let a = c.least_in_half-least.result in
      let es = joined_entries c.args.joined.now d in
      best_cut d fresh es a c.places.at c.places.best c.places.fewest (least_by c.args.joined.now c.args.frame d a has c.least_in_half-least.ensures.least)
      (omega (arith, c.places-test.false, c.count.ensures.count d has.joined_is, first_place c.args.joined.now c.args.frame d a has c.least_in_half-least.ensures.least))
      (c.places.invariant d fresh has);
}
