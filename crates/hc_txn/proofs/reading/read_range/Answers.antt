use Rattle.std.proofs.Common.{◌≡◌, sym, subst, ℕ, List, ◌<◌, true, rules}
use Rattle.hc_range.specs.Ranges.{InRange, is_under}
use Rattle.hc_range.specs.declared.range.Range.{Range}
use Rattle.hc_core.specs.Desk.{IsReading, HasRead, StopsIn, end_of}
use Rattle.hc_core.specs.declared.stop.Next.{Next}
use Rattle.hc_core.specs.declared.stop.Next.TheVariants.{More, End}
use Rattle.hc_txn.specs.Reading.{IsPlace, StopsAt, upto_next, HasReadAll}
use Rattle.hc_txn.proofs.Parts.{first_read, next_read, still_reading}
use Rattle.hc_txn.proofs.Ranks.{less_left, left_above, StopsAbove}
use Rattle.hc_txn.proofs.reading.read_range.Goals as goal

pub read_part-requires-in-More-clause-reading : goal.read_part-requires-in-More-clause-reading
read_part-requires-in-More-clause-reading g c =
    subst IsReading (sym c.loop-next.invariant.read.grown)
    (still_reading (g.D.Desk.conn c.args.desk.now) c.loop-next.invariant.read.reads (g.D.Desk.account c.args.desk.now) c.requires.reading)

-- a call that stops in a range stops at a place of it
stops_at : (from : List ℕ) (range : Range) (next : Next) → StopsIn from range next → StopsAt range next
stops_at from range (More key) h = h.1
stops_at from range End h = tt

stops_above : (from : List ℕ) (range : Range) (next : Next) → StopsIn from range next → StopsAbove from next
stops_above from range (More key) h = h.0
stops_above from range End h = tt

pub loop-next-init : goal.loop-next-init
loop-next-init g c =
    rw c.place-next.ensures.same
    (record {
      read = first_read (g.D.Desk.conn c.args.desk.now) c.args.range.now.lo (end_of c.args.range.now c.in-Ok.first) _ _ _ _
          (subst (λ (lo : List ℕ). HasRead (g.D.Desk.conn c.args.desk.now) lo (end_of c.args.range.now c.in-Ok.first) (g.D.Desk.account c.args.desk.now) (g.D.Desk.account c.read_part.new.self) c.args.out.now.cells c.read_part.new.out.cells) c.as_slice.ensures c.in-Ok.ensures.entry);
      stop = stops_at c.as_slice.result.now c.args.range.now c.in-Ok.first c.in-Ok.ensures.stop;
      place = c.place-next.ensures.place;
      on = c.in-Ok.ensures.on;
    })

pub loop-next-smaller : goal.loop-next-smaller
loop-next-smaller g c =
    subst (λ (next : Next). left_above c.place-next-in-Ok-read_part.result < left_above next) (sym c.in-More.is)
    (less_left c.in-More.key c.place-next-in-Ok-read_part.result (subst IsPlace c.in-More.is c.loop-next.invariant.place)
    (subst IsPlace (sym c.place-next-in-Ok-read_part.ensures.same) c.place-next-in-Ok-read_part.ensures.place)
    (subst (λ (next : Next). StopsAbove c.in-More.key next) (sym c.place-next-in-Ok-read_part.ensures.same)
    (subst (λ (from : List ℕ). StopsAbove from c.in-Ok-read_part.more) c.as_slice-in-More.ensures.bytes
    (stops_above c.as_slice-in-More.result.now c.args.range.now c.in-Ok-read_part.more c.in-Ok-read_part.ensures.stop))))

-- a key of a range is below where a call that begins there stops
under_end : (key : List ℕ) (range : Range) (next : Next) → InRange range key → StopsIn key range next → is_under key (end_of range next) ≡ true
under_end key range (More stop) inside h = h.0
under_end key range End inside h = inside.1

pub loop-next-preserved : goal.loop-next-preserved
loop-next-preserved g c =
    let inside : InRange c.args.range.now c.in-More.key = subst (λ (next : Next). StopsAt c.args.range.now next) c.in-More.is c.loop-next.invariant.stop in
    let stop : StopsIn c.in-More.key c.args.range.now c.in-Ok-read_part.more =
    subst (λ (from : List ℕ). StopsIn from c.args.range.now c.in-Ok-read_part.more) c.as_slice-in-More.ensures.bytes c.in-Ok-read_part.ensures.stop in
    rw c.place-next-in-Ok-read_part.ensures.same
    (record {
      read = next_read (g.D.Desk.conn c.args.desk.now) c.args.range.now.lo c.in-More.key (end_of c.args.range.now c.in-Ok-read_part.more) inside.0
          (under_end c.in-More.key c.args.range.now c.in-Ok-read_part.more inside stop)
          (g.D.Desk.account c.args.desk.now) (g.D.Desk.account c.loop-next.desk) _ c.args.out.now.cells c.loop-next.out.cells _
          (subst (λ (next : Next). HasReadAll (g.D.Desk.conn c.args.desk.now) (upto_next c.args.range.now next) (g.D.Desk.account c.args.desk.now) (g.D.Desk.account c.loop-next.desk) c.args.out.now.cells c.loop-next.out.cells) c.in-More.is c.loop-next.invariant.read)
          (subst (λ (from : List ℕ). HasRead (g.D.Desk.conn c.args.desk.now) from (end_of c.args.range.now c.in-Ok-read_part.more) (g.D.Desk.account c.loop-next.desk) (g.D.Desk.account c.read_part-in-More.new.self) c.loop-next.out.cells c.read_part-in-More.new.out.cells) c.as_slice-in-More.ensures.bytes
          (subst (λ (conn : ℕ). HasRead conn c.as_slice-in-More.result.now (end_of c.args.range.now c.in-Ok-read_part.more) (g.D.Desk.account c.loop-next.desk) (g.D.Desk.account c.read_part-in-More.new.self) c.loop-next.out.cells c.read_part-in-More.new.out.cells) c.loop-next.invariant.on.0 c.in-Ok-read_part.ensures.entry));
      stop = stops_at c.in-More.key c.args.range.now c.in-Ok-read_part.more stop;
      place = c.place-next-in-Ok-read_part.ensures.place;
      on = search rules;
    })
