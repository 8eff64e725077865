use Rattle.std.proofs.Common.{ap, sym, subst, length, List, ℕ, arith, length-append, length-take}
use Rattle.std.specs.Io.KnownBytes.{Consumes}
use Rattle.hc_top.specs.Streams.{Appended}
use Rattle.hc_top.proofs.StreamSteps.{consumes-more}
use Rattle.hc_top.proofs.reading.read_input.Goals as goal

pub loop-input-preserved : goal.loop-input-preserved
loop-input-preserved g c =
    let before = c.loop-input.invariant in
    let more : Appended (g.S.Source.left c.loop-input.source) (g.S.Source.left c.read_piece.new.source) c.loop-input.input.items c.read_piece.new.input.items c.in_ok-read_piece.field-0 = c.in_ok-read_piece.ensures.appended in
    let within = c.in_ok-read_piece.ensures.within in
    record {
      taken =
          subst (λ (l : List ℕ). Consumes (g.S.Source.left c.args.source.now) (g.S.Source.left c.read_piece.new.source) l) (sym more.appended)
          (consumes-more (g.S.Source.left c.args.source.now) (g.S.Source.left c.loop-input.source) (g.S.Source.left c.read_piece.new.source) c.loop-input.input.items more.bytes before.taken more.taken);
      within =
          omega (arith, within, length-take c.min-room.result c.deref_mut.result.now, more.count, ap length more.appended, length-append c.loop-input.input.items more.bytes, c.read_piece.new.input.ok.0, c.loop-input.input.ok.0, c.min-room.ensures, c.len-in-loop-input.ensures);
      buffer_size = before.buffer_size;
      count = omega (arith, before.count, c.in_ok-read_piece.ensures.count);
    }
