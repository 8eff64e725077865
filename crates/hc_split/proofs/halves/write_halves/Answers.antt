-- The halves at the cut.
use Rattle.hc_split.proofs.Parting.{parts}
use Rattle.hc_split.proofs.halves.write_halves.Goals as goal

pub cut_of-at-requires : goal.cut_of-at-requires
cut_of-at-requires c = let h = c.requires.part in record { part = (h.0, c.args.own, c.args.fresh, h.1) }

pub write_right-requires : goal.write_right-requires
write_right-requires c =
    let h = c.requires.part in
    record { cut = (h.0, c.args.own, record { part = h.1; cut = c.cut_of-at.ensures.cut h.0 c.args.own c.args.fresh h.1 }) }

pub write_left-requires : goal.write_left-requires
write_left-requires c = let h = c.requires.part in record { cut = (h.0, record { part = h.1; cut = c.cut_of-at.ensures.cut h.0 c.args.own c.args.fresh h.1 }) }

pub returns : goal.returns
returns c = record {
  parts = λ d can.
      let cut = c.cut_of-at.ensures.cut d c.args.own c.args.fresh can in
      parts c.args.joined.now c.args.own c.args.fresh d can c.cut_of-at.result cut c.write_left.new.out.words c.write_right.new.out.words
      (c.write_left.ensures.page d (record { part = can; cut = cut })) (c.write_right.ensures.page d c.args.own (record { part = can; cut = cut }));
}
