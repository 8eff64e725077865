-- There is a place for the cut.
use Rattle.hc_split.proofs.Parting.{frame_is, has_place}
use Rattle.hc_split.proofs.halves.cut_of.Goals as goal

pub cut-requires : goal.cut-requires
cut-requires c =
    let h = c.requires.part in
    let page = h.3.joined_is.will.page in
    record {
      place = (
        h.0,
        has_place c.args.joined.now h.1 h.2 h.0 h.3 c.frame_of.result
            (frame_is c.frame_of.result h.0 c.level.result c.low-low.result c.high-high.result page.content (c.level.ensures.level h.0 page) (c.low-low.ensures.low h.0 page)
            (c.high-high.ensures.high h.0 page) c.frame_of.ensures.level c.frame_of.ensures.low c.frame_of.ensures.high),
      );
    }

pub returns : goal.returns
returns c = record {
  cut = λ d own fresh can.
      let page = can.joined_is.will.page in
      c.cut.ensures.cut d fresh
      (has_place c.args.joined.now own fresh d can c.frame_of.result
      (frame_is c.frame_of.result d c.level.result c.low-low.result c.high-high.result page.content (c.level.ensures.level d page) (c.low-low.ensures.low d page)
      (c.high-high.ensures.high d page) c.frame_of.ensures.level c.frame_of.ensures.low c.frame_of.ensures.high));
}
