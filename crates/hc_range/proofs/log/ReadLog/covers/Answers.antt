use Rattle.std.proofs.Common.{◌≡◌, List, Bool, true, is_some, subst, sym, ◌∙◌, ◌↔◌}
use Rattle.hc_range.specs.Ranges.{InAny}
use Rattle.hc_range.specs.declared.range.Range.{Range}
use Rattle.hc_range.proofs.Searched.{InAny-contains, iff_from_search}
use Rattle.hc_range.proofs.log.ReadLog.covers.Goals as goal

pub returns : goal.returns
returns c =
    subst (λ (found : Bool). (found ≡ true) ↔ InAny c.args.self.now c.args.key.now) (sym c.is_some.ensures)
    (subst (λ (ranges : List Range). (is_some c.find.result ≡ true) ↔ InAny ranges c.args.key.now) (c.as_slice.ensures.value ∙ c.self.view_is)
    (iff_from_search c.find.result (InAny c.as_slice.result.now c.args.key.now) c.find.ensures.found
    (λ range h. InAny-contains c.as_slice.result.now range.now c.args.key.now h.0 h.1) c.find.ensures.absent))
