use Rattle.std.proofs.Common.{◌∙◌, ap, sym}
use Rattle.hc_transcript.specs.declared.refusal.Refusal.{Refusal}
use Rattle.hc_transcript.specs.Table.{line_of}
use Rattle.hc_transcript.specs.Parts.{parts_of}
use Rattle.hc_transcript.proofs.Rows.{same_by_parts}
use Rattle.hc_transcript.proofs.refusal.Refusal.is_same.Goals as goal

pub returns : goal.returns
returns c =
    let one = c.parts_of.ensures ∙ ap parts_of c.told.ensures in
    let two = c.parts_of-2.ensures ∙ ap parts_of c.told-2.ensures in (
      λ same. same_by_parts c.args.self.now c.args.other.now (sym one ∙ c.are_same.ensures.0 same ∙ two),
      λ e. c.are_same.ensures.1 (one ∙ ap (λ (r : Refusal). parts_of (line_of r)) e ∙ sym two),
    )
