-- Four words are written, one after the other.
use Rattle.std.proofs.Common.{ap, sym, subst, ◌∙◌, set}
use Rattle.hc_rows.specs.Places.{page_at, map_at}
use Rattle.hc_rule.specs.Start.{IsNamed, mapped, names}
use Rattle.hc_rule.proofs.Laying.{all_named}
use Rattle.hc_steps.proofs.first.name_pages.Goals as goal

pub returns : goal.returns
returns c =
    let y = c.args.layout.now in
    let words = c.args.words.now in
    subst (λ ws. IsNamed y words ws)
    (sym (c.name_number-2.ensures
    ∙ ap (λ ws. set ws (map_at y 2) (names 2)) (c.name_number.ensures
    ∙ ap (λ ws. set ws (map_at y 1) (names 1)) (c.name_page-2.ensures ∙ ap (λ ws. set ws (page_at y 2) (mapped 2)) c.name_page.ensures))))
    (all_named y words c.requires.layout c.requires.sized)
