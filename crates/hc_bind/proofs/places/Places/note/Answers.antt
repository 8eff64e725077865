use Rattle.std.proofs.Common.{◌≡◌, ◌∙◌, ap, sym, false}
use Rattle.std.specs.Option.{is_some}
use Rattle.std.proofs.lemmas.Result.{on_ok_weaker}
use Rattle.hc_bind.specs.First.{place_at}
use Rattle.hc_bind.proofs.Keys.{noted}
use Rattle.hc_bind.proofs.places.Places.note.Goals as goal

pub returns : goal.returns
returns c =
    let new : is_some (place_at c.args.self.now c.args.key.items) ≡ false =
    ap (λ k. is_some (place_at c.args.self.now k)) (sym c.as_slice.ensures.value) ∙ ap is_some (sym c.get.ensures) ∙ sym c.is_some.ensures ∙ c.if-is_some.false in
    on_ok_weaker c.insert.result (noted (place_at c.args.self.now) (place_at c.insert.new.self) c.args.key.items c.args.place new) c.insert.ensures
