use Rattle.std.proofs.Common.{◌≡◌, ◌∙◌, sym, ap, List, [], ◌∷◌, length, reverse, refl, suc}
use Rattle.std.proofs.lemmas.List.{length-reverse}
use Rattle.hc_txn.specs.Kept.{now_at}
use Rattle.hc_txn.specs.Own.{Standing, changed, Writes, writes_of}
use Rattle.hc_txn.specs.declared.own.Past.{Past}
use Rattle.hc_txn.proofs.own.OwnWrites.len.Goals as goal

as_many : (now : Standing) (ps : List Past) → length (writes_of now ps) ≡ length ps
as_many now [] = refl
as_many now (p ∷ ps) = ap suc (as_many (changed now p.key p.older) ps)

pub returns : goal.returns
returns c =
    c.len.ensures ∙ c.self.inside.history.ok.0
    ∙ sym (as_many (now_at c.self.inside.keys) (reverse c.self.inside.history.items) ∙ length-reverse c.self.inside.history.items)
    ∙ ap (λ (w : Writes). length w.own) c.self.view_is
