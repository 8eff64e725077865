use Rattle.hc_bind.proofs.Keys.{updated}
use Rattle.hc_bind.proofs.places.Places.insert.Goals as goal

pub returns : goal.returns
returns c = λ q. updated (λ k. k.items) c.args.key.items c.args.self.now.known c.insert.new.self _ c.in_ok-insert.ensures.updates q
