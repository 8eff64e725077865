use Rattle.std.proofs.Common.{◌∙◌, ap, ℕ, ◌∷◌}
use Rattle.hc_core.specs.Diary.{entry_of}
use Rattle.hc_core.specs.declared.event.Event.TheVariants.{End}
use Rattle.hc_core.specs.declared.outcome.Outcome.TheVariants.{Done}
use Rattle.hc_commit.proofs.Ordinals.{ord_failed, ord_succeeded}
use Rattle.hc_commit.proofs.committing.commit.Goals as goal

pub returns-in-Ok-clause-ords : goal.returns-in-Ok-clause-ords
returns-in-Ok-clause-ords g c =
    ord_succeeded (g.D.Desk.conn c.args.desk.now) c.args.ord (g.D.Desk.most c.args.desk.now) c.args.txn c.in-Ok.ending (g.D.Desk.account c.args.desk.now) (g.D.Desk.account c.attempt-tried.new.desk)
    (g.D.Desk.account c.end.new.self) c.requires.ord.0
    (c.end.ensures.entry ∙ ap (λ (n : ℕ). entry_of (End n) Done ∷ g.D.Desk.account c.attempt-tried.new.desk) c.in-Ok.ensures.on.0) c.in-Ok.ensures.succeeded

pub returns-in-Err-clause-ords : goal.returns-in-Err-clause-ords
returns-in-Err-clause-ords g c =
    ord_failed (g.D.Desk.conn c.args.desk.now) c.args.ord (g.D.Desk.most c.args.desk.now) c.args.txn c.in-Err.fault (g.D.Desk.account c.args.desk.now) (g.D.Desk.account c.attempt-tried.new.desk)
    (g.D.Desk.account c.end.new.self) c.requires.ord.0
    (c.end.ensures.entry ∙ ap (λ (n : ℕ). entry_of (End n) Done ∷ g.D.Desk.account c.attempt-tried.new.desk) c.in-Err.ensures.on.0) c.in-Err.ensures.failed
