use Rattle.std.proofs.Common.{subst, ℕ, List, inl, inr}
use Rattle.hc_range.specs.declared.range.Range.{Range}
use Rattle.hc_txn.specs.Reading.{only}
use Rattle.hc_txn.specs.Stores.{HasExactly}
use Rattle.hc_txn.specs.Transactions.{LogsRangeToo, LogsKeyToo}
use Rattle.hc_txn.proofs.OneKey.{one_key}
use Rattle.hc_txn.proofs.Logging.{exactly}
use Rattle.hc_txn.proofs.logged.read_key.Goals as goal

key_logged : (key : List ℕ) (log more : List Range) → LogsRangeToo (only key) log more → LogsKeyToo key log more
key_logged key log more h k = (
  λ a. elim ((h k).0 a) [ inl b ↦ inl b | inr b ↦ inr ((one_key key k).0 b) ],
  λ a. elim a [ inl b ↦ (h k).1 (inl b) | inr b ↦ (h k).1 (inr ((one_key key k).1 b)) ],
)

pub returns-clause-found : goal.returns-clause-found
returns-clause-found g c = λ store agrees.
    c.record_in.ensures store
    (subst (λ (range : Range). HasExactly store range c.read_logged.new.out.cells) c.in_ok-range.ensures
    (exactly (g.D.Desk.conn c.args.desk.now) c.in_ok-range.range _ _ _ _ c.new.ensures c.requires.reading c.in_ok-read_logged.ensures.read store agrees))

pub returns-clause-whole : goal.returns-clause-whole
returns-clause-whole g c = key_logged c.args.key.now _ _ (subst (λ (range : Range). LogsRangeToo range c.args.log.now c.read_logged.new.log) c.in_ok-range.ensures c.in_ok-read_logged.ensures.whole)
