use Rattle.std.proofs.Common.{◌≡◌, ◌∙◌, sym, ap, subst, ℕ, List, Result, Ok, Err, OnOk, false, inl, inr, is_err, length}
use Rattle.hc_base.specs.Entries.{entry_fits}
use Rattle.std.proofs.lemmas.Bool.{true≢false}
use Rattle.hc_range.specs.declared.range.Range.{Range}
use Rattle.hc_txn.specs.Reading.{only}
use Rattle.hc_txn.specs.Transactions.{LogsKeyToo, LogsWithin, Transaction}
use Rattle.hc_txn.proofs.OneKey.{one_key}
use Rattle.hc_txn.proofs.txn.Txn.write.Goals as goal

-- a key more is within its range
key_within : (key : List ℕ) (log more : List Range) → LogsKeyToo key log more → LogsWithin (only key) log more
key_within key log more h = (
  λ k a. (h k).1 (inl a),
  λ k a. elim ((h k).0 a) [ inl b ↦ inl b | inr b ↦ inr ((one_key key k).1 b) ],
)

when_ok : {T E P : Type 0} (r : Result T E) → false ≡ is_err r → OnOk r P → P
when_ok (Ok t) e p = p
when_ok (Err f) e p = absurd (true≢false (sym e))

pub returns-in-Err-clause-written : goal.returns-in-Err-clause-written
returns-in-Err-clause-written g c = (
  ap (entry_fits (length c.args.key.now)) (sym c.length_of-rec_len.ensures) ∙ sym c.entry_fits.ensures ∙ c.if-not-entry_fits.false,
  ap (λ (t : Transaction). t.own) c.in-Err.ensures.no_memory ∙ ap (λ (t : Transaction). t.own) c.know.ensures.same,
  subst (λ (t : Transaction). LogsWithin (only c.args.key.now) c.args.self.now.log t.log) (sym c.in-Err.ensures.no_memory)
      (key_within c.args.key.now c.args.self.now.log c.know.new.self.log (when_ok c.know.result c.if-is_err.ensures.value c.know.ensures.log)),
)
