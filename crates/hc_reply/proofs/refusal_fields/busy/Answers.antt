use Rattle.std.proofs.Common.{◌∙◌, ap, List, ℕ, codes}
use Rattle.std.proofs.lemmas.Result.{err_from_is_err_and}
use Rattle.hc_transcript.specs.declared.refusal.Refusal.TheVariants as refusal
use Rattle.hc_transcript.specs.Fields.{Number32, Key, Last, Next}
use Rattle.hc_reply.proofs.FieldByField.{first_fails, later_fails, next_found}
use Rattle.hc_reply.proofs.refusal_fields.busy.Goals as goal

pub returns-in_err-conn-clause-stop : goal.returns-in_err-conn-clause-stop
returns-in_err-conn-clause-stop c =
    let p = err_from_is_err_and c.from_residual.result c.from_residual.ensures.1 in
    rw (p.1, p.2)
    (first_fails Number32 (codes "txn ") (Next Number32 (codes "key ") (Last Key)) c.args.bytes.now c.in_err-conn.field-0.0 c.in_err-conn.ensures.stop)

pub returns-in_err-ord-clause-stop : goal.returns-in_err-ord-clause-stop
returns-in_err-ord-clause-stop c =
    let p = err_from_is_err_and c.from_residual-in_err-ord.result c.from_residual-in_err-ord.ensures.1 in
    rw (p.1, p.2)
    (later_fails Number32 (codes "txn ") (Next Number32 (codes "key ") (Last Key)) c.args.bytes.now c.in_ok-conn.after.now c.in_ok-conn.conn c.in_ok-conn.ensures.found.0 c.in_ok-conn.ensures.found.1 c.in_err-ord.field-0.0
    (first_fails Number32 (codes "key ") (Last Key) c.in_ok-conn.after.now c.in_err-ord.field-0.0 c.in_err-ord.ensures.stop))

pub returns-in_err-key-clause-stop : goal.returns-in_err-key-clause-stop
returns-in_err-key-clause-stop c =
    let p = err_from_is_err_and c.from_residual-in_err-key.result c.from_residual-in_err-key.ensures.1 in
    rw (p.1, p.2)
    (later_fails Number32 (codes "txn ") (Next Number32 (codes "key ") (Last Key)) c.args.bytes.now c.in_ok-conn.after.now c.in_ok-conn.conn c.in_ok-conn.ensures.found.0 c.in_ok-conn.ensures.found.1 c.in_err-key.field-0.0
    (later_fails Number32 (codes "key ") (Last Key) c.in_ok-conn.after.now c.in_ok-ord.other.now c.in_ok-ord.ord c.in_ok-ord.ensures.found.0 c.in_ok-ord.ensures.found.1 c.in_err-key.field-0.0 c.in_err-key.ensures.stop))

pub returns-clause-found : goal.returns-clause-found
returns-clause-found c =
    let key = c.in_ok-key.key.items in (
      (c.in_ok-conn.conn, (c.in_ok-ord.ord, key)),
      (c.in_ok-conn.ensures.found.0, (c.in_ok-ord.ensures.found.0, c.in_ok-key.ensures.found.0)),
      c.busy.ensures ∙ ap (λ (k : List ℕ). refusal.Busy c.in_ok-conn.conn c.in_ok-ord.ord k) c.as_slice.ensures.value,
      next_found Number32 (codes "txn ") (Next Number32 (codes "key ") (Last Key)) c.args.bytes.now c.in_ok-conn.after.now c.in_ok-key.rest.now c.in_ok-conn.conn (c.in_ok-ord.ord, key) c.in_ok-conn.ensures.found.1
          (next_found Number32 (codes "key ") (Last Key) c.in_ok-conn.after.now c.in_ok-ord.other.now c.in_ok-key.rest.now c.in_ok-ord.ord key c.in_ok-ord.ensures.found.1 c.in_ok-key.ensures.found.1),
    )
