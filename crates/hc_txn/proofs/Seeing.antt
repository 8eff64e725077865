-- What a transaction sees at keys that it has written, and when it is still one of its desk.
use Rattle.std.proofs.Common.{◌≡◌, ◌∙◌, sym, ap, subst, ℕ, Option, Result, Ok, Err, List, inl, inr, ◌⊎◌, OnOk, IfOk}
use Rattle.std.specs.Option.{unwrap_or}
use Rattle.hc_range.specs.declared.range.Range.{Range}
use Rattle.hc_range.specs.Ranges.{InAny}
use Rattle.hc_core.specs.Account.{LiesInRead}
use Rattle.hc_base.specs.Lookup.{Among}
use Rattle.hc_core.specs.declared.account.Entry.{Entry}
use Rattle.hc_core.specs.declared.cells.Write.{Write}
use Rattle.hc_txn.specs.Reading.{IsFoundAt}
use Rattle.hc_txn.specs.Stores.{Store, Agrees, latest, over}
use Rattle.hc_txn.specs.Transactions.{IsReadAs, LogsKeyToo, reads_of}

module _ (account : List Entry) (snapshot : ℕ) (log : List Range) (kept : List Write) (h : IsReadAs account snapshot log kept) where
  -- a copy of what is kept of a key is what the transaction sees there
  pub seen_there : {E : Type 0} (r : Result (Option (List ℕ)) E) (own : List Write) (key : List ℕ) (now : Option (Option (List ℕ))) (before : Option (List ℕ))
      → Among (record { key = key; rec = before }) kept → latest own key ≡ now → IfOk r (λ copy. copy ≡ unwrap_or now before)
      → IfOk r (λ found. (store : Store) → Agrees (reads_of account) store → found ≡ over own store key)
  seen_there (Ok copy) own key now before a l e = λ store agrees.
      e ∙ ap (unwrap_or now) (sym ((h.records (record { key = key; rec = before }) a).1 store agrees)) ∙ ap (λ (n : Option (Option (List ℕ))). unwrap_or n (store key)) (sym l)
  seen_there (Err f) own key now before a l e = e

  -- a key that was written is logged already
  pub logged_there : (key : List ℕ) (before : Option (List ℕ)) → Among (record { key = key; rec = before }) kept → LogsKeyToo key log log
  logged_there key before a = λ k. (
    λ c. inl c,
    λ c. elim c [
      | inl d ↦ d
      | inr e ↦ subst (λ (q : List ℕ). InAny log q) (sym e) ((h.log key).1 (h.records (record { key = key; rec = before }) a).0)
    ],
  )

  -- a record that was found is kept too
  pub of_kept : (key : List ℕ) (before : Option (List ℕ)) (more : List Write) → IsFoundAt account key before → LiesInRead (reads_of account) key
      → ((write : Write) → Among write more → (write ≡ record { key = key; rec = before }) ⊎ Among write kept) → IsReadAs account snapshot log more
  of_kept key before more found lies among = record {
    older = h.older;
    newest = h.newest;
    log = h.log;
    records = λ write a. elim (among write a) [
      | inl e ↦ (
        subst (λ (w : Write). LiesInRead (reads_of account) w.key) (sym e) lies,
        λ store agrees. subst (λ (w : Write). store w.key ≡ w.rec) (sym e) (sym (found store agrees)),
      )
      | inr b ↦ h.records write b
    ];
  }

pub on_ok : {T E P : Type 0} (r : Result T E) → P → OnOk r P
on_ok (Ok t) p = p
on_ok (Err f) p = tt
