-- Net writes by what is kept, and by the stores that agree with what was read.
use Rattle.std.proofs.Common.{◌≡◌, ◌≢◌, ◌∙◌, refl, sym, ap, ℕ, Bool, true, false, cond, Option, Some, None, List, [], ◌∷◌, bytes_eq, inl, inr}
use Rattle.std.proofs.lemmas.Bool.{true≢false, cases_Bool}
use Rattle.std.proofs.lemmas.Slice.Eq.{bytes_eq-Decides}
use Rattle.std.specs.Option.{unwrap_or}
use Rattle.hc_range.specs.declared.range.Range.{Range}
use Rattle.hc_core.specs.Desk.{EachFits}
use Rattle.hc_base.specs.Lookup.{Among}
use Rattle.hc_core.specs.declared.account.Entry.{Entry}
use Rattle.hc_core.specs.declared.cells.Write.{Write}
use Rattle.hc_txn.specs.Kept.{Known, AreOrdered, find_known, own_of, now_at, records_before}
use Rattle.hc_txn.specs.Net.{AreNetWrites, IsNetOf, net, same_record}
use Rattle.hc_txn.specs.Stores.{Store, Agrees, latest, over}
use Rattle.hc_txn.specs.Transactions.{IsReadAs, reads_of}
use Rattle.hc_txn.proofs.KnownKeys.{found_record}
use Rattle.hc_txn.proofs.NetWrites.{is_same, net_ascends, net_has, same_is}

none_some : (r : Option (List ℕ)) → None ≡ Some r → ⊥
none_some r e = cc

some_is : (x y : Option (List ℕ)) → Some x ≡ Some y → x ≡ y
some_is x y e = cc

-- the newest write of a key is among the writes
latest_among : (own : List Write) (key : List ℕ) (rec : Option (List ℕ)) → latest own key ≡ Some rec → Among (record { key = key; rec = rec }) own
latest_among [] key rec e = absurd (none_some rec e)
latest_among (w ∷ own) key rec e = at (bytes_eq w.key key) refl e (λ f. latest_among own key rec f)
  where
    at : (b : Bool) → bytes_eq w.key key ≡ b → cond b (Some w.rec) (latest own key) ≡ Some rec → (latest own key ≡ Some rec → Among (record { key = key; rec = rec }) own)
        → Among (record { key = key; rec = rec }) (w ∷ own)
    at true same f more = inl (λ i. record { key = sym ((bytes_eq-Decides w.key key).0 same) i; rec = sym (some_is w.rec rec f) i })
    at false apart f more = inr (more f)

pub net_of : (ks : List Known) (own : List Write) → ((key : List ℕ) → latest own key ≡ now_at ks key) → AreOrdered ks → EachFits own → IsNetOf own (records_before ks) (net ks)
net_of ks own newest ordered fit = record {
  ascending = net_ascends ks ordered;
  fit = λ w a.
      let n = (net_has w.key w.rec ks ordered).0 a in
      fit w (latest_among own w.key w.rec (newest w.key ∙ ap own_of n.1 ∙ n.2));
  sound = λ key rec a.
      let n = (net_has key rec ks ordered).0 a in (
        n.0.before,
        found_record ks key n.0 n.1,
        newest key ∙ ap own_of n.1 ∙ n.2,
        λ e. true≢false (sym (is_same n.0.before rec e) ∙ n.3),
      );
  complete = λ key rec e differ. at key rec (find_known key ks) refl (sym (newest key) ∙ e) differ;
}
  where
    at : (key : List ℕ) (rec : Option (List ℕ)) (f : Option Known) → find_known key ks ≡ f → now_at ks key ≡ Some rec
        → ((before : Option (List ℕ)) → Among (record { key = key; rec = before }) (records_before ks) → before ≢ rec) → Among (record { key = key; rec = rec }) (net ks)
    at key rec None f e differ = absurd (none_some rec (sym (ap own_of f) ∙ e))
    at key rec (Some k) f e differ =
        (net_has key rec ks ordered).1 (
          k,
          f,
          sym (ap own_of f) ∙ e,
          elim (cases_Bool (same_record k.before rec)) [
            | inl same ↦ absurd (differ k.before (found_record ks key k f) (same_is k.before rec same))
            | inr other ↦ other
          ],
        )

-- and so they are the net writes over each store that agrees
pub net_over : (own kept writes : List Write) (account : List Entry) (snapshot : ℕ) (log : List Range) → IsNetOf own kept writes → IsReadAs account snapshot log kept → (store : Store) → Agrees (reads_of account) store
    → AreNetWrites own store writes
net_over own kept writes account snapshot log n h store agrees key rec = (
  λ a.
      let s = n.sound key rec a in (
        ap (λ (m : Option (Option (List ℕ))). unwrap_or m (store key)) s.2,
        λ e. s.3 (sym ((h.records (record { key = key; rec = s.0 }) s.1).1 store agrees) ∙ sym e),
      ),
  λ s. at (latest own key) refl s.0 s.1,
)
  where
    at : (m : Option (Option (List ℕ))) → latest own key ≡ m → over own store key ≡ rec → rec ≢ store key → Among (record { key = key; rec = rec }) writes
    at None e same differ = absurd (differ (sym same ∙ ap (λ (m : Option (Option (List ℕ))). unwrap_or m (store key)) e))
    at (Some r) e same differ =
        n.complete key rec (e ∙ ap (λ (x : Option (List ℕ)). Some x) (sym (ap (λ (m : Option (Option (List ℕ))). unwrap_or m (store key)) e) ∙ same))
        (λ before a f. differ (sym f ∙ sym ((h.records (record { key = key; rec = before }) a).1 store agrees)))
