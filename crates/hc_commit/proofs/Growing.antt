-- Accounts that grow by the steps of a commit, and facts of the newest transaction that stay.
use Rattle.std.proofs.Common.{◌≡◌, refl, ℕ, false, List, [], ◌∷◌, ◌++◌}
use Rattle.hc_range.specs.declared.range.Range.{Range}
use Rattle.hc_core.specs.Account.{Txn, WhenOpen, after_check, after_decide, after_propose, newest_changed, txns}
use Rattle.hc_core.specs.Diary.{entry_of}
use Rattle.hc_core.specs.declared.account.Entry.{Entry}
use Rattle.hc_core.specs.declared.cells.Write.{Write}
use Rattle.hc_core.specs.declared.event.Event.TheVariants.{Put, Unput, Propose, Check, Decide}
use Rattle.hc_core.specs.declared.outcome.Outcome.TheVariants.{Done, Proposed, Lost}
use Rattle.hc_commit.specs.Entries.{LostProposal, with_checks, with_lost, with_proposal, with_puts, with_unputs}

-- a fact of the open transaction, as another fact follows from it
pub when_open : (P Q : Txn → Type 0) (ts : List Txn) → ((t : Txn) → P t → Q t) → WhenOpen ts P → WhenOpen ts Q
when_open P Q [] step h = h
when_open P Q (t ∷ ts) step h = (h.0, step t h.1)

-- and after the newest transaction was changed
pub when_changed : (f : Txn → Txn) (P Q : Txn → Type 0) (ts : List Txn) → ((t : Txn) → t.ended ≡ false → P t → ((f t).ended ≡ false) × Q (f t))
    → WhenOpen ts P → WhenOpen (newest_changed f ts) Q
when_changed f P Q [] step h = h
when_changed f P Q (t ∷ ts) step h = step t h.0 h.1

module _ (conn : ℕ) where
  -- one more, at the end
  pub puts_more : (ws : List Write) (w : Write) (account : List Entry) → with_puts conn (ws ++ w ∷ []) account ≡ entry_of (Put conn w.key w.rec) Done ∷ with_puts conn ws account
  puts_more [] w account = refl
  puts_more (x ∷ ws) w account = puts_more ws w (entry_of (Put conn x.key x.rec) Done ∷ account)

  pub unputs_more : (ws : List Write) (w : Write) (account : List Entry) → with_unputs conn (ws ++ w ∷ []) account ≡ entry_of (Unput conn w.key) Done ∷ with_unputs conn ws account
  unputs_more [] w account = refl
  unputs_more (x ∷ ws) w account = unputs_more ws w (entry_of (Unput conn x.key) Done ∷ account)

  pub lost_more : (ps : List LostProposal) (p : LostProposal) (account : List Entry)
      → with_lost conn (ps ++ p ∷ []) account ≡ entry_of (Decide conn) (Lost p.lost) ∷ with_proposal conn p.lost.cid.0 p.parts (with_lost conn ps account)
  lost_more [] p account = refl
  lost_more (x ∷ ps) p account = lost_more ps p (entry_of (Decide conn) (Lost x.lost) ∷ with_proposal conn x.lost.cid.0 x.parts account)

  -- parts after parts
  pub checks_append : (xs ys : List Range) (account : List Entry) → with_checks conn (xs ++ ys) account ≡ with_checks conn ys (with_checks conn xs account)
  checks_append [] ys account = refl
  checks_append (x ∷ xs) ys account = checks_append xs ys (entry_of (Check conn x.lo x.hi) Done ∷ account)

  -- a fact that a check leaves stays while parts are checked
  pub checks_keep : (P : Txn → Type 0) (parts : List Range) (account : List Entry) → ((part : Range) (t : Txn) → P t → P (after_check part Done t))
      → WhenOpen (txns account) P → WhenOpen (txns (with_checks conn parts account)) P
  checks_keep P [] account keeps h = h
  checks_keep P (part ∷ parts) account keeps h =
      checks_keep P parts (entry_of (Check conn part.lo part.hi) Done ∷ account) keeps (when_changed (after_check part Done) P P (txns account) (λ t live p. (live, keeps part t p)) h)

  -- and one that proposals, checks and lost decisions leave stays while proposals are lost
  pub lost_keep : (P : Txn → Type 0) (ps : List LostProposal) (account : List Entry) → ((part : Range) (t : Txn) → P t → P (after_check part Done t))
      → ((n : ℕ) (t : Txn) → P t → P (after_propose (Proposed (record { 0 = n })) t)) → ((p : LostProposal) (t : Txn) → P t → P (after_decide (Lost p.lost) t))
      → WhenOpen (txns account) P → WhenOpen (txns (with_lost conn ps account)) P
  lost_keep P [] account checks proposes loses h = h
  lost_keep P (p ∷ ps) account checks proposes loses h =
      let proposed : WhenOpen (txns (entry_of (Propose conn) (Proposed (record { 0 = p.lost.cid.0 })) ∷ account)) P =
      when_changed (after_propose (Proposed (record { 0 = p.lost.cid.0 }))) P P (txns account) (λ t live h2. (live, proposes p.lost.cid.0 t h2)) h in
      let checked = checks_keep P p.parts (entry_of (Propose conn) (Proposed (record { 0 = p.lost.cid.0 })) ∷ account) checks proposed in
      lost_keep P ps (entry_of (Decide conn) (Lost p.lost) ∷ with_proposal conn p.lost.cid.0 p.parts account) checks proposes loses
      (when_changed (after_decide (Lost p.lost)) P P (txns (with_proposal conn p.lost.cid.0 p.parts account)) (λ t live h2. (live, loses p t h2)) checked)
