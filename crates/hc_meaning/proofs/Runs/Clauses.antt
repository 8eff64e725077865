-- The parts of a right run, of the history that a sound log shows.
use Rattle.std.proofs.Common.{◌≡◌, ◌≢◌, ◌∙◌, inl, ⊎_elim, refl, sym, ap, subst, ℕ, ◌+◌, ◌-◌, ◌<◌, ◌≤◌, true, Some, List, [], ◌∷◌, map, arith}
use Rattle.std.specs.Prelude.{slice_get}
use Rattle.std.specs.List.{AllByRecursion}
use Rattle.std.proofs.lemmas.Bool.{cases_eq}
use Rattle.std.proofs.lemmas.Option.{same_Some, slice_get_within}
use Rattle.hc_core.specs.Account.{Txn}
use Rattle.hc_base.specs.Lookup.{Among}
use Rattle.hc_core.specs.Sound.{AreInOrder, AreSound}
use Rattle.hc_core.specs.declared.cells.Write.{Write}
use Rattle.hc_core.proofs.Ordered.{one_place, placed_drew}
use Rattle.hc_transcript.specs.Text.{ending_number}
use Rattle.hc_transcript.specs.declared.reply.Ending.{Ending}
use Rattle.hc_transcript.specs.declared.reply.Ending.TheVariants.{Commit, Snapshot, RolledBack}
use Rattle.hc_meaning.specs.Runs.Commits.{IsHistory, IsLegal, IsLegalAt, state}
use Rattle.hc_meaning.specs.Runs.Cut.{Connection, Transaction}
use Rattle.hc_meaning.specs.Runs.Fitting.{AgreesWith, EndsAs, PutsFit}
use Rattle.hc_meaning.specs.Runs.Language.{Language, IsLanguage}
use Rattle.hc_meaning.specs.Runs.Met.{PrintsCommit}
use Rattle.hc_meaning.specs.Runs.Orders.{SetupIsFirst}
use Rattle.hc_meaning.specs.Runs.RightRun.{IsInOrder, IsReadAt, IsReadUnlessCommitted, transactions_of}
use Rattle.hc_meaning.specs.Runs.Walk.{Close, Finished}
use Rattle.hc_meaning.specs.Runs.Writes.{writes}
use Rattle.hc_meaning.proofs.Runs.Connections.{Fitted, Pair, to_connections, txn_of}
use Rattle.hc_meaning.proofs.Runs.Databases.{state_is}
use Rattle.hc_meaning.proofs.Runs.History.{Shown, Slot, committed_as, finished_if, puts_to}
use Rattle.hc_meaning.proofs.Runs.Paired.{in_turn, oldest_first, among_reversed, same_ordinal}
use Rattle.hc_meaning.proofs.Runs.Rising.{AreRising, same_connection}
use Rattle.hc_meaning.proofs.Runs.States.{agrees_at_snapshot, agrees_before}

-- a number that an ending prints, by the account
number_below : (ending : Ending) (x : Txn) (n : ℕ) → EndsAs ending x → x.place ≤ n → x.snapshot ≤ n → ending_number ending ≤ n
number_below (Commit k) x n ends place snapshot = omega (arith, ends.0, place)
number_below (Snapshot s) x n ends place snapshot = omega (arith, ends.1, snapshot)
number_below (RolledBack s) x n ends place snapshot = omega (arith, ends.1, snapshot)

number_above : (ending : Ending) (x : Txn) → EndsAs ending x → (x.place ≢ 0 → x.snapshot < x.place) → x.snapshot ≤ ending_number ending
number_above (Commit k) x ends above = let over = above (λ none. ends.1 (sym ends.0 ∙ none)) in omega (arith, ends.0, over)
number_above (Snapshot s) x ends above = omega (arith, ends.1)
number_above (RolledBack s) x ends above = omega (arith, ends.1)

number_over : (ending : Ending) (k : ℕ) (x : Txn) → ending ≡ Commit k → EndsAs ending x → (x.place ≢ 0 → x.snapshot < x.place) → x.snapshot < ending_number ending
number_over (Commit n) k x is ends above = let over = above (λ none. ends.1 (sym ends.0 ∙ none)) in omega (arith, ends.0, over)
number_over (Snapshot s) k x is ends above = absurd (let e : Snapshot s ≡ Commit k = is in cc)
number_over (RolledBack s) k x is ends above = absurd (let e : RolledBack s ≡ Commit k = is in cc)

commit_number : (ending : Ending) (k : ℕ) (x : Txn) → ending ≡ Commit k → EndsAs ending x → (x.place ≡ k) × (k ≢ 0)
commit_number ending k x is ends = subst (λ (e : Ending). EndsAs e x) is ends

-- no writes are none
none_there : (ws : List Write) → ((w : Write) → Among w ws → ⊥) → ws ≡ []
none_there [] never = refl
none_there (w ∷ ws) never = absurd (never w (inl refl))

module _ (L : Language) (laws : IsLanguage L) {size : ℕ} {log : ℕ → ℕ} {of : ℕ → List Txn} (sound : AreSound size log of)
    (cs : List Connection) (each : AllByRecursion (Fitted L of) cs) (rising : AreRising (map (λ (c : Connection). c.script) cs))
    (shown : Shown L laws sound cs size) where
  abbrev pub history : List Transaction
  history = shown.history

  abbrev SlotAt : ℕ → Type 0
  SlotAt k = Slot L laws sound cs history k

  slot_of : (k : ℕ) (t : Transaction) → slice_get history k ≡ Some t → (k < size) × ((slot : SlotAt k) × (slot.commit.t ≡ t))
  slot_of k t at =
      let inside = slice_get_within history k t at in
      let below : k < size = omega (arith, inside, shown.long) in
      let slot = shown.slots k below in
      (below, (slot, same_Some slot.commit.t t (sym slot.commit.is ∙ at)))

  -- one transaction of the account is that of one of a cut
  same_pair : (t u : Transaction) (i j : ℕ) (x y : Txn) → Pair L of cs t i x → Pair L of cs u j y → i ≡ j → x ≡ y → x.id ≢ 0 → t ≡ u
  same_pair t u i j x y one other same_conn same_txn drew =
      let c_is = same_connection cs rising one.c other.c one.c_there other.c_there (one.conn_is ∙ same_conn ∙ sym other.conn_is) in
      let there : Among u one.c.cut.closed = subst (λ (c : Connection). Among u c.cut.closed) (sym c_is) other.t_there in
      let y_drew : y.id ≢ 0 = subst (λ (z : Txn). z.id ≢ 0) same_txn drew in
      let ord : x.ord ≡ y.ord = ap (λ (z : Txn). z.ord) same_txn in
      same_ordinal one.c.script.conn 1 one.c.cut.closed one.fitted.numbered t u one.t_there there
      (sym (one.fits.ordinal drew) ∙ ord ∙ other.fits.ordinal y_drew)

  placed_of : (k : ℕ) (slot : SlotAt k) → slot.commit.x.place ≢ 0
  placed_of k slot none = omega (arith, none, slot.commit.place)

  pub is_history : IsHistory (transactions_of cs) history
  is_history = record {
    printed = λ k t at.
        let found = slot_of k t at in
        let slot : SlotAt k = found.1.0 in
        let ending = committed_as slot.commit.t.ending slot.commit.x slot.commit.fits.number (placed_of k slot) in
        let number : slot.commit.x.place ≡ k + 1 = omega (arith, slot.commit.place) in
        subst (λ (u : Transaction). (u.ending ≡ Commit (k + 1)) × Among u (transactions_of cs)) found.1.1
        (ending ∙ ap Commit number, to_connections cs slot.pair.c slot.commit.t slot.pair.c_there slot.pair.t_there);
    placed = λ k t among is.
        let found = txn_of L of cs each t among in
        let x : Txn = found.1 in
        let pair = found.2 in
        let at = commit_number t.ending k x is pair.fits.number in
        let placed : x.place ≢ 0 = λ none. at.1 (sym at.0 ∙ none) in
        let within = (sound.each found.0 x pair.there).numbers.place_within placed in
        let below : k - 1 < size = omega (arith, within.1, at.0, at.1) in
        let slot : SlotAt (k - 1) = shown.slots (k - 1) below in
        let place : x.place ≡ slot.commit.x.place = omega (arith, slot.commit.place, at.0, at.1) in
        let one = one_place sound found.0 slot.commit.i x slot.commit.x pair.there slot.commit.there placed place in
        let same = same_pair t slot.commit.t found.0 slot.commit.i x slot.commit.x pair slot.pair one.0 one.1 (placed_drew sound found.0 x pair.there placed) in
        (at.1, slot.commit.is ∙ ap Some (sym same));
  }

  pub agrees_at : (k : ℕ) (below : k < size) (slot : SlotAt k) → AgreesWith L (state L history k) slot.commit.x.reads
  agrees_at k below slot = agrees_before L laws sound history k slot.commit.i slot.commit.x
      (puts_to L laws sound cs size shown k (omega (arith, below))) slot.commit.there slot.commit.place

  slot_legal : (k : ℕ) → k < size → (slot : SlotAt k) → IsLegalAt L (state L history k) slot.commit.t
  slot_legal k below slot =
      let agree = agrees_at k below slot in
      let db = state_is L laws history k in
      record {
        replies = (slot.commit.fits.on (state L history k) db agree).replies;
        writes_some = (slot.commit.fits.puts_on (state L history k) db agree).drew (placed_drew sound slot.commit.i slot.commit.x slot.commit.there (placed_of k slot));
      }

  pub is_legal : IsLegal L history
  is_legal k t at =
      let found = slot_of k t at in
      subst (IsLegalAt L (state L history k)) found.1.1 (slot_legal k found.0 found.1.0)

  pub snapshot_within : (i : ℕ) (x : Txn) → Among x (of i) → x.snapshot ≤ size
  snapshot_within i x there = (sound.each i x there).numbers.snapshot_within

  pub agrees_there : (i : ℕ) (x : Txn) → Among x (of i) → AgreesWith L (state L history x.snapshot) x.reads
  agrees_there i x there = agrees_at_snapshot L laws sound history i x
      (puts_to L laws sound cs size shown x.snapshot (snapshot_within i x there)) there

  -- what ended undecided and was finished wrote nothing
  wrote_none : (i : ℕ) (x : Txn) (close : Close) (ws : List Write) → Among x (of i) → x.ended ≡ true → x.place ≡ 0 → close ≡ Finished → PutsFit close x ws → ws ≡ []
  wrote_none i x close ws there ended undecided finished puts =
      let fit : PutsFit Finished x ws = subst (λ (c : Close). PutsFit c x ws) finished puts in
      let none : x.write_set ≡ [] = (sound.each i x there).writes.rolled_back ended undecided in
      none_there ws (λ w in_ws. subst (λ (l : List Write). Among w l) (sym fit.0 ∙ none) ((fit.1 w).1 in_ws))

  read_at : (t : Transaction) (i : ℕ) (x : Txn) → Pair L of cs t i x → x.place ≡ 0 → IsReadAt L history x.snapshot t
  read_at t i x pair undecided =
      let agree = agrees_there i x pair.there in
      let db = state_is L laws history x.snapshot in
      let within = snapshot_within i x pair.there in
      record {
        within = omega (arith, within, shown.long);
        replies = (pair.fits.on (state L history x.snapshot) db agree).replies;
        snapshot = λ printed. wrote_none i x t.close (writes L (state L history x.snapshot) t.items) pair.there pair.fits.ended undecided
            (finished_if t.close t.ending pair.ends (λ s rolled. let e : Snapshot x.snapshot ≡ RolledBack s = sym printed ∙ rolled in cc))
            (pair.fits.puts_on (state L history x.snapshot) db agree).puts;
        refused = (pair.fits.puts_on (state L history x.snapshot) db agree).refused;
      }

  read_by : (t : Transaction) (i : ℕ) (x : Txn) → Pair L of cs t i x → (ending : Ending) → EndsAs ending x → IsReadUnlessCommitted L history t ending
  read_by t i x pair (Commit k) ends = tt
  read_by t i x pair (Snapshot s) ends = subst (λ (n : ℕ). IsReadAt L history n t) ends.1 (read_at t i x pair ends.0)
  read_by t i x pair (RolledBack s) ends = subst (λ (n : ℕ). IsReadAt L history n t) ends.1 (read_at t i x pair ends.0)

  pub others : (t : Transaction) → Among t (transactions_of cs) → IsReadUnlessCommitted L history t t.ending
  others t among = let found = txn_of L of cs each t among in read_by t found.0 found.1 found.2 t.ending found.2.fits.number

  rises : (t u : Transaction) → Among t (transactions_of cs) → Among u (transactions_of cs) → t.conn ≡ u.conn → t.ordinal < u.ordinal
      → (ending_number t.ending ≤ ending_number u.ending) × (PrintsCommit u → ending_number t.ending < ending_number u.ending)
  rises t u t_among u_among same below =
      let one = (txn_of L of cs each t t_among).2 in
      let other = (txn_of L of cs each u u_among).2 in
      let c_is = same_connection cs rising one.c other.c one.c_there other.c_there (one.conn_is ∙ sym one.t_conn ∙ same ∙ other.t_conn ∙ sym other.conn_is) in
      let u_there : Among u one.c.cut.closed = subst (λ (c : Connection). Among u c.cut.closed) (sym c_is) other.t_there in
      let i : ℕ = one.c.script.conn in
      let ordered = sound.in_order i in
      let turn = in_turn L i 1 one.c.cut.closed one.fitted.closed one.fitted.numbered one.fitted.each
      (oldest_first one.fitted.closed (subst AreInOrder one.fitted.account ordered)) t u one.t_there u_there below in
      let y_there : Among turn.y (of i) = subst (λ (l : List Txn). Among turn.y l) (sym one.fitted.account) (among_reversed turn.y one.fitted.closed turn.y_there) in
      let above : turn.y.place ≢ 0 → turn.y.snapshot < turn.y.place = λ placed. ((sound.each i turn.y y_there).numbers.place_within placed).0 in
      let low = number_below t.ending turn.x turn.y.snapshot turn.x_fits.number turn.after.place turn.after.snapshot in
      let high = number_above u.ending turn.y turn.y_fits.number above in (
        omega (arith, low, high),
        λ commit.
            let over = number_over u.ending commit.number turn.y commit.printed turn.y_fits.number above in
            omega (arith, low, over),
      )

  pub in_order : SetupIsFirst size of → IsInOrder (transactions_of cs) history
  in_order first = record {
    rising = rises;
    setup = first.setup;
    setup_within = omega (arith, first.within, shown.long);
    setup_first = λ k t at.
        let found = slot_of k t at in
        let slot : SlotAt k = found.1.0 in
        let conn : t.conn ≡ slot.commit.i = ap (λ (u : Transaction). u.conn) (sym found.1.1) ∙ slot.pair.t_conn in (
          λ is.
              let there : Among slot.commit.x (of 0) = subst (λ (n : ℕ). Among slot.commit.x (of n)) (sym conn ∙ is) slot.commit.there in
              let below = first.first slot.commit.x there in
              omega (arith, below, slot.commit.place),
          λ below. ⊎_elim
              (λ is. conn ∙ is)
              (λ other.
              let counted = first.counted slot.commit.i slot.commit.x other slot.commit.there in
              let over = (sound.each slot.commit.i slot.commit.x slot.commit.there).numbers.place_within (placed_of k slot) in
              absurd (omega (arith, counted, over.0, slot.commit.place, below)))
              (cases_eq slot.commit.i 0),
        );
    after_setup = λ t among other.
        let found = txn_of L of cs each t among in
        let pair = found.2 in
        let counted = first.counted found.0 found.1 (λ is. other (pair.t_conn ∙ is)) pair.there in
        let high = number_above t.ending found.1 pair.fits.number (λ placed. ((sound.each found.0 found.1 pair.there).numbers.place_within placed).0) in
        omega (arith, counted, high);
  }
