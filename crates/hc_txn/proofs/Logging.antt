-- What was read is what is logged.
use Rattle.std.proofs.Common.{◌≡◌, ◌∙◌, refl, sym, ap, subst, ℕ, Some, None, List, [], ◌∷◌, ◌++◌, append_assoc, inl, inr, ◌⊎◌, ◌↔◌}
use Rattle.std.proofs.lemmas.List.{append-nil}
use Rattle.hc_range.specs.declared.range.Range.{Range}
use Rattle.hc_range.specs.Ranges.{InAny, InRange}
use Rattle.hc_range.proofs.ByteOrder.{below_irrefl, below_flip}
use Rattle.hc_range.proofs.Ends.{under_down}
use Rattle.hc_reads.specs.Gathered.{HaveSameKeys}
use Rattle.hc_core.specs.Account.{PartRead, Txn, WhenOpen, after_read, newest_changed, part_of, txns, LiesInRead}
use Rattle.hc_core.specs.Desk.{IsReading}
use Rattle.hc_core.specs.declared.account.Entry.{Entry}
use Rattle.hc_core.specs.declared.cells.Cell.{Cell}
use Rattle.hc_core.specs.declared.cells.Write.{Write}
use Rattle.hc_core.specs.declared.outcome.Outcome.TheVariants.{Cells}
use Rattle.hc_txn.specs.Reading.{HasLogged, HasReadAll, HasReadAsFar, IsReadSoFar}
use Rattle.hc_txn.specs.Stores.{Store, Agrees, HasExactly}
use Rattle.hc_txn.specs.Transactions.{IsReadAs, LogsRangeToo, entries_of, having_read, reads_in, reads_of}
use Rattle.hc_txn.specs.declared.reading.HowFar.{HowFar}
use Rattle.hc_txn.specs.declared.reading.HowFar.TheVariants.{Whole, Upto, Nothing}
use Rattle.hc_txn.proofs.Parts.{among_append}

-- nothing was read, and nothing is logged
pub nothing_logged : (conn : ℕ) (range : Range) (before after : List Entry) (log more : List Range) → after ≡ before → more ≡ log → HasLogged conn range before after log more
nothing_logged conn range before after log more e f = record {
  reads = [];
  grown = e;
  logged = λ key. (λ h. inl (subst (λ (l : List Range). InAny l key) f h), λ h. elim h [ inl a ↦ subst (λ (l : List Range). InAny l key) (sym f) a | inr b ↦ absurd (b.1) ]);
  within = λ key h. absurd (h.1);
}

-- nothing was read, and the same keys are logged
pub kept_logged : (conn : ℕ) (range : Range) (before after : List Entry) (log more : List Range) → after ≡ before → HaveSameKeys log more → HasLogged conn range before after log more
kept_logged conn range before after log more e same = record {
  reads = [];
  grown = e;
  logged = λ key. (λ h. inl ((same key).1 h), λ h. elim h [ inl a ↦ (same key).0 a | inr b ↦ absurd (b.1) ]);
  within = λ key h. absurd (h.1);
}

module _ (conn : ℕ) (range : Range) (before after : List Entry) (log more : List Range) (cells_before cells_after : List Cell) where
  -- what was read as far as is told is logged
  pub logged_so_far : (how_far : HowFar) → HasReadAsFar conn range how_far before after cells_before cells_after
      → ((key : List ℕ) → InAny more key ↔ (InAny log key ⊎ IsReadSoFar range how_far key)) → HasLogged conn range before after log more
  logged_so_far Whole h covers = record {
    reads = h.reads;
    grown = h.grown;
    logged = λ key. (
      λ a. elim ((covers key).0 a) [ inl b ↦ inl b | inr b ↦ inr ((h.parts key).1 b) ],
      λ a. elim a [ inl b ↦ (covers key).1 (inl b) | inr b ↦ (covers key).1 (inr ((h.parts key).0 b)) ],
    );
    within = λ key lies. (h.parts key).0 lies;
  }
  logged_so_far (Upto stop) h covers =
      let read : HasReadAll conn (part_of range.lo (Some stop)) before after cells_before (h.2.0) = h.2.1 in record {
        reads = read.reads;
        grown = read.grown;
        logged = λ key. (
          λ a. elim ((covers key).0 a) [ inl b ↦ inl b | inr b ↦ inr ((read.parts key).1 b) ],
          λ a. elim a [ inl b ↦ (covers key).1 (inl b) | inr b ↦ (covers key).1 (inr ((read.parts key).0 b)) ],
        );
        within = λ key lies.
            let low = (read.parts key).0 lies in
            (low.0, under_down key stop range.hi (below_flip key stop low.1) h.0.1);
      }
  logged_so_far Nothing h covers = record {
    reads = [];
    grown = h.0;
    logged = λ key. (
      λ a. elim ((covers key).0 a) [ inl b ↦ inl b | inr b ↦ absurd b ],
      λ a. elim a [ inl b ↦ (covers key).1 (inl b) | inr b ↦ absurd (b.1) ],
    );
    within = λ key lies. absurd (lies.1);
  }

  -- cells are added alone
  pub added_so_far : (how_far : HowFar) → HasReadAsFar conn range how_far before after cells_before cells_after → (some : List Cell) × (cells_after ≡ cells_before ++ some)
  added_so_far Whole h = (h.cells, h.added)
  added_so_far (Upto stop) h =
      let read : HasReadAll conn (part_of range.lo (Some stop)) before after cells_before (h.2.0) = h.2.1 in
      (read.cells ++ h.2.2.0, h.2.2.1 ∙ ap (λ (cells : List Cell). cells ++ h.2.2.0) read.added ∙ append_assoc cells_before read.cells h.2.2.0)
  added_so_far Nothing h = h.1

-- a range that its lower end is not in is empty
pub empty_range : (range : Range) → (InRange range range.lo → ⊥) → (key : List ℕ) → InRange range key → ⊥
empty_range range none key inside = none (below_irrefl range.lo, under_down range.lo key range.hi inside.0 inside.1)

-- an empty range is read by no call
pub empty_read : (conn : ℕ) (range : Range) (account : List Entry) (cells : List Cell) → ((key : List ℕ) → InRange range key → ⊥) → HasReadAll conn range account account cells cells
empty_read conn range account cells empty = record {
  reads = [];
  cells = [];
  grown = refl;
  added = sym (append-nil cells);
  parts = λ key. (λ lies. absurd (lies.1), λ inside. absurd (empty key inside));
  in_order = (tt, λ cell a. absurd a);
  exact = λ store agrees key rec. (λ a. absurd a, λ h. absurd (empty key h.0));
}

pub empty_logged : (range : Range) (log : List Range) → ((key : List ℕ) → InRange range key → ⊥) → LogsRangeToo range log log
empty_logged range log empty = λ key. (λ a. inl a, λ h. elim h [ inl a ↦ a | inr b ↦ absurd (empty key b) ])

-- stores that agree with more reads agree with those of them that came last, and with those before
pub agrees_newer : (reads older : List PartRead) (store : Store) → Agrees (reads ++ older) store → Agrees reads store
agrees_newer [] older store h = tt
agrees_newer (read ∷ reads) older store h = (h.0, agrees_newer reads older store h.1)

pub agrees_older : (reads older : List PartRead) (store : Store) → Agrees (reads ++ older) store → Agrees older store
agrees_older [] older store h = h
agrees_older (read ∷ reads) older store h = agrees_older reads older store h.1

-- the transactions of an account after reads
pub txns_grown : (conn : ℕ) (reads : List PartRead) (account : List Entry) (t : Txn) (older : List Txn) → txns account ≡ t ∷ older
    → txns (entries_of conn reads ++ account) ≡ record t { reads = reads ++ t.reads } ∷ older
txns_grown conn [] account t older e = e
txns_grown conn (read ∷ reads) account t older e = ap (newest_changed (after_read read.part (Cells (record { cells = read.cells })))) (txns_grown conn reads account t older e)

reads_after : (conn : ℕ) (reads : List PartRead) (account : List Entry) (ts : List Txn) → txns account ≡ ts → WhenOpen ts (λ t. (t.id ≡ 0) × (t.full ≡ None))
    → reads_of (entries_of conn reads ++ account) ≡ reads ++ reads_of account
reads_after conn reads account [] e h = absurd h
reads_after conn reads account (t ∷ older) e h = ap reads_in (txns_grown conn reads account t older e) ∙ ap (λ (ts : List Txn). reads ++ reads_in ts) (sym e)

pub reads_grown : (conn : ℕ) (reads : List PartRead) (account : List Entry) → IsReading account → reads_of (entries_of conn reads ++ account) ≡ reads ++ reads_of account
reads_grown conn reads account h = reads_after conn reads account (txns account) refl h

-- a key lies in the reads that came last or in those before
pub lies_in_both : (reads older : List PartRead) (key : List ℕ) → LiesInRead (reads ++ older) key ↔ (LiesInRead reads key ⊎ LiesInRead older key)
lies_in_both reads older key = (
  λ h. elim ((among_append h.0 reads older).0 h.1) [ inl a ↦ inl (h.0, a, h.2) | inr a ↦ inr (h.0, a, h.2) ],
  λ h. elim h [ inl a ↦ (a.0, (among_append a.0 reads older).1 (inl a.1), a.2) | inr a ↦ (a.0, (among_append a.0 reads older).1 (inr a.1), a.2) ],
)

-- a transaction of a desk reads
pub of_reads : (account : List Entry) (snapshot : ℕ) (log : List Range) (kept : List Write) → IsReadAs account snapshot log kept → IsReading account
of_reads account snapshot log kept h = subst (λ (ts : List Txn). WhenOpen ts (λ t. (t.id ≡ 0) × (t.full ≡ None))) (sym h.newest) (refl, (refl, refl))

module _ (conn : ℕ) (range : Range) (before after : List Entry) (snapshot : ℕ) (log more : List Range) (kept : List Write) (h : IsReadAs before snapshot log kept) (l : HasLogged conn range before after log more) where
  all_reads : reads_of (entries_of conn l.reads ++ before) ≡ l.reads ++ reads_of before
  all_reads = reads_grown conn l.reads before (of_reads before snapshot log kept h)

  lies : (key : List ℕ) → LiesInRead (l.reads ++ reads_of before) key → LiesInRead (reads_of (entries_of conn l.reads ++ before)) key
  lies key a = subst (λ (reads : List PartRead). LiesInRead reads key) (sym all_reads) a

  -- a transaction of a desk is so after more was read and logged
  of_entries : IsReadAs (entries_of conn l.reads ++ before) snapshot more kept
  of_entries = record {
    older = h.older;
    newest = txns_grown conn l.reads before (having_read snapshot (reads_of before)) h.older h.newest ∙ ap (λ (reads : List PartRead). having_read snapshot reads ∷ h.older) (sym all_reads);
    log = λ key. (
      λ a. elim ((l.logged key).0 a) [
        | inl old ↦ lies key ((lies_in_both l.reads (reads_of before) key).1 (inr ((h.log key).0 old)))
        | inr new ↦ lies key ((lies_in_both l.reads (reads_of before) key).1 (inl new))
      ],
      λ a. elim ((lies_in_both l.reads (reads_of before) key).0 (subst (λ (reads : List PartRead). LiesInRead reads key) all_reads a)) [
        | inl new ↦ (l.logged key).1 (inr new)
        | inr old ↦ (l.logged key).1 (inl ((h.log key).1 old))
      ],
    );
    records = λ write a. (
      lies write.key ((lies_in_both l.reads (reads_of before) write.key).1 (inr (h.records write a).0)),
      λ store agrees. (h.records write a).1 store (agrees_older l.reads (reads_of before) store (subst (λ (reads : List PartRead). Agrees reads store) all_reads agrees)),
    );
  }

  pub of_logged : IsReadAs after snapshot more kept
  of_logged = subst (λ (account : List Entry). IsReadAs account snapshot more kept) (sym l.grown) of_entries

-- each store that agrees with all that was read has exactly the cells of the part that was read last
pub exactly : (conn : ℕ) (range : Range) (before after : List Entry) (start cells : List Cell) → start ≡ [] → IsReading before → HasReadAll conn range before after start cells → (store : Store)
    → Agrees (reads_of after) store → HasExactly store range cells
exactly conn range before after start cells none reading h store agrees =
    subst (λ (all : List Cell). HasExactly store range all) (sym (h.added ∙ ap (λ (xs : List Cell). xs ++ h.cells) none))
    (h.exact store (agrees_newer h.reads (reads_of before) store
    (subst (λ (reads : List PartRead). Agrees reads store) (reads_grown conn h.reads before reading)
    (subst (λ (account : List Entry). Agrees (reads_of account) store) h.grown agrees))))
