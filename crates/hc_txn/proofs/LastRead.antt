-- The last cell of a range, as it was read and logged.
use Rattle.std.proofs.Common.{◌≡◌, ◌∙◌, refl, sym, ap, subst, ℕ, ◌<◌, ◌≤◌, true, false, Option, Some, None, List, [], ◌∷◌, ◌++◌, append_assoc, length, get_or, inl, inr, ◌⊎◌, ◌↔◌}
use Rattle.hc_range.specs.declared.range.Range.{Range}
use Rattle.hc_range.specs.Ranges.{InAny, InRange}
use Rattle.hc_range.proofs.ByteOrder.{at_most_trans, below_irrefl, below_flip}
use Rattle.hc_range.proofs.Ends.{under_down}
use Rattle.hc_reads.specs.Gathered.{HaveSameKeys}
use Rattle.hc_core.specs.Account.{LiesInRead, PartRead, part_of}
use Rattle.hc_core.specs.Desk.{HasReadLast, HasReadNone}
use Rattle.hc_core.specs.Diary.{entry_of}
use Rattle.hc_core.specs.declared.account.Entry.{Entry}
use Rattle.hc_core.specs.declared.cells.Cell.{Cell}
use Rattle.hc_core.specs.declared.event.Event.TheVariants.{Read}
use Rattle.hc_core.specs.declared.outcome.Outcome.TheVariants.{Cells}
use Rattle.hc_txn.specs.Lasts.{HasReadToLast, IsCellIn, cells_in, part_from}
use Rattle.hc_txn.specs.Reading.{HasLogged, HasReadAll}
use Rattle.hc_txn.specs.Transactions.{LogsRangeToo, LogsWithin, entries_of}
use Rattle.hc_txn.proofs.Logging.{lies_in_both}
use Rattle.hc_txn.proofs.Parts.{first_read, two_parts}

last_same : (xs : List Cell) (x y : Cell) → x ∷ [] ≡ xs ++ y ∷ [] → x ≡ y
last_same [] x y e = cc
last_same (z ∷ []) x y e = cc
last_same (z ∷ w ∷ xs) x y e = cc

-- the part from a key of a range on lies in the range
pub part_inside : (range : Range) (found : Option Cell) → IsCellIn range found → (key : List ℕ) → InRange (part_from range found) key → InRange range key
part_inside range None inside key h = h
part_inside range (Some cell) inside key h = (at_most_trans range.lo cell.key key inside.0.0 h.0, h.1)

-- what was read of a part of a range is logged
pub logged_read : (conn : ℕ) (range part : Range) (before after : List Entry) (log more : List Range) (start cells : List Cell) → HasReadAll conn part before after start cells
    → LogsRangeToo part log more → ((key : List ℕ) → InRange part key → InRange range key) → HasLogged conn range before after log more
logged_read conn range part before after log more start cells h covers inside = record {
  reads = h.reads;
  grown = h.grown;
  logged = λ key. (
    λ a. elim ((covers key).0 a) [ inl b ↦ inl b | inr b ↦ inr ((h.parts key).1 b) ],
    λ a. elim a [ inl b ↦ (covers key).1 (inl b) | inr b ↦ (covers key).1 (inr ((h.parts key).0 b)) ],
  );
  within = λ key lies. inside key ((h.parts key).0 lies);
}

pub logged_last : (conn : ℕ) (range : Range) (found : Option Cell) (before after : List Entry) (log more : List Range) → HasReadToLast conn range found before after
    → LogsRangeToo (part_from range found) log more → HasLogged conn range before after log more
logged_last conn range found before after log more h covers =
    logged_read conn range (part_from range found) before after log more [] (cells_in found) h.1 covers (part_inside range found h.0)

-- the last cell was read
pub last_read : (conn : ℕ) (range : Range) (before after : List Entry) (start cells rest : List Cell) (cell : Cell) → start ≡ [] → HasReadLast conn range before after start cells → cells ≡ rest ++ cell ∷ []
    → ((i : ℕ) → get_or cell.key i 0 < 256) → HasReadToLast conn range (Some cell) before after
last_read conn range before after start cells rest cell none h e bytes =
    let same : h.0 ≡ cell = last_same rest h.0 cell (ap (λ (xs : List Cell). xs ++ h.0 ∷ []) (sym none) ∙ sym h.2 ∙ e) in
    let read : HasReadAll conn (record { lo = h.0.key; hi = range.hi }) before after [] (h.0 ∷ []) =
    first_read conn h.0.key range.hi before after [] (h.0 ∷ []) (
      h.0 ∷ [],
      h.1,
      refl,
      ((tt, tt), λ c a. elim a [ inl s ↦ subst (λ (x : Cell). InRange (part_of h.0.key range.hi) x.key) (sym s) (below_irrefl h.0.key, h.3.1) | inr b ↦ absurd b ]),
    ) in (
      (subst (λ (c : Cell). InRange range c.key) same h.3, subst (λ (c : Cell). length c.key ≤ 463) same h.4, bytes),
      subst (λ (c : Cell). HasReadAll conn (record { lo = c.key; hi = range.hi }) before after [] (c ∷ [])) same read,
    )

-- there was none
pub none_read : (conn : ℕ) (range : Range) (before after : List Entry) (start cells : List Cell) → HasReadNone conn range before after start cells → HasReadToLast conn range None before after
none_read conn range before after start cells h = (tt, first_read conn range.lo range.hi before after [] [] ([], h.0, refl, (tt, λ c a. absurd a)))

-- reads after reads
pub entries_both : (conn : ℕ) (newer older : List PartRead) (account : List Entry) → entries_of conn (newer ++ older) ++ account ≡ entries_of conn newer ++ (entries_of conn older ++ account)
entries_both conn [] older account = refl
entries_both conn (read ∷ newer) older account =
    ap (λ (entries : List Entry). entry_of (Read conn read.part.lo read.part.hi) (Cells (record { cells = read.cells })) ∷ entries) (entries_both conn newer older account)

-- what is logged after more was read is what was logged before and both
pub logged_more : (conn : ℕ) (range part : Range) (before between after : List Entry) (log mid more : List Range) → HasLogged conn range before between log mid
    → HasLogged conn part between after mid more → ((key : List ℕ) → InRange part key → InRange range key) → HasLogged conn range before after log more
logged_more conn range part before between after log mid more h g inside = record {
  reads = g.reads ++ h.reads;
  grown = g.grown ∙ ap (λ (account : List Entry). entries_of conn g.reads ++ account) h.grown ∙ sym (entries_both conn g.reads h.reads before);
  logged = λ key.
      let both = lies_in_both g.reads h.reads key in (
        λ a. elim ((g.logged key).0 a) [
          | inl b ↦ elim ((h.logged key).0 b) [ inl d ↦ inl d | inr d ↦ inr (both.1 (inr d)) ]
          | inr b ↦ inr (both.1 (inl b))
        ],
        λ a. elim a [
          | inl b ↦ (g.logged key).1 (inl ((h.logged key).1 (inl b)))
          | inr b ↦ elim (both.0 b) [ inl d ↦ (g.logged key).1 (inr d) | inr d ↦ (g.logged key).1 (inl ((h.logged key).1 (inr d))) ]
        ],
      );
  within = λ key lies. elim ((lies_in_both g.reads h.reads key).0 lies) [ inl d ↦ inside key (g.within key d) | inr d ↦ h.within key d ];
}

-- a log with the same keys
pub logged_from : (conn : ℕ) (range : Range) (before after : List Entry) (log mid more : List Range) → HaveSameKeys log mid → HasLogged conn range before after mid more
    → HasLogged conn range before after log more
logged_from conn range before after log mid more same h = record {
  reads = h.reads;
  grown = h.grown;
  logged = λ key. (
    λ a. elim ((h.logged key).0 a) [ inl b ↦ inl ((same key).1 b) | inr b ↦ inr b ],
    λ a. elim a [ inl b ↦ (h.logged key).1 (inl ((same key).0 b)) | inr b ↦ (h.logged key).1 (inr b) ],
  );
  within = h.within;
}

pub range_from : (range : Range) (log mid more : List Range) → HaveSameKeys log mid → LogsRangeToo range mid more → LogsRangeToo range log more
range_from range log mid more same h key = (
  λ a. elim ((h key).0 a) [ inl b ↦ inl ((same key).1 b) | inr b ↦ inr b ],
  λ a. elim a [ inl b ↦ (h key).1 (inl ((same key).0 b)) | inr b ↦ (h key).1 (inr b) ],
)

-- the part below a key of a range, and the part from it on
pub part_below_inside : (range : Range) (cell : Cell) → IsCellIn range (Some cell) → (key : List ℕ) → InRange (record { lo = range.lo; hi = Some cell.key }) key → InRange range key
part_below_inside range cell inside key h = (h.0, under_down key cell.key range.hi (below_flip key cell.key h.1) inside.0.1)

-- what is logged below a cell and what is logged from it on
pub range_more : (conn : ℕ) (range : Range) (cell : Cell) (found : Option Cell) (log mid more : List Range) → IsCellIn range (Some cell)
    → IsCellIn (record { lo = range.lo; hi = Some cell.key }) found → LogsRangeToo (part_from range (Some cell)) log mid
    → LogsRangeToo (part_from (record { lo = range.lo; hi = Some cell.key }) found) mid more → LogsRangeToo (part_from range found) log more
range_more conn range cell None log mid more at inside h g key =
    let both = two_parts conn range.lo cell.key range.hi at.0.0 at.0.1 key in (
      λ a. elim ((g key).0 a) [
        | inl b ↦ elim ((h key).0 b) [ inl d ↦ inl d | inr d ↦ inr (both.1 (inr d)) ]
        | inr b ↦ inr (both.1 (inl b))
      ],
      λ a. elim a [
        | inl b ↦ (g key).1 (inl ((h key).1 (inl b)))
        | inr b ↦ elim (both.0 b) [ inl d ↦ (g key).1 (inr d) | inr d ↦ (g key).1 (inl ((h key).1 (inr d))) ]
      ],
    )
range_more conn range cell (Some next) log mid more at inside h g key =
    let both = two_parts conn next.key cell.key range.hi (below_flip next.key cell.key inside.0.1) at.0.1 key in (
      λ a. elim ((g key).0 a) [
        | inl b ↦ elim ((h key).0 b) [ inl d ↦ inl d | inr d ↦ inr (both.1 (inr d)) ]
        | inr b ↦ inr (both.1 (inl b))
      ],
      λ a. elim a [
        | inl b ↦ (g key).1 (inl ((h key).1 (inl b)))
        | inr b ↦ elim (both.0 b) [ inl d ↦ (g key).1 (inr d) | inr d ↦ (g key).1 (inl ((h key).1 (inr d))) ]
      ],
    )

-- what was logged lies in the range
pub within_of : (conn : ℕ) (range part : Range) (before after : List Entry) (log more : List Range) → HasLogged conn part before after log more
    → ((key : List ℕ) → InRange part key → InRange range key) → LogsWithin range log more
within_of conn range part before after log more h inside = (
  λ key a. (h.logged key).1 (inl a),
  λ key a. elim ((h.logged key).0 a) [ inl b ↦ inl b | inr b ↦ inr (inside key (h.within key b)) ],
)
