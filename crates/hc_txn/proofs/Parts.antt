-- A part of the keys that is read in several calls.
use Rattle.std.proofs.Common.{◌≡◌, ◌∙◌, refl, ap, subst, ℕ, true, false, Option, Some, None, List, [], ◌∷◌, ◌++◌, append_assoc, inl, inr, ◌⊎◌, ◌↔◌}
use Rattle.std.proofs.lemmas.Bool.{cases_Bool}
use Rattle.hc_range.specs.declared.range.Range.{Range}
use Rattle.hc_range.specs.Order.{is_below}
use Rattle.hc_range.specs.Ranges.{is_under, InRange}
use Rattle.hc_range.proofs.ByteOrder.{at_most_trans, below_at_most, below_flip}
use Rattle.hc_range.proofs.Ends.{under_down}
use Rattle.hc_core.specs.Account.{PartRead, Txn, WhenOpen, after_read, newest_changed, part_of, txns, LiesInRead}
use Rattle.hc_core.specs.Desk.{HasRead, IsReading}
use Rattle.hc_core.specs.Diary.{entry_of}
use Rattle.hc_base.specs.Lookup.{Among}
use Rattle.hc_core.specs.declared.event.Event.TheVariants.{Read}
use Rattle.hc_core.specs.Versions.{IsBelowEach, AreAscending}
use Rattle.hc_core.specs.declared.account.Entry.{Entry}
use Rattle.hc_core.specs.declared.cells.Cell.{Cell}
use Rattle.hc_core.specs.declared.cells.Part.{Part}
use Rattle.hc_core.specs.declared.outcome.Outcome.TheVariants.{Cells}
use Rattle.hc_txn.specs.Reading.{HasReadAll}
use Rattle.hc_txn.specs.Transactions.{entries_of}

module _ {A : Type 0} where
  -- an element of two lists after each other is one of the one or of the other
  pub among_append : (x : A) (xs ys : List A) → Among x (xs ++ ys) ↔ (Among x xs ⊎ Among x ys)
  among_append x [] ys = (λ h. inr h, λ h. elim h [ inl a ↦ absurd a | inr a ↦ a ])
  among_append x (y ∷ xs) ys =
      let rest = among_append x xs ys in (
        λ h. elim h [ inl e ↦ inl (inl e) | inr a ↦ elim (rest.0 a) [ inl b ↦ inl (inr b) | inr b ↦ inr b ] ],
        λ h. elim h [ inl a ↦ elim a [ inl e ↦ inl e | inr b ↦ inr (rest.1 (inl b)) ] | inr a ↦ inr (rest.1 (inr a)) ],
      )

-- a key below each of some cells and below each of others is below each of all
below_append : (key : List ℕ) (xs ys : List Cell) → IsBelowEach key xs → ((y : Cell) → Among y ys → is_below key y.key ≡ true) → IsBelowEach key (xs ++ ys)
below_append key [] [] h g = tt
below_append key [] (y ∷ ys) h g = (g y (inl refl), below_append key [] ys tt (λ z a. g z (inr a)))
below_append key (x ∷ xs) ys h g = (h.0, below_append key xs ys h.1 g)

-- cells in order, with others above them after them, are in order
pub ascending_append : (xs ys : List Cell) → AreAscending xs → AreAscending ys → ((x y : Cell) → Among x xs → Among y ys → is_below x.key y.key ≡ true) → AreAscending (xs ++ ys)
ascending_append [] ys h g above = g
ascending_append (x ∷ xs) ys h g above =
    (below_append x.key xs ys h.0 (λ y a. above x y (inl refl) a), ascending_append xs ys h.1 g (λ z y a b. above z y (inr a) b))

-- one part that was read
pub lies_in_one : (part : Range) (cells : List Cell) (reads : List PartRead) (key : List ℕ)
    → LiesInRead (record { part = part; cells = cells } ∷ reads) key ↔ (InRange part key ⊎ LiesInRead reads key)
lies_in_one part cells reads key = (
  λ h. elim (h.1) [ inl e ↦ inl (subst (λ (r : PartRead). InRange r.part key) e h.2) | inr a ↦ inr (h.0, a, h.2) ],
  λ h. elim h [ inl inside ↦ (record { part = part; cells = cells }, inl refl, inside) | inr more ↦ (more.0, inr more.1, more.2) ],
)

module _ (conn : ℕ) (lo : List ℕ) where
  -- the first call
  pub first_read : (upto : Option (List ℕ)) (before after : List Entry) (cells_before cells_after : List Cell)
      → HasRead conn lo upto before after cells_before cells_after → HasReadAll conn (part_of lo upto) before after cells_before cells_after
  first_read upto before after cells_before cells_after h = record {
    reads = record { part = part_of lo upto; cells = h.0 } ∷ [];
    cells = h.0;
    grown = h.1;
    added = h.2;
    parts = λ key.
        let one = lies_in_one (part_of lo upto) h.0 [] key in
        (λ lies. elim (one.0 lies) [ inl inside ↦ inside | inr none ↦ absurd (none.1) ], λ inside. one.1 (inl inside));
    in_order = h.3;
    exact = λ store agrees. agrees.0;
  }

  module _ (key : List ℕ) (upto : Option (List ℕ)) (from : is_below key lo ≡ false) (under : is_under key upto ≡ true) where
    -- the part below a key, and the part from it on, are the whole
    pub two_parts : (k : List ℕ) → InRange (part_of lo upto) k ↔ (InRange (part_of lo (Some key)) k ⊎ InRange (part_of key upto) k)
    two_parts k = (
      λ h. elim (cases_Bool (is_below k key)) [ inl below ↦ inl (h.0, below) | inr above ↦ inr (above, h.1) ],
      λ h. elim h [
        | inl low ↦ (low.0, under_down k key upto (below_flip k key low.1) under)
        | inr high ↦ (at_most_trans lo key k from high.0, high.1)
      ],
    )

    -- a further call, from where the one before it stopped
    pub next_read : (before between after : List Entry) (cells_before cells_between cells_after : List Cell)
        → HasReadAll conn (part_of lo (Some key)) before between cells_before cells_between
        → HasRead conn key upto between after cells_between cells_after
        → HasReadAll conn (part_of lo upto) before after cells_before cells_after
    next_read before between after cells_before cells_between cells_after h r = record {
      reads = record { part = part_of key upto; cells = r.0 } ∷ h.reads;
      cells = h.cells ++ r.0;
      grown = r.1 ∙ ap (λ (account : List Entry). entry_of (Read conn key upto) (Cells (record { cells = r.0 })) ∷ account) h.grown;
      added = r.2 ∙ ap (λ (cells : List Cell). cells ++ r.0) h.added ∙ append_assoc cells_before h.cells r.0;
      parts = λ k.
          let one = lies_in_one (part_of key upto) r.0 h.reads k in (
            λ lies. elim (one.0 lies) [ inl inside ↦ (two_parts k).1 (inr inside) | inr more ↦ (two_parts k).1 (inl ((h.parts k).0 more)) ],
            λ inside. elim ((two_parts k).0 inside) [ inl low ↦ one.1 (inr ((h.parts k).1 low)) | inr high ↦ one.1 (inl high) ],
          );
      in_order = (
        ascending_append h.cells r.0 h.in_order.0 r.3.0
            (λ x y a b. below_at_most x.key key y.key (h.in_order.1 x a).1 (r.3.1 y b).0),
        λ cell a. elim ((among_append cell h.cells r.0).0 a) [
          | inl low ↦ (two_parts cell.key).1 (inl (h.in_order.1 cell low))
          | inr high ↦ (two_parts cell.key).1 (inr (r.3.1 cell high))
        ],
      );
      exact = λ store agrees k rec.
          let low = h.exact store agrees.1 k rec in
          let high = agrees.0 k rec in
          let both = among_append (record { key = k; rec = rec }) h.cells r.0 in (
            λ a. elim (both.0 a) [ inl b ↦ ((two_parts k).1 (inl (low.0 b).0), (low.0 b).1) | inr b ↦ ((two_parts k).1 (inr (high.0 b).0), (high.0 b).1) ],
            λ t. elim ((two_parts k).0 t.0) [ inl inside ↦ both.1 (inl (low.1 (inside, t.1))) | inr inside ↦ both.1 (inr (high.1 (inside, t.1))) ],
          );
    }

-- a transaction that reads goes on reading
reading_after : (part : Range) (found : Part) (ts : List Txn) → WhenOpen ts (λ t. (t.id ≡ 0) × (t.full ≡ None))
    → WhenOpen (newest_changed (after_read part (Cells found)) ts) (λ t. (t.id ≡ 0) × (t.full ≡ None))
reading_after part found [] h = h
reading_after part found (t ∷ ts) h = h

pub still_reading : (conn : ℕ) (reads : List PartRead) (account : List Entry) → IsReading account → IsReading (entries_of conn reads ++ account)
still_reading conn [] account h = h
still_reading conn (read ∷ reads) account h = reading_after read.part (record { cells = read.cells }) (txns (entries_of conn reads ++ account)) (still_reading conn reads account h)
