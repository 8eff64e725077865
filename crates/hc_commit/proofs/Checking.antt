-- A log of ranges that is checked in parts, in ascending order.
use Rattle.std.proofs.Common.{◌≡◌, ◌≢◌, ◌∙◌, sym, ap, subst, ℕ, ◌+◌, ◌<◌, length, get_or, take, drop, true, false, Option, Some, List, [], ◌∷◌, ◌++◌, inl, inr, ◌⊎◌, ◌↔◌}
use Rattle.std.proofs.lemmas.Bool.{true≢false, cases_Bool}
use Rattle.hc_range.specs.declared.range.Range.{Range}
use Rattle.hc_range.specs.Order.{is_below}
use Rattle.hc_range.specs.Ranges.{EndsBelow, EndsBelowEach, InAny, InRange, IsNonEmpty, IsNormal, is_under}
use Rattle.hc_range.proofs.ByteOrder.{at_most_trans, below_at_most, below_flip, below_irrefl}
use Rattle.hc_range.proofs.Ends.{under_down, under_end}
use Rattle.hc_range.proofs.Normal.{InAny-cases, InAny-left, InAny-right, holds_at, none_later}
use Rattle.hc_core.specs.Account.{part_of}
use Rattle.hc_core.specs.Desk.{EndsIn, HasChecked, HasMet, IsProposing, StopsIn, end_of}
use Rattle.hc_core.specs.Diary.{entry_of}
use Rattle.hc_core.specs.declared.account.Entry.{Entry}
use Rattle.hc_core.specs.declared.event.Event.TheVariants.{Check}
use Rattle.hc_core.specs.declared.outcome.Met.{Met as MetRecord}
use Rattle.hc_core.specs.declared.outcome.Outcome.TheVariants.{Done, Met}
use Rattle.hc_core.specs.declared.stop.Next.{Next}
use Rattle.hc_core.specs.declared.stop.Next.TheVariants.{More, End}
use Rattle.hc_txn.specs.Reading.{StopsAt}
use Rattle.hc_txn.proofs.Ranks.{StopsAbove}
use Rattle.hc_commit.specs.Checks.{AreAllOf, HasMetOther}
use Rattle.hc_commit.specs.Entries.{with_checks}
use Rattle.hc_commit.specs.Stages.{HasCheckedRange, HasCheckedUpto, HasMetIn}
use Rattle.hc_commit.proofs.Growing.{checks_append, checks_keep}
use Rattle.hc_commit.proofs.Putting.{around, taken_next}

-- a transaction that proposes goes on proposing while parts are checked
pub still_proposing : (conn : ℕ) (parts : List Range) (account : List Entry) → IsProposing account → IsProposing (with_checks conn parts account)
still_proposing conn parts account h = checks_keep conn (λ t. t.proposed ≢ 0) parts account (λ part t p. p) h

-- the part below a key of a range, and the part from it on, are the part up to where the second one ends
two_parts : (lo key : List ℕ) (upto : Option (List ℕ)) → is_below key lo ≡ false → is_under key upto ≡ true → (k : List ℕ)
    → InRange (part_of lo upto) k ↔ (InRange (part_of lo (Some key)) k ⊎ InRange (part_of key upto) k)
two_parts lo key upto from under k = (
  λ h. elim (cases_Bool (is_below k key)) [ inl below ↦ inl (h.0, below) | inr above ↦ inr (above, h.1) ],
  λ h. elim h [
    | inl low ↦ (low.0, under_down k key upto (below_flip k key low.1) under)
    | inr high ↦ (at_most_trans lo key k from high.0, high.1)
  ],
)

-- a key of a range is below where a call that begins there stops
pub under_stop : (key : List ℕ) (range : Range) (next : Next) → InRange range key → StopsIn key range next → is_under key (end_of range next) ≡ true
under_stop key range (More stop) inside h = h.0
under_stop key range End inside h = inside.1

-- one part
one_part : (part : Range) (key : List ℕ) → InAny (part ∷ []) key ↔ InRange part key
one_part part key = (λ h. elim h [ inl a ↦ a | inr b ↦ absurd b ], λ h. inl h)

-- one part more
one_more : (parts : List Range) (part : Range) (key : List ℕ) → InAny (parts ++ part ∷ []) key ↔ (InAny parts key ⊎ InRange part key)
one_more parts part key = (
  λ h. elim (InAny-cases parts (part ∷ []) key h) [ inl a ↦ inl a | inr b ↦ inr ((one_part part key).0 b) ],
  λ h. elim h [ inl a ↦ InAny-left parts (part ∷ []) key a | inr b ↦ InAny-right parts (part ∷ []) key (inl b) ],
)

module _ (conn : ℕ) (range : Range) where
  -- the first call
  pub first_check : (next : Next) (before after : List Entry) → HasChecked conn range.lo (end_of range next) before after → HasCheckedUpto conn range next before after
  first_check next before after h = (part_of range.lo (end_of range next) ∷ [], h, λ key. one_part (part_of range.lo (end_of range next)) key)

  -- a further call, from where the one before it stopped
  pub next_check : (key : List ℕ) (next : Next) (before between after : List Entry) → InRange range key → StopsIn key range next → HasCheckedUpto conn range (More key) before between
      → HasChecked conn key (end_of range next) between after → HasCheckedUpto conn range next before after
  next_check key next before between after inside stop h c = (
    h.0 ++ part_of key (end_of range next) ∷ [],
    c ∙ ap (λ (account : List Entry). entry_of (Check conn key (end_of range next)) Done ∷ account) h.1 ∙ sym (checks_append conn h.0 (part_of key (end_of range next) ∷ []) before),
    λ k.
        let more = one_more h.0 (part_of key (end_of range next)) k in
        let two = two_parts range.lo key (end_of range next) inside.0 (under_stop key range next inside stop) k in (
          λ a. two.1 (elim (more.0 a) [ inl b ↦ inl ((h.2 k).0 b) | inr b ↦ inr b ]),
          λ a. more.1 (elim (two.0 a) [ inl b ↦ inl ((h.2 k).1 b) | inr b ↦ inr b ]),
        ),
  )

  -- what a refused call went over lies in the range
  inside_of : (from : List ℕ) (upto : Option (List ℕ)) → InRange range from → EndsIn from range upto → (k : List ℕ) → InRange (part_of from upto) k → InRange range k
  inside_of from upto here (inl e) k h = (at_most_trans range.lo from k here.0 h.0, subst (λ (end : Option (List ℕ)). is_under k end ≡ true) e h.1)
  inside_of from upto here (inr stop) k h =
      let below : is_below k stop.0 ≡ true = subst (λ (end : Option (List ℕ)). is_under k end ≡ true) stop.1 h.1 in
      (at_most_trans range.lo from k here.0 h.0, under_down k stop.0 range.hi (below_flip k stop.0 below) stop.3.1)

  -- a call was refused, after all below it was checked
  pub met_next : (key : List ℕ) (met : MetRecord) (before between after : List Entry) → InRange range key → HasCheckedUpto conn range (More key) before between
      → HasMet conn key range met between after → HasMetIn conn range met before after
  met_next key met before between after inside h m = record {
    parts = h.0;
    from = key;
    upto = m.0;
    grown = m.1 ∙ ap (λ (account : List Entry). entry_of (Check conn key m.0) (Met met) ∷ account) h.1;
    here = inside;
    below = h.2;
    inside = inside_of key m.0 inside m.2;
    names = (m.3, m.4);
  }

  -- or the first one was
  pub met_first : (met : MetRecord) (before after : List Entry) → InRange range range.lo → HasMet conn range.lo range met before after → HasMetIn conn range met before after
  met_first met before after some m = record {
    parts = [];
    from = range.lo;
    upto = m.0;
    grown = m.1;
    here = some;
    below = λ key. (λ h. absurd h, λ h. absurd (true≢false (sym h.1 ∙ h.0)));
    inside = inside_of range.lo m.0 some m.2;
    names = (m.3, m.4);
  }

-- all of some ranges were checked
abbrev pub HasCheckedThese : ℕ → List Range → List Entry → List Entry → Type 0
HasCheckedThese conn ranges before after = (parts : List Range) × AreAllOf ranges parts × (after ≡ with_checks conn parts before)

-- one range more
pub these_more : (conn : ℕ) (ranges : List Range) (range : Range) (before between after : List Entry) → HasCheckedThese conn ranges before between
    → HasCheckedRange conn range between after → HasCheckedThese conn (ranges ++ range ∷ []) before after
these_more conn ranges range before between after h c = (
  h.0 ++ c.0,
  λ key. (
    λ a. (one_more ranges range key).1 (elim (InAny-cases h.0 c.0 key a) [ inl b ↦ inl ((h.1 key).0 b) | inr b ↦ inr ((c.2 key).0 b) ]),
    λ a. elim ((one_more ranges range key).0 a) [ inl b ↦ InAny-left h.0 c.0 key ((h.1 key).1 b) | inr b ↦ InAny-right h.0 c.0 key ((c.2 key).1 b) ],
  ),
  c.1 ∙ ap (with_checks conn c.0) h.2 ∙ sym (checks_append conn h.0 c.0 before),
)

-- each key of ranges before another one in order is below it
before_range : (front : List Range) (range : Range) (back : List Range) (from key : List ℕ) → IsNormal (front ++ range ∷ back) → is_below from range.lo ≡ false
    → InAny front key → is_below key from ≡ true
before_range [] range back from key normal at h = absurd h
before_range (r ∷ front) range back from key normal at (inl h) =
    below_at_most key range.lo from (under_end key range.lo r.hi h.1 (ends front normal.1)) at
  where
    ends : (rs : List Range) → EndsBelowEach r (rs ++ range ∷ back) → EndsBelow r range
    ends [] e = e.0
    ends (x ∷ rs) e = ends rs e.1
before_range (r ∷ front) range back from key normal at (inr h) = before_range front range back from key normal.2 at h

-- where a check of one of the ranges was refused, all below it in the log was checked
pub met_these : (conn : ℕ) (front : List Range) (range : Range) (back : List Range) (met : MetRecord) (before between after : List Entry) → IsNormal (front ++ range ∷ back)
    → HasCheckedThese conn front before between → HasMetIn conn range met between after → HasMetOther conn (front ++ range ∷ back) met before after
met_these conn front range back met before between after normal h m = record {
  parts = h.0 ++ m.parts;
  from = m.from;
  upto = m.upto;
  grown = m.grown ∙ ap (λ (account : List Entry). entry_of (Check conn m.from m.upto) (Met met) ∷ account) (ap (with_checks conn m.parts) h.2 ∙ sym (checks_append conn h.0 m.parts before));
  below = λ key. (
    λ a. elim (InAny-cases h.0 m.parts key a) [
      | inl b ↦ (InAny-left front (range ∷ back) key ((h.1 key).0 b), before_range front range back m.from key normal m.here.0 ((h.1 key).0 b))
      | inr b ↦
          let part = (m.below key).0 b in
          (InAny-right front (range ∷ back) key (inl (part.0, under_down key m.from range.hi (below_flip key m.from part.1) m.here.1)), part.1)
    ],
    λ a. elim (InAny-cases front (range ∷ back) key a.0) [
      | inl b ↦ InAny-left h.0 m.parts key ((h.1 key).1 b)
      | inr b ↦ elim b [
        | inl c ↦ InAny-right h.0 m.parts key ((m.below key).1 (c.0, a.1))
        | inr c ↦ absurd (none_later range back key (under_down key m.from range.hi (below_flip key m.from a.1) m.here.1) (after_range front normal) c)
      ]
    ],
  );
  inside = λ key a. InAny-right front (range ∷ back) key (inl (m.inside key a));
  names = m.names;
}
  where
    after_range : (rs : List Range) → IsNormal (rs ++ range ∷ back) → EndsBelowEach range back
    after_range [] n = n.1
    after_range (x ∷ rs) n = after_range rs n.2

-- a call that stops in a range stops at a place of it, above where it began
pub stops_at : (from : List ℕ) (range : Range) (next : Next) → StopsIn from range next → StopsAt range next
stops_at from range (More key) h = h.1
stops_at from range End h = tt

pub stops_above : (from : List ℕ) (range : Range) (next : Next) → StopsIn from range next → StopsAbove from next
stops_above from range (More key) h = h.0
stops_above from range End h = tt

module _ (conn : ℕ) (log : List Range) (i : ℕ) (range : Range) (within : i < length log) (is : range ≡ get_or log i range) (normal : IsNormal log) where
  -- a range of the log is not empty
  pub some_at : InRange range range.lo
  some_at = (below_irrefl range.lo, subst IsNonEmpty (sym is) (holds_at log normal i range within))

  module _ (at : ℕ) (same : at ≡ conn) (before between after : List Entry) (checked : HasCheckedThese conn (take i log) before between) where
    pub checked_next : HasCheckedRange at range between after → HasCheckedThese conn (take (i + 1) log) before after
    checked_next c =
        subst (λ (rs : List Range). HasCheckedThese conn rs before after) (sym (taken_next log i range within is))
        (these_more conn (take i log) range before between after checked (subst (λ (n : ℕ). HasCheckedRange n range between after) same c))

    pub met_at : (met : MetRecord) → HasMetIn at range met between after → HasMetOther conn log met before after
    met_at met m =
        subst (λ (rs : List Range). HasMetOther conn rs met before after) (sym (around log i range within is))
        (met_these conn (take i log) range (drop (i + 1) log) met before between after (subst IsNormal (around log i range within is) normal) checked
        (subst (λ (n : ℕ). HasMetIn n range met between after) same m))
