-- Own writes in order, laid over cells in order: which cells come of it, and that they are in order.
use Rattle.std.proofs.Common.{◌≡◌, ◌∙◌, refl, sym, ap, subst, ℕ, Bool, true, false, cond, Option, Some, None, List, [], ◌∷◌, ◌++◌, bytes_eq, inl, inr, ◌⊎◌, ◌↔◌}
use Rattle.std.proofs.lemmas.Bool.{true≢false, cases_Bool}
use Rattle.std.proofs.lemmas.Slice.Eq.{bytes_eq-Decides}
use Rattle.hc_range.specs.Order.{is_below}
use Rattle.hc_range.proofs.ByteOrder.{below_irrefl, below_trans, at_most_cases}
use Rattle.hc_core.specs.Account.{HoldsKey}
use Rattle.hc_core.specs.Desk.{AreAscendingWrites, IsBelowEachWrite}
use Rattle.hc_base.specs.Lookup.{Among}
use Rattle.hc_core.specs.Versions.{IsBelowEach, AreAscending}
use Rattle.hc_core.specs.declared.cells.Cell.{Cell}
use Rattle.hc_core.specs.declared.cells.Write.{Write}
use Rattle.hc_txn.specs.Laid.{cell_of, cells_below, cells_from, cells_past, cells_put, laid}
use Rattle.hc_txn.proofs.Parts.{among_append, ascending_append}

-- all from one are above what is below the one
below_all : (key : List ℕ) (cells : List Cell) → IsBelowEach key cells → (cell : Cell) → Among cell cells → is_below key cell.key ≡ true
below_all key [] h cell a = absurd a
below_all key (c ∷ cells) h cell (inl e) = subst (λ (x : Cell). is_below key x.key ≡ true) (sym e) h.0
below_all key (c ∷ cells) h cell (inr a) = below_all key cells h.1 cell a

all_below : (key : List ℕ) (cells : List Cell) → ((cell : Cell) → Among cell cells → is_below key cell.key ≡ true) → IsBelowEach key cells
all_below key [] h = tt
all_below key (c ∷ cells) h = (h c (inl refl), all_below key cells (λ cell a. h cell (inr a)))

pub below_writes : (key : List ℕ) (writes : List Write) → IsBelowEachWrite key writes → (w : Write) → Among w writes → is_below key w.key ≡ true
below_writes key [] h w a = absurd a
below_writes key (x ∷ writes) h w (inl e) = subst (λ (y : Write). is_below key y.key ≡ true) (sym e) h.0
below_writes key (x ∷ writes) h w (inr a) = below_writes key writes h.1 w a

-- the cells below a key are those of the cells that are below it
module _ (key : List ℕ) (cell : Cell) where
  below_step : (b : Bool) (c : Cell) (cells : List Cell) → b ≡ is_below c.key key → IsBelowEach c.key cells
      → (Among cell (cells_below key cells) ↔ (Among cell cells × (is_below cell.key key ≡ true)))
      → Among cell (cond b (c ∷ cells_below key cells) []) ↔ (((cell ≡ c) ⊎ Among cell cells) × (is_below cell.key key ≡ true))
  below_step true c cells e above rest = (
    λ h. elim h [ inl s ↦ (inl s, ap (λ (x : Cell). is_below x.key key) s ∙ sym e) | inr a ↦ (inr (rest.0 a).0, (rest.0 a).1) ],
    λ h. elim (h.0) [ inl s ↦ inl s | inr a ↦ inr (rest.1 (a, h.1)) ],
  )
  below_step false c cells e above rest = (
    λ a. absurd a,
    λ h. elim (h.0) [
      | inl s ↦ absurd (true≢false (sym h.1 ∙ ap (λ (x : Cell). is_below x.key key) s ∙ sym e))
      | inr a ↦ absurd (true≢false (sym (below_trans c.key cell.key key (below_all c.key cells above cell a) h.1) ∙ sym e))
    ],
  )

  pub below_has : (cells : List Cell) → AreAscending cells → Among cell (cells_below key cells) ↔ (Among cell cells × (is_below cell.key key ≡ true))
  below_has [] h = (λ a. absurd a, λ a. absurd (a.0))
  below_has (c ∷ cells) h = below_step (is_below c.key key) c cells refl h.0 (below_has cells h.1)

  from_step : (b : Bool) (c : Cell) (cells : List Cell) → b ≡ is_below c.key key → IsBelowEach c.key cells
      → (Among cell (cells_from key cells) ↔ (Among cell cells × (is_below cell.key key ≡ false)))
      → Among cell (cond b (cells_from key cells) (c ∷ cells)) ↔ (((cell ≡ c) ⊎ Among cell cells) × (is_below cell.key key ≡ false))
  from_step true c cells e above rest = (
    λ a. (inr (rest.0 a).0, (rest.0 a).1),
    λ h. elim (h.0) [ inl s ↦ absurd (true≢false (e ∙ sym (ap (λ (x : Cell). is_below x.key key) s) ∙ h.1)) | inr a ↦ rest.1 (a, h.1) ],
  )
  from_step false c cells e above rest = (
    λ a. (
      a,
      elim a [
        | inl s ↦ ap (λ (x : Cell). is_below x.key key) s ∙ sym e
        | inr b ↦ elim (cases_Bool (is_below cell.key key)) [
          | inl less ↦ absurd (true≢false (sym (below_trans c.key cell.key key (below_all c.key cells above cell b) less) ∙ sym e))
          | inr more ↦ more
        ]
      ],
    ),
    λ h. h.0,
  )

  pub from_has : (cells : List Cell) → AreAscending cells → Among cell (cells_from key cells) ↔ (Among cell cells × (is_below cell.key key ≡ false))
  from_has [] h = (λ a. absurd a, λ a. absurd (a.0))
  from_has (c ∷ cells) h = from_step (is_below c.key key) c cells refl h.0 (from_has cells h.1)

  above_first : (c : Cell) → bytes_eq c.key key ≡ false → is_below c.key key ≡ false → is_below key c.key ≡ true
  above_first c apart from = elim (at_most_cases key c.key from) [ inl less ↦ less | inr same ↦ absurd (true≢false (sym ((bytes_eq-Decides c.key key).1 (sym same)) ∙ apart)) ]

  past_step : (b : Bool) (c : Cell) (cells : List Cell) → b ≡ bytes_eq c.key key → IsBelowEach c.key cells → is_below c.key key ≡ false
      → Among cell (cond b cells (c ∷ cells)) ↔ (((cell ≡ c) ⊎ Among cell cells) × (is_below key cell.key ≡ true))
  past_step true c cells e above from = (
    λ a. (inr a, subst (λ (k : List ℕ). is_below k cell.key ≡ true) ((bytes_eq-Decides c.key key).0 (sym e)) (below_all c.key cells above cell a)),
    λ h. elim (h.0) [
      | inl s ↦ absurd (true≢false (sym h.1 ∙ ap (λ (k : List ℕ). is_below key k) (ap (λ (x : Cell). x.key) s ∙ (bytes_eq-Decides c.key key).0 (sym e)) ∙ below_irrefl key))
      | inr a ↦ a
    ],
  )
  past_step false c cells e above from = (
    λ a. (
      a,
      elim a [
        | inl s ↦ subst (λ (x : Cell). is_below key x.key ≡ true) (sym s) (above_first c (sym e) from)
        | inr b ↦ below_trans key c.key cell.key (above_first c (sym e) from) (below_all c.key cells above cell b)
      ],
    ),
    λ h. h.0,
  )

  pub past_has : (cells : List Cell) → AreAscending cells → ((c : Cell) → Among c cells → is_below c.key key ≡ false)
      → Among cell (cells_past key cells) ↔ (Among cell cells × (is_below key cell.key ≡ true))
  past_has [] h from = (λ a. absurd a, λ a. absurd (a.0))
  past_has (c ∷ cells) h from = past_step (bytes_eq c.key key) c cells refl h.0 (from c (inl refl))

-- these parts are in order
pub below_ascends : (key : List ℕ) (cells : List Cell) → AreAscending cells → AreAscending (cells_below key cells)
below_ascends key [] h = tt
below_ascends key (c ∷ cells) h = at (is_below c.key key) (all_below c.key (cells_below key cells) (λ cell a. below_all c.key cells h.0 cell ((below_has key cell cells h.1).0 a).0), below_ascends key cells h.1)
  where
    at : (b : Bool) → IsBelowEach c.key (cells_below key cells) × AreAscending (cells_below key cells) → AreAscending (cond b (c ∷ cells_below key cells) [])
    at true more = more
    at false more = tt

pub from_ascends : (key : List ℕ) (cells : List Cell) → AreAscending cells → AreAscending (cells_from key cells)
from_ascends key [] h = tt
from_ascends key (c ∷ cells) h = at (is_below c.key key) (from_ascends key cells h.1)
  where
    at : (b : Bool) → AreAscending (cells_from key cells) → AreAscending (cond b (cells_from key cells) (c ∷ cells))
    at true more = more
    at false more = h

pub past_ascends : (key : List ℕ) (cells : List Cell) → AreAscending cells → AreAscending (cells_past key cells)
past_ascends key [] h = tt
past_ascends key (c ∷ cells) h = at (bytes_eq c.key key)
  where
    at : (b : Bool) → AreAscending (cond b cells (c ∷ cells))
    at true = h.1
    at false = h

-- the write that puts a cell
abbrev pub write_of : Cell → Write
write_of cell = record { key = cell.key; rec = Some cell.rec }

-- the cell that a write puts
cell_has : (key : List ℕ) (rec : Option (List ℕ)) (cell : Cell) → Among cell (cells_put key rec) ↔ (write_of cell ≡ record { key = key; rec = rec })
cell_has key None cell = (λ a. absurd a, λ e. absurd (some_none cell.rec (ap (λ (w : Write). w.rec) e)))
  where
    some_none : (r : List ℕ) → Some r ≡ None → ⊥
    some_none r e = cc
cell_has key (Some rec) cell = (
  λ a. elim a [ inl e ↦ ap (λ (c : Cell). record { key = c.key; rec = Some c.rec }) e | inr b ↦ absurd b ],
  λ e. inl (λ i. record { key = ap (λ (w : Write). w.key) e i; rec = some_is cell.rec rec (ap (λ (w : Write). w.rec) e) i }),
)
  where
    some_is : (x y : List ℕ) → Some x ≡ Some y → x ≡ y
    some_is x y e = cc

one_ascends : (key : List ℕ) (rec : Option (List ℕ)) → AreAscending (cells_put key rec)
one_ascends key None = tt
one_ascends key (Some rec) = (tt, tt)

-- what is laid over cells: what the writes put, and the cells whose keys no write has
pub laid_has : (writes : List Write) (cells : List Cell) (cell : Cell) → AreAscendingWrites writes → AreAscending cells
    → Among cell (laid writes cells) ↔ (Among (write_of cell) writes ⊎ (Among cell cells × (HoldsKey writes cell.key → ⊥)))
laid_has [] cells cell w h = (λ a. inr (a, λ k. k.1), λ a. elim a [ inl b ↦ absurd b | inr b ↦ b.0 ])
laid_has (write ∷ writes) cells cell w h =
    let from = from_ascends write.key cells h in
    let above : (c : Cell) → Among c (cells_from write.key cells) → is_below c.key write.key ≡ false = λ c a. ((from_has write.key c cells h).0 a).1 in
    let past = past_has write.key cell (cells_from write.key cells) from above in
    let rest = laid_has writes (cells_past write.key (cells_from write.key cells)) cell w.1 (past_ascends write.key (cells_from write.key cells) from) in
    let low = below_has write.key cell cells h in
    let put = cell_has write.key write.rec cell in
    let outer = among_append cell (cells_below write.key cells) (cell_of write ++ laid writes (cells_past write.key (cells_from write.key cells))) in
    let inner = among_append cell (cell_of write) (laid writes (cells_past write.key (cells_from write.key cells))) in (
      λ a. elim (outer.0 a) [
        | inl b ↦ inr (
          (low.0 b).0,
          λ k. elim (k.1) [
            | inl e ↦ true≢false (sym (low.0 b).1 ∙ ap (λ (q : List ℕ). is_below q write.key) (ap (λ (x : Write). x.key) e) ∙ below_irrefl write.key)
            | inr more ↦ true≢false (sym (below_trans cell.key write.key cell.key (low.0 b).1 (below_writes write.key writes w.0 _ more)) ∙ below_irrefl cell.key)
          ],
        )
        | inr b ↦ elim (inner.0 b) [
          | inl p ↦ inl (inl (put.0 p))
          | inr l ↦ elim (rest.0 l) [
            | inl q ↦ inl (inr q)
            | inr q ↦
                let there = past.0 q.0 in
                inr (
                  ((from_has write.key cell cells h).0 there.0).0,
                  λ k. elim (k.1) [
                    | inl e ↦ true≢false (sym there.1 ∙ ap (λ (x : List ℕ). is_below write.key x) (ap (λ (x : Write). x.key) e) ∙ below_irrefl write.key)
                    | inr more ↦ q.1 (k.0, more)
                  ],
                )
          ]
        ]
      ],
      λ a. elim a [
        | inl b ↦ elim b [
          | inl e ↦ outer.1 (inr (inner.1 (inl (put.1 e))))
          | inr q ↦ outer.1 (inr (inner.1 (inr (rest.1 (inl q)))))
        ]
        | inr b ↦ elim (cases_Bool (is_below cell.key write.key)) [
          | inl less ↦ outer.1 (inl (low.1 (b.0, less)))
          | inr more ↦
              let strict : is_below write.key cell.key ≡ true = elim (at_most_cases write.key cell.key more) [ inl less ↦ less | inr same ↦ absurd (b.1 (write.rec, inl (λ i. record { key = sym same i; rec = write.rec }))) ] in
              outer.1 (inr (inner.1 (inr (rest.1 (inr (past.1 ((from_has write.key cell cells h).1 (b.0, more), strict), λ k. b.1 (k.0, inr k.1)))))))
        ]
      ],
    )

-- and it is in order
pub laid_ascends : (writes : List Write) (cells : List Cell) → AreAscendingWrites writes → AreAscending cells → AreAscending (laid writes cells)
laid_ascends [] cells w h = h
laid_ascends (write ∷ writes) cells w h =
    let from = from_ascends write.key cells h in
    let above : (c : Cell) → Among c (cells_from write.key cells) → is_below c.key write.key ≡ false = λ c a. ((from_has write.key c cells h).0 a).1 in
    let past = past_ascends write.key (cells_from write.key cells) from in
    let strict : (c : Cell) → Among c (laid writes (cells_past write.key (cells_from write.key cells))) → is_below write.key c.key ≡ true =
    λ c a. elim ((laid_has writes (cells_past write.key (cells_from write.key cells)) c w.1 past).0 a) [
      | inl b ↦ below_writes write.key writes w.0 (write_of c) b
      | inr b ↦ ((past_has write.key c (cells_from write.key cells) from above).0 b.0).1
    ] in
    let put_key : (c : Cell) → Among c (cell_of write) → c.key ≡ write.key = λ c a. ap (λ (x : Write). x.key) ((cell_has write.key write.rec c).0 a) in
    ascending_append (cells_below write.key cells) (cell_of write ++ laid writes (cells_past write.key (cells_from write.key cells))) (below_ascends write.key cells h)
    (ascending_append (cell_of write) (laid writes (cells_past write.key (cells_from write.key cells))) (one_ascends write.key write.rec)
    (laid_ascends writes (cells_past write.key (cells_from write.key cells)) w.1 past)
    (λ x y a b. subst (λ (q : List ℕ). is_below q y.key ≡ true) (sym (put_key x a)) (strict y b)))
    (λ x y a b.
    let low = ((below_has write.key x cells h).0 a).1 in
    elim ((among_append y (cell_of write) (laid writes (cells_past write.key (cells_from write.key cells)))).0 b) [
      | inl p ↦ subst (λ (q : List ℕ). is_below x.key q ≡ true) (sym (put_key y p)) low
      | inr l ↦ below_trans x.key write.key y.key low (strict y l)
    ])
