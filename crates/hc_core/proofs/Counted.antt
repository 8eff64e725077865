-- The log has no more ids than were drawn, and fewer where a transaction that drew an id is undecided.
use Rattle.std.proofs.Common.{◌≡◌, ◌≢◌, sym, subst, ℕ, ◌+◌, ◌-◌, ◌<◌, ◌≤◌, zero, suc, min, length, arith}
use Rattle.std.specs.Prelude.{slice_index}
use Rattle.hc_base.specs.Lookup.{Among, but}
use Rattle.hc_core.specs.Account.{Txn}
use Rattle.hc_core.specs.Machine.{Machine, txns_of}
use Rattle.hc_core.specs.Sound.{IsSound}
use Rattle.hc_base.proofs.Lookups.{each_but}
use Rattle.hc_core.proofs.Ordered.{placed_drew, distinct_with}

-- numbers above one moved down by one
abbrev closed : ℕ → ℕ → ℕ
closed gap x = x - min 1 (x - gap)

-- so moved down, what lies from 1 up to d lies up to d - 1, and different numbers stay different
closed_within : (gap x d : ℕ) → x ≢ gap → 0 < gap → gap ≤ d → 0 < x → x ≤ d → (0 < closed gap x) × (closed gap x ≤ d - 1)
closed_within gap x d other some within x_some x_within = (omega arith, omega arith)

closed_injective : (gap x y : ℕ) → x ≢ gap → y ≢ gap → closed gap x ≡ closed gap y → x ≡ y
closed_injective gap x y x_other y_other same = omega arith

-- n different numbers from 1 up to d: n is at most d
pub no_more : (n d : ℕ) (f : ℕ → ℕ) → ((c e : ℕ) → c < n → e < n → f c ≡ f e → c ≡ e) → ((c : ℕ) → c < n → (0 < f c) × (f c ≤ d)) → n ≤ d
no_more zero d f different within = omega arith
no_more (suc n) d f different within =
    let last = within n (omega arith) in
    let other : (c : ℕ) → c < n → f c ≢ f n = λ c below same. omega (arith, below, different c n (omega arith) (omega arith) same) in
    let fewer : n ≤ d - 1 = no_more n (d - 1) (λ c. closed (f n) (f c))
    (λ c e c_below e_below same. different c e (omega arith) (omega arith) (closed_injective (f n) (f c) (f e) (other c c_below) (other e e_below) same))
    (λ c below. let w = within c (omega arith) in closed_within (f n) (f c) d (other c below) last.0 last.1 w.0 w.1) in
    omega (arith, fewer, last.0, last.1)

module _ (m : Machine) (s : IsSound m) where
  -- an id that was drawn lies from 1 up to the last one drawn, and so does each id of the log
  id_within : (i : ℕ) (t : Txn) → Among t (txns_of m i) → t.id ≢ 0 → (0 < t.id) × (t.id ≤ m.drawn)
  id_within i t there drew = (omega arith, s.drawn i t there)

  logged_within : (c : ℕ) → c < length m.log → (0 < slice_index m.log c) × (slice_index m.log c ≤ m.drawn)
  logged_within c below =
      let e = s.sound.entries c below in
      subst (λ n. (0 < n) × (n ≤ m.drawn)) (sym (s.sound.decided e.0 e.1 c e.2 e.3))
      (id_within e.0 e.1 e.2 (placed_drew s.sound e.0 e.1 e.2 (λ none. omega (arith, none, e.3))))

  -- no more are committed than drew
  pub log_within : length m.log ≤ m.drawn
  log_within = no_more (length m.log) m.drawn (slice_index m.log) s.sound.distinct logged_within

  -- while one that drew is undecided, fewer are committed than drew
  pub log_below : (i : ℕ) (t : Txn) → Among t (txns_of m i) → t.id ≢ 0 → t.place ≡ 0 → length m.log < m.drawn
  log_below i t there drew undecided =
      omega (
        arith,
        no_more (length m.log + 1) m.drawn (but (slice_index m.log) (length m.log) t.id) (distinct_with s.sound i t there drew undecided)
            (λ c below. each_but (slice_index m.log) (length m.log) t.id (λ k x. k < length m.log + 1 → (0 < x) × (x ≤ m.drawn)) (λ last. id_within i t there drew) (λ k differ k_below. logged_within k (omega arith)) c below),
      )
