-- Pages in turn from one on.
use Rattle.std.proofs.Common.{◌≡◌, ◌∙◌, sym, inl, inr, ℕ, ◌+◌, ◌-◌, ◌<◌, ◌≤◌, cond, ap, arith}
use Rattle.std.proofs.lemmas.Bool.{cases_lt, le-leb, lt-leb}
use Rattle.hc_pool.specs.Claiming.{in_turn}

-- up to the last page, and past it
pub turn_within : (pages from n : ℕ) → from + n ≤ pages → in_turn pages from n ≡ from + n
turn_within pages from n within = ap (λ b. cond b (from + n) (from + n - pages)) (le-leb (from + n) pages within)

pub turn_past : (pages from n : ℕ) → pages < from + n → in_turn pages from n ≡ from + n - pages
turn_past pages from n past = ap (λ b. cond b (from + n) (from + n - pages)) (lt-leb (from + n) pages past)

-- each page has its turn
pub turn_of : (pages from p : ℕ) → 0 < from → from ≤ pages → 0 < p → p ≤ pages → (n : ℕ) × (n < pages) × (in_turn pages from n ≡ p)
turn_of pages from p some within first last =
    elim (cases_lt p from) [
      | inl before ↦ (pages - from + p, omega (arith, within, before), turn_past pages from (pages - from + p) (omega (arith, within, first)) ∙ omega (arith, within, before))
      | inr past ↦ (p - from, omega (arith, some, past, last), turn_within pages from (p - from) (omega (arith, past, last)) ∙ omega (arith, past))
    ]

-- and no two turns are one page's
pub turns_differ : (pages from m n : ℕ) → 0 < from → from ≤ pages → m < pages → n < pages → in_turn pages from m ≡ in_turn pages from n → m ≡ n
turns_differ pages from m n some within one other same =
    elim (cases_lt pages (from + m)) [
      | inl m_past ↦ elim (cases_lt pages (from + n)) [
        | inl n_past ↦ let e = sym (turn_past pages from m m_past) ∙ (same ∙ turn_past pages from n n_past) in omega (arith, e, m_past, n_past)
        | inr n_in ↦ let e = sym (turn_past pages from m m_past) ∙ (same ∙ turn_within pages from n n_in) in omega (arith, e, m_past, n_in, one, other, within)
      ]
      | inr m_in ↦ elim (cases_lt pages (from + n)) [
        | inl n_past ↦ let e = sym (turn_within pages from m m_in) ∙ (same ∙ turn_past pages from n n_past) in omega (arith, e, m_in, n_past, one, other, within)
        | inr n_in ↦ let e = sym (turn_within pages from m m_in) ∙ (same ∙ turn_within pages from n n_in) in omega (arith, e)
      ]
    ]

pub each_turn : (pages from : ℕ) → 0 < from → from ≤ pages → in_turn pages from 0 ≡ from
each_turn pages from some within = turn_within pages from 0 (omega (arith, within)) ∙ omega arith
