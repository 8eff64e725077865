-- Scripts whose connections rise are of different connections.
use Rattle.std.proofs.Common.{◌≡◌, ◌≢◌, ◌⊎◌, ◌∙◌, inl, inr, ⊎_elim, refl, sym, ap, subst, ℕ, suc, ◌+◌, ◌<◌, Bool, true, false, List, [], ◌∷◌, map, filter, arith}
use Rattle.std.specs.Prelude.{⊤, slice_index, cond}
use Rattle.std.specs.List.Sorted.{IsStrictlyIncreasing}
use Rattle.std.proofs.lemmas.Bool.{cases_eq}
use Rattle.hc_base.specs.Lookup.{Among}
use Rattle.hc_core.proofs.Elements.{among_filter}
use Rattle.hc_meaning.specs.Runs.Cut.{Connection, Script}

rest_rises : (n : ℕ) (ns : List ℕ) → IsStrictlyIncreasing (n ∷ ns) → IsStrictlyIncreasing ns
rest_rises n ns rising k below =
    let same : suc k + 1 ≡ suc (k + 1) = omega arith in
    subst (λ m. slice_index ns k < slice_index (n ∷ ns) m) same (rising (suc k) (omega (arith, below)))

first_below : (n : ℕ) (ns : List ℕ) → IsStrictlyIncreasing (n ∷ ns) → (m : ℕ) → Among m ns → n < m
first_below n [] rising m there = absurd there
first_below n (p ∷ ns) rising m there = ⊎_elim
    (λ here. let below : n < p = rising 0 (omega arith) in omega (arith, below, here))
    (λ following.
    let below : n < p = rising 0 (omega arith) in
    let above = first_below p ns (rest_rises n (p ∷ ns) rising) m following in
    omega (arith, below, above))
    there

-- each script's connection is below those of the scripts after it
abbrev pub AreRising : List Script → Type 0
AreRising [] = ⊤
AreRising (s ∷ scripts) = ((u : Script) → Among u scripts → s.conn < u.conn) × AreRising scripts

conn_among : (u : Script) (scripts : List Script) → Among u scripts → Among u.conn (map (λ (s : Script). s.conn) scripts)
conn_among u [] there = absurd there
conn_among u (s ∷ scripts) there = ⊎_elim (λ here. inl (ap (λ (v : Script). v.conn) here)) (λ following. inr (conn_among u scripts following)) there

pub are_rising : (scripts : List Script) → IsStrictlyIncreasing (map (λ (s : Script). s.conn) scripts) → AreRising scripts
are_rising [] rising = tt
are_rising (s ∷ scripts) rising = (
  λ u there. first_below s.conn (map (λ (v : Script). v.conn) scripts) rising u.conn (conn_among u scripts there),
  are_rising scripts (rest_rises s.conn (map (λ (v : Script). v.conn) scripts) rising),
)

pub filter_rising : (p : Script → Bool) (scripts : List Script) → AreRising scripts → AreRising (filter p scripts)
filter_rising p [] rising = tt
filter_rising p (s ∷ scripts) rising = elim (p s) as (λ b. AreRising (cond b (s ∷ filter p scripts) (filter p scripts))) [
  | true ↦ (λ u there. rising.0 u ((among_filter p u scripts).0 there).0, filter_rising p scripts rising.1)
  | false ↦ filter_rising p scripts rising.1
]

-- connections with such scripts are told by their numbers
script_among : (c : Connection) (cs : List Connection) → Among c cs → Among c.script (map (λ (d : Connection). d.script) cs)
script_among c [] there = absurd there
script_among c (d ∷ cs) there = ⊎_elim (λ here. inl (ap (λ (e : Connection). e.script) here)) (λ following. inr (script_among c cs following)) there

pub same_connection : (cs : List Connection) → AreRising (map (λ (c : Connection). c.script) cs) → (c d : Connection) → Among c cs → Among d cs
    → c.script.conn ≡ d.script.conn → c ≡ d
same_connection [] rising c d c_there d_there same = absurd c_there
same_connection (e ∷ cs) rising c d c_there d_there same = ⊎_elim
    (λ c_here. ⊎_elim
    (λ d_here. c_here ∙ sym d_here)
    (λ d_later.
    let below = rising.0 d.script (script_among d cs d_later) in
    let at : c.script.conn ≡ e.script.conn = ap (λ (f : Connection). f.script.conn) c_here in
    absurd (omega (arith, below, at, same)))
    d_there)
    (λ c_later. ⊎_elim
    (λ d_here.
    let below = rising.0 c.script (script_among c cs c_later) in
    let at : d.script.conn ≡ e.script.conn = ap (λ (f : Connection). f.script.conn) d_here in
    absurd (omega (arith, below, at, same)))
    (λ d_later. same_connection cs rising.1 c d c_later d_later same)
    d_there)
    c_there

-- a script of a connection is there, or none is
pub known_script : (i : ℕ) (scripts : List Script) → ((s : Script) × Among s scripts × (s.conn ≡ i)) ⊎ ((s : Script) → Among s scripts → s.conn ≢ i)
known_script i [] = inr (λ s there. absurd there)
known_script i (s ∷ scripts) = ⊎_elim
    (λ here. inl (s, inl refl, here))
    (λ other. ⊎_elim
    (λ found. inl (found.0, inr found.1, found.2))
    (λ none. inr (λ u there. ⊎_elim (λ u_here. λ same. other (ap (λ (v : Script). v.conn) (sym u_here) ∙ same)) (λ following. none u following) there))
    (known_script i scripts))
    (cases_eq s.conn i)

-- scripts that rise are told by their numbers
pub same_script : (scripts : List Script) → AreRising scripts → (s u : Script) → Among s scripts → Among u scripts → s.conn ≡ u.conn → s ≡ u
same_script [] rising s u s_there u_there same = absurd s_there
same_script (v ∷ scripts) rising s u s_there u_there same = ⊎_elim
    (λ s_here. ⊎_elim
    (λ u_here. s_here ∙ sym u_here)
    (λ u_later.
    let below = rising.0 u u_later in
    let at : s.conn ≡ v.conn = ap (λ (w : Script). w.conn) s_here in
    absurd (omega (arith, below, at, same)))
    u_there)
    (λ s_later. ⊎_elim
    (λ u_here.
    let below = rising.0 s s_later in
    let at : u.conn ≡ v.conn = ap (λ (w : Script). w.conn) u_here in
    absurd (omega (arith, below, at, same)))
    (λ u_later. same_script scripts rising.1 s u s_later u_later same)
    u_there)
    s_there
