-- Scripts whose connections ascend, place by place.
use Rattle.std.proofs.Common.{◌≡◌, ap, ℕ, ◌+◌, ◌-◌, ◌<◌, ◌≤◌, List, length, map, get_or, arith}
use Rattle.std.specs.List.Sorted.{IsStrictlyIncreasing}
use Rattle.std.proofs.lemmas.List.{get_or-map, length-map}
use Rattle.hc_meaning.specs.Runs.Cut.{Script}

-- their connections' numbers
abbrev conns : List Script → List ℕ
conns scripts = map (λ (script : Script). script.conn) scripts

-- from the list to two places
pub ascends_at : (scripts : List Script) (i : ℕ) (x y : Script) → 1 ≤ i → i < length scripts → IsStrictlyIncreasing (conns scripts) → (get_or scripts (i - 1) x).conn < (get_or scripts i y).conn
ascends_at scripts i x y some within ascends =
    let place : i - 1 + 1 ≡ i = omega arith in
    let inside : i - 1 + 1 < length (conns scripts) = omega (arith, length-map scripts (λ (script : Script). script.conn)) in
    omega (
      arith,
      ascends (i - 1) inside,
      get_or-map (λ (script : Script). script.conn) scripts (i - 1) x 0 (omega arith),
      get_or-map (λ (script : Script). script.conn) scripts i y 0 within,
      ap (λ n. get_or (conns scripts) n 0) place,
    )

-- and from all places to the list
pub ascends_from : (scripts : List Script) → ((k : ℕ) (d : Script) → k + 1 < length scripts → (get_or scripts k d).conn < (get_or scripts (k + 1) d).conn) → (d : Script) → IsStrictlyIncreasing (conns scripts)
ascends_from scripts each d k inside =
    let within : k + 1 < length scripts = omega (arith, inside, length-map scripts (λ (script : Script). script.conn)) in
    omega (
      arith,
      each k d within,
      get_or-map (λ (script : Script). script.conn) scripts k d 0 (omega (arith, within)),
      get_or-map (λ (script : Script). script.conn) scripts (k + 1) d 0 within,
    )
