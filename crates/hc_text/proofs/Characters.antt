-- What a text begins with: the bytes of a character, of which the first tells how many there are.
use Rattle.std.proofs.Common.{◌≡◌, ℕ, ◌+◌, ◌-◌, ◌*◌, ◌/◌, ◌%◌, ◌<◌, ◌≤◌, ◌↔◌, true, List, [], ◌∷◌, ◌++◌, refl, sym, ap, subst, ◌∙◌, ◌⊎◌, inl, inr, arith}
use Rattle.std.specs.Str.{IsUtf8}
use Rattle.std.specs.Char.{IsScalar}
use Rattle.std.proofs.lemmas.Bool.{and_parts, cases_lt, lt-ltb, le-ltb, le-leb}
use Rattle.std.proofs.lemmas.Str.{IsUtf8-append, IsUtf8-encode, encode_ascii}
use lib.Utf8.{scalar, scalars, encode, encodes, scalar_cases, low_scalar}
use Rattle.hc_text.specs.Utf8.{Follows}

abbrev pub two_of : ℕ → List ℕ
two_of c = (192 + c / 64) ∷ (128 + c % 64) ∷ []

abbrev pub three_of : ℕ → List ℕ
three_of c = (224 + c / 4096) ∷ (128 + c / 64 % 64) ∷ (128 + c % 64) ∷ []

abbrev pub four_of : ℕ → List ℕ
four_of c = (240 + c / 262144) ∷ (128 + c / 4096 % 64) ∷ (128 + c / 64 % 64) ∷ (128 + c % 64) ∷ []

encode_two : (c : ℕ) → 128 ≤ c → c < 2048 → encode c ≡ two_of c
unfolding encode
encode_two c lo hi = rw (le-ltb c 128 lo, lt-ltb c 2048 hi) refl

encode_three : (c : ℕ) → 2048 ≤ c → c < 65536 → encode c ≡ three_of c
unfolding encode
encode_three c lo hi =
    let above : 128 ≤ c = omega arith in
    rw (le-ltb c 128 above, le-ltb c 2048 lo, lt-ltb c 65536 hi) refl

encode_four : (c : ℕ) → 65536 ≤ c → encode c ≡ four_of c
unfolding encode
encode_four c lo =
    let above : 128 ≤ c = omega arith in
    let two : 2048 ≤ c = omega arith in
    rw (le-ltb c 128 above, le-ltb c 2048 two, le-ltb c 65536 lo) refl

high_scalar : (c : ℕ) → 57344 ≤ c → c < 1114112 → scalar c ≡ true
high_scalar c lo hi =
    let above : 55296 ≤ c = omega arith in
    rw (le-ltb c 55296 above, le-leb 57344 c lo, lt-ltb c 1114112 hi) refl

-- a text is empty, or begins with a character of one of four lengths
pub read_first : (P : Type 0) (b : ℕ) (x : List ℕ) → IsUtf8 (b ∷ x)
    → ((c : ℕ) → c < 128 → b ≡ c → IsUtf8 x → P)
    → ((c : ℕ) (y : List ℕ) → 128 ≤ c → c < 2048 → b ≡ 192 + c / 64 → x ≡ (128 + c % 64) ∷ y → IsUtf8 y → P)
    → ((c : ℕ) (y : List ℕ) → 2048 ≤ c → c < 65536 → (c < 55296) ⊎ (57344 ≤ c) → b ≡ 224 + c / 4096 → x ≡ (128 + c / 64 % 64) ∷ (128 + c % 64) ∷ y → IsUtf8 y → P)
    → ((c : ℕ) (y : List ℕ) → 65536 ≤ c → c < 1114112 → b ≡ 240 + c / 262144 → x ≡ (128 + c / 4096 % 64) ∷ (128 + c / 64 % 64) ∷ (128 + c % 64) ∷ y → IsUtf8 y → P)
    → P
read_first P b x text one two three four = by_list text.0 text.1.0 text.1.1
  where
    below : (c : ℕ) → (c < 55296) ⊎ ((57344 ≤ c) × (c < 1114112)) → c < 1114112
    below c (inl h) = omega arith
    below c (inr h) = h.1

    outside : (c : ℕ) → (c < 55296) ⊎ ((57344 ≤ c) × (c < 1114112)) → (c < 55296) ⊎ (57344 ≤ c)
    outside c (inl h) = inl h
    outside c (inr h) = inr h.0

    by_char : (c : ℕ) (y : List ℕ) → scalar c ≡ true → IsUtf8 y → encode c ++ y ≡ b ∷ x → P
    by_char c y ok u e =
        elim (cases_lt c 128) [
          | inl low ↦
              let found : c ∷ y ≡ b ∷ x = sym (ap (λ (l : List ℕ). l ++ y) (encode_ascii c low)) ∙ e in
              let same : y ≡ x = cc in
              one c low (cc) (subst IsUtf8 same u)
          | inr high ↦ elim (cases_lt c 2048) [
            | inl low ↦
                let found : (192 + c / 64) ∷ (128 + c % 64) ∷ y ≡ b ∷ x = sym (ap (λ (l : List ℕ). l ++ y) (encode_two c high low)) ∙ e in
                two c y high low (cc) (cc) u
            | inr higher ↦ elim (cases_lt c 65536) [
              | inl low ↦
                  let found : (224 + c / 4096) ∷ (128 + c / 64 % 64) ∷ (128 + c % 64) ∷ y ≡ b ∷ x = sym (ap (λ (l : List ℕ). l ++ y) (encode_three c higher low)) ∙ e in
                  three c y higher low (outside c (scalar_cases c ok)) (cc) (cc) u
              | inr highest ↦
                  let found : (240 + c / 262144) ∷ (128 + c / 4096 % 64) ∷ (128 + c / 64 % 64) ∷ (128 + c % 64) ∷ y ≡ b ∷ x = sym (ap (λ (l : List ℕ). l ++ y) (encode_four c highest)) ∙ e in
                  four c y highest (below c (scalar_cases c ok)) (cc) (cc) u
            ]
          ]
        ]

    by_list : (cs : List ℕ) → scalars cs ≡ true → encodes cs ≡ b ∷ x → P
    by_list [] ok e = absurd cc
    by_list (c ∷ cs) ok e =
        let both = and_parts (scalar c) (scalars cs) ok in
        by_char c (encodes cs) both.0 (cs, (both.1, refl)) e

from_char : (c : ℕ) (l x : List ℕ) → encode c ≡ l → IsScalar c → IsUtf8 x → IsUtf8 (l ++ x)
from_char c l x e ok u = subst (λ (k : List ℕ). IsUtf8 (k ++ x)) e (IsUtf8-append (encode c) x (IsUtf8-encode c ok) u)

-- ---- after the first byte

pub refused_first : (b : ℕ) (x : List ℕ) → 128 ≤ b → (b < 194) ⊎ (245 ≤ b) → IsUtf8 (b ∷ x) → ⊥
refused_first b x high out text =
    read_first ⊥ b x text
    (λ c low e u. omega arith)
    (λ c y lo hi e xe u. by_side out (λ side. omega arith) (λ side. omega arith))
    (λ c y lo hi sides e xe u. by_side out (λ side. omega arith) (λ side. omega arith))
    (λ c y lo hi e xe u. by_side out (λ side. omega arith) (λ side. omega arith))
  where
    by_side : (b < 194) ⊎ (245 ≤ b) → (b < 194 → ⊥) → (245 ≤ b → ⊥) → ⊥
    by_side (inl s) f g = f s
    by_side (inr s) f g = g s

pub first_of_one : (b : ℕ) → b < 128 → (x : List ℕ) → IsUtf8 x ↔ IsUtf8 (b ∷ x)
first_of_one b low x = (
  λ u. from_char b (b ∷ []) x (encode_ascii b low) (low_scalar b (omega arith)) u,
  λ text. read_first (IsUtf8 x) b x text
      (λ c lt e u. u)
      (λ c y lo hi e xe u. absurd (omega arith))
      (λ c y lo hi sides e xe u. absurd (omega arith))
      (λ c y lo hi e xe u. absurd (omega arith)),
)

two_text : (b : ℕ) → 194 ≤ b → b ≤ 223 → (x : List ℕ) → Follows 1 128 191 x → IsUtf8 (b ∷ x)
two_text b lo hi [] f = absurd f
two_text b lo hi (d ∷ x) f =
    let c : ℕ = (b - 192) * 64 + (d - 128) in
    let low : 128 ≤ d = f.0 in
    let high : d ≤ 191 = f.1 in
    let first : 192 + c / 64 ≡ b = omega arith in
    let second : 128 + c % 64 ≡ d = omega arith in
    from_char c (b ∷ d ∷ []) x (encode_two c (omega arith) (omega arith) ∙ (λ i. first i ∷ second i ∷ [])) (low_scalar c (omega arith)) f.2

pub first_of_two : (b : ℕ) → 194 ≤ b → b ≤ 223 → (x : List ℕ) → Follows 1 128 191 x ↔ IsUtf8 (b ∷ x)
first_of_two b lo hi x = (
  two_text b lo hi x,
  λ text. read_first (Follows 1 128 191 x) b x text
      (λ c lt e u. absurd (omega arith))
      (λ c y p q e xe u. subst (Follows 1 128 191) (sym xe) (let h : (128 ≤ 128 + c % 64) × (128 + c % 64 ≤ 191) = (omega arith, omega arith) in (h.0, h.1, u)))
      (λ c y p q sides e xe u. absurd (omega arith))
      (λ c y p q e xe u. absurd (omega arith)),
)

-- the number of a character of three bytes without its last six bits
abbrev pub IsHigh3 : ℕ → Type 0
IsHigh3 k = (32 ≤ k) × (k < 1024) × ((k < 864) ⊎ (896 ≤ k))

abbrev pub Seconds3 : ℕ → ℕ → ℕ → Type 0
Seconds3 b low high =
    ((d : ℕ) → low ≤ d → d ≤ high → (128 ≤ d) × (d ≤ 191) × IsHigh3 ((b - 224) * 64 + (d - 128)))
    × ((k : ℕ) → IsHigh3 k → b ≡ 224 + k / 64 → (low ≤ 128 + k % 64) × (128 + k % 64 ≤ high))

scalar_three : (c k : ℕ) → k ≡ c / 64 → IsHigh3 k → scalar c ≡ true
scalar_three c k e h = by_side h.2
  where
    by_side : (k < 864) ⊎ (896 ≤ k) → scalar c ≡ true
    by_side (inl s) = low_scalar c (omega arith)
    by_side (inr s) = let most : k < 1024 = h.1 in high_scalar c (omega arith) (omega arith)

high_of : (c k : ℕ) → k ≡ c / 64 → 2048 ≤ c → c < 65536 → (c < 55296) ⊎ (57344 ≤ c) → IsHigh3 k
high_of c k e lo hi (inl s) = (omega arith, omega arith, inl (omega arith))
high_of c k e lo hi (inr s) = (omega arith, omega arith, inr (omega arith))

three_text : (b low high : ℕ) → 224 ≤ b → b ≤ 239 → Seconds3 b low high → (x : List ℕ) → Follows 2 low high x → IsUtf8 (b ∷ x)
three_text b low high lo hi seconds [] f = absurd f
three_text b low high lo hi seconds (d ∷ []) f = absurd f.2
three_text b low high lo hi seconds (d ∷ t ∷ x) f =
    let h = seconds.0 d f.0 f.1 in
    let k : ℕ = (b - 224) * 64 + (d - 128) in
    let c : ℕ = k * 64 + (t - 128) in
    let dl : 128 ≤ d = h.0 in
    let dh : d ≤ 191 = h.1 in
    let kl : 32 ≤ k = h.2.0 in
    let tl : 128 ≤ t = f.2.0 in
    let th : t ≤ 191 = f.2.1 in
    let whole : k ≡ c / 64 = omega arith in
    let first : 224 + c / 4096 ≡ b = omega arith in
    let second : 128 + c / 64 % 64 ≡ d = omega arith in
    let third : 128 + c % 64 ≡ t = omega arith in
    from_char c (b ∷ d ∷ t ∷ []) x (encode_three c (omega arith) (omega arith) ∙ (λ i. first i ∷ second i ∷ third i ∷ [])) (scalar_three c k whole h.2) f.2.2

pub first_of_three : (b low high : ℕ) → 224 ≤ b → b ≤ 239 → Seconds3 b low high → (x : List ℕ) → Follows 2 low high x ↔ IsUtf8 (b ∷ x)
first_of_three b low high lo hi seconds x = (
  three_text b low high lo hi seconds x,
  λ text. read_first (Follows 2 low high x) b x text
      (λ c lt e u. absurd (omega arith))
      (λ c y p q e xe u. absurd (omega arith))
      (λ c y p q sides e xe u.
      let k : ℕ = c / 64 in
      let fine : b ≡ 224 + k / 64 = omega arith in
      let s = seconds.1 k (high_of c k refl p q sides) fine in
      let t : (128 ≤ 128 + c % 64) × (128 + c % 64 ≤ 191) = (omega arith, omega arith) in
      subst (Follows 2 low high) (sym xe) (s.0, s.1, (t.0, t.1, u)))
      (λ c y p q e xe u. absurd (omega arith)),
)

abbrev pub Seconds4 : ℕ → ℕ → ℕ → Type 0
Seconds4 b low high =
    ((d : ℕ) → low ≤ d → d ≤ high → (128 ≤ d) × (d ≤ 191) × (16 ≤ (b - 240) * 64 + (d - 128)) × ((b - 240) * 64 + (d - 128) < 272))
    × ((k : ℕ) → 16 ≤ k → k < 272 → b ≡ 240 + k / 64 → (low ≤ 128 + k % 64) × (128 + k % 64 ≤ high))

four_text : (b low high : ℕ) → 240 ≤ b → b ≤ 244 → Seconds4 b low high → (x : List ℕ) → Follows 3 low high x → IsUtf8 (b ∷ x)
four_text b low high lo hi seconds [] f = absurd f
four_text b low high lo hi seconds (d ∷ []) f = absurd f.2
four_text b low high lo hi seconds (d ∷ t ∷ []) f = absurd f.2.2
four_text b low high lo hi seconds (d ∷ t ∷ l ∷ x) f =
    let h = seconds.0 d f.0 f.1 in
    let k : ℕ = (b - 240) * 64 + (d - 128) in
    let c : ℕ = k * 4096 + (t - 128) * 64 + (l - 128) in
    let dl : 128 ≤ d = h.0 in
    let dh : d ≤ 191 = h.1 in
    let tl : 128 ≤ t = f.2.0 in
    let th : t ≤ 191 = f.2.1 in
    let ll : 128 ≤ l = f.2.2.0 in
    let lh : l ≤ 191 = f.2.2.1 in
    let kl : 16 ≤ k = h.2 in
    let kh : k < 272 = h.3 in
    let first : 240 + c / 262144 ≡ b = omega arith in
    let second : 128 + c / 4096 % 64 ≡ d = omega arith in
    let third : 128 + c / 64 % 64 ≡ t = omega arith in
    let last : 128 + c % 64 ≡ l = omega arith in
    from_char c (b ∷ d ∷ t ∷ l ∷ []) x (encode_four c (omega arith) ∙ (λ i. first i ∷ second i ∷ third i ∷ last i ∷ [])) (high_scalar c (omega arith) (omega arith)) f.2.2.2

pub first_of_four : (b low high : ℕ) → 240 ≤ b → b ≤ 244 → Seconds4 b low high → (x : List ℕ) → Follows 3 low high x ↔ IsUtf8 (b ∷ x)
first_of_four b low high lo hi seconds x = (
  four_text b low high lo hi seconds x,
  λ text. read_first (Follows 3 low high x) b x text
      (λ c lt e u. absurd (omega arith))
      (λ c y p q e xe u. absurd (omega arith))
      (λ c y p q sides e xe u. absurd (omega arith))
      (λ c y p q e xe u.
      let k : ℕ = c / 4096 in
      let fine : b ≡ 240 + k / 64 = omega arith in
      let s = seconds.1 k (omega arith) (omega arith) fine in
      let t : (128 ≤ 128 + c / 64 % 64) × (128 + c / 64 % 64 ≤ 191) = (omega arith, omega arith) in
      let l : (128 ≤ 128 + c % 64) × (128 + c % 64 ≤ 191) = (omega arith, omega arith) in
      subst (Follows 3 low high) (sym xe) (s.0, s.1, (t.0, t.1, (l.0, l.1, u)))),
)

-- ---- table 3-7: which second bytes a first byte has

pub seconds_e0 : Seconds3 224 160 191
seconds_e0 = (λ d p q. (omega arith, omega arith, (omega arith, omega arith, inl (omega arith))), λ k h e. let low : 32 ≤ k = h.0 in (omega arith, omega arith))

no_surrogate : (k : ℕ) → 237 ≡ 224 + k / 64 → (k < 864) ⊎ (896 ≤ k) → 128 + k % 64 ≤ 159
no_surrogate k e (inl s) = omega arith
no_surrogate k e (inr s) = absurd (omega arith)

pub seconds_ed : Seconds3 237 128 159
seconds_ed = (λ d p q. (omega arith, omega arith, (omega arith, omega arith, inl (omega arith))), λ k h e. (omega arith, no_surrogate k e h.2))

sides : (b d : ℕ) → 225 ≤ b → b ≤ 239 → (b ≡ 237 → ⊥) → 128 ≤ d → d ≤ 191 → ((b - 224) * 64 + (d - 128) < 864) ⊎ (896 ≤ (b - 224) * 64 + (d - 128))
sides b d lo hi not p q =
    elim (cases_lt b 237) [
      | inl low ↦ inl (omega arith)
      | inr high ↦ inr (let above : 238 ≤ b = by_not high in omega arith)
    ]
  where
    by_not : 237 ≤ b → 238 ≤ b
    by_not h = omega (arith, not)

pub seconds_rest : (b : ℕ) → 225 ≤ b → b ≤ 239 → (b ≡ 237 → ⊥) → Seconds3 b 128 191
seconds_rest b lo hi not =
    (λ d p q. (p, q, (omega arith, omega arith, sides b d lo hi not p q)), λ k h e. (omega arith, omega arith))

pub seconds_f0 : Seconds4 240 144 191
seconds_f0 = (λ d p q. (omega arith, omega arith, omega arith, omega arith), λ k p q e. (omega arith, omega arith))

pub seconds_f1 : (b : ℕ) → 241 ≤ b → b ≤ 243 → Seconds4 b 128 191
seconds_f1 b lo hi = (λ d p q. (p, q, omega arith, omega arith), λ k p q e. (omega arith, omega arith))

pub seconds_f4 : Seconds4 244 128 143
seconds_f4 = (λ d p q. (omega arith, omega arith, omega arith, omega arith), λ k p q e. (omega arith, omega arith))
