-- What is within quotes is taken out of them.
use Rattle.std.proofs.Common.{◌≡◌, ◌∙◌, ap, ℕ, ◌==◌, List, [], ◌∷◌, ◌++◌, Bool, true, false, Option, Some, None, sym, refl, subst}
use Rattle.std.proofs.lemmas.Bool.{eqb-true, eq-eqb}
use Rattle.std.specs.Prelude.{if◌then◌else◌}
use Rattle.std.specs.List.{flat_map}
use Rattle.hc_text.specs.Quotes.{doubled_one, quoted}
use Rattle.hc_grammar.specs.Terminals.{also, undoubled, unquoted}

-- an option made of another has its value's
pub also_some : {A B : Type 0} (f : A → B) (o : Option A) (y : B) → also f o ≡ Some y → (x : A) × (o ≡ Some x) × (y ≡ f x)
also_some f None y e = absurd (cc)
also_some f (Some x) y e = (x, refl, cc)

-- the values of equal options are equal
pub some_same : {A : Type 0} (x y : A) → (let o : Option A = Some x in o ≡ Some y) → x ≡ y
some_same x y e = cc

-- a text within quotes, after the opening one
abbrev pub closed_text : ℕ → List ℕ → List ℕ
closed_text quote text = flat_map (doubled_one quote) text ++ quote ∷ []

-- a byte that is no quote is itself, before another byte
other_byte : (quote b : ℕ) (tail : List ℕ) → (b == quote) ≡ false → (c : ℕ) → (rest : List ℕ) → tail ≡ c ∷ rest → undoubled quote (b ∷ tail) ≡ also (λ inner. b ∷ inner) (undoubled quote tail)
other_byte quote b tail none c rest is =
    subst (λ (t : List ℕ). undoubled quote (b ∷ t) ≡ also (λ inner. b ∷ inner) (undoubled quote t)) (sym is)
    (ap (λ t. if t then (if c == quote then also (λ inner. b ∷ inner) (undoubled quote rest) else None) else also (λ inner. b ∷ inner) (undoubled quote (c ∷ rest))) none)

-- some byte is first
record HasByte (text : List ℕ) : Type 0 where
  pub head : ℕ
  pub rest : List ℕ
  pub is : text ≡ head ∷ rest

has_byte : (xs : List ℕ) (y : ℕ) → HasByte (xs ++ y ∷ [])
has_byte [] y = record { head = y; rest = []; is = refl }
has_byte (x ∷ xs) y = record { head = x; rest = xs ++ y ∷ []; is = refl }

-- one byte more was doubled
by_byte : (quote b : ℕ) (text : List ℕ) (test : Bool) → (b == quote) ≡ test → undoubled quote (closed_text quote text) ≡ Some text → undoubled quote (closed_text quote (b ∷ text)) ≡ Some (b ∷ text)
by_byte quote b text true is ih =
    ap (λ t. undoubled quote (((if t then b ∷ b ∷ [] else b ∷ []) ++ flat_map (doubled_one quote) text) ++ quote ∷ [])) is
    ∙ ap (λ t. if t then (if t then also (λ inner. b ∷ inner) (undoubled quote (closed_text quote text)) else None) else also (λ inner. b ∷ inner) (undoubled quote (b ∷ closed_text quote text))) is
    ∙ ap (also (λ inner. b ∷ inner)) ih
by_byte quote b text false is ih =
    let h = has_byte (flat_map (doubled_one quote) text) quote in
    ap (λ t. undoubled quote (((if t then b ∷ b ∷ [] else b ∷ []) ++ flat_map (doubled_one quote) text) ++ quote ∷ [])) is
    ∙ other_byte quote b (closed_text quote text) is h.head h.rest h.is
    ∙ ap (also (λ inner. b ∷ inner)) ih

-- what was doubled is found again
pub undoubled_is : (quote : ℕ) (text : List ℕ) → undoubled quote (closed_text quote text) ≡ Some text
undoubled_is quote [] = ap (λ t. if t then Some [] else None) (eq-eqb quote quote refl)
undoubled_is quote (b ∷ text) = by_byte quote b text (b == quote) refl (undoubled_is quote text)

-- what was quoted is found again
pub unquoted_is : (quote : ℕ) (text : List ℕ) → unquoted quote (quoted quote text) ≡ Some text
unquoted_is quote text = ap (λ t. if t then undoubled quote (closed_text quote text) else None) (eq-eqb quote quote refl) ∙ undoubled_is quote text

-- what is found within quotes was doubled there
abbrev FoundFor : ℕ → List ℕ → Type 0
FoundFor quote bytes = (text : List ℕ) → undoubled quote bytes ≡ Some text → bytes ≡ closed_text quote text

-- the last byte is a quote
last_byte : (quote b : ℕ) (test : Bool) → (b == quote) ≡ test → (text : List ℕ) → (if test then Some [] else None) ≡ Some text → b ∷ [] ≡ closed_text quote text
last_byte quote b true is text e = ap (λ (x : ℕ). x ∷ []) (eqb-true b quote is) ∙ ap (closed_text quote) (some_same [] text e)
last_byte quote b false is text e = absurd (cc)

-- two quotes are one, and another byte is itself
a_quote : (quote b c : ℕ) (rest : List ℕ) → FoundFor quote rest → (b == quote) ≡ true → (test : Bool) → (c == quote) ≡ test → (text : List ℕ)
    → (if test then also (λ inner. b ∷ inner) (undoubled quote rest) else None) ≡ Some text → b ∷ c ∷ rest ≡ closed_text quote text
a_quote quote b c rest ih first true second text e =
    let h = also_some (λ (inner : List ℕ). b ∷ inner) (undoubled quote rest) text e in
    let same : c ≡ b = eqb-true c quote second ∙ sym (eqb-true b quote first) in
    ap (λ (x : ℕ). b ∷ x ∷ rest) same
    ∙ ap (λ (l : List ℕ). b ∷ b ∷ l) (ih h.0 h.1)
    ∙ ap (λ t. ((if t then b ∷ b ∷ [] else b ∷ []) ++ flat_map (doubled_one quote) h.0) ++ quote ∷ []) (sym first)
    ∙ ap (closed_text quote) (sym h.2)
a_quote quote b c rest ih first false second text e = absurd (cc)

two_bytes : (quote b c : ℕ) (rest : List ℕ) → FoundFor quote rest → FoundFor quote (c ∷ rest) → (test : Bool) → (b == quote) ≡ test → (text : List ℕ)
    → (if test then (if c == quote then also (λ inner. b ∷ inner) (undoubled quote rest) else None) else also (λ inner. b ∷ inner) (undoubled quote (c ∷ rest))) ≡ Some text
    → b ∷ c ∷ rest ≡ closed_text quote text
two_bytes quote b c rest ih next true is text e = a_quote quote b c rest ih is (c == quote) refl text e
two_bytes quote b c rest ih next false is text e =
    let h = also_some (λ (inner : List ℕ). b ∷ inner) (undoubled quote (c ∷ rest)) text e in
    ap (λ (l : List ℕ). b ∷ l) (next h.0 h.1)
    ∙ ap (λ t. ((if t then b ∷ b ∷ [] else b ∷ []) ++ flat_map (doubled_one quote) h.0) ++ quote ∷ []) (sym is)
    ∙ ap (closed_text quote) (sym h.2)

-- what is found before the closing quote was doubled there
pub undoubled_has : (quote : ℕ) (bytes : List ℕ) → FoundFor quote bytes
undoubled_has quote [] text e = absurd (cc)
undoubled_has quote (b ∷ []) text e = last_byte quote b (b == quote) refl text e
undoubled_has quote (b ∷ c ∷ rest) text e = two_bytes quote b c rest (undoubled_has quote rest) (undoubled_has quote (c ∷ rest)) (b == quote) refl text e

-- what begins with a quote was quoted
first_quote : (quote b : ℕ) (rest : List ℕ) (test : Bool) → (b == quote) ≡ test → (text : List ℕ) → (if test then undoubled quote rest else None) ≡ Some text → b ∷ rest ≡ quoted quote text
first_quote quote b rest true is text e = ap (λ (x : ℕ). x ∷ rest) (eqb-true b quote is) ∙ ap (λ (l : List ℕ). quote ∷ l) (undoubled_has quote rest text e)
first_quote quote b rest false is text e = absurd (cc)

-- what is found within quotes was quoted there
pub unquoted_has : (quote : ℕ) (bytes text : List ℕ) → unquoted quote bytes ≡ Some text → bytes ≡ quoted quote text
unquoted_has quote [] text e = absurd (cc)
unquoted_has quote (b ∷ rest) text e = first_quote quote b rest (b == quote) refl text e
