-- A row's values with bars between them: the first, and then each other with a bar in front.
use Rattle.std.proofs.Common.{◌≡◌, ◌∙◌, ap, ℕ, ◌≤◌, List, [], ◌∷◌, ◌++◌, length, take, map, flat_map, sym, append_assoc}
use Rattle.std.proofs.lemmas.List.{append-nil, take_all}
use Rattle.std.specs.List.{join_with_byte}
use Rattle.hc_value.specs.declared.value.Value.{Value}
use Rattle.hc_transcript.specs.Literals.{value_text}

-- a value with a bar in front
abbrev pub after_bar : Value → List ℕ
after_bar value = 124 ∷ value_text value

-- values with bars between them are the first, and each other with a bar in front
join_cons : (value : Value) (values : List Value) → join_with_byte 124 (map value_text (value ∷ values)) ≡ value_text value ++ flat_map after_bar values
join_cons value [] = sym (append-nil (value_text value))
join_cons value (next ∷ values) = ap (λ (l : List ℕ). value_text value ++ 124 ∷ l) (join_cons next values)

-- what is written after the first value and as many others as there are
pub row_written : (out mid new : List ℕ) (values others : List Value) (first : Value) (n : ℕ) → values ≡ first ∷ others → mid ≡ out ++ value_text first → new ≡ mid ++ flat_map after_bar (take n others) → length others ≤ n
    → new ≡ out ++ join_with_byte 124 (map value_text values)
row_written out mid new values others first n are begun goes_on all =
    goes_on
    ∙ ap (λ (l : List Value). mid ++ flat_map after_bar l) (take_all n others all)
    ∙ ap (λ (l : List ℕ). l ++ flat_map after_bar others) begun
    ∙ append_assoc out (value_text first) (flat_map after_bar others)
    ∙ ap (λ (l : List ℕ). out ++ l) (sym (join_cons first others))
    ∙ ap (λ (l : List Value). out ++ join_with_byte 124 (map value_text l)) (sym are)
