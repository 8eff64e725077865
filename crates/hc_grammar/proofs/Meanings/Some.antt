-- Each grammar has something.
use Rattle.std.proofs.Common.{◌≡◌, inl, Bool, true, false, List, [], ◌∷◌, ◌++◌, refl}
use Rattle.std.proofs.lemmas.Bool.{and_parts}
use Rattle.hc_grammar.specs.Lexemes.{Lexeme}
use Rattle.hc_grammar.specs.Marks.{Mark, At, Opens, Closes, Begins}
use Rattle.hc_grammar.specs.Grammar.{Grammar, Nothing, One, Word, Level, Both, Depending, Made, Choice, Chain, Phased, Within, Begin, Place}
use Rattle.hc_grammar.specs.First.{is_clear_by_one}
use Rattle.hc_grammar.specs.Has.{Phrase, chosen, has}
use Rattle.hc_grammar.proofs.Terminals.Values.{some_meaning}

pub record HasSome {A : Type 0} (P : A → Phrase) : Type 0 where
  pub value : A
  pub marks : List Mark
  pub is : P value marks

pub some_chosen : {A : Type 0} (test : Bool) (P Q : A → Phrase) → HasSome P → HasSome Q → HasSome (chosen test P Q)
some_chosen true P Q one other = record { value = one.value; marks = one.marks; is = one.is }
some_chosen false P Q one other = record { value = other.value; marks = other.marks; is = other.is }

module _ (W : (A : Type 0) → Place A → A → Phrase) (placed : (A : Type 0) (place : Place A) → HasSome (W A place)) where
  pub some : {A : Type 0} (g : Grammar A) → is_clear_by_one g ≡ true → HasSome (has W g)
  unfolding has
  some (Nothing y) clear = record { value = y; marks = []; is = (refl, refl) }
  some (One label terminal) clear =
      let m = some_meaning terminal clear in
      record { value = m.1; marks = At label m.0 ∷ []; is = (m.0, refl, m.2) }
  some (Word label kind g) clear =
      let s = some g (and_parts _ (is_clear_by_one g) clear).1 in
      let t : Lexeme = record { kind = kind; text = [] } in
      record { value = s.value; marks = At label t ∷ s.marks; is = (t, s.marks, refl, refl, s.is) }
  some (Level kind g) clear =
      let s = some g (and_parts _ (is_clear_by_one g) clear).1 in
      let t : Lexeme = record { kind = kind; text = [] } in
      record { value = s.value; marks = Opens t ∷ s.marks ++ Closes ∷ []; is = (t, s.marks, refl, refl, s.is) }
  some (Both f g h) clear =
      let one = and_parts (is_clear_by_one g) _ clear in
      let two = and_parts (is_clear_by_one h) _ one.1 in
      let a = some g one.0 in
      let b = some h two.0 in
      record { value = f a.value b.value; marks = a.marks ++ b.marks; is = (a.value, b.value, refl, (a.marks, b.marks, refl, a.is, b.is)) }
  some (Depending f g test h k) clear =
      let one = and_parts (is_clear_by_one g) _ clear in
      let two = and_parts (is_clear_by_one h) _ one.1 in
      let three = and_parts (is_clear_by_one k) _ two.1 in
      let a = some g one.0 in
      let b = some_chosen (test a.value) (has W h) (has W k) (some h two.0) (some k three.0) in
      record { value = f a.value b.value; marks = a.marks ++ b.marks; is = (a.value, b.value, refl, (a.marks, b.marks, refl, a.is, b.is)) }
  some (Made f g) clear = let s = some g clear in record { value = f s.value; marks = s.marks; is = (s.value, refl, s.is) }
  some (Choice g h) clear = let s = some g (and_parts (is_clear_by_one g) _ clear).0 in record { value = s.value; marks = s.marks; is = inl s.is }
  some (Chain g h join) clear =
      let s = some g (and_parts (is_clear_by_one g) _ clear).0 in
      record { value = s.value; marks = s.marks ++ []; is = (s.value, [], refl, (s.marks, [], refl, s.is, refl)) }
  some (Phased g test h k join) clear =
      let s = some g (and_parts (is_clear_by_one g) _ clear).0 in
      record { value = s.value; marks = s.marks ++ []; is = (s.value, [], refl, (s.marks, [], refl, s.is, refl)) }
  some (Within {A} place) clear = placed A place
  some (Begin g) clear =
      let s = some g (and_parts (is_clear_by_one g) _ clear).0 in
      record { value = s.value; marks = Begins ∷ s.marks; is = (s.marks, refl, s.is) }
