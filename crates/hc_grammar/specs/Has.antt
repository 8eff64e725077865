-- What a grammar has: these marks, with this meaning.
use Rattle.std.specs.Prelude.{◌≡◌, ◌⊎◌, Bool, true, false, List, [], ◌∷◌, ◌++◌}
use Rattle.hc_grammar.specs.Lexemes.{Lexeme}
use Rattle.hc_grammar.specs.Marks.{Mark, At, Closes, Begins, Opens}
use Rattle.hc_grammar.specs.Terminals.{Means}
use Rattle.hc_grammar.specs.Grammar.{Grammar, Nothing, One, Word, Level, Both, Depending, Made, Choice, Chain, Phased, Within, Begin, Place}

-- what marks may be
abbrev pub Phrase : Type 1
Phrase = List Mark → Type 0

infixr 3 ◌⨾◌
-- one after the other
abbrev pub ◌⨾◌ : Phrase → Phrase → Phrase
(P ⨾ Q) marks = (front rest : List Mark) × (marks ≡ front ++ rest) × P front × Q rest

-- the first where the test holds, and else the second
abbrev pub chosen : {A : Type 0} → Bool → (A → Phrase) → (A → Phrase) → A → Phrase
chosen true P Q x marks = P x marks
chosen false P Q x marks = Q x marks

-- a value to which parts are joined, one after the other
abbrev pub folded : {A B : Type 0} → (B → A → B) → B → List A → B
folded join first [] = first
folded join first (x ∷ xs) = folded join (join first x) xs

-- parts, one after the other, each of which may depend on the value before it
abbrev pub Parts : {A B : Type 0} → (B → A → Phrase) → (B → A → B) → B → List A → Phrase
Parts Part join value [] marks = marks ≡ []
Parts Part join value (x ∷ xs) marks = (Part value x ⨾ Parts Part join (join value x) xs) marks

-- a first value, and parts joined to it
abbrev pub Chained : {A B : Type 0} → (B → Phrase) → (B → A → Phrase) → (B → A → B) → B → Phrase
Chained {A} {B} Start Part join x marks =
    (first : B) × (parts : List A) × (x ≡ folded join first parts) × (Start first ⨾ Parts Part join first parts) marks

-- `W` says what the places have.
unfoldable pub has : ((A : Type 0) → Place A → A → Phrase) → {A : Type 0} → Grammar A → A → Phrase
has W (Nothing y) x marks = (marks ≡ []) × (x ≡ y)
has W (One label terminal) x marks = (t : Lexeme) × (marks ≡ At label t ∷ []) × Means terminal x t
has W (Word label kind g) x marks = (t : Lexeme) × (rest : List Mark) × (marks ≡ At label t ∷ rest) × (t.kind ≡ kind) × has W g x rest
has W (Level kind g) x marks = (t : Lexeme) × (rest : List Mark) × (marks ≡ Opens t ∷ rest ++ Closes ∷ []) × (t.kind ≡ kind) × has W g x rest
has W (Both {A} {B} f g h) x marks = (a : A) × (b : B) × (x ≡ f a b) × (has W g a ⨾ has W h b) marks
has W (Depending {A} {B} f g test h k) x marks = (a : A) × (b : B) × (x ≡ f a b) × (has W g a ⨾ chosen (test a) (has W h) (has W k) b) marks
has W (Made {A} f g) x marks = (a : A) × (x ≡ f a) × has W g a marks
has W (Choice g h) x marks = has W g x marks ⊎ has W h x marks
has W (Chain g h join) x marks = Chained (has W g) (λ value. has W h) join x marks
has W (Phased g test h k join) x marks = Chained (has W g) (λ value. chosen (test value) (has W h) (has W k)) join x marks
has W (Within {A} place) x marks = W A place x marks
has W (Begin g) x marks = (rest : List Mark) × (marks ≡ Begins ∷ rest) × has W g x rest
