-- The reader within limits reads what the other one reads, up to the first lexeme for which there is no room.
use Rattle.std.proofs.Common.{◌≡◌, ◌⊎◌, inl, inr, ap, ◌∙◌, ℕ, zero, suc, ◌-◌, ◌<◌, ◌≤◌, Bool, true, false, ◌&&◌, List, [], ◌∷◌, ◌++◌, length, Option, Some, None, Result, Ok, Err, refl, sym, subst, arith, append-nil}
use Rattle.std.specs.Prelude.{if◌then◌else◌}
use Rattle.std.proofs.lemmas.Bool.{and_parts}
use Rattle.hc_lex.specs.declared.token.TokenKind.{TokenKind}
use Rattle.hc_grammar.specs.Lexemes.{Lexeme}
use Rattle.hc_grammar.specs.Kinds.{is, among, head_is}
use Rattle.hc_grammar.specs.Marks.{Label, Plain, Operator, Table, Mark, At, Opens, Closes, Begins, Limits, lexemes, is_over, after}
use Rattle.hc_grammar.specs.Terminals.{value_of}
use Rattle.hc_grammar.specs.Grammar.{Grammar, Nothing, One, Word, Level, Both, Depending, Made, Choice, Chain, Phased, Within, Begin, Place, is_guarded}
use Rattle.hc_grammar.specs.First.{first, is_clear_by_one}
use Rattle.hc_grammar.specs.Has.{Phrase, chosen, has}
use Rattle.hc_grammar.specs.Reads as reads
use Rattle.hc_grammar.specs.Reads.{Read, Reader, put, read}
use Rattle.hc_grammar.specs.Runs as runs
use Rattle.hc_grammar.specs.Runs.{Budget, Stop, Unexpected, TooDeep, Run, Runner, run}
use Rattle.hc_grammar.proofs.Meanings.Marks.{lexemes-append, lexemes-before}
use Rattle.hc_grammar.proofs.Meanings.Spending.{spend, spend_on, spend-append, IsBalanced, balanced}
use Rattle.hc_grammar.proofs.Meanings.Some.{HasSome}
use Rattle.hc_grammar.proofs.Meanings.Sound.{IsSound, IsGathered, sound_gather, sound_chosen, sound}

-- what may come, with so many levels
abbrev pub room : ℕ → Budget → Limits
room levels budget = record { levels = levels; operators = budget.operators; tables = budget.tables }

abbrev pub budget_of : Limits → Budget
budget_of left = record { operators = left.operators; tables = left.tables }

-- why there is no room for a mark
abbrev pub why : List Mark → Stop
why [] = Unexpected
why (At Plain t ∷ marks) = Unexpected
why (At Operator t ∷ marks) = TooDeep
why (At Table t ∷ marks) = Unexpected
why (Opens t ∷ marks) = TooDeep
why (Closes ∷ marks) = Unexpected
why (Begins ∷ marks) = Unexpected

-- what is answered where there is room, and where there is none
abbrev pub cut_at : {A : Type 0} → Result Limits (List Mark) → List Lexeme → (Limits → Run A) → Run A
cut_at (Ok left) rest next = next left
cut_at (Err over) rest next = Err (why over, lexemes over ++ rest)

-- an answer within limits
abbrev pub cut : {A : Type 0} → Limits → Limits → Read A → Run A
cut all left (Ok x) = cut_at (spend all left x.1) x.2 (λ l. Ok (x.0, budget_of l, x.2))
cut all left (Err stop) = cut_at (spend all left stop.0) stop.1 (λ l. Err (Unexpected, stop.1))

-- no token is lost
abbrev IsKept : {A : Type 0} → List Lexeme → Read A → Type 0
IsKept tokens (Ok x) = tokens ≡ lexemes x.1 ++ x.2
IsKept tokens (Err stop) = tokens ≡ lexemes stop.0 ++ stop.1

kept : {A : Type 0} (P : A → Phrase) (tokens : List Lexeme) (r : Read A) → IsSound P tokens r → IsKept tokens r
kept P tokens (Ok x) h = h.0
kept P tokens (Err stop) h = h.0

-- each level that is opened is closed
abbrev IsLevel : {A : Type 0} → Limits → Read A → Type 0
IsLevel all (Ok x) = IsBalanced all x.1
IsLevel all (Err stop) = Unit {0}

level : {A : Type 0} (all : Limits) (P : A → Phrase) (tokens : List Lexeme) (r : Read A) → ((x : A) (marks : List Mark) → P x marks → IsBalanced all marks) → IsSound P tokens r → IsLevel all r
level all P tokens (Ok x) each h = each x.0 x.1 h.1
level all P tokens (Err stop) each h = tt {0}

-- marks for which there is no room, with others after them
why_on : (all left : Limits) (marks over more : List Mark) → spend all left marks ≡ Err over → why (over ++ more) ≡ why over
why_on all left [] over more e = absurd (cc)
why_on all left (m ∷ marks) over more e = by (is_over left m) (λ i. why_on all (after all left m) marks over more i) e
  where
    first : (m : Mark) (marks more : List Mark) → why (m ∷ marks ++ more) ≡ why (m ∷ marks)
    first (At Plain t) marks more = refl
    first (At Operator t) marks more = refl
    first (At Table t) marks more = refl
    first (Opens t) marks more = refl
    first Closes marks more = refl
    first Begins marks more = refl

    same : (x y : List Mark) → (let r : Result Limits (List Mark) = Err x in r ≡ Err y) → x ≡ y
    same x y e = cc

    by : (test : Bool) → (spend all (after all left m) marks ≡ Err over → why (over ++ more) ≡ why over) → (if test then Err (m ∷ marks) else spend all (after all left m) marks) ≡ Err over
        → why (over ++ more) ≡ why over
    by true ih e = subst (λ (o : List Mark). why (o ++ more) ≡ why o) (same (m ∷ marks) over e) (first m marks more)
    by false ih e = ih e

-- marks before an answer
cut_put : {A : Type 0} (all left : Limits) (marks : List Mark) (tokens : List Lexeme) (r : Read A) → IsKept tokens r
    → cut all left (put marks r) ≡ cut_at (spend all left marks) tokens (λ l. cut all l r)
cut_put {A} all left marks tokens (Ok x) k = ap (λ s. cut_at s x.2 (λ l. Ok (x.0, budget_of l, x.2))) (spend-append all left marks x.1) ∙ by (spend all left marks) refl
  where
    by : (s : Result Limits (List Mark)) → spend all left marks ≡ s
        → (let y : Run A = cut_at (spend_on all s x.1) x.2 (λ l. Ok (x.0, budget_of l, x.2)) in y ≡ cut_at s tokens (λ l. cut all l (Ok x)))
    by (Ok l) e = refl
    by (Err over) e =
        ap (λ w. Err (w, lexemes (over ++ x.1) ++ x.2)) (why_on all left marks over x.1 e)
        ∙ ap (λ (t : List Lexeme). Err (why over, t)) (lexemes-before over x.1 x.2 ∙ ap (λ (t : List Lexeme). lexemes over ++ t) (sym k))
cut_put {A} all left marks tokens (Err x) k = ap (λ s. cut_at s x.1 (λ l. Err (Unexpected, x.1))) (spend-append all left marks x.0) ∙ by (spend all left marks) refl
  where
    by : (s : Result Limits (List Mark)) → spend all left marks ≡ s
        → (let y : Run A = cut_at (spend_on all s x.0) x.1 (λ l. Err (Unexpected, x.1)) in y ≡ cut_at s tokens (λ l. cut all l (Err x)))
    by (Ok l) e = refl
    by (Err over) e =
        ap (λ w. Err (w, lexemes (over ++ x.0) ++ x.1)) (why_on all left marks over x.0 e)
        ∙ ap (λ (t : List Lexeme). Err (why over, t)) (lexemes-before over x.0 x.1 ∙ ap (λ (t : List Lexeme). lexemes over ++ t) (sym k))

-- one after the other
cut_then : {A C : Type 0} (all : Limits) (levels : ℕ) (budget : Budget) (r : Read A) (next : A → Reader C) (s : Run A) (on : A → Runner C) → s ≡ cut all (room levels budget) r → IsLevel all r
    → ((a : A) (rest : List Lexeme) → IsKept rest (next a rest)) → ((a : A) (left : Budget) (rest : List Lexeme) → on a left rest ≡ cut all (room levels left) (next a rest))
    → runs.and_then s on ≡ cut all (room levels budget) (reads.and_then r next)
cut_then {C = C} all levels budget (Ok x) next s on is flat keeps each =
    ap (λ (y : Run _). runs.and_then y on) is ∙ by (spend all (room levels budget) x.1) refl ∙ sym (cut_put all (room levels budget) x.1 x.2 (next x.0 x.2) (keeps x.0 x.2))
  where
    by : (t : Result Limits (List Mark)) → spend all (room levels budget) x.1 ≡ t
        → (let y : Run C = runs.and_then (cut_at t x.2 (λ l. Ok (x.0, budget_of l, x.2))) on in y ≡ cut_at t x.2 (λ l. cut all l (next x.0 x.2)))
    by (Ok l) e =
        each x.0 (budget_of l) x.2 ∙ ap (λ n. cut all (room n (budget_of l)) (next x.0 x.2)) (sym (flat (room levels budget) l e))
    by (Err over) e = refl
cut_then {C = C} all levels budget (Err x) next s on is flat keeps each = ap (λ (y : Run _). runs.and_then y on) is ∙ by (spend all (room levels budget) x.0)
  where
    by : (t : Result Limits (List Mark)) → (let y : Run C = runs.and_then (cut_at t x.1 (λ l. Err (Unexpected, x.1))) on in y ≡ cut_at t x.1 (λ l. Err (Unexpected, x.1)))
    by (Ok l) = refl
    by (Err over) = refl

cut_made : {A B : Type 0} (all left : Limits) (f : A → B) (r : Read A) → runs.made f (cut all left r) ≡ cut all left (reads.made f r)
cut_made {B = B} all left f (Ok x) = by (spend all left x.1)
  where
    by : (t : Result Limits (List Mark)) → (let y : Run B = runs.made f (cut_at t x.2 (λ l. Ok (x.0, budget_of l, x.2))) in y ≡ cut_at t x.2 (λ l. Ok (f x.0, budget_of l, x.2)))
    by (Ok l) = refl
    by (Err over) = refl
cut_made {B = B} all left f (Err x) = by (spend all left x.0)
  where
    by : (t : Result Limits (List Mark)) → (let y : Run B = runs.made f (cut_at t x.1 (λ l. Err (Unexpected, x.1))) in y ≡ cut_at t x.1 (λ l. Err (Unexpected, x.1)))
    by (Ok l) = refl
    by (Err over) = refl

-- a lexeme that is counted, and what follows
cut_passed : {A : Type 0} (all : Limits) (levels : ℕ) (label : Label) (operators tables : ℕ) (t : Lexeme) (rest : List Lexeme) (next : Budget → Run A) (r : Read A) → IsKept rest r
    → ((left : Budget) → next left ≡ cut all (room levels left) r)
    → (let budget : Budget = record { operators = operators; tables = tables } in runs.passed label next budget (t ∷ rest) ≡ cut all (room levels budget) (put (At label t ∷ []) r))
cut_passed all levels Plain operators tables t rest next r k each =
    let budget : Budget = record { operators = operators; tables = tables } in each budget ∙ sym (cut_put all (room levels budget) (At Plain t ∷ []) rest r k)
cut_passed all levels Operator zero tables t rest next r k each =
    sym (cut_put all (record { levels = levels; operators = 0; tables = tables }) (At Operator t ∷ []) rest r k)
cut_passed all levels Operator (suc n) tables t rest next r k each =
    each (record { operators = suc n - 1; tables = tables }) ∙ sym (cut_put all (record { levels = levels; operators = suc n; tables = tables }) (At Operator t ∷ []) rest r k)
cut_passed all levels Table operators zero t rest next r k each =
    sym (cut_put all (record { levels = levels; operators = operators; tables = 0 }) (At Table t ∷ []) rest r k)
cut_passed all levels Table operators (suc n) t rest next r k each =
    each (record { operators = operators; tables = suc n - 1 }) ∙ sym (cut_put all (record { levels = levels; operators = operators; tables = suc n }) (At Table t ∷ []) rest r k)

cut_one : {A : Type 0} (all : Limits) (levels : ℕ) (label : Label) (get : Lexeme → Option A) (budget : Budget) (tokens : List Lexeme)
    → runs.one label get budget tokens ≡ cut all (room levels budget) (reads.one label get tokens)
cut_one all levels label get budget [] = refl
cut_one {A} all levels label get budget (t ∷ rest) = by (get t)
  where
    by : (o : Option A) → runs.got label o budget (t ∷ rest) ≡ cut all (room levels budget) (reads.got label t rest o)
    by None = refl
    by (Some x) =
        let r : Read A = Ok (x, [], rest) in
        cut_passed all levels label budget.operators budget.tables t rest (λ left. Ok (x, left, rest)) r refl (λ left. refl)

cut_word : {A : Type 0} (all : Limits) (levels : ℕ) (label : Label) (kind : TokenKind) (on : Runner A) (next : Reader A) (budget : Budget) (tokens : List Lexeme)
    → ((rest : List Lexeme) → IsKept rest (next rest)) → ((left : Budget) (rest : List Lexeme) → on left rest ≡ cut all (room levels left) (next rest))
    → runs.word label kind on budget tokens ≡ cut all (room levels budget) (reads.word (At label) kind next tokens)
cut_word all levels label kind on next budget [] keeps each = refl
cut_word {A} all levels label kind on next budget (t ∷ rest) keeps each = by (is kind t)
  where
    by : (test : Bool)
        → (if test then runs.passed label (λ left. on left rest) budget (t ∷ rest) else Err (Unexpected, t ∷ rest))
        ≡ cut all (room levels budget) (if test then put (At label t ∷ []) (next rest) else Err ([], t ∷ rest))
    by true = cut_passed all levels label budget.operators budget.tables t rest (λ left. on left rest) (next rest) (keeps rest) (λ left. each left rest)
    by false = refl

-- what closes a level takes nothing
cut_closed : {A : Type 0} (all left : Limits) (r : Read A) → cut all left (reads.closed r) ≡ cut all left r
cut_closed {A} all left (Ok x) = ap (λ s. cut_at s x.2 (λ l. Ok (x.0, budget_of l, x.2))) (spend-append all left x.1 (Closes ∷ [])) ∙ by (spend all left x.1) refl
  where
    by : (s : Result Limits (List Mark)) → spend all left x.1 ≡ s
        → (let y : Run A = cut_at (spend_on all s (Closes ∷ [])) x.2 (λ l. Ok (x.0, budget_of l, x.2)) in y ≡ cut_at s x.2 (λ l. Ok (x.0, budget_of l, x.2)))
    by (Ok l) e = refl
    by (Err over) e =
        ap (λ w. Err (w, lexemes (over ++ Closes ∷ []) ++ x.2)) (why_on all left x.1 over (Closes ∷ []) e)
        ∙ ap (λ (t : List Lexeme). Err (why over, t ++ x.2)) (lexemes-append over (Closes ∷ []) ∙ append-nil (lexemes over))
cut_closed all left (Err x) = refl

kept_closed : {A : Type 0} (tokens : List Lexeme) (r : Read A) → IsKept tokens r → IsKept tokens (reads.closed r)
kept_closed tokens (Ok x) k = k ∙ ap (λ (t : List Lexeme). t ++ x.2) (sym (lexemes-append x.1 (Closes ∷ []) ∙ append-nil (lexemes x.1)))
kept_closed tokens (Err x) k = k

cut_opened : {A : Type 0} (all : Limits) (levels : ℕ) (kind : TokenKind) (on : ℕ → Runner A) (next : Reader A) (budget : Budget) (tokens : List Lexeme)
    → ((rest : List Lexeme) → IsKept rest (next rest)) → ((n : ℕ) → levels ≡ suc n → (left : Budget) (rest : List Lexeme) → on (suc n - 1) left rest ≡ cut all (room (suc n - 1) left) (next rest))
    → runs.opened levels kind on budget tokens ≡ cut all (room levels budget) (reads.word Opens kind (λ rest. reads.closed (next rest)) tokens)
cut_opened all levels kind on next budget [] keeps each = refl
cut_opened {A} all levels kind on next budget (t ∷ rest) keeps each = by (is kind t) levels refl
  where
    by : (test : Bool) (n : ℕ) → levels ≡ n
        → (if test then runs.taken n (Err (TooDeep, t ∷ rest)) (on (n - 1) budget rest) else Err (Unexpected, t ∷ rest))
        ≡ cut all (room n budget) (if test then put (Opens t ∷ []) (reads.closed (next rest)) else Err ([], t ∷ rest))
    by true zero e = sym (cut_put all (room 0 budget) (Opens t ∷ []) rest (reads.closed (next rest)) (kept_closed rest (next rest) (keeps rest)))
    by true (suc n) e =
        each n e budget rest ∙ sym (cut_closed all (room (suc n - 1) budget) (next rest))
        ∙ sym (cut_put all (room (suc n) budget) (Opens t ∷ []) rest (reads.closed (next rest)) (kept_closed rest (next rest) (keeps rest)))
    by false n e = refl

pub cut_by : {A : Type 0} (all left : Limits) (test : Bool) (one other : Run A) (r s : Read A) → one ≡ cut all left r → other ≡ cut all left s → (if test then one else other) ≡ cut all left (if test then r else s)
cut_by all left true one other r s h g = h
cut_by all left false one other r s h g = g

-- parts that are joined, where each part keeps its tokens and closes its levels
cut_gather : {A B : Type 0} (all : Limits) (levels : ℕ) (kinds : List TokenKind) (on : B → Runner A) (part : B → Reader A) (join : B → A → B)
    → ((value : B) (left : Budget) (rest : List Lexeme) → on value left rest ≡ cut all (room levels left) (part value rest)) → ((value : B) (rest : List Lexeme) → IsLevel all (part value rest))
    → ((n : ℕ) (value : B) (rest : List Lexeme) → IsKept rest (reads.gather kinds part join n value rest))
    → (n : ℕ) (value : B) (budget : Budget) (tokens : List Lexeme)
    → runs.gather kinds on join n value budget tokens ≡ cut all (room levels budget) (reads.gather kinds part join n value tokens)
cut_gather all levels kinds on part join each flat keeps zero value budget tokens = refl
cut_gather all levels kinds on part join each flat keeps (suc n) value budget tokens =
    let r : Read _ = Ok (value, [], tokens) in
    cut_by all (room levels budget) (head_is (among kinds) tokens) (runs.and_then (on value budget tokens) (λ x. runs.gather kinds on join n (join value x))) (Ok (value, budget, tokens))
    (reads.and_then (part value tokens) (λ x. reads.gather kinds part join n (join value x))) r
    (cut_then all levels budget (part value tokens) (λ x. reads.gather kinds part join n (join value x)) (on value budget tokens) (λ x. runs.gather kinds on join n (join value x))
    (each value budget tokens) (flat value tokens) (λ a rest. keeps n (join value a) rest) (λ a left rest. cut_gather all levels kinds on part join each flat keeps n (join value a) left rest))
    refl

-- a first value and its parts
cut_chain : {A B : Type 0} (all : Limits) (levels : ℕ) (kinds : List TokenKind) (on : B → Runner A) (part : B → Reader A) (join : B → A → B)
    → ((value : B) (left : Budget) (rest : List Lexeme) → on value left rest ≡ cut all (room levels left) (part value rest)) → ((value : B) (rest : List Lexeme) → IsLevel all (part value rest))
    → ((n : ℕ) (value : B) (rest : List Lexeme) → IsKept rest (reads.gather kinds part join n value rest))
    → (budget : Budget) (s : Run B) (r : Read B) → s ≡ cut all (room levels budget) r → IsLevel all r → runs.chain s kinds on join ≡ cut all (room levels budget) (reads.chain r kinds part join)
cut_chain all levels kinds on part join each flat keeps budget s r is even =
    cut_then all levels budget r (λ value rest. reads.gather kinds part join (length rest) value rest) s (λ value left rest. runs.gather kinds on join (length rest) value left rest) is even
    (λ a rest. keeps (length rest) a rest) (λ a left rest. cut_gather all levels kinds on part join each flat keeps (length rest) a left rest)

kept_made : {A B : Type 0} (f : A → B) (tokens : List Lexeme) (r : Read A) → IsKept tokens r → IsKept tokens (reads.made f r)
kept_made f tokens (Ok x) k = k
kept_made f tokens (Err x) k = k

kept_by : {A : Type 0} (tokens : List Lexeme) (test : Bool) (r s : Read A) → IsKept tokens r → IsKept tokens s → IsKept tokens (if test then r else s)
kept_by tokens true r s h g = h
kept_by tokens false r s h g = g

level_by : {A : Type 0} (all : Limits) (test : Bool) (r s : Read A) → IsLevel all r → IsLevel all s → IsLevel all (if test then r else s)
level_by all true r s h g = h
level_by all false r s h g = g

-- what is referred to is known at fewer levels, and at these too where it is within no level
abbrev pub IsKnown : ℕ → ℕ → Bool → Type 0
IsKnown bound levels guarded = (levels < bound) ⊎ ((guarded ≡ true) × (levels ≤ bound))

known_left : (bound levels : ℕ) (a b : Bool) → IsKnown bound levels (a && b) → IsKnown bound levels a
known_left bound levels a b (inl h) = inl h
known_left bound levels a b (inr h) = inr ((and_parts a b h.0).0, h.1)

known_right : (bound levels : ℕ) (a b : Bool) → IsKnown bound levels (a && b) → IsKnown bound levels b
known_right bound levels a b (inl h) = inl h
known_right bound levels a b (inr h) = inr ((and_parts a b h.0).1, h.1)

known_within : (bound levels n : ℕ) (a b : Bool) → levels ≡ suc n → IsKnown bound levels a → IsKnown bound (suc n - 1) b
known_within bound levels n a b e (inl h) = inl (omega (arith, e, h))
known_within bound levels n a b e (inr h) = inl (omega (arith, e, h.1))

module _ (all : Limits) (W : (A : Type 0) → Place A → A → Phrase) (R : (A : Type 0) → Place A → Reader A) (something : (A : Type 0) (place : Place A) → HasSome (W A place))
    (sound_place : (A : Type 0) (place : Place A) (tokens : List Lexeme) → IsSound (W A place) tokens (R A place tokens))
    (balanced_place : (A : Type 0) (place : Place A) (x : A) (marks : List Mark) → W A place x marks → IsBalanced all marks)
    (RR : ℕ → (A : Type 0) → Place A → Runner A) (bound : ℕ)
    (placed : (levels : ℕ) → levels < bound → (A : Type 0) (place : Place A) (budget : Budget) (tokens : List Lexeme) → RR levels A place budget tokens ≡ cut all (room levels budget) (R A place tokens)) where
  keeps : {A : Type 0} (g : Grammar A) → is_clear_by_one g ≡ true → (tokens : List Lexeme) → IsKept tokens (read R g tokens)
  keeps g clear tokens = kept (has W g) tokens (read R g tokens) (sound W R something sound_place g clear tokens)

  flat : {A : Type 0} (g : Grammar A) → is_clear_by_one g ≡ true → (tokens : List Lexeme) → IsLevel all (read R g tokens)
  flat g clear tokens = level all (has W g) tokens (read R g tokens) (balanced all W balanced_place g) (sound W R something sound_place g clear tokens)

  -- the reader within limits answers the other's answer within the limits
  pub limited : {A : Type 0} (g : Grammar A) → is_clear_by_one g ≡ true → (levels : ℕ) → IsKnown bound levels (is_guarded g) → (budget : Budget) (tokens : List Lexeme)
      → run all.operators RR levels g budget tokens ≡ cut all (room levels budget) (read R g tokens)
  unfolding has read
  limited (Nothing x) clear levels k budget tokens = refl
  limited (One label terminal) clear levels k budget tokens = cut_one all levels label (value_of terminal) budget tokens
  limited (Word label kind g) clear levels k budget tokens =
      let c = (and_parts _ (is_clear_by_one g) clear).1 in
      cut_word all levels label kind (run all.operators RR levels g) (read R g) budget tokens (keeps g c) (limited g c levels k)
  limited (Level kind g) clear levels k budget tokens =
      let c = (and_parts _ (is_clear_by_one g) clear).1 in
      cut_opened all levels kind (λ left. run all.operators RR left g) (read R g) budget tokens (keeps g c)
      (λ n e left rest. limited g c (suc n - 1) (known_within bound levels n true (is_guarded g) e k) left rest)
  limited (Both f g h) clear levels k budget tokens =
      let one = and_parts (is_clear_by_one g) _ clear in
      let two = and_parts (is_clear_by_one h) _ one.1 in
      cut_then all levels budget (read R g tokens) (λ x rest. reads.made (f x) (read R h rest)) (run all.operators RR levels g budget tokens)
      (λ x left rest. runs.made (f x) (run all.operators RR levels h left rest)) (limited g one.0 levels (known_left bound levels (is_guarded g) (is_guarded h) k) budget tokens) (flat g one.0 tokens)
      (λ a rest. kept_made (f a) rest (read R h rest) (keeps h two.0 rest))
      (λ a left rest. ap (runs.made (f a)) (limited h two.0 levels (known_right bound levels (is_guarded g) (is_guarded h) k) left rest) ∙ cut_made all (room levels left) (f a) (read R h rest))
  limited (Depending f g test h i) clear levels k budget tokens =
      let one = and_parts (is_clear_by_one g) _ clear in
      let two = and_parts (is_clear_by_one h) _ one.1 in
      let three = and_parts (is_clear_by_one i) _ two.1 in
      let further = known_right bound levels (is_guarded g) (is_guarded h && is_guarded i) k in
      cut_then all levels budget (read R g tokens) (λ x rest. reads.made (f x) (if test x then read R h rest else read R i rest)) (run all.operators RR levels g budget tokens)
      (λ x left rest. runs.made (f x) (if test x then run all.operators RR levels h left rest else run all.operators RR levels i left rest))
      (limited g one.0 levels (known_left bound levels (is_guarded g) (is_guarded h && is_guarded i) k) budget tokens) (flat g one.0 tokens)
      (λ a rest. kept_made (f a) rest (if test a then read R h rest else read R i rest) (kept_by rest (test a) (read R h rest) (read R i rest) (keeps h two.0 rest) (keeps i three.0 rest)))
      (λ a left rest.
      ap (runs.made (f a)) (cut_by all (room levels left) (test a) (run all.operators RR levels h left rest) (run all.operators RR levels i left rest) (read R h rest) (read R i rest)
      (limited h two.0 levels (known_left bound levels (is_guarded h) (is_guarded i) further) left rest) (limited i three.0 levels (known_right bound levels (is_guarded h) (is_guarded i) further) left rest))
      ∙ cut_made all (room levels left) (f a) (if test a then read R h rest else read R i rest))
  limited (Made f g) clear levels k budget tokens =
      ap (runs.made f) (limited g clear levels k budget tokens) ∙ cut_made all (room levels budget) f (read R g tokens)
  limited (Choice g h) clear levels k budget tokens =
      let one = and_parts (is_clear_by_one g) _ clear in
      let two = and_parts (is_clear_by_one h) _ one.1 in
      cut_by all (room levels budget) (head_is (among (first g)) tokens) (run all.operators RR levels g budget tokens) (run all.operators RR levels h budget tokens) (read R g tokens) (read R h tokens)
      (limited g one.0 levels (known_left bound levels (is_guarded g) (is_guarded h) k) budget tokens) (limited h two.0 levels (known_right bound levels (is_guarded g) (is_guarded h) k) budget tokens)
  limited (Chain g h join) clear levels k budget tokens =
      let one = and_parts (is_clear_by_one g) _ clear in
      let two = and_parts (is_clear_by_one h) _ one.1 in
      cut_chain all levels (first h) (λ value. run all.operators RR levels h) (λ value. read R h) join
      (λ value. limited h two.0 levels (known_right bound levels (is_guarded g) (is_guarded h) k)) (λ value. flat h two.0)
      (λ n value rest. kept (IsGathered (λ v. has W h) join value) rest (reads.gather (first h) (λ v. read R h) join n value rest)
      (sound_gather (first h) (λ v. has W h) (λ v. read R h) join (λ v. sound W R something sound_place h two.0) n value rest))
      budget (run all.operators RR levels g budget tokens) (read R g tokens) (limited g one.0 levels (known_left bound levels (is_guarded g) (is_guarded h) k) budget tokens) (flat g one.0 tokens)
  limited (Phased g test h i join) clear levels k budget tokens =
      let one = and_parts (is_clear_by_one g) _ clear in
      let two = and_parts (is_clear_by_one h) _ one.1 in
      let three = and_parts (is_clear_by_one i) _ two.1 in
      let further = known_right bound levels (is_guarded g) (is_guarded h && is_guarded i) k in
      cut_chain all levels (first h ++ first i) (λ value left rest. if test value then run all.operators RR levels h left rest else run all.operators RR levels i left rest)
      (λ value rest. if test value then read R h rest else read R i rest) join
      (λ value left rest.
      cut_by all (room levels left) (test value) (run all.operators RR levels h left rest) (run all.operators RR levels i left rest) (read R h rest) (read R i rest)
      (limited h two.0 levels (known_left bound levels (is_guarded h) (is_guarded i) further) left rest) (limited i three.0 levels (known_right bound levels (is_guarded h) (is_guarded i) further) left rest))
      (λ value rest. level_by all (test value) (read R h rest) (read R i rest) (flat h two.0 rest) (flat i three.0 rest))
      (λ n value rest. kept (IsGathered (λ v. chosen (test v) (has W h) (has W i)) join value) rest
      (reads.gather (first h ++ first i) (λ v r. if test v then read R h r else read R i r) join n value rest)
      (sound_gather (first h ++ first i) (λ v. chosen (test v) (has W h) (has W i)) (λ v r. if test v then read R h r else read R i r) join
      (λ v r. sound_chosen (has W h) (has W i) r (read R h r) (read R i r) (test v) (sound W R something sound_place h two.0 r) (sound W R something sound_place i three.0 r)) n value rest))
      budget (run all.operators RR levels g budget tokens) (read R g tokens)
      (limited g one.0 levels (known_left bound levels (is_guarded g) (is_guarded h && is_guarded i) k) budget tokens) (flat g one.0 tokens)
  limited (Within {A} place) clear levels (inl k) budget tokens = placed levels k A place budget tokens
  limited (Within {A} place) clear levels (inr k) budget tokens = absurd (let bad = k.0 in cc)
  limited (Begin g) clear levels k budget tokens =
      let one = and_parts (is_clear_by_one g) _ clear in
      limited g one.0 levels k (record budget { operators = all.operators }) tokens ∙ sym (cut_put all (room levels budget) (Begins ∷ []) tokens (read R g tokens) (keeps g one.0 tokens))
