-- Functions that find where a run, a literal and a comment end, and that they find what the definitions say.
use Rattle.std.proofs.Common.{◌≡◌, ◌≢◌, ◌∙◌, ◌==◌, ◌&&◌, if◌then◌else◌, Bool, true, false, ℕ, List, [], ◌∷◌, ◌++◌, drop, Option, None, Some, refl, sym, ap, append_assoc, arith}
use Rattle.std.proofs.lemmas.Bool.{eq-eqb, eqb-true, false≢true, false_from_ne_true}
use Rattle.std.proofs.lemmas.List.{append-nil}
use Rattle.hc_lex.specs.declared.character.Run.{Run}
use Rattle.hc_lex.specs.Blanks.{HasNoClose}
use Rattle.hc_lex.specs.Characters.{BeginsWith, GoesOn, IsRun, is_in}
use Rattle.hc_text.specs.Quotes.{doubled}

-- whether the bytes begin with this one
abbrev pub begins_byte : ℕ → List ℕ → Bool
begins_byte b [] = false
begins_byte b (first ∷ bytes) = first == b

-- bytes that differ fail the test of equality
pub not_equal : (a b : ℕ) → a ≢ b → (a == b) ≡ false
not_equal a b ne = false_from_ne_true (a == b) (λ e. ne (eqb-true a b e))

-- bytes that do not begin with this one fail the test
pub begins_not : (b : ℕ) (bytes : List ℕ) → ¬ BeginsWith b bytes → begins_byte b bytes ≡ false
begins_not b [] ne = refl
begins_not b (first ∷ bytes) ne = not_equal first b ne

-- the run at the front
abbrev pub run_of : Run → List ℕ → List ℕ
run_of k [] = []
run_of k (b ∷ bytes) = if is_in k b then b ∷ run_of k bytes else []

-- what follows it
abbrev pub after_run : Run → List ℕ → List ℕ
after_run k [] = []
after_run k (b ∷ bytes) = if is_in k b then after_run k bytes else b ∷ bytes

-- a run that ends there is the run that is found
pub run_of-run : (k : Run) (text rest : List ℕ) → IsRun k text → ¬ GoesOn k rest → run_of k (text ++ rest) ≡ text
run_of-run k [] [] is end = refl
run_of-run k [] (b ∷ rest) is end = ap (λ t. if t then b ∷ run_of k rest else []) (false_from_ne_true (is_in k b) end)
run_of-run k (b ∷ text) rest is end =
    ap (λ t. if t then b ∷ run_of k (text ++ rest) else []) is.0 ∙ ap (λ bytes. b ∷ bytes) (run_of-run k text rest is.1 end)

-- and what follows it is what is left
pub after_run-run : (k : Run) (text rest : List ℕ) → IsRun k text → ¬ GoesOn k rest → after_run k (text ++ rest) ≡ rest
after_run-run k [] [] is end = refl
after_run-run k [] (b ∷ rest) is end = ap (λ t. if t then after_run k rest else b ∷ rest) (false_from_ne_true (is_in k b) end)
after_run-run k (b ∷ text) rest is end =
    ap (λ t. if t then after_run k (text ++ rest) else b ∷ text ++ rest) is.0 ∙ after_run-run k text rest is.1 end

-- what follows the closing quote, where the last character may have been a quote that is the first of two
abbrev pub after_quote : ℕ → Bool → List ℕ → Option (List ℕ)
after_quote quote false [] = None
after_quote quote false (b ∷ bytes) = if b == quote then after_quote quote true bytes else after_quote quote false bytes
after_quote quote true [] = Some []
after_quote quote true (b ∷ bytes) = if b == quote then after_quote quote false bytes else Some (b ∷ bytes)

-- a character within the quotes is passed over
within_quotes : (quote b : ℕ) (bytes : List ℕ) (t : Bool) → (b == quote) ≡ t → after_quote quote false ((if t then b ∷ b ∷ [] else b ∷ []) ++ bytes) ≡ after_quote quote false bytes
within_quotes quote b bytes true e =
    ap (λ t. if t then (if b == quote then after_quote quote false bytes else Some (b ∷ bytes)) else (if b == quote then after_quote quote true bytes else after_quote quote false bytes)) e
    ∙ ap (λ t. if t then after_quote quote false bytes else Some (b ∷ bytes)) e
within_quotes quote b bytes false e = ap (λ t. if t then after_quote quote true bytes else after_quote quote false bytes) e

-- what is written within quotes is passed over whole
within_all : (quote : ℕ) (inner rest : List ℕ) → after_quote quote false (doubled quote inner ++ rest) ≡ after_quote quote false rest
within_all quote [] rest = refl
within_all quote (b ∷ inner) rest =
    ap (λ bytes. after_quote quote false bytes) (append_assoc (if b == quote then b ∷ b ∷ [] else b ∷ []) (doubled quote inner) rest)
    ∙ within_quotes quote b (doubled quote inner ++ rest) (b == quote) refl ∙ within_all quote inner rest

-- after the closing quote that no second follows, the rest is left
closing : (quote : ℕ) (rest : List ℕ) → ¬ BeginsWith quote rest → after_quote quote true rest ≡ Some rest
closing quote [] ne = refl
closing quote (b ∷ rest) ne = ap (λ t. if t then after_quote quote false rest else Some (b ∷ rest)) (not_equal b quote ne)

-- after a literal that closes, what follows its quote is left
pub after_quote-closed : (quote : ℕ) (inner rest : List ℕ) → ¬ BeginsWith quote rest → after_quote quote false (doubled quote inner ++ quote ∷ rest) ≡ Some rest
after_quote-closed quote inner rest ne =
    within_all quote inner (quote ∷ rest)
    ∙ ap (λ t. if t then after_quote quote true rest else after_quote quote false rest) (eq-eqb quote quote refl) ∙ closing quote rest ne

-- where no quote closes a literal, nothing is found
pub after_quote-open : (quote : ℕ) (inner : List ℕ) → after_quote quote false (doubled quote inner) ≡ None
after_quote-open quote inner =
    ap (λ bytes. after_quote quote false bytes) (sym (append-nil (doubled quote inner))) ∙ within_all quote inner []

-- what follows the first `*/`
abbrev pub after_close : List ℕ → List ℕ
after_close [] = []
after_close (b ∷ bytes) = if b == 42 && begins_byte 47 bytes then drop 1 bytes else after_close bytes

-- bytes that pass the test begin with this one
pub begins_is : (b : ℕ) (bytes : List ℕ) → begins_byte b bytes ≡ true → BeginsWith b bytes
begins_is b [] e = absurd (false≢true e)
begins_is b (first ∷ bytes) e = eqb-true first b e

-- where two tests both pass, each passes
pub both : (s t : Bool) → (s && t) ≡ true → (s ≡ true) × (t ≡ true)
both true t e = (refl, e)
both false t e = absurd (false≢true e)

-- where no `*/` begins here, the test of it fails
no_close_here : (b : ℕ) (bytes : List ℕ) → ¬ ((b ≡ 42) × BeginsWith 47 bytes) → (b == 42 && begins_byte 47 bytes) ≡ false
no_close_here b bytes ne =
    false_from_ne_true (b == 42 && begins_byte 47 bytes)
    (λ e. let two : ((b == 42) ≡ true) × (begins_byte 47 bytes ≡ true) = both (b == 42) (begins_byte 47 bytes) e in ne (eqb-true b 42 two.0, begins_is 47 bytes two.1))

-- bytes that begin with a slash with `*/` after them do so by themselves
before_close : (inner rest : List ℕ) → BeginsWith 47 (inner ++ 42 ∷ 47 ∷ rest) → BeginsWith 47 inner
before_close [] rest e = let same : ◌≡◌ {A = ℕ} 42 47 = e in absurd (omega arith)
before_close (c ∷ inner) rest e = e

-- after bytes without `*/` and then it, the rest is left
pub after_close-closed : (inner rest : List ℕ) → HasNoClose inner → after_close (inner ++ 42 ∷ 47 ∷ rest) ≡ rest
after_close-closed [] rest none = refl
after_close-closed (b ∷ inner) rest none =
    ap (λ t. if t then drop 1 (inner ++ 42 ∷ 47 ∷ rest) else after_close (inner ++ 42 ∷ 47 ∷ rest)) (no_close_here b (inner ++ 42 ∷ 47 ∷ rest) (λ p. none.0 (p.0, before_close inner rest p.1)))
    ∙ after_close-closed inner rest none.1

-- after bytes without `*/`, nothing is left
pub after_close-open : (inner : List ℕ) → HasNoClose inner → after_close inner ≡ []
after_close-open [] none = refl
after_close-open (b ∷ inner) none =
    ap (λ t. if t then drop 1 inner else after_close inner) (no_close_here b inner none.0) ∙ after_close-open inner none.1
