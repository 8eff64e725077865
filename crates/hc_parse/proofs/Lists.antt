-- Lists with commas, as loops read them.
use Rattle.std.proofs.Common.{◌≡◌, refl, sym, ap, subst, ◌∙◌, ℕ, ◌+◌, ◌<◌, true, false, if◌then◌else◌, List, [], ◌∷◌, ◌++◌, drop, Ok, Err}
use Rattle.hc_lex.specs.declared.token.TokenKind.{TokenKind}
use Rattle.hc_lex.specs.declared.token.TokenKind.TheVariants as kind
use Rattle.hc_grammar.specs.Grammar.{Grammar, Word}
use Rattle.hc_grammar.specs.Kinds.{is, among, head_is}
use Rattle.hc_grammar.specs.Lexemes.{Lexeme}
use Rattle.hc_grammar.specs.Marks.{Plain}
use Rattle.hc_grammar.specs.Phrases.{pushed}
use Rattle.hc_grammar.specs.Places.{run_of}
use Rattle.hc_grammar.specs.Runs.{Budget, Run, Runner, Stop, word}
use Rattle.hc_parse.specs.declared.cursor.Cursor.{Cursor}
use Rattle.hc_parse.specs.declared.source.Source.{Source}
use Rattle.hc_parse.specs.Coded.{Accepts, Gives}
use Rattle.hc_parse.specs.declared.stop.Stop.{Stop as Halt}
use Rattle.hc_parse.specs.declared.stop.Stop.TheVariants as halt
use Rattle.hc_parse.specs.Seen.{left, budget_of}
use Rattle.hc_parse.proofs.Gathers.{Gathers, gathers_end, gathers_on, gathers_stop}

-- a lexeme of this kind is passed, and then the rest is read
pub word_read : {A : Type 0} (kind : TokenKind) (next : Runner A) (b c : Budget) (t u : List Lexeme) (r : Run A)
    → head_is (is kind) t ≡ true → c ≡ b → u ≡ drop 1 t → next c u ≡ r → word Plain kind next b t ≡ r
word_read kind next b c t u r found same on e = rw found (ap (λ d. next d (drop 1 t)) (sym same) ∙ ap (λ l. next c l) (sym on) ∙ e)

pub comma_read : {A : Type 0} (g : Grammar A) (levels : ℕ) (source : Source) (before after : Cursor) (r : Run A) → Accepts source kind.Comma before after true
    → run_of levels g (budget_of after) (left source after) ≡ r → run_of levels (Word Plain kind.Comma g) (budget_of before) (left source before) ≡ r
comma_read g levels source before after r a e =
    word_read kind.Comma (run_of levels g) (budget_of before) (budget_of after) (left source before) (left source after) r (sym a.0.0) a.1.0 a.1.1 e

-- one more
pub listed_on : {A : Type 0} (g : Grammar A) (levels : ℕ) {whole : Run (List A)} {counter end : ℕ} {value made : List A} {x : A} (source : Source) (before after last : Cursor)
    → Gathers (kind.Comma ∷ []) (λ xs. run_of levels (Word Plain kind.Comma g)) pushed whole counter end value (budget_of before) (left source before)
    → counter < end → Accepts source kind.Comma before after true
    → run_of levels g (budget_of after) (left source after) ≡ Ok (x, budget_of last, left source last)
    → made ≡ value ++ x ∷ []
    → Gathers (kind.Comma ∷ []) (λ xs. run_of levels (Word Plain kind.Comma g)) pushed whole (counter + 1) end made (budget_of last) (left source last)
listed_on {A} g levels {whole} {counter} {end} {value} {made} {x} source before after last gathers lt a e same =
    subst (λ (xs : List A). Gathers (kind.Comma ∷ []) (λ ys. run_of levels (Word Plain kind.Comma g)) pushed whole (counter + 1) end xs (budget_of last) (left source last)) (sym same)
    (gathers_on {part = λ xs. run_of levels (Word Plain kind.Comma g)} gathers lt (sym a.0.1) (comma_read g levels source before after (Ok (x, budget_of last, left source last)) a e))

-- what follows a comma is at fault
pub listed_stop : {A : Type 0} (g : Grammar A) (levels : ℕ) {whole : Run (List A)} {counter end : ℕ} {value : List A} {stop : Stop × List Lexeme} (source : Source) (before after : Cursor)
    → Gathers (kind.Comma ∷ []) (λ xs. run_of levels (Word Plain kind.Comma g)) pushed whole counter end value (budget_of before) (left source before)
    → counter < end → Accepts source kind.Comma before after true
    → run_of levels g (budget_of after) (left source after) ≡ Err stop → whole ≡ Err stop
listed_stop g levels {whole} {counter} {end} {value} {stop} source before after gathers lt a e =
    gathers_stop {part = λ xs. run_of levels (Word Plain kind.Comma g)} gathers lt (sym a.0.1) (comma_read g levels source before after (Err stop) a e)

-- the same for whichever stop of the code
pub listed_halt : {A : Type 0} (g : Grammar A) (levels : ℕ) {whole : Run (List A)} {counter end : ℕ} {value : List A} (source : Source) (before after last : Cursor) (stop : Halt)
    → Gathers (kind.Comma ∷ []) (λ xs. run_of levels (Word Plain kind.Comma g)) pushed whole counter end value (budget_of before) (left source before)
    → counter < end → Accepts source kind.Comma before after true
    → Gives {A = A} source (Err stop) last (run_of levels g (budget_of after) (left source after)) → Gives {A = List A} source (Err stop) last whole
listed_halt g levels source before after last halt.Unexpected gathers lt a e = listed_stop g levels source before after gathers lt a e
listed_halt g levels source before after last halt.TooDeep gathers lt a e = listed_stop g levels source before after gathers lt a e
listed_halt g levels source before after last halt.NoMemory gathers lt a e = tt

-- no comma is next
pub listed_end : {A : Type 0} {part : List A → Runner A} {whole : Run (List A)} {counter end : ℕ} {value : List A} (source : Source) (before after : Cursor)
    → Gathers (kind.Comma ∷ []) part pushed whole counter end value (budget_of before) (left source before)
    → Accepts source kind.Comma before after false → whole ≡ Ok (value, budget_of after, left source after)
listed_end {A} {part} {whole} {counter} {end} {value} source before after gathers a =
    gathers_end gathers (sym a.0.1) ∙ ap (λ b. Ok (value, b, left source before)) (sym a.1) ∙ ap (λ t. Ok (value, budget_of after, t)) (sym a.2)

-- the same value at the same place
pub same_answer : {A : Type 0} {whole : Run A} {x y : A} (source : Source) (a b : Cursor) → whole ≡ Ok (x, budget_of a, left source a) → y ≡ x → b ≡ a → whole ≡ Ok (y, budget_of b, left source b)
same_answer {A} {whole} {x} {y} source a b e same here =
    e ∙ ap (λ z. Ok (z, budget_of a, left source a)) (sym same) ∙ ap (λ c. Ok (y, budget_of c, left source c)) (sym here)

-- one more where one of these kinds is next
pub pushed_on : {A : Type 0} (kinds : List TokenKind) (part : List A → Runner A) {whole : Run (List A)} {counter end : ℕ} {value made : List A} {x : A} (source : Source) (before last : Cursor)
    → Gathers kinds part pushed whole counter end value (budget_of before) (left source before) → counter < end → head_is (among kinds) (left source before) ≡ true
    → part value (budget_of before) (left source before) ≡ Ok (x, budget_of last, left source last) → made ≡ value ++ x ∷ []
    → Gathers kinds part pushed whole (counter + 1) end made (budget_of last) (left source last)
pushed_on {A} kinds part {whole} {counter} {end} {value} {made} {x} source before last gathers lt is e same =
    subst (λ (xs : List A). Gathers kinds part pushed whole (counter + 1) end xs (budget_of last) (left source last)) (sym same) (gathers_on {part = part} gathers lt is e)

-- what begins so is at fault
pub pushed_halt : {A : Type 0} (kinds : List TokenKind) (part : List A → Runner A) {whole : Run (List A)} {counter end : ℕ} {value : List A} (source : Source) (before last : Cursor) (stop : Halt)
    → Gathers kinds part pushed whole counter end value (budget_of before) (left source before) → counter < end → head_is (among kinds) (left source before) ≡ true
    → Gives {A = A} source (Err stop) last (part value (budget_of before) (left source before)) → Gives {A = List A} source (Err stop) last whole
pushed_halt kinds part source before last halt.Unexpected gathers lt is e = gathers_stop {part = part} gathers lt is e
pushed_halt kinds part source before last halt.TooDeep gathers lt is e = gathers_stop {part = part} gathers lt is e
pushed_halt kinds part source before last halt.NoMemory gathers lt is e = tt
