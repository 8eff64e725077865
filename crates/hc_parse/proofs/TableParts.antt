-- Columns and rules of a new table, as a loop reads them.
use Rattle.std.proofs.Common.{◌≡◌, refl, sym, ap, subst, ◌∙◌, ℕ, ◌+◌, ◌<◌, Bool, true, false, if◌then◌else◌, List, [], ◌∷◌, Ok, Err}
use Rattle.hc_lex.specs.declared.token.TokenKind.TheVariants as kind
use Rattle.hc_grammar.specs.Grammar.{Grammar, Word, Choice, Made}
use Rattle.hc_grammar.specs.Kinds.{is, among, head_is}
use Rattle.hc_grammar.specs.Lexemes.{Lexeme}
use Rattle.hc_grammar.specs.Marks.{Plain}
use Rattle.hc_grammar.specs.Places.{run_of}
use Rattle.hc_grammar.specs.Runs.{Budget, Run, Runner, made}
use Rattle.hc_grammar.specs.Statements.{Parts, Part, OneColumn, OneRule, with_part, has_no_rule, column, key_rule}
use Rattle.hc_parse.specs.declared.cursor.Cursor.{Cursor}
use Rattle.hc_parse.specs.declared.source.Source.{Source}
use Rattle.hc_parse.specs.declared.stop.Stop.{Stop as Halt}
use Rattle.hc_parse.specs.declared.stop.Stop.TheVariants as halt
use Rattle.hc_parse.specs.Coded.{Accepts, Gives, part_after}
use Rattle.hc_parse.specs.Seen.{left, budget_of}
use Rattle.hc_parse.proofs.Gathers.{Gathers, gathers_end, gathers_on, gathers_stop}
use Rattle.hc_parse.proofs.Lists.{comma_read}

-- what a comma is followed by, whether a rule has come or not
abbrev pub phased : Parts → Runner Part
phased value budget tokens =
    if has_no_rule value
    then run_of 100 (Word Plain kind.Comma (Choice (Made OneColumn column) (Made OneRule key_rule))) budget tokens
    else run_of 100 (Word Plain kind.Comma (Made OneRule key_rule)) budget tokens

either : (b : Bool) (g h : Grammar Part) (source : Source) (before after : Cursor) (r : Run Part) → Accepts source kind.Comma before after true
    → (if b then run_of 100 g (budget_of after) (left source after) else run_of 100 h (budget_of after) (left source after)) ≡ r
    → (if b then run_of 100 (Word Plain kind.Comma g) (budget_of before) (left source before) else run_of 100 (Word Plain kind.Comma h) (budget_of before) (left source before)) ≡ r
either true g h source before after r a e = comma_read g 100 source before after r a e
either false g h source before after r a e = comma_read h 100 source before after r a e

made_from : {A B : Type 0} (f : A → B) (r : Run A) (y : B) (b : Budget) (t : List Lexeme) → made f r ≡ Ok (y, b, t) → (x : A) × (r ≡ Ok (x, b, t)) × (y ≡ f x)
made_from f (Err stop) y b t e = absurd cc
made_from {A} {B} f (Ok x) y b t e =
    let p : ◌≡◌ {A = B × Budget × List Lexeme} (f x.0, x.1, x.2) (y, b, t) = cc in
    (x.0, ap (λ q. Ok (x.0, q.1, q.2)) p, sym (ap (λ q. q.0) p))

made_halt : {A B : Type 0} (f : A → B) (r : Run A) (source : Source) (last : Cursor) (stop : Halt) → Gives {A = B} source (Err stop) last (made f r) → Gives {A = A} source (Err stop) last r
made_halt f (Err s) source last halt.Unexpected e = cc
made_halt f (Err s) source last halt.TooDeep e = cc
made_halt f (Ok x) source last halt.Unexpected e = absurd cc
made_halt f (Ok x) source last halt.TooDeep e = absurd cc
made_halt f r source last halt.NoMemory e = tt

two : (tokens : List Lexeme) → head_is (is kind.Comma) tokens ≡ true → head_is (among (kind.Comma ∷ kind.Comma ∷ [])) tokens ≡ true
two [] e = absurd cc
two (t ∷ rest) e = rw e refl

not_two : (tokens : List Lexeme) → head_is (is kind.Comma) tokens ≡ false → head_is (among (kind.Comma ∷ kind.Comma ∷ [])) tokens ≡ false
not_two [] e = refl
not_two (t ∷ rest) e = rw e refl

pub parts_on : {whole : Run Parts} {counter end : ℕ} {value more : Parts} (source : Source) (before after last : Cursor)
    → Gathers (kind.Comma ∷ kind.Comma ∷ []) phased with_part whole counter end value (budget_of before) (left source before) → counter < end
    → Accepts source kind.Comma before after true
    → made (with_part value) (part_after value (budget_of after) (left source after)) ≡ Ok (more, budget_of last, left source last)
    → Gathers (kind.Comma ∷ kind.Comma ∷ []) phased with_part whole (counter + 1) end more (budget_of last) (left source last)
parts_on {whole} {counter} {end} {value} {more} source before after last gathers lt a e =
    let m = made_from (with_part value) (part_after value (budget_of after) (left source after)) more (budget_of last) (left source last) e in
    subst (λ (v : Parts). Gathers (kind.Comma ∷ kind.Comma ∷ []) phased with_part whole (counter + 1) end v (budget_of last) (left source last)) (sym m.2)
    (gathers_on {part = phased} gathers lt (two (left source before) (sym a.0.0))
    (either (has_no_rule value) (Choice (Made OneColumn column) (Made OneRule key_rule)) (Made OneRule key_rule) source before after (Ok (m.0, budget_of last, left source last)) a m.1))

pub parts_halt : {whole : Run Parts} {counter end : ℕ} {value : Parts} (source : Source) (before after last : Cursor) (stop : Halt)
    → Gathers (kind.Comma ∷ kind.Comma ∷ []) phased with_part whole counter end value (budget_of before) (left source before) → counter < end
    → Accepts source kind.Comma before after true
    → Gives {A = Parts} source (Err stop) last (made (with_part value) (part_after value (budget_of after) (left source after))) → Gives {A = Parts} source (Err stop) last whole
parts_halt {whole} {counter} {end} {value} source before after last halt.Unexpected gathers lt a e =
    gathers_stop {part = phased} gathers lt (two (left source before) (sym a.0.0))
    (either (has_no_rule value) (Choice (Made OneColumn column) (Made OneRule key_rule)) (Made OneRule key_rule) source before after _ a
    (made_halt (with_part value) (part_after value (budget_of after) (left source after)) source last halt.Unexpected e))
parts_halt {whole} {counter} {end} {value} source before after last halt.TooDeep gathers lt a e =
    gathers_stop {part = phased} gathers lt (two (left source before) (sym a.0.0))
    (either (has_no_rule value) (Choice (Made OneColumn column) (Made OneRule key_rule)) (Made OneRule key_rule) source before after _ a
    (made_halt (with_part value) (part_after value (budget_of after) (left source after)) source last halt.TooDeep e))
parts_halt source before after last halt.NoMemory gathers lt a e = tt

pub parts_end : {whole : Run Parts} {counter end : ℕ} {value : Parts} (source : Source) (before after : Cursor)
    → Gathers (kind.Comma ∷ kind.Comma ∷ []) phased with_part whole counter end value (budget_of before) (left source before)
    → Accepts source kind.Comma before after false → whole ≡ Ok (value, budget_of after, left source after)
parts_end {whole} {counter} {end} {value} source before after gathers a =
    gathers_end gathers (not_two (left source before) (sym a.0.0)) ∙ ap (λ b. Ok (value, b, left source before)) (sym a.1) ∙ ap (λ t. Ok (value, budget_of after, t)) (sym a.2)
