-- What the parser answers, by what the grammar says of it.
use Rattle.std.proofs.Common.{◌≡◌, refl, sym, ap, subst, ◌∙◌, ℕ, zero, suc, ◌+◌, ◌<◌, ◌≤◌, arith, List, [], ◌∷◌, ◌++◌, length, take, drop, map, Result, Ok, Err}
use Rattle.std.proofs.lemmas.List.{take-append-drop}
use Rattle.std.proofs.Math.ListN.{drop_of_length-le}
use Rattle.hc_lex.specs.declared.token.Token.{Token}
use Rattle.hc_ast.specs.declared.statement.Stmt.{Stmt}
use Rattle.hc_grammar.specs.Faults.{IsStatementOf, ended, place_of, read_whole}
use Rattle.hc_grammar.specs.Lexemes.{Lexeme, lexemes_of}
use Rattle.hc_grammar.specs.Runs.{Budget, Run, Unexpected, TooDeep}
use Rattle.hc_grammar.proofs.Faults.Texts.{statement_of_answer, fault_of_answer, one_fault, not_both, one_of_tokens}
use Rattle.hc_parse.specs.declared.cursor.Cursor.{Cursor}
use Rattle.hc_parse.specs.declared.source.Source.{Source}
use Rattle.hc_parse.specs.declared.stop.Stop.{Stop as Halt}
use Rattle.hc_parse.specs.declared.stop.Stop.TheVariants as halt
use Rattle.hc_parse.specs.declared.fault.ParseFault.{ParseFault}
use Rattle.hc_parse.specs.declared.fault.ParseFault.TheVariants as fault
use Rattle.hc_parse.specs.Coded.{AtEnd, Gives, fault_of}
use Rattle.hc_parse.specs.Laws.{HasFault, IsAnswer, IsCauseOf, IsUnlessNoMemory}
use Rattle.hc_parse.specs.Seen.{left, budget_of}

none_left : (source : Source) (cursor : Cursor) → length source.tokens.now ≤ cursor.at → left source cursor ≡ []
none_left source cursor le = ap (λ ts. lexemes_of source.text.now ts) (drop_of_length-le source.tokens.now le)

dropped : (text : List ℕ) (n : ℕ) (tokens : List Token) → n < length tokens → (t : Lexeme) × (rest : List Lexeme) × (lexemes_of text (drop n tokens) ≡ t ∷ rest)
dropped text n [] lt = absurd (omega arith)
dropped text zero (t ∷ tokens) lt = (_, _, refl)
dropped text (suc n) (t ∷ tokens) lt = dropped text n tokens (omega arith)

-- a whole statement
pub answer_ok : (found : Result Stmt Halt) (s : Stmt) (source : Source) (cursor : Cursor) (run : Run Stmt) → Gives {A = Stmt} source found cursor run → AtEnd {A = Stmt} source cursor found (Ok s) → ended run ≡ Ok s
answer_ok (Ok x) s source cursor run g end = ap ended (g ∙ ap (λ t. Ok (x, budget_of cursor, t)) (none_left source cursor end.1)) ∙ ap Ok (sym end.0)
answer_ok (Err stop) s source cursor run g end = absurd cc

-- where it stops
abbrev pub Stops : Halt → Source → Cursor → Run Stmt → Type 0
Stops halt.Unexpected source cursor run = ended run ≡ Err (Unexpected, left source cursor)
Stops halt.TooDeep source cursor run = ended run ≡ Err (TooDeep, left source cursor)
Stops halt.NoMemory source cursor run = Unit {0}

pub answer_err : (found : Result Stmt Halt) (stop : Halt) (source : Source) (cursor : Cursor) (run : Run Stmt) → Gives {A = Stmt} source found cursor run → AtEnd {A = Stmt} source cursor found (Err stop) → Stops stop source cursor run
answer_err (Ok x) halt.Unexpected source cursor run g end =
    let some = dropped source.text.now cursor.at source.tokens.now end in
    ap ended (g ∙ ap (λ t. Ok (x, budget_of cursor, t)) some.2) ∙ ap (λ t. Err (Unexpected, t)) (sym some.2)
answer_err (Ok x) halt.TooDeep source cursor run g end = absurd end
answer_err (Ok x) halt.NoMemory source cursor run g end = tt
answer_err (Err halt.Unexpected) halt.Unexpected source cursor run g end = ap ended g
answer_err (Err halt.TooDeep) halt.TooDeep source cursor run g end = ap ended g
answer_err (Err halt.NoMemory) halt.NoMemory source cursor run g end = tt
answer_err (Err halt.Unexpected) halt.TooDeep source cursor run g end = absurd cc
answer_err (Err halt.Unexpected) halt.NoMemory source cursor run g end = tt
answer_err (Err halt.TooDeep) halt.Unexpected source cursor run g end = absurd cc
answer_err (Err halt.TooDeep) halt.NoMemory source cursor run g end = tt
answer_err (Err halt.NoMemory) halt.Unexpected source cursor run g end = absurd cc
answer_err (Err halt.NoMemory) halt.TooDeep source cursor run g end = absurd cc

-- the cause of a stop
pub stop_cause : (text : List ℕ) (tokens : List Token) (source : Source) (cursor : Cursor) (stop : Halt) → source.text.now ≡ text → source.tokens.now ≡ tokens
    → (run : Run Stmt) → ended run ≡ read_whole (lexemes_of text tokens) → Stops stop source cursor run
    → IsCauseOf text tokens (fault_of stop (place_of text (drop cursor.at tokens)))
stop_cause text tokens source cursor halt.Unexpected same has run e s =
    fault_of_answer text tokens (take cursor.at tokens) (drop cursor.at tokens) Unexpected (sym (take-append-drop cursor.at tokens))
    (sym e ∙ s ∙ ap (λ t. Err (Unexpected, lexemes_of t (drop cursor.at source.tokens.now))) same ∙ ap (λ ts. Err (Unexpected, lexemes_of text (drop cursor.at ts))) has)
stop_cause text tokens source cursor halt.TooDeep same has run e s =
    fault_of_answer text tokens (take cursor.at tokens) (drop cursor.at tokens) TooDeep (sym (take-append-drop cursor.at tokens))
    (sym e ∙ s ∙ ap (λ t. Err (TooDeep, lexemes_of t (drop cursor.at source.tokens.now))) same ∙ ap (λ ts. Err (TooDeep, lexemes_of text (drop cursor.at ts))) has)
stop_cause text tokens source cursor halt.NoMemory same has run e s = tt

pub only_statement : (text : List ℕ) (tokens : List Token) (found : Result Stmt ParseFault) → IsAnswer text tokens found → (s : Stmt) → IsStatementOf text tokens s → IsUnlessNoMemory found (Ok s)
only_statement text tokens (Ok x) is s h = ap Ok (one_of_tokens text tokens s x h is)
only_statement text tokens (Err (fault.Syntax at)) is s h = absurd (not_both text tokens s Unexpected at h is)
only_statement text tokens (Err (fault.TooDeep at)) is s h = absurd (not_both text tokens s TooDeep at h is)
only_statement text tokens (Err fault.NoMemory) is s h = tt

pub only_fault : (text : List ℕ) (tokens : List Token) (found : Result Stmt ParseFault) → IsAnswer text tokens found → (f : ParseFault) → HasFault text tokens f → IsUnlessNoMemory found (Err f)
only_fault text tokens (Err fault.NoMemory) is f h = tt
only_fault text tokens (Ok x) is (fault.Syntax at) h = absurd (not_both text tokens x Unexpected at is h)
only_fault text tokens (Ok x) is (fault.TooDeep at) h = absurd (not_both text tokens x TooDeep at is h)
only_fault text tokens (Ok x) is fault.NoMemory h = absurd h
only_fault text tokens (Err (fault.Syntax at)) is (fault.Syntax place) h = ap (λ n. Err (fault.Syntax n)) (one_fault text tokens Unexpected Unexpected place at h is).1
only_fault text tokens (Err (fault.TooDeep at)) is (fault.TooDeep place) h = ap (λ n. Err (fault.TooDeep n)) (one_fault text tokens TooDeep TooDeep place at h is).1
only_fault text tokens (Err (fault.Syntax at)) is (fault.TooDeep place) h = absurd (let bad = (one_fault text tokens TooDeep Unexpected place at h is).0 in cc)
only_fault text tokens (Err (fault.TooDeep at)) is (fault.Syntax place) h = absurd (let bad = (one_fault text tokens Unexpected TooDeep place at h is).0 in cc)
only_fault text tokens (Err (fault.Syntax at)) is fault.NoMemory h = absurd h
only_fault text tokens (Err (fault.TooDeep at)) is fault.NoMemory h = absurd h
