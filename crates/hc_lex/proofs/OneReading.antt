-- A text has one list of tokens or one fault at most, and one list of statements.
use Rattle.std.proofs.Common.{◌≡◌, ◌∙◌, ℕ, List, [], Ok, Err, length, sym, ap, arith, subst}
use Rattle.hc_lex.specs.declared.fault.LexFault.{LexFault}
use Rattle.hc_lex.specs.declared.fault.LexFault.TheVariants.{Bad, NoMemory}
use Rattle.hc_lex.specs.declared.fault.LexKind.{LexKind}
use Rattle.hc_lex.specs.declared.token.Token.{Token}
use Rattle.hc_lex.specs.Flaws.{IsFlaw}
use Rattle.hc_lex.specs.Laws.{HasOneFault, HasOneListOfStatements, HasOneListOfTokens, HasNotTokensAndFault}
use Rattle.hc_lex.specs.Reading.{HasFault, HasTokens, IsFaultOf, IsTokenOrBlank, IsUnlessNoMemory, tokens_of}
use Rattle.hc_lex.specs.Statements.{IsPart, spans_of}
use Rattle.hc_lex.proofs.FirstFlaw.{first_flaw, flaw_found, no_flaw_at_end}
use Rattle.hc_lex.proofs.FirstLexeme.{first_lexeme, lexeme_found, no_lexeme_at_end}
use Rattle.hc_lex.proofs.FirstPart.{first_part, no_part_at_end, part_found}
use Rattle.hc_lex.proofs.Fronts.{front_is_one}

-- a text has one list of tokens at most
pub tokens_are_one : HasOneListOfTokens
tokens_are_one text one other (ps, front, e) (qs, front', e') =
    let same : (ps ≡ qs) × ([] ≡ []) = front_is_one IsTokenOrBlank first_lexeme lexeme_found ps qs text [] [] no_lexeme_at_end no_lexeme_at_end front front' in
    e ∙ ap (λ xs. tokens_of 0 xs) same.0 ∙ sym e'

-- a text with tokens has no fault
pub tokens_or_fault : HasNotTokensAndFault
tokens_or_fault text tokens at kind (ps, front, e) (qs, rest, offset, front', flaw, place) =
    let same = front_is_one IsTokenOrBlank first_lexeme lexeme_found ps qs text [] rest no_lexeme_at_end (flaw_found kind offset rest flaw).0 front front' in
    no_flaw_at_end kind offset (subst (λ r. IsFlaw kind offset r) (sym same.1) flaw)

-- two faults that are equal have one kind and one offset
same_fault : (kind other : LexKind) (offset place : ℕ) → ◌≡◌ {A = LexKind × ℕ} (kind, offset) (other, place) → (kind ≡ other) × (offset ≡ place)
same_fault kind other offset place e = (ap (λ p. p.0) e, ap (λ p. p.1) e)

-- a text has one fault at most
pub faults_are_one : HasOneFault
faults_are_one text at place kind other (ps, rest, offset, front, flaw, at_is) (qs, left, shift, front', flaw', place_is) =
    let found = flaw_found kind offset rest flaw in
    let found' = flaw_found other shift left flaw' in
    let same = front_is_one IsTokenOrBlank first_lexeme lexeme_found ps qs text rest left found.0 found'.0 front front' in
    let told : (kind ≡ other) × (offset ≡ shift) = same_fault kind other offset shift (sym found.1 ∙ ap first_flaw same.1 ∙ found'.1) in
    (omega (arith, ap length same.1, told.1, at_is, place_is), told.0)

-- a script has one list of statements at most
pub statements_are_one : HasOneListOfStatements
statements_are_one text one other (ps, front, e) (qs, front', e') =
    let same = front_is_one IsPart first_part part_found ps qs text [] [] no_part_at_end no_part_at_end front front' in
    e ∙ ap (λ xs. spans_of xs) same.0 ∙ sym e'

-- an answer that is right is the only one
pub only_these_tokens : (text : List ℕ) (found : List Token) → HasTokens text found → (tokens : List Token) → HasTokens text tokens → IsUnlessNoMemory (Ok found) (Ok tokens)
only_these_tokens text found is tokens other = ap Ok (tokens_are_one text tokens found other is)

-- where the text has tokens, no fault is a right answer
pub no_fault_beside : (text : List ℕ) (found : List Token) → HasTokens text found → (at : ℕ) (kind : LexKind) → HasFault text at kind → IsUnlessNoMemory (Ok found) (Err (Bad at kind))
no_fault_beside text found is at kind fault = absurd (tokens_or_fault text found at kind is fault)

-- where the text has a fault, no tokens are a right answer
pub no_tokens_beside : (text : List ℕ) (fault : LexFault) → IsFaultOf text fault → (tokens : List Token) → HasTokens text tokens → IsUnlessNoMemory (Err fault) (Ok tokens)
no_tokens_beside text (Bad at kind) is tokens other = absurd (tokens_or_fault text tokens at kind other is)
no_tokens_beside text NoMemory is tokens other = tt

-- where the text has a fault, no other one is a right answer
pub only_this_fault : (text : List ℕ) (fault : LexFault) → IsFaultOf text fault → (at : ℕ) (kind : LexKind) → HasFault text at kind → IsUnlessNoMemory (Err fault) (Err (Bad at kind))
only_this_fault text (Bad place other) is at kind fault =
    let same : (at ≡ place) × (kind ≡ other) = faults_are_one text at place kind other fault is in
    ap (λ k. Err (Bad k kind)) same.0 ∙ ap (λ k. Err (Bad place k)) same.1
only_this_fault text NoMemory is at kind fault = tt
