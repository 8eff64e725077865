-- How far a script is read: whatever is read of the rest, after the statements so far, is read of the whole, and the
-- other way round.
use Rattle.std.proofs.Common.{◌≡◌, ◌≢◌, ◌∙◌, sym, subst, ap, refl, arith, append_assoc, length-append, eqb-true, true, false, ◌==◌, ℕ, ◌+◌, ◌<◌, List, [], ◌∷◌, ◌++◌, length}
use Rattle.std.proofs.lemmas.List.{append-nil, nil_from_length}
use Rattle.hc_meaning.specs.declared.statement.Statement.{Statement}
use Rattle.hc_meaning.specs.Front.{BeginsOutside, BeginsWith, BeginsWithBlank}
use Rattle.hc_meaning.specs.Input.{IsBlankByte}
use Rattle.hc_meaning.specs.Input.{IsScript, IsStatement}
use Rattle.hc_meaning.proofs.Language.Scripts.{First, script_after_front, script_first, script_from_first, script_from_front}
use Rattle.hc_meaning.proofs.Language.Statements.{statement_once}

-- what the test whether a rest is empty says of it
pub empty_is_none : (bytes : List ℕ) → true ≡ (length bytes == 0) → bytes ≡ []
empty_is_none bytes e = nil_from_length bytes (eqb-true (length bytes) 0 (sym e))

-- a rest whose test says that some is left is not empty
pub filled_is_some : (bytes : List ℕ) → false ≡ (length bytes == 0) → bytes ≢ []
filled_is_some bytes e none =
    let Tells : List ℕ → Type 0 = λ l. false ≡ (length l == 0) in
    let no : false ≡ true = subst Tells none e in
    cc

-- these statements were read from the front of the input, and the rest is left
pub record ReadSoFar (input : List ℕ) (statements : List Statement) (rest : List ℕ) : Type 0 where
  -- a text that is no blank comes next
  pub at_text : BeginsOutside IsBlankByte rest
  pub to_whole : (others : List Statement) → IsScript rest others → IsScript input (statements ++ others)
  pub from_whole : (all : List Statement) → IsScript input all → (others : List Statement) × (all ≡ statements ++ others) × IsScript rest others

-- after the blank at the front, no statement was read
pub nothing_read : (input rest : List ℕ) → BeginsWithBlank input rest → ReadSoFar input [] rest
nothing_read input rest (blank, is_blank, whole, outside) = record {
  at_text = outside;
  to_whole = λ others script. script_from_front input blank rest others is_blank whole script;
  from_whole = λ all script. (all, refl, script_after_front input blank rest all is_blank outside whole script);
}

-- after one statement more and the blank that follows it, the script was read that far
pub one_more : (input bytes following rest : List ℕ) (statements : List Statement) (statement : Statement) → ReadSoFar input statements bytes → bytes ≢ [] → BeginsWith IsStatement bytes statement following → BeginsWithBlank following rest
    → ReadSoFar input (statements ++ statement ∷ []) rest
one_more input bytes following rest statements statement so_far some begins (blank, is_blank, whole, outside) = record {
  at_text = outside;
  to_whole = λ others script.
      let from_bytes : IsScript bytes (statement ∷ others) = script_from_first bytes following statement others begins (script_from_front following blank rest others is_blank whole script) in
      subst (IsScript input) (sym (append_assoc statements (statement ∷ []) others)) (so_far.to_whole (statement ∷ others) from_bytes);
  from_whole = λ all script.
      let left : (others : List Statement) × (all ≡ statements ++ others) × IsScript bytes others = so_far.from_whole all script in
      let first : First bytes left.0 = script_first bytes left.0 so_far.at_text some left.2 in
      let same : (first.statement ≡ statement) × (first.rest ≡ following) = statement_once bytes first.statement statement first.rest following first.begins begins in
      let more : IsScript rest first.others = script_after_front following blank rest first.others is_blank outside whole (subst (λ (l : List ℕ). IsScript l first.others) same.1 first.script) in
      let are : all ≡ (statements ++ statement ∷ []) ++ first.others =
      left.1 ∙ ap (λ (l : List Statement). statements ++ l) (first.are ∙ ap (λ (s : Statement). s ∷ first.others) same.0)
      ∙ sym (append_assoc statements (statement ∷ []) first.others) in
      (first.others, are, more);
}

-- where nothing is left, the input is the script of what was read
pub all_read : (input rest : List ℕ) (statements : List Statement) → ReadSoFar input statements rest → rest ≡ [] → IsScript input statements
all_read input rest statements so_far none =
    let end : IsScript rest [] = subst (λ (l : List ℕ). IsScript l []) (sym none) tt in
    subst (IsScript input) (append-nil statements) (so_far.to_whole [] end)

-- where something is left, it begins with a statement
next_is : (input rest : List ℕ) (statements all : List Statement) → ReadSoFar input statements rest → rest ≢ [] → IsScript input all
    → (others : List Statement) × (all ≡ statements ++ others) × First rest others
next_is input rest statements all so_far some script =
    let left : (others : List Statement) × (all ≡ statements ++ others) × IsScript rest others = so_far.from_whole all script in
    (left.0, left.1, script_first rest left.0 so_far.at_text some left.2)

-- where something is left that begins with no statement, the input is no script
pub no_next_is_none : (input rest : List ℕ) (statements all : List Statement) → ReadSoFar input statements rest → rest ≢ [] → ((statement : Statement) (following : List ℕ) → ¬ BeginsWith IsStatement rest statement following) → IsScript input all → ⊥
no_next_is_none input rest statements all so_far some none script =
    let next : (others : List Statement) × (all ≡ statements ++ others) × First rest others = next_is input rest statements all so_far some script in
    none next.2.statement next.2.rest next.2.begins

-- where something is left, a script of the input has more statements
pub more_are_left : (input rest : List ℕ) (statements all : List Statement) → ReadSoFar input statements rest → rest ≢ [] → IsScript input all → length statements < length all
more_are_left input rest statements all so_far some script =
    let next : (others : List Statement) × (all ≡ statements ++ others) × First rest others = next_is input rest statements all so_far some script in
    let counted : length all ≡ length statements + length next.0 = ap length next.1 ∙ length-append statements next.0 in
    let one : length next.0 ≡ length next.2.others + 1 = ap length next.2.are ∙ (omega arith) in
    omega arith
