-- A script is its first statement and the script after it, and is read in one way.
use Rattle.std.proofs.Common.{◌≡◌, ◌≢◌, ◌∙◌, ap, sym, subst, refl, inl, inr, arith, append_assoc, lit<, ℕ, ◌<◌, List, [], ◌∷◌, ◌++◌, codes}
use Rattle.std.specs.List.{AllByRecursion}
use Rattle.hc_meaning.specs.declared.statement.Statement.{Statement}
use Rattle.hc_meaning.specs.Front.{BeginsWith, BeginsOutside}
use Rattle.hc_meaning.specs.Input.{IsBlank, IsBlankByte, IsScript, IsStatement}
use Rattle.hc_meaning.proofs.EachElement.{all_after, all_joined}
use Rattle.hc_meaning.proofs.Language.Spans.{same_span}
use Rattle.hc_meaning.proofs.Language.Statements.{statement_head, statement_once}

-- bytes that all pass and begin outside are none
all_and_outside : (P : ℕ → Type 0) (bytes : List ℕ) → AllByRecursion P bytes → BeginsOutside P bytes → bytes ≡ []
all_and_outside P [] all outside = refl
all_and_outside P (b ∷ bytes) all outside = absurd (outside all.0)

-- a byte above 32 is no blank
no_blank : (b : ℕ) → 32 < b → IsBlankByte b → ⊥
no_blank b high (inl space) = omega arith
no_blank b high (inr line_feed) = omega arith

-- a statement begins with a letter
begins_with_letter : (bytes : List ℕ) (statement : Statement) (rest : List ℕ) → BeginsWith IsStatement bytes statement rest → BeginsOutside IsBlankByte bytes
begins_with_letter bytes statement rest begins =
    elim (statement_head bytes statement rest begins) [
      | inl head ↦ subst (BeginsOutside IsBlankByte) (sym head.1) (no_blank 73 (lit< tt))
      | inr head ↦ subst (BeginsOutside IsBlankByte) (sym head.1) (no_blank 83 (lit< tt))
    ]

-- bytes with a first one are not empty
cons_is_some : (b : ℕ) (bytes : List ℕ) → [] ≡ b ∷ bytes → ⊥
cons_is_some b bytes e = cc

-- and is not empty
begins_with_some : (bytes : List ℕ) (statement : Statement) (rest : List ℕ) → BeginsWith IsStatement bytes statement rest → bytes ≡ [] → ⊥
begins_with_some bytes statement rest begins empty =
    elim (statement_head bytes statement rest begins) [
      | inl head ↦ let none : [] ≡ codes "INSERT INTO t VALUES(" ++ head.0 = sym empty ∙ head.1 in cons_is_some 73 _ none
      | inr head ↦ let none : [] ≡ codes "SELECT v FROM t WHERE id=" ++ head.0 = sym empty ∙ head.1 in cons_is_some 83 _ none
    ]

-- what is left where the blanks in front are gone
pub script_from_front : (bytes blank rest : List ℕ) (statements : List Statement) → IsBlank blank → bytes ≡ blank ++ rest → IsScript rest statements → IsScript bytes statements
script_from_front bytes blank rest [] is_blank e script = subst (AllByRecursion IsBlankByte) (sym e) (all_joined IsBlankByte blank rest is_blank script)
script_from_front bytes blank rest (statement ∷ statements) is_blank e (more, written, following, is_more, is_written, f, script) =
    (blank ++ more, written, following, all_joined IsBlankByte blank more is_blank is_more, is_written, e ∙ ap (λ (l : List ℕ). blank ++ l) f ∙ simp append_assoc, script)

-- what is left is read as the same statements, where it begins with no blank
pub script_after_front : (bytes blank rest : List ℕ) (statements : List Statement) → IsBlank blank → BeginsOutside IsBlankByte rest → bytes ≡ blank ++ rest → IsScript bytes statements → IsScript rest statements
script_after_front bytes blank rest [] is_blank outside e script = all_after IsBlankByte blank rest (subst (AllByRecursion IsBlankByte) e script)
script_after_front bytes blank rest (statement ∷ statements) is_blank outside e (more, written, following, is_more, is_written, f, script) =
    let begins : BeginsWith IsStatement (written ++ following) statement following = (written, is_written, refl) in
    let both : (blank ≡ more) × (rest ≡ written ++ following) =
    same_span IsBlankByte blank more rest (written ++ following) is_blank is_more outside (begins_with_letter (written ++ following) statement following begins) (sym e ∙ f ∙ append_assoc more written following) in
    ([], written, following, tt, is_written, both.1, script)

-- a script's first statement, and the others, which follow it
pub record First (bytes : List ℕ) (statements : List Statement) : Type 0 where
  pub statement : Statement
  pub others : List Statement
  pub rest : List ℕ
  pub are : statements ≡ statement ∷ others
  pub begins : BeginsWith IsStatement bytes statement rest
  pub script : IsScript rest others

-- bytes that do not begin with a blank begin with a statement
pub script_first : (bytes : List ℕ) (statements : List Statement) → BeginsOutside IsBlankByte bytes → bytes ≢ [] → IsScript bytes statements → First bytes statements
script_first bytes [] outside some script = absurd (some (all_and_outside IsBlankByte bytes script outside))
script_first bytes (statement ∷ statements) outside some (more, written, following, is_more, is_written, f, script) =
    let begins : BeginsWith IsStatement (written ++ following) statement following = (written, is_written, refl) in
    let both : ([] ≡ more) × (bytes ≡ written ++ following) =
    same_span IsBlankByte [] more bytes (written ++ following) tt is_more outside (begins_with_letter (written ++ following) statement following begins) (f ∙ append_assoc more written following) in
    record { statement = statement; others = statements; rest = following; are = refl; begins = (written, is_written, both.1); script = script }

-- a statement, and a script after it, are a script
pub script_from_first : (bytes rest : List ℕ) (statement : Statement) (statements : List Statement) → BeginsWith IsStatement bytes statement rest → IsScript rest statements → IsScript bytes (statement ∷ statements)
script_from_first bytes rest statement statements (written, is_written, e) script = ([], written, rest, tt, is_written, e, script)

-- blanks are no script with a statement
blank_is_empty : (bytes more written following : List ℕ) (statement : Statement) → IsBlank bytes → IsStatement written statement → bytes ≡ more ++ written ++ following → ⊥
blank_is_empty bytes more written following statement is_blank is_written e =
    let begins : BeginsWith IsStatement (written ++ following) statement following = (written, is_written, refl) in
    let blank : IsBlank (written ++ following) = all_after IsBlankByte more (written ++ following) (subst (AllByRecursion IsBlankByte) (e ∙ append_assoc more written following) is_blank) in
    begins_with_some (written ++ following) statement following begins (all_and_outside IsBlankByte (written ++ following) blank (begins_with_letter (written ++ following) statement following begins))

-- bytes are a script of one list of statements
pub script_once : (bytes : List ℕ) (one other : List Statement) → IsScript bytes one → IsScript bytes other → one ≡ other
script_once bytes [] [] first second = refl
script_once bytes [] (t ∷ ts) is_blank (more, written, following, is_more, is_written, e, script) = absurd (blank_is_empty bytes more written following t is_blank is_written e)
script_once bytes (s ∷ ss) [] (more, written, following, is_more, is_written, e, script) is_blank = absurd (blank_is_empty bytes more written following s is_blank is_written e)
script_once bytes (s ∷ ss) (t ∷ ts) (blank, text, x, is_blank, is_s, e, first) (more, written, y, is_more, is_t, f, second) =
    let begins : BeginsWith IsStatement (text ++ x) s x = (text, is_s, refl) in
    let goes_on : BeginsWith IsStatement (written ++ y) t y = (written, is_t, refl) in
    let spans : (blank ≡ more) × (text ++ x ≡ written ++ y) =
    same_span IsBlankByte blank more (text ++ x) (written ++ y) is_blank is_more (begins_with_letter (text ++ x) s x begins) (begins_with_letter (written ++ y) t y goes_on)
    (sym (append_assoc blank text x) ∙ sym e ∙ f ∙ append_assoc more written y) in
    let both : (s ≡ t) × (x ≡ y) = statement_once (text ++ x) s t x y begins (written, is_t, spans.1) in
    let others : ss ≡ ts = script_once y ss ts (subst (λ (l : List ℕ). IsScript l ss) both.1 first) second in
    ap (λ (statement : Statement). statement ∷ ss) both.0 ∙ ap (λ (l : List Statement). t ∷ l) others
