-- A function that finds the fault at the front, where no lexeme begins.
use Rattle.std.proofs.Common.{◌≡◌, ◌≢◌, ◌∙◌, ◌==◌, ◌&&◌, ◌||◌, ◌<◌, ◌≤◌, ◌%◌, if◌then◌else◌, nat_le, not, Bool, true, false, ℕ, List, [], ◌∷◌, ◌++◌, drop, length, None, inl, inr, refl, sym, ap, append_assoc, arith, subst}
use Rattle.std.proofs.lemmas.Bool.{eq-eqb, eqb-true, false≢true, false_from_ne_true, or_right}
use Rattle.std.proofs.lemmas.Bool.Decides.{nat_tests}
use Rattle.hc_lex.specs.declared.character.Class.{Class}
use Rattle.hc_lex.specs.declared.character.Class.TheVariants.{Space, Letter, Digit, Dollar, Quote, Sign, Other}
use Rattle.hc_lex.specs.declared.character.Run.{Run}
use Rattle.hc_lex.specs.declared.character.Run.TheVariants as run
use Rattle.hc_lex.specs.declared.fault.LexKind.{LexKind}
use Rattle.hc_lex.specs.declared.fault.LexKind.TheVariants.{Char, OpenText, BadBlob, TooLarge}
use Rattle.hc_lex.specs.declared.token.TokenKind.TheVariants as kind
use Rattle.hc_lex.specs.Characters.{IsRun, class_of, is_in}
use Rattle.hc_lex.specs.Flaws.{BeginsDigits, BeginsStray, IsFlaw}
use Rattle.hc_lex.specs.Keywords.{keyword_of}
use Rattle.hc_text.specs.Quotes.{doubled}
use Rattle.hc_lex.specs.Quotes.{IsQuote}
use Rattle.hc_lex.specs.Tokens.{BeginsSpoiler, IsBlob, IsBlobMark, IsDigits, greatest_integer, value_of}
use Rattle.hc_lex.proofs.Classes.{digit_has_class, mark_has_class}
use Rattle.hc_lex.proofs.FirstLexeme.{Found, blob_in, by_class, closed_by, first_lexeme, found, is_mark, is_spoiler, le_test, quote_34, quote_39, word_kind}
use Rattle.hc_lex.proofs.Scans.{after_quote-open, after_run, after_run-run, begins_byte, begins_not, both, run_of, run_of-run}

-- the fault that a character of this class begins, with its offset
abbrev pub flaw_in : Class → ℕ → List ℕ → LexKind × ℕ
flaw_in Space b bytes = (Char, 0)
flaw_in Letter b bytes = (BadBlob, 0)
flaw_in Digit b bytes = if nat_le (value_of (run_of run.Number (b ∷ bytes))) greatest_integer then (Char, length (run_of run.Number (b ∷ bytes))) else (TooLarge, 0)
flaw_in Dollar b bytes = (Char, 0)
flaw_in Quote b bytes = (OpenText, 0)
flaw_in Sign b bytes = (Char, 0)
flaw_in Other b bytes = (Char, 0)

-- the fault that is at the front, where one does
unfoldable pub first_flaw : List ℕ → LexKind × ℕ
first_flaw [] = (Char, 0)
first_flaw (b ∷ bytes) = flaw_in (class_of b) b bytes

-- no lexeme begins here, and the function finds this fault
abbrev pub IsFound : LexKind → ℕ → List ℕ → Type 0
IsFound k offset bytes = (first_lexeme bytes ≡ None) × ◌≡◌ {A = LexKind × ℕ} (first_flaw bytes) (k, offset)

-- the fault at the front is that of the first character's class
flaw_class : (b : ℕ) (bytes : List ℕ) (k : Class) → class_of b ≡ k → ◌≡◌ {A = LexKind × ℕ} (first_flaw (b ∷ bytes)) (flaw_in k b bytes)
unfolding first_flaw
flaw_class b bytes k e = ap (λ c. flaw_in c b bytes) e

-- the same of other bytes and another place that are equal
moved : (k : LexKind) (offset place : ℕ) (bytes others : List ℕ) → offset ≡ place → bytes ≡ others → IsFound k place others → IsFound k offset bytes
moved k offset place bytes others e f is = subst (λ o. IsFound k o bytes) (sym e) (subst (λ bs. IsFound k place bs) (sym f) is)

-- the lexeme at `!` is `!=` or none, and that at `|` is `||` or none
not_found : (bytes : List ℕ) → first_lexeme (33 ∷ bytes) ≡ (if begins_byte 61 bytes then found kind.NotEqual (drop 1 bytes) else None)
unfolding first_lexeme class_of
not_found bytes = refl

bar_found : (bytes : List ℕ) → first_lexeme (124 ∷ bytes) ≡ (if begins_byte 124 bytes then found kind.DoubleBar (drop 1 bytes) else None)
unfolding first_lexeme class_of
bar_found bytes = refl

-- the fault at `!` and at `|` is the character itself
sign_flaw : (bytes : List ℕ) → ◌≡◌ {A = LexKind × ℕ} (first_flaw (33 ∷ bytes)) (Char, 0) × ◌≡◌ {A = LexKind × ℕ} (first_flaw (124 ∷ bytes)) (Char, 0)
unfolding first_flaw class_of
sign_flaw bytes = (refl, refl)

-- a stray character is the fault that is found
stray_found : (bytes : List ℕ) → BeginsStray bytes → IsFound Char 0 bytes
stray_found [] is = absurd is
stray_found (b ∷ bytes) (inl other) = (by_class b bytes Other other, flaw_class b bytes Other other)
stray_found (b ∷ bytes) (inr (inl dollar)) = (by_class b bytes Dollar dollar, flaw_class b bytes Dollar dollar)
stray_found (b ∷ bytes) (inr (inr (inl (e, ne)))) =
    subst (λ x. IsFound Char 0 (x ∷ bytes)) (sym e)
    (not_found bytes ∙ ap (λ t. if t then found kind.NotEqual (drop 1 bytes) else None) (begins_not 61 bytes ne), (sign_flaw bytes).0)
stray_found (b ∷ bytes) (inr (inr (inr (e, ne)))) =
    subst (λ x. IsFound Char 0 (x ∷ bytes)) (sym e)
    (bar_found bytes ∙ ap (λ t. if t then found kind.DoubleBar (drop 1 bytes) else None) (begins_not 124 bytes ne), (sign_flaw bytes).1)

-- numbers
abbrev number_by : List ℕ → List ℕ → Found
number_by digits rest = if nat_le (value_of digits) greatest_integer && not (is_spoiler rest) then found (kind.Integer (value_of digits)) rest else None

-- for digits in front, what is found, and which fault
number_split : (b : ℕ) (text rest : List ℕ) → IsDigits (b ∷ text) rest → (first_lexeme (b ∷ text ++ rest) ≡ number_by (b ∷ text) rest)
    × ◌≡◌ {A = LexKind × ℕ} (first_flaw (b ∷ text ++ rest)) (if nat_le (value_of (b ∷ text)) greatest_integer then (Char, length (b ∷ text)) else (TooLarge, 0))
number_split b text rest is =
    let run_is : run_of run.Number (b ∷ text ++ rest) ≡ b ∷ text = run_of-run run.Number (b ∷ text) rest is.1 is.2 in
    let rest_is : after_run run.Number (b ∷ text ++ rest) ≡ rest = after_run-run run.Number (b ∷ text) rest is.1 is.2 in
    let class_is : class_of b ≡ Digit = digit_has_class b is.1.0 in (
      by_class b (text ++ rest) Digit class_is
          ∙ ap (λ ds. number_by ds (after_run run.Number (b ∷ text ++ rest))) run_is
          ∙ ap (λ r. number_by (b ∷ text) r) rest_is,
      flaw_class b (text ++ rest) Digit class_is
          ∙ ap (λ ds. if nat_le (value_of ds) greatest_integer then (Char, length ds) else (TooLarge, 0)) run_is,
    )

-- a spoiler passes the test
spoiler_test : (rest : List ℕ) → BeginsSpoiler rest → is_spoiler rest ≡ true
spoiler_test [] (inl h) = absurd h
spoiler_test [] (inr h) = absurd h
spoiler_test (b ∷ rest) (inl e) = ap (λ t. t || is_in run.Name b) (eq-eqb b 46 e)
spoiler_test (b ∷ rest) (inr e) = or_right (b == 46) (is_in run.Name b) e

-- a value above the greatest fails the test
too_high : (v : ℕ) → greatest_integer < v → nat_le v greatest_integer ≡ false
too_high v h = grind (arith, nat_tests)

-- after a number that is spoiled, the fault that is found is the character there
spoiled_found : (digits rest : List ℕ) → IsDigits digits rest → value_of digits ≤ greatest_integer → BeginsSpoiler rest → IsFound Char (length digits) (digits ++ rest)
spoiled_found [] rest is fits spoils = absurd (is.0 refl)
spoiled_found (b ∷ text) rest is fits spoils =
    let split = number_split b text rest is in (
      split.0 ∙ ap (λ t. if t && not (is_spoiler rest) then found (kind.Integer (value_of (b ∷ text))) rest else None) (le_test (value_of (b ∷ text)) greatest_integer fits)
          ∙ ap (λ t. if not t then found (kind.Integer (value_of (b ∷ text))) rest else None) (spoiler_test rest spoils),
      split.1 ∙ ap (λ t. if t then (Char, length (b ∷ text)) else (TooLarge, 0)) (le_test (value_of (b ∷ text)) greatest_integer fits),
    )

-- a number that is too large is the fault that is found
large_found : (digits rest : List ℕ) → IsDigits digits rest → greatest_integer < value_of digits → IsFound TooLarge 0 (digits ++ rest)
large_found [] rest is high = absurd (is.0 refl)
large_found (b ∷ text) rest is high =
    let split = number_split b text rest is in (
      split.0 ∙ ap (λ t. if t && not (is_spoiler rest) then found (kind.Integer (value_of (b ∷ text))) rest else None) (too_high (value_of (b ∷ text)) high),
      split.1 ∙ ap (λ t. if t then (Char, length (b ∷ text)) else (TooLarge, 0)) (too_high (value_of (b ∷ text)) high),
    )

-- quotes
quote_flaw : (bytes : List ℕ) → ◌≡◌ {A = LexKind × ℕ} (first_flaw (34 ∷ bytes)) (OpenText, 0) × ◌≡◌ {A = LexKind × ℕ} (first_flaw (39 ∷ bytes)) (OpenText, 0)
unfolding first_flaw class_of
quote_flaw bytes = (refl, refl)

-- a quote that is not closed is the fault that is found
open_found : (quote : ℕ) (inner : List ℕ) → IsQuote quote → IsFound OpenText 0 (quote ∷ doubled quote inner)
open_found quote inner (inl e) =
    subst (λ q. IsFound OpenText 0 (q ∷ doubled q inner)) (sym e)
    (quote_34 (doubled 34 inner) ∙ ap (closed_by kind.QuotedName) (after_quote-open 34 inner), (quote_flaw (doubled 34 inner)).0)
open_found quote inner (inr e) =
    subst (λ q. IsFound OpenText 0 (q ∷ doubled q inner)) (sym e)
    (quote_39 (doubled 39 inner) ∙ ap (closed_by kind.Text) (after_quote-open 39 inner), (quote_flaw (doubled 39 inner)).1)

-- blobs
split_once : (b : ℕ) (front back bytes : List ℕ) (t : Bool) → front ++ back ≡ bytes → (if t then b ∷ front else []) ++ (if t then back else b ∷ bytes) ≡ b ∷ bytes
split_once b front back bytes true e = ap (λ bs. b ∷ bs) e
split_once b front back bytes false e = refl

-- the run at the front and what follows it are the bytes
pub run-split : (k : Run) (bytes : List ℕ) → run_of k bytes ++ after_run k bytes ≡ bytes
run-split k [] = refl
run-split k (b ∷ bytes) = split_once b (run_of k bytes) (after_run k bytes) bytes (is_in k b) (run-split k bytes)

run_once : (k : Run) (b : ℕ) (front : List ℕ) (t : Bool) → is_in k b ≡ t → IsRun k front → IsRun k (if t then b ∷ front else [])
run_once k b front true e is = (e, is)
run_once k b front false e is = tt

-- the run that is found is a run
pub run_is_run : (k : Run) (bytes : List ℕ) → IsRun k (run_of k bytes)
run_is_run k [] = tt
run_is_run k (b ∷ bytes) = run_once k b (run_of k bytes) (is_in k b) refl (run_is_run k bytes)

-- what begins with a quote is a quote and what follows it
after_the_quote : (bytes : List ℕ) → begins_byte 39 bytes ≡ true → bytes ≡ 39 ∷ drop 1 bytes
after_the_quote [] e = absurd (false≢true e)
after_the_quote (b ∷ bytes) e = ap (λ x. x ∷ bytes) (eqb-true b 39 e)

-- where no blob is in front, none is found
no_blob : (mark : ℕ) (tail : List ℕ) → IsBlobMark mark → ((text rest : List ℕ) → IsBlob text → mark ∷ 39 ∷ tail ≢ text ++ rest) → blob_in tail ≡ None
no_blob mark tail is ne =
    let digits : List ℕ = run_of run.Blob tail in
    let after : List ℕ = after_run run.Blob tail in
    ap (λ t. if t then found kind.Blob (drop 1 after) else None)
    (false_from_ne_true ((length digits % 2 == 0) && begins_byte 39 after)
    (λ e. let two : ((length digits % 2 == 0) ≡ true) × (begins_byte 39 after ≡ true) = both (length digits % 2 == 0) (begins_byte 39 after) e in
    ne (mark ∷ 39 ∷ digits ++ 39 ∷ []) (drop 1 after) (mark, digits, is, run_is_run run.Blob tail, eqb-true (length digits % 2) 0 two.0, refl)
    (ap (λ bs. mark ∷ 39 ∷ bs) (sym (run-split run.Blob tail) ∙ ap (λ r. digits ++ r) (after_the_quote after two.1) ∙ sym (append_assoc digits (39 ∷ []) (drop 1 after))))))

-- a mark and a quote that begin no blob are the fault that is found
blob_flaw : (mark : ℕ) (tail : List ℕ) → IsBlobMark mark → ((text rest : List ℕ) → IsBlob text → mark ∷ 39 ∷ tail ≢ text ++ rest) → IsFound BadBlob 0 (mark ∷ 39 ∷ tail)
blob_flaw mark tail is ne = (
  by_class mark (39 ∷ tail) Letter (mark_has_class mark is)
      ∙ ap (λ t. if t && true then blob_in tail else found (word_kind (keyword_of (run_of run.Name (mark ∷ 39 ∷ tail)))) (after_run run.Name (mark ∷ 39 ∷ tail))) (is_mark mark is)
      ∙ no_blob mark tail is ne,
  flaw_class mark (39 ∷ tail) Letter (mark_has_class mark is),
)

-- what the definition says is a fault is the one that is found
pub flaw_found : (k : LexKind) (offset : ℕ) (bytes : List ℕ) → IsFlaw k offset bytes → IsFound k offset bytes
flaw_found Char offset bytes (inl (e, stray)) = moved Char offset 0 bytes bytes e refl (stray_found bytes stray)
flaw_found Char offset bytes (inr (digits, rest, begins, fits, spoils, e)) =
    moved Char offset (length digits) bytes (digits ++ rest) e begins.0 (spoiled_found digits rest begins.1 fits spoils)
flaw_found OpenText offset bytes (e, quote, is, (inner, whole)) = moved OpenText offset 0 bytes (quote ∷ doubled quote inner) e whole (open_found quote inner is)
flaw_found BadBlob offset bytes (e, (mark, tail, is, whole), ne) =
    moved BadBlob offset 0 bytes (mark ∷ 39 ∷ tail) e whole (blob_flaw mark tail is (λ text rest blob same. ne text rest blob (whole ∙ same)))
flaw_found TooLarge offset bytes (e, digits, rest, begins, high) = moved TooLarge offset 0 bytes (digits ++ rest) e begins.0 (large_found digits rest begins.1 high)

-- no fault is at the end of a text
nothing_begins : (digits rest : List ℕ) → BeginsDigits [] digits rest → ⊥
nothing_begins [] rest begins = begins.1.0 refl
nothing_begins (b ∷ digits) rest begins = let e : [] ≡ b ∷ digits ++ rest = begins.0 in cc

-- no fault is where the text ends
pub no_flaw_at_end : (k : LexKind) (offset : ℕ) → IsFlaw k offset [] → ⊥
no_flaw_at_end Char offset (inl (e, stray)) = stray
no_flaw_at_end Char offset (inr (digits, rest, begins, fits, spoils, e)) = nothing_begins digits rest begins
no_flaw_at_end OpenText offset (e, quote, is, (inner, whole)) = let same : [] ≡ quote ∷ doubled quote inner = whole in cc
no_flaw_at_end BadBlob offset (e, (mark, tail, is, whole), ne) = let same : [] ≡ mark ∷ 39 ∷ tail = whole in cc
no_flaw_at_end TooLarge offset (e, digits, rest, begins, high) = nothing_begins digits rest begins
