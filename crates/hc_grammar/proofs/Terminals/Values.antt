-- What is found as the meaning of a lexeme is what it means.
use Rattle.std.proofs.Common.{◌≡◌, ◌≢◌, inl, inr, ◌∙◌, ap, ℕ, ℤ, pos, negsuc, zero, suc, ◌^◌, ◌-◌, ◌<◌, ◌==◌, ◌&&◌, not, List, [], ◌∷◌, length, Bool, true, false, Option, Some, None, sym, refl, subst, arith}
use Rattle.std.specs.Prelude.{if◌then◌else◌, nat_lt, codes}
use Rattle.std.specs.Str.{str_eq_ignore_ascii_case, str_to_ascii_lowercase}
use Rattle.std.proofs.lemmas.Slice.Eq.{bytes_eq-Decides}
use Rattle.std.proofs.lemmas.Bool.{eqb-true, eq-eqb, ltb-true, lt-ltb, and_parts, not-true}
use Rattle.hc_lex.specs.declared.token.TokenKind.{TokenKind}
use Rattle.hc_lex.specs.declared.token.TokenKind.TheVariants as kind
use Rattle.hc_lex.specs.declared.keyword.Keyword.TheVariants as word
use Rattle.hc_value.specs.declared.value.Value.{Value}
use Rattle.hc_value.specs.declared.value.Value.TheVariants as value
use Rattle.hc_grammar.specs.Lexemes.{Lexeme, IsName, IsLiteral}
use Rattle.hc_grammar.specs.Kinds.{kind_number, is, among}
use Rattle.hc_grammar.specs.First.{has_kind, are_plain, is_plain, are_distinct, is_clear, is_filled}
use Rattle.hc_grammar.specs.Terminals.{Terminal, Name, Literal, Integer, Negative, Direction, Kinds, Means, IsInteger, IsNegative, IsOneOf, also, unquoted, name_of, blob_of, number_of, integer_of, negative_of, after_minus, literal_of, of_kind, direction_of, value_of, left_of, kinds_of}
use Rattle.hc_grammar.proofs.Terminals.Numbers.{kind_is, is_of_kind}
use Rattle.hc_grammar.proofs.Terminals.Lists.{differ, true_left, true_right, among_has, has_among, false_unless}
use Rattle.hc_grammar.proofs.Terminals.Quotes.{unquoted_is, unquoted_has, also_some, some_same}
use Rattle.hc_grammar.proofs.Terminals.Blobs.{blob_is, blob_has}

-- a lexeme of a kind with a text
abbrev of : TokenKind → List ℕ → Lexeme
of k text = record { kind = k; text = text }

-- what is found as a name is one
name_has : (t : Lexeme) (x : List ℕ) → name_of t ≡ Some x → IsName t x
name_has t x e = plain (is kind.Name t) refl e
  where
    in_quotes : (test : Bool) → is kind.QuotedName t ≡ test → (if test then unquoted 34 t.text else None) ≡ Some x → IsName t x
    in_quotes true h e = inr (kind_is kind.QuotedName t refl h, unquoted_has 34 t.text x e)
    in_quotes false h e = absurd (cc)

    plain : (test : Bool) → is kind.Name t ≡ test → (if test then Some t.text else (if is kind.QuotedName t then unquoted 34 t.text else None)) ≡ Some x → IsName t x
    plain true h e = inl (kind_is kind.Name t refl h, sym (some_same t.text x e))
    plain false h e = in_quotes (is kind.QuotedName t) refl e

-- a name is found
name_is : (t : Lexeme) (x : List ℕ) → IsName t x → name_of t ≡ Some x
name_is t x (inl h) = ap (λ (k : TokenKind). name_of (of k t.text)) h.0 ∙ ap (λ (l : List ℕ). Some l) (sym h.1)
name_is t x (inr h) = ap (λ (k : TokenKind). name_of (of k t.text)) h.0 ∙ ap (unquoted 34) h.1 ∙ unquoted_is 34 x

-- the number of a kind: that of integers that are literals, or another one
small_number : (n : ℕ) → kind_number (kind.Integer n) ≡ 2 → n < 2 ^ 63
small_number n h = by (nat_lt n (2 ^ 63)) refl h
  where
    large : (test : Bool) → (let m : ℕ = if test then 76 else 77 in m ≡ 2) → n < 2 ^ 63
    large true h = absurd (omega (arith, h))
    large false h = absurd (omega (arith, h))

    by : (test : Bool) → nat_lt n (2 ^ 63) ≡ test → (let m : ℕ = if test then 2 else (if n == 2 ^ 63 then 76 else 77) in m ≡ 2) → n < 2 ^ 63
    by true small h = ltb-true n (2 ^ 63) small
    by false small h = large (n == 2 ^ 63) h

-- integers that are literals are told by their number
integer_kind : (k : TokenKind) → kind_number k ≡ 2 → (k ≡ kind.Integer (number_of k)) × (number_of k < 2 ^ 63)
integer_kind (kind.Integer n) h = (refl, small_number n h)
integer_kind (kind.Keyword w) h = absurd (omega (arith, h))
integer_kind _ h = absurd (omega (arith, h))

-- what passes the test of an integer
integer_passes : (t : Lexeme) → is (kind.Integer 0) t ≡ true → (t.kind ≡ kind.Integer (number_of t.kind)) × (number_of t.kind < 2 ^ 63)
integer_passes t h = integer_kind t.kind (eqb-true (kind_number t.kind) 2 h)

-- an integer below 2^63 passes it
is_integer : (t : Lexeme) (n : ℕ) → t.kind ≡ kind.Integer n → n < 2 ^ 63 → is (kind.Integer 0) t ≡ true
is_integer t n h small = ap (λ k. kind_number k == 2) h ∙ ap (λ b. (if b then 2 else (if n == 2 ^ 63 then 76 else 77)) == 2) (lt-ltb n (2 ^ 63) small)

-- what is found as an integer
integer_has : (t : Lexeme) (x : ℤ) → integer_of t ≡ Some x → (n : ℕ) × (x ≡ pos n) × (t.kind ≡ kind.Integer n) × (n < 2 ^ 63)
integer_has t x e = by (is (kind.Integer 0) t) refl e
  where
    by : (test : Bool) → is (kind.Integer 0) t ≡ test → (if test then Some (pos (number_of t.kind)) else None) ≡ Some x → (n : ℕ) × (x ≡ pos n) × (t.kind ≡ kind.Integer n) × (n < 2 ^ 63)
    by true h e = let p = integer_passes t h in (number_of t.kind, sym (some_same (pos (number_of t.kind)) x e), p.0, p.1)
    by false h e = absurd (cc)

integer_is : (t : Lexeme) (n : ℕ) → t.kind ≡ kind.Integer n → n < 2 ^ 63 → integer_of t ≡ Some (pos n)
integer_is t n h small =
    ap (λ b. if b then Some (pos (number_of t.kind)) else None) (is_integer t n h small) ∙ ap (λ k. Some (pos (number_of k))) h

-- what is found as a literal is one
literal_has : (t : Lexeme) (v : Value) → literal_of t ≡ Some v → IsLiteral t v
literal_has t v e = null (is (kind.Keyword word.Null) t) refl e
  where
    blob : (test : Bool) → is kind.Blob t ≡ test → (if test then also value.Blob (blob_of t.text) else also value.Int (integer_of t)) ≡ Some v → IsLiteral t v
    blob true h e =
        let p = also_some (λ (x : List ℕ). value.Blob x) (blob_of t.text) v e in
        subst (λ (x : Value). IsLiteral t x) (sym p.2) (kind_is kind.Blob t refl h, blob_has t.text p.0 p.1)
    blob false h e =
        let p = also_some (λ (x : ℤ). value.Int x) (integer_of t) v e in
        let n = integer_has t p.0 p.1 in
        subst (λ (x : Value). IsLiteral t x) (sym (p.2 ∙ ap (λ (i : ℤ). value.Int i) n.1)) (n.2, n.3)

    text : (test : Bool) → is kind.Text t ≡ test
        → (if test then also value.Text (unquoted 39 t.text) else (if is kind.Blob t then also value.Blob (blob_of t.text) else also value.Int (integer_of t))) ≡ Some v
        → IsLiteral t v
    text true h e =
        let p = also_some (λ (x : List ℕ). value.Text x) (unquoted 39 t.text) v e in
        subst (λ (x : Value). IsLiteral t x) (sym p.2) (kind_is kind.Text t refl h, unquoted_has 39 t.text p.0 p.1)
    text false h e = blob (is kind.Blob t) refl e

    null : (test : Bool) → is (kind.Keyword word.Null) t ≡ test
        → (if test then Some value.Null else (if is kind.Text t then also value.Text (unquoted 39 t.text)
        else (if is kind.Blob t then also value.Blob (blob_of t.text) else also value.Int (integer_of t)))) ≡ Some v → IsLiteral t v
    null true h e = subst (λ (x : Value). IsLiteral t x) (some_same value.Null v e) (kind_is (kind.Keyword word.Null) t refl h)
    null false h e = text (is kind.Text t) refl e

-- the literal of a lexeme whose kind has this number
abbrev by_number : ℕ → Lexeme → Option Value
by_number m t =
    if m == kind_number (kind.Keyword word.Null) then Some value.Null
    else (if m == kind_number kind.Text then also value.Text (unquoted 39 t.text)
    else (if m == kind_number kind.Blob then also value.Blob (blob_of t.text)
    else also value.Int (integer_of t)))

-- a literal is found
literal_is : (t : Lexeme) (v : Value) → IsLiteral t v → literal_of t ≡ Some v
literal_is t value.Null h = ap (λ (k : TokenKind). literal_of (of k t.text)) h
literal_is t (value.Int (pos n)) h =
    ap (λ m. by_number m t) (eqb-true (kind_number t.kind) 2 (is_integer t n h.0 h.1)) ∙ ap (also value.Int) (integer_is t n h.0 h.1)
literal_is t (value.Int (negsuc n)) h = absurd h
literal_is t (value.Text x) h =
    ap (λ (k : TokenKind). literal_of (of k t.text)) h.0 ∙ ap (λ (l : List ℕ). also value.Text (unquoted 39 l)) h.1 ∙ ap (also value.Text) (unquoted_is 39 x)
literal_is t (value.Blob x) h = ap (λ (k : TokenKind). literal_of (of k t.text)) h.0 ∙ ap (also value.Blob) (blob_is t.text x h.1)

-- what is found after a minus
negative_has : (t : Lexeme) (x : ℤ) → after_minus t ≡ Some x → IsNegative x t.kind
negative_has t x e = by (is (kind.Integer 0) t) refl e
  where
    least : (test : Bool) → is (kind.Integer (2 ^ 63)) t ≡ test → (if test then Some (negsuc (2 ^ 63 - 1)) else None) ≡ Some x → IsNegative x t.kind
    least true h e = subst (λ (i : ℤ). IsNegative i t.kind) (some_same (negsuc (2 ^ 63 - 1)) x e) (kind_is (kind.Integer (2 ^ 63)) t refl h, omega arith)
    least false h e = absurd (cc)

    number : (n : ℕ) → t.kind ≡ kind.Integer n → n < 2 ^ 63 → IsNegative (negative_of n) t.kind
    number zero h small = (h, refl)
    number (suc n) h small = (h, omega (arith, small))

    by : (test : Bool) → is (kind.Integer 0) t ≡ test
        → (if test then Some (negative_of (number_of t.kind)) else (if is (kind.Integer (2 ^ 63)) t then Some (negsuc (2 ^ 63 - 1)) else None)) ≡ Some x → IsNegative x t.kind
    by true h e =
        let p = integer_passes t h in
        subst (λ (i : ℤ). IsNegative i t.kind) (some_same (negative_of (number_of t.kind)) x e) (number (number_of t.kind) p.0 p.1)
    by false h e = least (is (kind.Integer (2 ^ 63)) t) refl e

-- a number after a minus is found
negative_is : (t : Lexeme) (x : ℤ) → IsNegative x t.kind → after_minus t ≡ Some x
negative_is t (pos n) h = ap (λ (k : TokenKind). after_minus (of k t.text)) h.0 ∙ ap (λ (i : ℕ). Some (pos i)) (sym h.1)
negative_is t (negsuc n) h = by (n == 2 ^ 63 - 1) refl
  where
    by : (test : Bool) → (n == 2 ^ 63 - 1) ≡ test → after_minus t ≡ Some (negsuc n)
    by true e =
        let same : n ≡ 2 ^ 63 - 1 = eqb-true n (2 ^ 63 - 1) e in
        ap (λ (k : TokenKind). after_minus (of k t.text)) (h.0 ∙ ap (λ (i : ℕ). kind.Integer (suc i)) same) ∙ ap (λ (i : ℕ). Some (negsuc i)) (sym same)
    by false e =
        let small : suc n < 2 ^ 63 = omega (arith, h.1, eq_no e) in
        ap (λ b. if b then Some (negative_of (number_of t.kind)) else (if is (kind.Integer (2 ^ 63)) t then Some (negsuc (2 ^ 63 - 1)) else None)) (is_integer t (suc n) h.0 small)
        ∙ ap (λ (k : TokenKind). Some (negative_of (number_of k))) h.0
      where
        eq_no : (n == 2 ^ 63 - 1) ≡ false → n ≢ 2 ^ 63 - 1
        eq_no e same = differ (n == 2 ^ 63 - 1) (eq-eqb n (2 ^ 63 - 1) same) e

-- what is found by its kind is one of the table
table_has : {A : Type 0} (table : List (TokenKind × A)) (t : Lexeme) (x : A) → are_plain (left_of table) ≡ true → of_kind table t ≡ Some x → IsOneOf t.kind x table
table_has [] t x plain e = absurd (cc)
table_has {A} (one ∷ others) t x plain e =
    let parts = and_parts (is_plain one.0) (are_plain (left_of others)) plain in
    by parts.0 (table_has others t x parts.1) (is one.0 t) refl e
  where
    by : is_plain one.0 ≡ true → (of_kind others t ≡ Some x → IsOneOf t.kind x others) → (test : Bool) → is one.0 t ≡ test
        → (if test then Some one.1 else of_kind others t) ≡ Some x → IsOneOf t.kind x (one ∷ others)
    by simple ih true h e = inl (kind_is one.0 t simple h, sym (some_same one.1 x e))
    by simple ih false h e = inr (ih e)

-- one of the table is of its kinds
table_kind : {A : Type 0} (table : List (TokenKind × A)) (t : Lexeme) (x : A) → IsOneOf t.kind x table → among (left_of table) t ≡ true
table_kind [] t x h = absurd h
table_kind (one ∷ others) t x (inl h) = true_left (is one.0 t) (among (left_of others) t) (is_of_kind one.0 t h.0)
table_kind (one ∷ others) t x (inr h) = true_right (is one.0 t) (among (left_of others) t) (table_kind others t x h)

-- one of the table is found by its kind
table_is : {A : Type 0} (table : List (TokenKind × A)) (t : Lexeme) (x : A) → are_distinct (left_of table) ≡ true → IsOneOf t.kind x table → of_kind table t ≡ Some x
table_is [] t x once h = absurd h
table_is (one ∷ others) t x once (inl h) = ap (λ b. if b then Some one.1 else of_kind others t) (is_of_kind one.0 t h.0) ∙ ap (λ y. Some y) (sym h.1)
table_is (one ∷ others) t x once (inr h) =
    let parts = and_parts (not (has_kind (left_of others) one.0)) (are_distinct (left_of others)) once in
    let other : is one.0 t ≡ false =
    false_unless (is one.0 t) (λ this. differ (has_kind (left_of others) one.0) (has_among (left_of others) one.0 t this (table_kind others t x h)) (not-true (has_kind (left_of others) one.0) parts.0)) in
    ap (λ b. if b then Some one.1 else of_kind others t) other ∙ table_is others t x parts.1 h

-- what is found as a direction is one
direction_has : (t : Lexeme) (x : Bool) → value_of Direction t ≡ Some x → Means Direction x t
direction_has t x e = by (is kind.Name t) refl e
  where
    asc : (named : t.kind ≡ kind.Name) (test : Bool) → str_eq_ignore_ascii_case (codes "ASC") t.text ≡ test → (if test then Some false else None) ≡ Some x → Means Direction x t
    asc named true h e = subst (λ b. Means Direction b t) (some_same false x e) (named, h)
    asc named false h e = absurd (cc)

    desc : (named : t.kind ≡ kind.Name) (test : Bool) → str_eq_ignore_ascii_case (codes "DESC") t.text ≡ test
        → (if test then Some true else (if str_eq_ignore_ascii_case (codes "ASC") t.text then Some false else None)) ≡ Some x → Means Direction x t
    desc named true h e = subst (λ b. Means Direction b t) (some_same true x e) (named, h)
    desc named false h e = asc named (str_eq_ignore_ascii_case (codes "ASC") t.text) refl e

    by : (test : Bool) → is kind.Name t ≡ test → (if test then direction_of t.text else None) ≡ Some x → Means Direction x t
    by true h e = desc (kind_is kind.Name t refl h) (str_eq_ignore_ascii_case (codes "DESC") t.text) refl e
    by false h e = absurd (cc)

-- ASC is not DESC
not_both_words : (text : List ℕ) → str_eq_ignore_ascii_case (codes "ASC") text ≡ true → str_eq_ignore_ascii_case (codes "DESC") text ≡ true → ⊥
not_both_words text asc desc =
    let one = (bytes_eq-Decides (str_to_ascii_lowercase (codes "ASC")) (str_to_ascii_lowercase text)).0 asc in
    let other = (bytes_eq-Decides (str_to_ascii_lowercase (codes "DESC")) (str_to_ascii_lowercase text)).0 desc in
    let bad : 3 ≡ 4 = ap (λ (w : List ℕ). length w) (one ∙ sym other) in
    omega (arith, bad)

-- a direction is found
direction_is : (t : Lexeme) (x : Bool) → Means Direction x t → value_of Direction t ≡ Some x
direction_is t true h =
    ap (λ b. if b then direction_of t.text else None) (is_of_kind kind.Name t h.0)
    ∙ ap (λ b. if b then Some true else (if str_eq_ignore_ascii_case (codes "ASC") t.text then Some false else None)) h.1
direction_is t false h =
    ap (λ b. if b then direction_of t.text else None) (is_of_kind kind.Name t h.0)
    ∙ ap (λ b. if b then Some true else (if str_eq_ignore_ascii_case (codes "ASC") t.text then Some false else None))
    (false_unless (str_eq_ignore_ascii_case (codes "DESC") t.text) (λ desc. not_both_words t.text h.1 desc))
    ∙ ap (λ b. if b then Some false else None) h.1

-- the parts of a table's clearness
table_clear : {A : Type 0} (table : List (TokenKind × A)) → is_clear (Kinds table) ≡ true → (are_plain (left_of table) ≡ true) × (are_distinct (left_of table) ≡ true) × (is_filled table ≡ true)
table_clear table clear =
    let one = and_parts (are_plain (left_of table)) (are_distinct (left_of table) && is_filled table) clear in
    let two = and_parts (are_distinct (left_of table)) (is_filled table) one.1 in
    (one.0, two.0, two.1)

-- what is found is what the lexeme means
pub value_has : {A : Type 0} (terminal : Terminal A) (t : Lexeme) (x : A) → is_clear terminal ≡ true → value_of terminal t ≡ Some x → Means terminal x t
value_has Name t x clear e = name_has t x e
value_has Literal t x clear e = literal_has t x e
value_has Integer t x clear e = let p = integer_has t x e in subst (λ (i : ℤ). IsInteger i t.kind) (sym p.1) (p.2, p.3)
value_has Negative t x clear e = negative_has t x e
value_has Direction t x clear e = direction_has t x e
value_has (Kinds table) t x clear e = table_has table t x (table_clear table clear).0 e

-- what a lexeme means is found
pub value_is : {A : Type 0} (terminal : Terminal A) (t : Lexeme) (x : A) → is_clear terminal ≡ true → Means terminal x t → value_of terminal t ≡ Some x
value_is Name t x clear h = name_is t x h
value_is Literal t x clear h = literal_is t x h
value_is Integer t (pos n) clear h = integer_is t n h.0 h.1
value_is Integer t (negsuc n) clear h = absurd h
value_is Negative t x clear h = negative_is t x h
value_is Direction t x clear h = direction_is t x h
value_is (Kinds table) t x clear h = table_is table t x (table_clear table clear).1 h

-- the kinds of names
name_kind : (t : Lexeme) (x : List ℕ) → IsName t x → among (kinds_of Name) t ≡ true
name_kind t x (inl h) = ap (λ (k : TokenKind). among (kinds_of Name) (of k t.text)) h.0
name_kind t x (inr h) = ap (λ (k : TokenKind). among (kinds_of Name) (of k t.text)) h.0

-- the kinds of literals
literal_kind : (t : Lexeme) (v : Value) → IsLiteral t v → among (kinds_of Literal) t ≡ true
literal_kind t value.Null h = ap (λ (k : TokenKind). among (kinds_of Literal) (of k t.text)) h
literal_kind t (value.Int (pos n)) h = among_has (kinds_of Literal) (kind.Integer 0) t refl (is_integer t n h.0 h.1)
literal_kind t (value.Int (negsuc n)) h = absurd h
literal_kind t (value.Text x) h = ap (λ (k : TokenKind). among (kinds_of Literal) (of k t.text)) h.0
literal_kind t (value.Blob x) h = ap (λ (k : TokenKind). among (kinds_of Literal) (of k t.text)) h.0

-- the kinds of integers after a minus
negative_kind : (t : Lexeme) (x : ℤ) → IsNegative x t.kind → among (kinds_of Negative) t ≡ true
negative_kind t (pos n) h = ap (λ (k : TokenKind). among (kinds_of Negative) (of k t.text)) h.0
negative_kind t (negsuc n) h = by (n == 2 ^ 63 - 1) refl
  where
    by : (test : Bool) → (n == 2 ^ 63 - 1) ≡ test → among (kinds_of Negative) t ≡ true
    by true e = ap (λ (k : TokenKind). among (kinds_of Negative) (of k t.text)) (h.0 ∙ ap (λ (i : ℕ). kind.Integer (suc i)) (eqb-true n (2 ^ 63 - 1) e))
    by false e =
        let other : n ≢ 2 ^ 63 - 1 = λ same. differ (n == 2 ^ 63 - 1) (eq-eqb n (2 ^ 63 - 1) same) e in
        among_has (kinds_of Negative) (kind.Integer 0) t refl (is_integer t (suc n) h.0 (omega (arith, h.1, other)))

-- a lexeme is of one of the kinds of what it means
pub means_kind : {A : Type 0} (terminal : Terminal A) (t : Lexeme) (x : A) → Means terminal x t → among (kinds_of terminal) t ≡ true
means_kind Name t x h = name_kind t x h
means_kind Literal t x h = literal_kind t x h
means_kind Integer t (pos n) h = among_has (kinds_of Integer) (kind.Integer 0) t refl (is_integer t n h.0 h.1)
means_kind Integer t (negsuc n) h = absurd h
means_kind Negative t x h = negative_kind t x h
means_kind Direction t true h = ap (λ (k : TokenKind). among (kinds_of Direction) (of k t.text)) h.0
means_kind Direction t false h = ap (λ (k : TokenKind). among (kinds_of Direction) (of k t.text)) h.0
means_kind (Kinds table) t x h = table_kind table t x h

table_some : {A : Type 0} (table : List (TokenKind × A)) → is_filled table ≡ true → (t : Lexeme) × (x : A) × Means (Kinds table) x t
table_some [] h = absurd (cc)
table_some (one ∷ others) h = (of one.0 [], one.1, inl (refl, refl))

-- some lexeme has a meaning
pub some_meaning : {A : Type 0} (terminal : Terminal A) → is_clear terminal ≡ true → (t : Lexeme) × (x : A) × Means terminal x t
some_meaning Name clear = (of kind.Name [], [], inl (refl, refl))
some_meaning Literal clear = (of (kind.Keyword word.Null) [], value.Null, refl)
some_meaning Integer clear = (of (kind.Integer 0) [], pos 0, (refl, omega arith))
some_meaning Negative clear = (of (kind.Integer 0) [], pos 0, (refl, refl))
some_meaning Direction clear = (of kind.Name (codes "ASC"), false, (refl, refl))
some_meaning (Kinds table) clear = table_some table (table_clear table clear).2
