-- The integer at a place of a record: its type and its body are found by the types and the bodies before them.
use Rattle.std.proofs.Common.{◌≡◌, ◌≢◌, ℕ, zero, suc, ◌-◌, ◌^◌, ◌<◌, ◌≤◌, pos, List, [], ◌∷◌, ◌++◌, inl, inr, length, take, drop, Option, Some, None, refl, sym, ap, subst, ◌∙◌, arith}
use Rattle.std.specs.Prelude.{slice_get, MatchOption}
use Rattle.std.specs.Option.{unwrap_or}
use Rattle.std.proofs.lemmas.List.{length-append}
use Rattle.std.proofs.Math.Seq.{take-append_seam, drop-append_seam}
use Rattle.hc_value.specs.declared.value.Value.{Value}
use Rattle.hc_value.specs.declared.value.Value.TheVariants.{Null, Int, Text, Blob}
use Rattle.hc_value.specs.Values.{IsValue, AreValues}
use Rattle.hc_record.specs.Varint.{varint_len, read_varint}
use Rattle.hc_record.specs.Record.{body_len, type_of, body_of, types_of, bodies_of, header_len, encoding}
use Rattle.hc_record.specs.Reading.{integer_of}
use Rattle.hc_record.specs.Places.{number_of, HaveTypes}
use Rattle.hc_record.proofs.Numbers.{varint_again}
use Rattle.hc_record.proofs.Integers.{int_types, integer_again}
use Rattle.hc_record.proofs.Encodings.{length-encoding, all_types_fit}
use Rattle.hc_record.proofs.Headers.{header_len-types}
use Rattle.hc_record.proofs.Records.{length-body_of, type_fits, header_fits}

-- ---- an integer by its type

pub record ByType (v : Value) (serial : ℕ) (bytes : List ℕ) : Type 0 where
  pub eight : serial ≡ 8 → Some (pos 0) ≡ number_of (Some v)
  pub nine : serial ≡ 9 → Some (pos 1) ≡ number_of (Some v)
  pub zero_none : serial ≡ 0 → None ≡ number_of (Some v)
  pub above_none : 6 < serial → serial ≢ 8 → serial ≢ 9 → None ≡ number_of (Some v)
  pub long : body_len serial ≤ length bytes
  pub body : 1 ≤ serial → serial ≤ 6 → Some (integer_of (take (body_len serial) bytes)) ≡ number_of (Some v)

body_first : (v : Value) (rest : List ℕ) → take (body_len (type_of v)) (body_of v ++ rest) ≡ body_of v
body_first v rest = ap (λ n. take n (body_of v ++ rest)) (sym (length-body_of v)) ∙ take-append_seam (body_of v) rest

body_long : (v : Value) (rest : List ℕ) → body_len (type_of v) ≤ length (body_of v ++ rest)
body_long v rest = omega (arith, length-body_of v, length-append (body_of v) rest)

by_type_at : (v : Value) (rest : List ℕ) → IsValue v → ByType v (type_of v) (body_of v ++ rest)
by_type_at Null rest is = record {
  eight = λ e. absurd (omega (arith, e));
  nine = λ e. absurd (omega (arith, e));
  zero_none = λ _. refl;
  above_none = λ h _ _. absurd (omega (arith, h));
  long = body_long Null rest;
  body = λ h _. absurd (omega (arith, h));
}
by_type_at (Int n) rest is =
    elim (int_types n) [
      | inl small ↦ record {
        eight = λ e. absurd (omega (arith, e, small.1));
        nine = λ e. absurd (omega (arith, e, small.1));
        zero_none = λ e. absurd (omega (arith, e, small.0));
        above_none = λ h _ _. absurd (omega (arith, h, small.1));
        long = body_long (Int n) rest;
        body = λ _ _. ap (λ l. Some (integer_of l)) (body_first (Int n) rest) ∙ ap Some (integer_again n is small.1);
      }
      | inr large ↦ record {
        eight = λ e. ap Some (sym (large.0 ∙ ap (λ t. pos (t - 8)) e));
        nine = λ e. ap Some (sym (large.0 ∙ ap (λ t. pos (t - 8)) e));
        zero_none = λ e. absurd (omega (arith, e, large.1));
        above_none = λ _ a b. absurd (omega (arith, a, b, large.1, large.2));
        long = body_long (Int n) rest;
        body = λ _ h. absurd (omega (arith, h, large.1));
      }
    ]
by_type_at (Text text) rest is = record {
  eight = λ e. absurd (omega (arith, e));
  nine = λ e. absurd (omega (arith, e));
  zero_none = λ _. refl;
  above_none = λ _ _ _. refl;
  long = body_long (Text text) rest;
  body = λ _ h. absurd (omega (arith, h));
}
by_type_at (Blob bytes) rest is = record {
  eight = λ e. absurd (omega (arith, e));
  nine = λ e. absurd (omega (arith, e));
  zero_none = λ _. refl;
  above_none = λ _ _ _. refl;
  long = body_long (Blob bytes) rest;
  body = λ _ h. absurd (omega (arith, h));
}

pub by_type : (v : Value) (rest bytes : List ℕ) (serial : ℕ) → IsValue v → serial ≡ type_of v → bytes ≡ body_of v ++ rest → ByType v serial bytes
by_type v rest bytes serial is type_is bytes_are =
    subst (λ t. ByType v t bytes) (sym type_is) (subst (λ l. ByType v (type_of v) l) (sym bytes_are) (by_type_at v rest is))

-- ---- the first type, and the first body

pub record FirstType (values : List Value) (serial : ℕ) (after bodies : List ℕ) : Type 0 where
  pub v : Value
  pub others : List Value
  pub parts : values ≡ v ∷ others
  pub type_is : serial ≡ type_of v
  pub rest : after ≡ types_of others
  pub have : HaveTypes others
  pub body : bodies ≡ body_of v ++ bodies_of others
  pub long : body_len serial ≤ length bodies
  pub next : drop (body_len serial) bodies ≡ bodies_of others

abbrev pub Read : Type 0
Read = Option (ℕ × List ℕ)

some_pair : (a b : ℕ) (c d : List ℕ) → ◌≡◌ {A = Read} (Some (a, c)) (Some (b, d)) → (a ≡ b) × (c ≡ d)
some_pair a b c d same = (ap (λ (o : Read). (unwrap_or o (a, c)).0) same, ap (λ (o : Read). (unwrap_or o (a, c)).1) same)

pub first_type : (values : List Value) (types after bodies : List ℕ) (serial : ℕ) → HaveTypes values → types ≡ types_of values → bodies ≡ bodies_of values → ◌≡◌ {A = Read} (Some (serial, after)) (read_varint 8 0 types) → FirstType values serial after bodies
first_type [] types after bodies serial have are bodies_are read = let no : ◌≡◌ {A = Read} (Some (serial, after)) None = read ∙ ap (read_varint 8 0) are in absurd cc
first_type (v ∷ others) types after bodies serial have are bodies_are read =
    let same = some_pair serial (type_of v) after (types_of others) (read ∙ ap (read_varint 8 0) are ∙ varint_again (type_of v) (types_of others) have.0) in
    let len : body_len serial ≡ length (body_of v) = ap body_len same.0 ∙ sym (length-body_of v) in
    record {
      v = v;
      others = others;
      parts = refl;
      type_is = same.0;
      rest = same.1;
      have = have.1;
      body = bodies_are;
      long = omega (arith, len, ap length bodies_are, length-append (body_of v) (bodies_of others));
      next = ap (λ n. drop n bodies) len ∙ ap (λ l. drop (length (body_of v)) l) bodies_are ∙ drop-append_seam (body_of v) (bodies_of others);
    }

pub no_type : (values : List Value) (types : List ℕ) → HaveTypes values → types ≡ types_of values → ◌≡◌ {A = Read} None (read_varint 8 0 types) → length values ≡ 0
no_type [] types have are read = refl
no_type (v ∷ others) types have are read =
    let no : ◌≡◌ {A = Read} None (Some (type_of v, types_of others)) = read ∙ ap (read_varint 8 0) are ∙ varint_again (type_of v) (types_of others) have.0 in absurd cc

-- ---- the parts of a record

pub record Parts (values : List Value) (header : ℕ) (rest : List ℕ) : Type 0 where
  pub rest_is : rest ≡ types_of values ++ bodies_of values
  pub size : header - varint_len header ≡ length (types_of values)

pub parts_of : (values : List Value) (bytes rest : List ℕ) (header : ℕ) → length (encoding values) < 2 ^ 32 → bytes ≡ encoding values → ◌≡◌ {A = Read} (Some (header, rest)) (read_varint 8 0 bytes) → Parts values header rest
unfolding encoding
parts_of values bytes rest header short is read =
    let n = length (types_of values) in
    let types : n < 2 ^ 32 = all_types_fit values short in
    let same = some_pair header (header_len n) rest (types_of values ++ bodies_of values) (read ∙ ap (read_varint 8 0) is ∙ varint_again (header_len n) (types_of values ++ bodies_of values) (header_fits n types)) in
    record { rest_is = same.1; size = ap (λ h. h - varint_len h) same.0 ∙ header_len-types n types }

pub no_header : (values : List Value) (bytes : List ℕ) → length (encoding values) < 2 ^ 32 → bytes ≡ encoding values → ◌≡◌ {A = Read} None (read_varint 8 0 bytes) → ⊥
unfolding encoding
no_header values bytes short is read =
    let n = length (types_of values) in
    let no : ◌≡◌ {A = Read} None (Some (header_len n, types_of values ++ bodies_of values)) = read ∙ ap (read_varint 8 0) is ∙ varint_again (header_len n) (types_of values ++ bodies_of values) (header_fits n (all_types_fit values short)) in
    absurd cc

pub size_fits : (values : List Value) (header : ℕ) (rest : List ℕ) → Parts values header rest → header - varint_len header ≤ length rest
size_fits values header rest parts = omega (arith, parts.size, ap length parts.rest_is, length-append (types_of values) (bodies_of values))

pub front_is : (values : List Value) (header : ℕ) (rest front : List ℕ) → Parts values header rest → front ≡ take (header - varint_len header) rest → front ≡ types_of values
front_is values header rest front parts is =
    is ∙ ap (λ n. take n rest) parts.size ∙ ap (λ l. take (length (types_of values)) l) parts.rest_is ∙ take-append_seam (types_of values) (bodies_of values)

pub back_is : (values : List Value) (header : ℕ) (rest back : List ℕ) → Parts values header rest → back ≡ drop (header - varint_len header) rest → back ≡ bodies_of values
back_is values header rest back parts is =
    is ∙ ap (λ n. drop n rest) parts.size ∙ ap (λ l. drop (length (types_of values)) l) parts.rest_is ∙ drop-append_seam (types_of values) (bodies_of values)

-- in a record below 2 ^ 32 bytes the types are numbers of 64 bits
pub have_types : (values : List Value) → length (bodies_of values) < 2 ^ 32 → HaveTypes values
have_types [] short = tt
have_types (v ∷ values) short =
    let both = length-append (body_of v) (bodies_of values) in (type_fits v (omega (arith, short, both)), have_types values (omega (arith, short, both)))

pub bodies_short : (values : List Value) → length (encoding values) < 2 ^ 32 → length (bodies_of values) < 2 ^ 32
bodies_short values short = omega (arith, short, length-encoding values)

pub value_is : (values : List Value) (place : ℕ) (v : Value) → AreValues values → slice_get values place ≡ Some v → IsValue v
value_is [] place v are is = let no : ◌≡◌ {A = Option Value} None (Some v) = is in absurd cc
value_is (w ∷ values) zero v are is = subst IsValue (ap (λ (o : Option Value). unwrap_or o w) is) are.0
value_is (w ∷ values) (suc place) v are is = value_is values place v are.1 is

-- what follows at an option follows where more follows of each case
pub option_weaker : {T : Type 0} (o : Option T) (P Q : Type 0) (R S : T → Type 0) → MatchOption o P R → (P → Q) → ((x : T) → R x → S x) → MatchOption o Q S
option_weaker None P Q R S known none some = none known
option_weaker (Some x) P Q R S known none some = some x known
