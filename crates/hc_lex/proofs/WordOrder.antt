-- A word looked up by halving: where the words rise, those before one that is not below it are not the word, nor are
-- those after one that is not above it.
use Rattle.std.proofs.Common.{◌≡◌, ◌⊎◌, inl, inr, ◌∙◌, ◌&&◌, if◌then◌else◌, Bool, true, false, ℕ, List, [], ◌∷◌, ◌++◌, None, Some, refl, sym, ap, map, subst}
use Rattle.std.specs.declared.cmp.Ordering.{Ordering}
use Rattle.std.specs.declared.cmp.Ordering.TheVariants.{Less, Equal, Greater}
use Rattle.std.specs.Ordering.{is_eq, ordering_reverse}
use Rattle.std.specs.List.{AllByRecursion}
use Rattle.std.specs.Str.{str_eq_ignore_ascii_case, str_to_ascii_lowercase}
use Rattle.std.proofs.lemmas.Bool.{false≢true}
use Rattle.std.proofs.lemmas.List.{map-append}
use Rattle.std.proofs.lemmas.Cmp.{nat_list_cmp_total}
use Rattle.std.proofs.lemmas.Map.Text.{is_eq-slice_cmp}
use Rattle.hc_lex.specs.declared.keyword.Keyword.{Keyword}
use Rattle.hc_lex.specs.Keywords.{Rises, lookup, table, word_cmp}
use Rattle.hc_lex.proofs.Scans.{both}

abbrev Entry : Type 0
Entry = List ℕ × Keyword

-- whether each word is below those after it
abbrev is_less : Ordering → Bool
is_less Less = true
is_less Equal = false
is_less Greater = false

abbrev all_above : List ℕ → List Entry → Bool
all_above word [] = true
all_above word (e ∷ es) = is_less (word_cmp word e.0) && all_above word es

abbrev rises : List Entry → Bool
rises [] = true
rises (e ∷ es) = all_above e.0 es && rises es

less_is : (o : Ordering) → is_less o ≡ true → o ≡ Less
less_is Less e = refl
less_is Equal e = absurd (false≢true e)
less_is Greater e = absurd (false≢true e)

above_is : (word : List ℕ) (es : List Entry) → all_above word es ≡ true → AllByRecursion (λ other. word_cmp word other.0 ≡ Less) es
above_is word [] e = tt
above_is word (x ∷ es) e =
    let two = both (is_less (word_cmp word x.0)) (all_above word es) e in
    (less_is (word_cmp word x.0) two.0, above_is word es two.1)

rises_is : (es : List Entry) → rises es ≡ true → Rises es
rises_is [] e = tt
rises_is (x ∷ es) e = let two = both (all_above x.0 es) (rises es) e in (above_is x.0 es two.0, rises_is es two.1)

-- the words of the table rise
pub table_rises : Rises table
unfolding table
table_rises = rises_is table refl

-- what is below a word, or above it, is another one
other_word : (a b : List ℕ) (o : Ordering) → word_cmp a b ≡ o → (o ≡ Less) ⊎ (o ≡ Greater) → str_eq_ignore_ascii_case a b ≡ false
other_word a b o e which = sym (is_eq-slice_cmp (str_to_ascii_lowercase a) (str_to_ascii_lowercase b)) ∙ ap is_eq e ∙ elim which [ inl less ↦ ap is_eq less | inr more ↦ ap is_eq more ]

below : (a b : List ℕ) → word_cmp a b ≡ Less → str_eq_ignore_ascii_case a b ≡ false
below a b e = other_word a b Less e (inl refl)

above : (a b : List ℕ) → word_cmp b a ≡ Less → str_eq_ignore_ascii_case a b ≡ false
above a b e = other_word a b Greater (nat_list_cmp_total.antisymm (str_to_ascii_lowercase a) (str_to_ascii_lowercase b) ∙ ap ordering_reverse e) (inr refl)

between : (a b c : List ℕ) → word_cmp a b ≡ Less → word_cmp b c ≡ Less → word_cmp a c ≡ Less
between a b c = nat_list_cmp_total.trans (str_to_ascii_lowercase a) (str_to_ascii_lowercase b) (str_to_ascii_lowercase c)

turned : (a b : List ℕ) (o : Ordering) → word_cmp a b ≡ o → word_cmp b a ≡ ordering_reverse o
turned a b o e = nat_list_cmp_total.antisymm (str_to_ascii_lowercase b) (str_to_ascii_lowercase a) ∙ ap ordering_reverse e

-- none of these words is the word
abbrev Misses : List Entry → List ℕ → Type 0
Misses es word = AllByRecursion (λ e. str_eq_ignore_ascii_case e.0 word ≡ false) es

-- entries that are not the word are passed over
passed : (es more : List Entry) (word : List ℕ) → Misses es word → lookup (es ++ more) word ≡ lookup more word
passed [] more word miss = refl
passed (e ∷ es) more word miss = ap (λ t. if t then Some e.1 else lookup (es ++ more) word) miss.0 ∙ passed es more word miss.1

not_there : (es : List Entry) (word : List ℕ) → Misses es word → lookup es word ≡ None
not_there [] word miss = refl
not_there (e ∷ es) word miss = ap (λ t. if t then Some e.1 else lookup es word) miss.0 ∙ not_there es word miss.1

-- and so are those after the first ones
first_ones : (es more : List Entry) (word : List ℕ) → Misses more word → lookup (es ++ more) word ≡ lookup es word
first_ones [] more word miss = not_there more word miss
first_ones (e ∷ es) more word miss = ap (λ r. if str_eq_ignore_ascii_case e.0 word then Some e.1 else r) (first_ones es more word miss)

-- words above one that is above the word are none of them the word
above_all : (es : List Entry) (m word : List ℕ) → AllByRecursion (λ other. word_cmp m other.0 ≡ Less) es → word_cmp word m ≡ Less → Misses es word
above_all [] m word all less = tt
above_all (e ∷ es) m word all less = (above e.0 word (between word m e.0 less all.0), above_all es m word all.1 less)

-- words that rise up to an entry are below it
reaches : (es : List Entry) (m : Entry) (more : List Entry) → Rises (es ++ m ∷ more) → AllByRecursion (λ e. word_cmp e.0 m.0 ≡ Less) es
reaches [] m more up = tt
reaches (e ∷ es) m more up = (at_end es up.0, reaches es m more up.1)
  where
    at_end : (xs : List Entry) → AllByRecursion (λ other. word_cmp e.0 other.0 ≡ Less) (xs ++ m ∷ more) → word_cmp e.0 m.0 ≡ Less
    at_end [] all = all.0
    at_end (x ∷ xs) all = at_end xs all.1

-- words below one that is below the word are none of them the word
below_all : (es : List Entry) (m word : List ℕ) → AllByRecursion (λ e. word_cmp e.0 m ≡ Less) es → word_cmp m word ≡ Less → Misses es word
below_all [] m word all less = tt
below_all (e ∷ es) m word all less = (below e.0 word (between e.0 m word all.0 less), below_all es m word all.1 less)

-- and so are words below the word
below_same : (es : List Entry) (m word : List ℕ) → AllByRecursion (λ e. word_cmp e.0 m ≡ Less) es → word_cmp m word ≡ Equal → Misses es word
below_same [] m word all same = tt
below_same (e ∷ es) m word all same =
    let here : word_cmp m e.0 ≡ word_cmp word e.0 = nat_list_cmp_total.congr (str_to_ascii_lowercase m) (str_to_ascii_lowercase word) (str_to_ascii_lowercase e.0) same in
    (below e.0 word (turned word e.0 Greater (sym here ∙ turned e.0 m Less all.0)), below_same es m word all.1 same)

-- parts of a table that rises do so
rises-before : (es more : List Entry) → Rises (es ++ more) → Rises es
rises-before [] more up = tt
rises-before (e ∷ es) more up = (before es up.0, rises-before es more up.1)
  where
    before : (xs : List Entry) → AllByRecursion (λ other. word_cmp e.0 other.0 ≡ Less) (xs ++ more) → AllByRecursion (λ other. word_cmp e.0 other.0 ≡ Less) xs
    before [] all = tt
    before (x ∷ xs) all = (all.0, before xs all.1)

rises-after : (es more : List Entry) → Rises (es ++ more) → Rises more
rises-after [] more up = up
rises-after (e ∷ es) more up = rises-after es more up.1

-- where the word is below an entry, it is looked up before it
looked_before : (es : List Entry) (m : Entry) (more : List Entry) (word : List ℕ) → Rises (es ++ m ∷ more) → word_cmp word m.0 ≡ Less → lookup (es ++ m ∷ more) word ≡ lookup es word
looked_before es m more word up less =
    first_ones es (m ∷ more) word (above m.0 word less, above_all more m.0 word (rises-after es (m ∷ more) up).0 less)

-- where it is above the entry, it is looked up after it
looked_after : (es : List Entry) (m : Entry) (more : List Entry) (word : List ℕ) → Rises (es ++ m ∷ more) → word_cmp word m.0 ≡ Greater → lookup (es ++ m ∷ more) word ≡ lookup more word
looked_after es m more word up greater =
    let less : word_cmp m.0 word ≡ Less = turned word m.0 Greater greater in
    passed es (m ∷ more) word (below_all es m.0 word (reaches es m more up) less)
    ∙ ap (λ t. if t then Some m.1 else lookup more word) (below m.0 word less)

-- where it is the entry's, the entry is found
looked_here : (es : List Entry) (m : Entry) (more : List Entry) (word : List ℕ) → Rises (es ++ m ∷ more) → word_cmp word m.0 ≡ Equal → lookup (es ++ m ∷ more) word ≡ Some m.1
looked_here es m more word up same =
    let here : word_cmp m.0 word ≡ Equal = turned word m.0 Equal same in
    passed es (m ∷ more) word (below_same es m.0 word (reaches es m more up) here)
    ∙ ap (λ t. if t then Some m.1 else lookup more word) (sym (is_eq-slice_cmp (str_to_ascii_lowercase m.0) (str_to_ascii_lowercase word)) ∙ ap is_eq here)

-- what a table cut in two says of a word, by how the word compares with the first entry of the second half
pub record Halves (all es : List Entry) (m : Entry) (more : List Entry) (word : List ℕ) : Type 0 where
  pub rises_before : Rises es
  pub rises_after : Rises more
  pub before : word_cmp word m.0 ≡ Less → lookup es word ≡ lookup all word
  pub here : word_cmp word m.0 ≡ Equal → Some m.1 ≡ lookup all word
  pub after : word_cmp word m.0 ≡ Greater → lookup more word ≡ lookup all word

halves : (es : List Entry) (m : Entry) (more : List Entry) (word : List ℕ) → Rises (es ++ m ∷ more) → Halves (es ++ m ∷ more) es m more word
halves es m more word up = record {
  rises_before = rises-before es (m ∷ more) up;
  rises_after = (rises-after es (m ∷ more) up).1;
  before = λ e. sym (looked_before es m more word up e);
  here = λ e. sym (looked_here es m more word up e);
  after = λ e. sym (looked_after es m more word up e);
}

-- the same of entries that are read from others
pub cut_in_two : {A : Type 0} (f : A → Entry) (all es rest : List A) (m : A) (more : List A) (word : List ℕ) → all ≡ es ++ rest → rest ≡ m ∷ more → Rises (map f all) → Halves (map f all) (map f es) (f m) (map f more) word
cut_in_two f all es rest m more word whole first up =
    let same : map f all ≡ map f es ++ f m ∷ map f more = ap (map f) (whole ∙ ap (λ r. es ++ r) first) ∙ map-append f es (m ∷ more) in
    subst (λ xs. Halves xs (map f es) (f m) (map f more) word) (sym same) (halves (map f es) (f m) (map f more) word (subst (λ xs. Rises xs) same up))
