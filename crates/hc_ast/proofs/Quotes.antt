-- A quote is doubled among the bytes where it is doubled among the characters.
use Rattle.std.proofs.Common.{◌≡◌, ◌≢◌, ◌∙◌, ap, ℕ, ◌<◌, ◌==◌, List, [], ◌∷◌, ◌++◌, Bool, true, false, cond, sym, refl, ne_eqb, arith, append_assoc, IsUtf8, chars}
use Rattle.std.proofs.lemmas.Bool.Decides.{nat_tests}
use Rattle.std.proofs.lemmas.List.{append-nil}
use Rattle.std.proofs.lemmas.List.Concat.{flat_map-append}
use Rattle.std.proofs.lemmas.Str.{encode_ascii, encodes-append, encodes-chars}
use Rattle.std.specs.List.{AllByRecursion}
use Rattle.hc_text.specs.Quotes.{doubled, doubled_one}
use lib.Utf8.{encode, encodes}
use lib.Dec.{ltb}

abbrev Differs : ℕ → List ℕ → Type 0
Differs quote bytes = AllByRecursion (λ b. b ≢ quote) bytes

plain : (quote : ℕ) (bytes : List ℕ) → Differs quote bytes → doubled quote bytes ≡ bytes
plain quote [] d = refl
plain quote (b ∷ bytes) d = rw (ne_eqb b quote d.0) (ap (λ (l : List ℕ). b ∷ l) (plain quote bytes d.1))

by_test : (quote : ℕ) (test : Bool) (x y : List ℕ) → (test ≡ true → Differs quote x) → (test ≡ false → Differs quote y) → Differs quote (cond test x y)
by_test quote true x y here there = here refl
by_test quote false x y here there = there refl

encoded_differs : (quote c : ℕ) → quote < 128 → c ≢ quote → Differs quote (encode c)
unfolding encode
encoded_differs quote c small ne =
    by_test quote (ltb c 128) _ _ (λ t. (ne, tt)) (λ f.
    by_test quote (ltb c 2048) _ _ (λ t. ((λ e. omega arith), ((λ e. omega arith), tt))) (λ f2.
    by_test quote (ltb c 65536) _ _
    (λ t. ((λ e. omega arith), ((λ e. omega arith), ((λ e. omega arith), tt))))
    (λ f3. ((λ e. omega arith), ((λ e. omega arith), ((λ e. omega arith), ((λ e. omega arith), tt)))))))

doubled_char : (quote c : ℕ) → quote < 128 → (test : Bool) → (c == quote) ≡ test → encodes (cond test (c ∷ c ∷ []) (c ∷ [])) ≡ doubled quote (encode c)
doubled_char quote c small true is =
    let same : c ≡ quote = grind (arith, nat_tests) in
    let ascii : encode c ≡ c ∷ [] = encode_ascii c (omega arith) in
    rw (ascii, is)
doubled_char quote c small false is =
    let ne : c ≢ quote = λ e. grind (arith, nat_tests) in
    append-nil (encode c) ∙ sym (plain quote (encode c) (encoded_differs quote c small ne))

-- doubled among the characters, and then encoded
pub doubled_encoded : (quote : ℕ) (cs : List ℕ) → quote < 128 → encodes (doubled quote cs) ≡ doubled quote (encodes cs)
doubled_encoded quote [] small = refl
doubled_encoded quote (c ∷ cs) small =
    encodes-append (doubled_one quote c) (doubled quote cs)
    ∙ ap (λ (l : List ℕ). l ++ encodes (doubled quote cs)) (doubled_char quote c small (c == quote) refl)
    ∙ ap (λ (l : List ℕ). doubled quote (encode c) ++ l) (doubled_encoded quote cs small)
    ∙ sym (flat_map-append (doubled_one quote) (encode c) (encodes cs))

-- one more character is written
pub one_more : (out old new : List ℕ) (quote c : ℕ) (yielded : List ℕ) → old ≡ out ++ encodes (doubled quote yielded)
    → new ≡ old ++ encodes (doubled quote (c ∷ [])) → new ≡ out ++ encodes (doubled quote (yielded ++ c ∷ []))
one_more out old new quote c yielded so_far step =
    step
    ∙ ap (λ (l : List ℕ). l ++ encodes (doubled quote (c ∷ []))) so_far
    ∙ append_assoc out (encodes (doubled quote yielded)) (encodes (doubled quote (c ∷ [])))
    ∙ ap (λ (l : List ℕ). out ++ l) (sym (ap encodes (flat_map-append (doubled_one quote) yielded (c ∷ []))
    ∙ encodes-append (doubled quote yielded) (doubled quote (c ∷ []))))

-- all characters are written
pub inner_written : (out new : List ℕ) (quote : ℕ) (text yielded : List ℕ) → quote < 128 → IsUtf8 text
    → new ≡ out ++ encodes (doubled quote yielded) → yielded ≡ chars text → new ≡ out ++ doubled quote text
inner_written out new quote text yielded small utf8 so_far all =
    so_far
    ∙ ap (λ (l : List ℕ). out ++ encodes (doubled quote l)) all
    ∙ ap (λ (l : List ℕ). out ++ l) (doubled_encoded quote (chars text) small)
    ∙ ap (λ (l : List ℕ). out ++ doubled quote l) (encodes-chars text utf8)
