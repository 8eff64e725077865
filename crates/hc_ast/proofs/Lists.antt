-- Lists of parts, each written after a space.
use Rattle.std.proofs.Common.{◌≡◌, ◌∙◌, ap, ℕ, List, [], ◌∷◌, ◌++◌, map, sym, refl, codes, append_assoc, take, length, ◌≤◌}
use Rattle.std.proofs.lemmas.List.{append-nil, take_all}
use Rattle.std.proofs.lemmas.List.Concat.{flat_map-append}
use Rattle.std.specs.List.{flat_map}
use Rattle.hc_ast.specs.Words.{Words, text_of, spaced, listed}

-- words in a row, of each part
pub spaced_flat : {A : Type 0} (g : A → Words) (xs : List A) → spaced (flat_map g xs) ≡ flat_map (λ x. spaced (g x)) xs
spaced_flat g [] = refl
spaced_flat g (x ∷ xs) = flat_map-append (λ word. 32 ∷ word) (g x) (flat_map g xs) ∙ ap (λ (l : List ℕ). spaced (g x) ++ l) (spaced_flat g xs)

commas : {A : Type 0} (f : A → Words) (xs : List A) → spaced (flat_map (λ other. codes "," ∷ other) (map f xs)) ≡ flat_map (λ x. spaced (codes "," ∷ f x)) xs
commas f [] = refl
commas f (x ∷ xs) =
    flat_map-append (λ word. 32 ∷ word) (codes "," ∷ f x) (flat_map (λ other. codes "," ∷ other) (map f xs))
    ∙ ap (λ (l : List ℕ). spaced (codes "," ∷ f x) ++ l) (commas f xs)

-- a list is its first part, and the others after commas
pub spaced_listed : {A : Type 0} (f : A → Words) (first : A) (others : List A)
    → spaced (listed (map f (first ∷ others))) ≡ spaced (f first) ++ flat_map (λ x. spaced (codes "," ∷ f x)) others
spaced_listed f first others =
    flat_map-append (λ word. 32 ∷ word) (f first) (flat_map (λ other. codes "," ∷ other) (map f others))
    ∙ ap (λ (l : List ℕ). spaced (f first) ++ l) (commas f others)

-- the parts so far are written, and there are no others
pub each_written : {A : Type 0} (f : A → Words) (out new : List ℕ) (parts : List A) (n : ℕ) → new ≡ out ++ flat_map (λ x. spaced (f x)) (take n parts) → length parts ≤ n → new ≡ out ++ spaced (flat_map f parts)
each_written f out new parts n so_far all =
    so_far
    ∙ ap (λ (l : List _). out ++ flat_map (λ x. spaced (f x)) l) (take_all n parts all)
    ∙ ap (λ (l : List ℕ). out ++ l) (sym (spaced_flat f parts))

-- the first part and then the others are written
pub listed_written : {A : Type 0} (f : A → Words) (out mid new : List ℕ) (values others : List A) (first : A) → values ≡ first ∷ others
    → mid ≡ out ++ spaced (f first) → new ≡ mid ++ flat_map (λ x. spaced (codes "," ∷ f x)) others → new ≡ out ++ spaced (listed (map f values))
listed_written f out mid new values others first are begun goes_on =
    goes_on
    ∙ ap (λ (l : List ℕ). l ++ flat_map (λ x. spaced (codes "," ∷ f x)) others) begun
    ∙ append_assoc out (spaced (f first)) (flat_map (λ x. spaced (codes "," ∷ f x)) others)
    ∙ ap (λ (l : List ℕ). out ++ l) (sym (spaced_listed f first others))
    ∙ ap (λ (l : List _). out ++ spaced (listed (map f l))) (sym are)

-- the same, of others that a call wrote
pub list_written : {A : Type 0} (f : A → Words) (out mid new : List ℕ) (values others : List A) (first : A) → values ≡ first ∷ others
    → mid ≡ out ++ spaced (f first) → new ≡ mid ++ spaced (flat_map (λ x. codes "," ∷ f x) others) → new ≡ out ++ spaced (listed (map f values))
list_written f out mid new values others first are begun goes_on =
    listed_written f out mid new values others first are begun
    (goes_on ∙ ap (λ (l : List ℕ). mid ++ l) (spaced_flat (λ x. codes "," ∷ f x) others))

-- the same, of others that a loop wrote
pub loop_written : {A : Type 0} (f : A → Words) (out mid new : List ℕ) (values others : List A) (first : A) (n : ℕ) → values ≡ first ∷ others
    → mid ≡ out ++ spaced (f first) → new ≡ mid ++ flat_map (λ x. spaced (codes "," ∷ f x)) (take n others) → length others ≤ n → new ≡ out ++ spaced (listed (map f values))
loop_written f out mid new values others first n are begun so_far all =
    listed_written f out mid new values others first are begun
    (so_far ∙ ap (λ (l : List _). mid ++ flat_map (λ x. spaced (codes "," ∷ f x)) l) (take_all n others all))

-- a text is its first word, and the others each after a space
pub text_of_words : (word : List ℕ) (words : Words) → text_of (word ∷ words) ≡ word ++ spaced words
text_of_words word [] = sym (append-nil word)
text_of_words word (next ∷ words) = ap (λ (l : List ℕ). word ++ 32 ∷ l) (text_of_words next words)

-- what is printed is the text of the first word and the others
pub print_written : (word first made text : List ℕ) (words : Words) → made ≡ first → first ≡ word → text ≡ made ++ spaced words → text ≡ text_of (word ∷ words)
print_written word first made text words begun is goes_on =
    goes_on ∙ ap (λ (l : List ℕ). l ++ spaced words) (begun ∙ is) ∙ sym (text_of_words word words)
