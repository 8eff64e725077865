-- Lists of marks, and the lexemes in them.
use Rattle.std.proofs.Common.{◌≡◌, ◌⊎◌, inl, inr, ap, ◌∙◌, Bool, true, false, List, [], ◌∷◌, ◌++◌, refl, sym, append_assoc}
use Rattle.hc_lex.specs.declared.token.TokenKind.{TokenKind}
use Rattle.hc_grammar.specs.Lexemes.{Lexeme}
use Rattle.hc_grammar.specs.Kinds.{Starts}
use Rattle.hc_grammar.specs.Marks.{Mark, At, Opens, Closes, Begins, lexemes}

pub lexemes-append : (xs ys : List Mark) → lexemes (xs ++ ys) ≡ lexemes xs ++ lexemes ys
lexemes-append [] ys = refl
lexemes-append (At label t ∷ xs) ys = ap (λ (l : List Lexeme). t ∷ l) (lexemes-append xs ys)
lexemes-append (Opens t ∷ xs) ys = ap (λ (l : List Lexeme). t ∷ l) (lexemes-append xs ys)
lexemes-append (Closes ∷ xs) ys = lexemes-append xs ys
lexemes-append (Begins ∷ xs) ys = lexemes-append xs ys

-- with what follows
pub lexemes-before : (xs ys : List Mark) (rest : List Lexeme) → lexemes (xs ++ ys) ++ rest ≡ lexemes xs ++ (lexemes ys ++ rest)
lexemes-before xs ys rest = ap (λ (l : List Lexeme). l ++ rest) (lexemes-append xs ys) ∙ append_assoc (lexemes xs) (lexemes ys) rest

abbrev pub is_lexeme : Mark → Bool
is_lexeme (At label t) = true
is_lexeme (Opens t) = true
is_lexeme Closes = false
is_lexeme Begins = false

-- empty, or a lexeme is the last
abbrev pub is_ended : List Mark → Bool
is_ended [] = true
is_ended (m ∷ []) = is_lexeme m
is_ended (m ∷ n ∷ marks) = is_ended (n ∷ marks)

pub ended_tail : (m : Mark) (marks : List Mark) → is_ended (m ∷ marks) ≡ true → is_ended marks ≡ true
ended_tail m [] h = refl
ended_tail m (n ∷ marks) h = h

pub ended_back : (xs : List Mark) (m : Mark) (marks : List Mark) → is_ended (xs ++ m ∷ marks) ≡ true → is_ended (m ∷ marks) ≡ true
ended_back [] m marks h = h
ended_back (x ∷ xs) m marks h = ended_back xs m marks (ended_tail x (xs ++ m ∷ marks) h)

-- a front within a list, or beyond it
pub record IsWithin (xs ys front q : List Mark) : Type 0 where
  pub more : List Mark
  pub is : xs ≡ front ++ more
  pub rest : q ≡ more ++ ys

pub record IsBeyond (xs ys front q : List Mark) : Type 0 where
  pub next : Mark
  pub more : List Mark
  pub is : front ≡ xs ++ next ∷ more
  pub rest : ys ≡ next ∷ more ++ q

further : (x m : Mark) (xs ys front q : List Mark) → x ≡ m → IsWithin xs ys front q ⊎ IsBeyond xs ys front q → IsWithin (x ∷ xs) ys (m ∷ front) q ⊎ IsBeyond (x ∷ xs) ys (m ∷ front) q
further x m xs ys front q same (inl w) =
    inl (record { more = w.more; is = ap (λ (y : Mark). y ∷ xs) same ∙ ap (λ (l : List Mark). m ∷ l) w.is; rest = w.rest })
further x m xs ys front q same (inr b) =
    inr (record { next = b.next; more = b.more; is = ap (λ (y : Mark). y ∷ front) (sym same) ∙ ap (λ (l : List Mark). x ∷ l) b.is; rest = b.rest })

abbrev first_or : Mark → List Mark → Mark
first_or m [] = m
first_or m (x ∷ xs) = x

abbrev rest_of : List Mark → List Mark
rest_of [] = []
rest_of (x ∷ xs) = xs

pub same_first : (x m : Mark) (xs ys : List Mark) → x ∷ xs ≡ m ∷ ys → x ≡ m
same_first x m xs ys e = ap (first_or m) e

pub same_rest : (x m : Mark) (xs ys : List Mark) → x ∷ xs ≡ m ∷ ys → xs ≡ ys
same_rest x m xs ys e = ap rest_of e

-- a front of two lists ends within the first, or goes on into the second
pub split : (xs ys front q : List Mark) → xs ++ ys ≡ front ++ q → IsWithin xs ys front q ⊎ IsBeyond xs ys front q
split xs ys [] q e = inl (record { more = xs; is = refl; rest = sym e })
split [] ys (m ∷ front) q e = inr (record { next = m; more = front; is = refl; rest = e })
split (x ∷ xs) ys (m ∷ front) q e =
    further x m xs ys front q (same_first x m (xs ++ ys) (front ++ q) e) (split xs ys front q (same_rest x m (xs ++ ys) (front ++ q) e))

-- what begins a list begins each front of it that has a lexeme
pub front_starts : (kinds : List TokenKind) (m : Mark) (front q : List Mark) (rest : List Lexeme) → is_ended (m ∷ front) ≡ true → Starts kinds (lexemes (m ∷ front ++ q))
    → Starts kinds (lexemes (m ∷ front) ++ rest)
front_starts kinds (At label t) front q rest ended h = h
front_starts kinds (Opens t) front q rest ended h = h
front_starts kinds Closes [] q rest ended h = absurd (cc)
front_starts kinds Closes (n ∷ front) q rest ended h = front_starts kinds n front q rest ended h
front_starts kinds Begins [] q rest ended h = absurd (cc)
front_starts kinds Begins (n ∷ front) q rest ended h = front_starts kinds n front q rest ended h

-- and it has one
pub record HasLexeme (tokens : List Lexeme) : Type 0 where
  pub lexeme : Lexeme
  pub rest : List Lexeme
  pub is : tokens ≡ lexeme ∷ rest

pub ended_lexeme : (m : Mark) (front : List Mark) → is_ended (m ∷ front) ≡ true → HasLexeme (lexemes (m ∷ front))
ended_lexeme (At label t) front h = record { lexeme = t; rest = lexemes front; is = refl }
ended_lexeme (Opens t) front h = record { lexeme = t; rest = lexemes front; is = refl }
ended_lexeme Closes [] h = absurd (cc)
ended_lexeme Closes (n ∷ front) h = ended_lexeme n front h
ended_lexeme Begins [] h = absurd (cc)
ended_lexeme Begins (n ∷ front) h = ended_lexeme n front h

pub starts_lexeme : (kinds : List TokenKind) (tokens : List Lexeme) → Starts kinds tokens → HasLexeme tokens
starts_lexeme kinds [] h = absurd (cc)
starts_lexeme kinds (t ∷ tokens) h = record { lexeme = t; rest = tokens; is = refl }
