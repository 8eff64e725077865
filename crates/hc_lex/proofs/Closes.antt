-- A block comment, read up to a place: no `*/` was there so far.
use Rattle.std.proofs.Common.{◌≡◌, ◌∙◌, ℕ, List, [], ◌∷◌, ◌++◌, refl, sym, ap, subst, inl, inr, append_assoc}
use Rattle.std.specs.Prelude.{⊤}
use Rattle.hc_lex.specs.Blanks.{HasNoClose, IsBlank}
use Rattle.hc_lex.specs.Characters.{BeginsWith}
use Rattle.hc_lex.specs.Pieces.{Skips}

-- no `*/` begins in `front`, where `rest` follows it
abbrev pub HasNoCloseUpTo : List ℕ → List ℕ → Type 0
HasNoCloseUpTo [] rest = ⊤
HasNoCloseUpTo (b ∷ front) rest = ¬ ((b ≡ 42) × BeginsWith 47 (front ++ rest)) × HasNoCloseUpTo front rest

-- the bytes were read up to `rest`, and no `*/` began before it
pub record NoCloseSoFar (bytes rest : List ℕ) : Type 0 where
  pub inner : List ℕ
  pub whole : bytes ≡ inner ++ rest
  pub none : HasNoCloseUpTo inner rest

-- where nothing was read, no `*/` began
pub no_close_at_start : (bytes : List ℕ) → NoCloseSoFar bytes bytes
no_close_at_start bytes = record { inner = []; whole = refl; none = tt }

-- what begins with a slash does so with more after it
begins_in_more : (front rest : List ℕ) → BeginsWith 47 front → BeginsWith 47 (front ++ rest)
begins_in_more [] rest h = absurd h
begins_in_more (b ∷ front) rest h = h

-- where no `*/` begins in some bytes, none is in them
has_no_close : (inner rest : List ℕ) → HasNoCloseUpTo inner rest → HasNoClose inner
has_no_close [] rest h = tt
has_no_close (b ∷ inner) rest h = (λ p. h.0 (p.0, begins_in_more inner rest p.1), has_no_close inner rest h.1)

-- and with one byte more that begins none
up_to_more : (inner : List ℕ) (b : ℕ) (tail : List ℕ) → HasNoCloseUpTo inner (b ∷ tail) → ¬ ((b ≡ 42) × BeginsWith 47 tail) → HasNoCloseUpTo (inner ++ b ∷ []) tail
up_to_more [] b tail h n = (n, tt)
up_to_more (c ∷ inner) b tail h n =
    (λ p. h.0 (p.0, subst (λ xs. BeginsWith 47 xs) (append_assoc inner (b ∷ []) tail) p.1), up_to_more inner b tail h.1 n)

-- one more byte that begins no `*/`
pub no_close_more : (bytes rest : List ℕ) (b : ℕ) (tail : List ℕ) → NoCloseSoFar bytes rest → rest ≡ b ∷ tail → ¬ ((b ≡ 42) × BeginsWith 47 tail) → NoCloseSoFar bytes tail
no_close_more bytes rest b tail s e n = record {
  inner = s.inner ++ b ∷ [];
  whole = s.whole ∙ ap (λ r. s.inner ++ r) e ∙ sym (append_assoc s.inner (b ∷ []) tail);
  none = up_to_more s.inner b tail (rw e at s.none) n;
}

-- the comment is closed here
pub closed_here : (bytes rest tail after : List ℕ) → NoCloseSoFar bytes rest → rest ≡ 42 ∷ tail → tail ≡ 47 ∷ after → Skips IsBlank (47 ∷ 42 ∷ bytes) after
closed_here bytes rest tail after s e f = (
  47 ∷ 42 ∷ s.inner ++ 42 ∷ 47 ∷ [],
  ap (λ r. 47 ∷ 42 ∷ r) (s.whole ∙ ap (λ r. s.inner ++ r) (e ∙ ap (λ r. 42 ∷ r) f) ∙ sym (append_assoc s.inner (42 ∷ 47 ∷ []) after)),
  inr (inr (s.inner, has_no_close s.inner rest s.none, inl refl)),
)

-- the text ends in the comment
pub never_closed : (bytes rest : List ℕ) → NoCloseSoFar bytes rest → rest ≡ [] → Skips IsBlank (47 ∷ 42 ∷ bytes) rest
never_closed bytes rest s e =
    (47 ∷ 42 ∷ s.inner, ap (λ r. 47 ∷ 42 ∷ r) s.whole, inr (inr (s.inner, has_no_close s.inner rest s.none, inr (refl, e))))
