-- Pieces at the front: one more, how long they are, and that they are the only ones.
use Rattle.std.proofs.Common.{◌≡◌, ◌∙◌, ◌+◌, ℕ, List, [], ◌∷◌, ◌++◌, length, Option, None, Some, refl, sym, ap, subst, arith, length-append}
use Rattle.std.proofs.lemmas.List.{append-nil, append_cancel_right}
use Rattle.hc_lex.specs.Pieces.{Piece, Front}

-- a piece of this kind and text
abbrev pub piece : {K : Type 0} → K → List ℕ → Piece K
piece kind text = record { kind = kind; text = text }

-- the length of some pieces
abbrev pub size_of : {K : Type 0} → List (Piece K) → ℕ
size_of [] = 0
size_of (p ∷ ps) = length p.text + size_of ps

-- two findings that are equal have one kind and one rest
same_told : {K : Type 0} (j k : K) (rest other : List ℕ) → ◌≡◌ {A = Option (K × List ℕ)} (Some (j, rest)) (Some (k, other)) → (j ≡ k) × (rest ≡ other)
same_told {K} j k rest other e =
    let pair : ◌≡◌ {A = K × List ℕ} (j, rest) (k, other) = cc in
    (ap (λ p. p.0) pair, ap (λ p. p.1) pair)

module _ {K : Type 0} (Is : K → List ℕ → List ℕ → Type 0) where
  -- with one piece more, the front reaches up to its end
  pub Front-push : (ps : List (Piece K)) (bytes rest : List ℕ) (kind : K) (text tail : List ℕ) → Front Is ps bytes rest → rest ≡ text ++ tail → Is kind text tail → Front Is (ps ++ piece kind text ∷ []) bytes tail
  Front-push [] bytes rest kind text tail front e is = (tail, front ∙ e, is, refl)
  Front-push (p ∷ ps) bytes rest kind text tail front e is = (front.0, front.1, front.2, Front-push ps front.0 rest kind text tail front.3 e is)

  -- pieces and more pieces
  pub Front-append : (ps qs : List (Piece K)) (bytes middle rest : List ℕ) → Front Is ps bytes middle → Front Is qs middle rest → Front Is (ps ++ qs) bytes rest
  Front-append [] qs bytes middle rest one two = subst (λ r. Front Is qs r rest) (sym one) two
  Front-append (p ∷ ps) qs bytes middle rest one two = (one.0, one.1, one.2, Front-append ps qs one.0 middle rest one.3 two)

  -- the bytes are as long as the pieces and what follows them
  pub Front-size : (ps : List (Piece K)) (bytes rest : List ℕ) → Front Is ps bytes rest → length bytes ≡ size_of ps + length rest
  Front-size [] bytes rest front = omega (arith, ap length front)
  Front-size (p ∷ ps) bytes rest front =
      let later : length front.0 ≡ size_of ps + length rest = Front-size ps front.0 rest front.3 in
      omega (arith, ap length front.1, length-append p.text front.0)

  -- a function that tells the kind of the piece at the front, and what follows it
  abbrev pub Tells : (List ℕ → Option (K × List ℕ)) → Type 0
  Tells first = (kind : K) (text rest : List ℕ) → Is kind text rest → first (text ++ rest) ≡ Some (kind, rest)

  -- where a function tells each piece, pieces at the front are the first ones of those up to where none is told
  pub front_prefix : (first : List ℕ → Option (K × List ℕ)) → Tells first → (ps qs : List (Piece K)) (bytes rest other : List ℕ) → first other ≡ None
      → Front Is ps bytes rest → Front Is qs bytes other → (more : List (Piece K)) × (qs ≡ ps ++ more) × Front Is more rest other
  front_prefix first tells [] qs bytes rest other end one two = (qs, refl, subst (λ r. Front Is qs r other) one two)
  front_prefix first tells (p ∷ ps) [] bytes rest other end one two =
      let some : first (p.text ++ one.0) ≡ Some (p.kind, one.0) = tells p.kind p.text one.0 one.2 in
      let same : other ≡ p.text ++ one.0 = sym two ∙ one.1 in
      let wrong : ◌≡◌ {A = Option (K × List ℕ)} None (Some (p.kind, one.0)) = sym end ∙ ap first same ∙ some in
      cc
  front_prefix first tells (p ∷ ps) (q ∷ qs) bytes rest other end one two =
      let whole : p.text ++ one.0 ≡ q.text ++ two.0 = sym one.1 ∙ two.1 in
      let told : (p.kind ≡ q.kind) × (one.0 ≡ two.0) = same_told p.kind q.kind one.0 two.0 (sym (tells p.kind p.text one.0 one.2) ∙ ap first whole ∙ tells q.kind q.text two.0 two.2) in
      let text : p.text ≡ q.text = append_cancel_right p.text q.text two.0 (ap (λ r. p.text ++ r) (sym told.1) ∙ whole) in
      let later = front_prefix first tells ps qs one.0 rest other end one.3 (subst (λ r. Front Is qs r other) (sym told.1) two.3) in (
        later.0,
        ap (λ k. record { kind = k; text = q.text } ∷ qs) (sym told.0) ∙ ap (λ t. record { kind = p.kind; text = t } ∷ qs) (sym text) ∙ ap (λ xs. p ∷ xs) later.1,
        later.2,
      )

  -- where none is told, no piece is at the front
  nothing_told : (first : List ℕ → Option (K × List ℕ)) → Tells first → (ps more : List (Piece K)) (rest other : List ℕ) → first rest ≡ None → Front Is more rest other → (ps ≡ ps ++ more) × (rest ≡ other)
  nothing_told first tells ps [] rest other end front = (sym (append-nil ps), front)
  nothing_told first tells ps (m ∷ more) rest other end front =
      let wrong : ◌≡◌ {A = Option (K × List ℕ)} None (Some (m.kind, front.0)) = sym end ∙ ap first front.1 ∙ tells m.kind m.text front.0 front.2 in
      cc

  -- so the pieces up to where none is told, and what is left, are the only ones
  pub front_is_one : (first : List ℕ → Option (K × List ℕ)) → Tells first → (ps qs : List (Piece K)) (bytes rest other : List ℕ) → first rest ≡ None → first other ≡ None
      → Front Is ps bytes rest → Front Is qs bytes other → (ps ≡ qs) × (rest ≡ other)
  front_is_one first tells ps qs bytes rest other end_rest end_other one two =
      let longer = front_prefix first tells ps qs bytes rest other end_other one two in
      let same : (ps ≡ ps ++ longer.0) × (rest ≡ other) = nothing_told first tells ps longer.0 rest other end_rest longer.2 in
      (same.0 ∙ sym longer.1, same.1)
