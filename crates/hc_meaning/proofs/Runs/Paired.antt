-- Lists whose elements are related one by one, and the order of a connection's transactions in its cut and in its account.
use Rattle.std.proofs.Common.{◌≡◌, ◌∙◌, inl, inr, ⊎_elim, refl, sym, ap, subst, ℕ, ◌+◌, ◌<◌, ◌≤◌, List, [], ◌∷◌, ◌++◌, reverse, arith}
use Rattle.std.specs.Prelude.{⊤}
use Rattle.std.specs.List.{AllZip}
use mathlib.Core.List.{reverse-cons}
use Rattle.hc_core.specs.Account.{Txn}
use Rattle.hc_base.specs.Lookup.{Among}
use Rattle.hc_core.specs.Sound.{AreInOrder, ComesAfter, ComesAfterEach}
use Rattle.hc_meaning.specs.Runs.Cut.{Transaction}
use Rattle.hc_meaning.specs.Runs.Fitting.{FitsOne}
use Rattle.hc_meaning.specs.Runs.Language.{Language}
use Rattle.hc_meaning.proofs.Runs.Joined.{among_back, among_either, among_front}

module _ {A B : Type 0} (R : A → B → Type 0) where
  pub zip_right : (xs : List A) (ys : List B) → AllZip R xs ys → (x : A) → Among x xs → (y : B) × Among y ys × R x y
  zip_right [] ys zip x there = absurd there
  zip_right (z ∷ xs) [] zip x there = absurd zip
  zip_right (z ∷ xs) (y ∷ ys) zip x there = ⊎_elim
      (λ here. (y, inl refl, subst (λ (w : A). R w y) (sym here) zip.0))
      (λ following. let found = zip_right xs ys zip.1 x following in (found.0, inr found.1, found.2))
      there

  pub zip_left : (xs : List A) (ys : List B) → AllZip R xs ys → (y : B) → Among y ys → (x : A) × Among x xs × R x y
  zip_left xs [] zip y there = absurd there
  zip_left [] (w ∷ ys) zip y there = absurd zip
  zip_left (x ∷ xs) (w ∷ ys) zip y there = ⊎_elim
      (λ here. (x, inl refl, subst (λ (v : B). R x v) (sym here) zip.0))
      (λ following. let found = zip_left xs ys zip.1 y following in (found.0, inr found.1, found.2))
      there

-- each transaction comes after those before it
abbrev pub AreOldestFirst : List Txn → Type 0
AreOldestFirst [] = ⊤
AreOldestFirst (x ∷ xs) = ((y : Txn) → Among y xs → ComesAfter y x) × AreOldestFirst xs

pub among_reversed : (y : Txn) (xs : List Txn) → Among y xs → Among y (reverse xs)
among_reversed y [] there = absurd there
among_reversed y (x ∷ xs) there = subst (λ (l : List Txn). Among y l) (sym (reverse-cons x xs))
    (⊎_elim
    (λ here. among_back y (reverse xs) (x ∷ []) (inl here))
    (λ following. among_front y (reverse xs) (x ∷ []) (among_reversed y xs following))
    there)

pub reverse_among : (y : Txn) (xs : List Txn) → Among y (reverse xs) → Among y xs
reverse_among y [] there = there
reverse_among y (x ∷ xs) there = ⊎_elim
    (λ front. inr (reverse_among y xs front))
    (λ back. ⊎_elim (λ here. inl here) (λ none. absurd none) back)
    (among_either y (reverse xs) (x ∷ []) (subst (λ (l : List Txn). Among y l) (reverse-cons x xs) there))

-- where the last is taken off a list that is newest first, the others are so, and come after it
each_before : (y x : Txn) (ys : List Txn) → ComesAfterEach y (ys ++ x ∷ []) → ComesAfterEach y ys × ComesAfter y x
each_before y x [] each = (tt, each.0)
each_before y x (z ∷ ys) each = let rest = each_before y x ys each.1 in ((each.0, rest.0), rest.1)

without_last : (x : Txn) (ys : List Txn) → AreInOrder (ys ++ x ∷ []) → AreInOrder ys × ((y : Txn) → Among y ys → ComesAfter y x)
without_last x [] ordered = (tt, λ y there. absurd there)
without_last x (z ∷ ys) ordered =
    let rest = without_last x ys ordered.1 in
    let here = each_before z x ys ordered.0 in
    ((here.0, rest.0), λ y there. ⊎_elim (λ same. subst (λ (w : Txn). ComesAfter w x) (sym same) here.1) (λ following. rest.1 y following) there)

pub oldest_first : (xs : List Txn) → AreInOrder (reverse xs) → AreOldestFirst xs
oldest_first [] ordered = tt
oldest_first (x ∷ xs) ordered =
    let rest = without_last x (reverse xs) (subst AreInOrder (reverse-cons x xs) ordered) in
    (λ y there. rest.1 y (among_reversed y xs there), oldest_first xs rest.0)

-- transactions of a connection, with ordinals from n on
abbrev pub AreNumbered : ℕ → ℕ → List Transaction → Type 0
AreNumbered conn n [] = ⊤
AreNumbered conn n (t ∷ ts) = (t.conn ≡ conn) × (t.ordinal ≡ n) × AreNumbered conn (n + 1) ts

pub conn_of : (conn n : ℕ) (ts : List Transaction) → AreNumbered conn n ts → (t : Transaction) → Among t ts → t.conn ≡ conn
conn_of conn n [] numbered t there = absurd there
conn_of conn n (u ∷ ts) numbered t there = ⊎_elim
    (λ here. ap (λ (v : Transaction). v.conn) here ∙ numbered.0)
    (λ following. conn_of conn (n + 1) ts numbered.2 t following)
    there

numbered_from : (conn n : ℕ) (ts : List Transaction) → AreNumbered conn n ts → (t : Transaction) → Among t ts → n ≤ t.ordinal
numbered_from conn n [] numbered t there = absurd there
numbered_from conn n (u ∷ ts) numbered t there = ⊎_elim
    (λ here. let same : t.ordinal ≡ u.ordinal = ap (λ (v : Transaction). v.ordinal) here in omega (arith, same, numbered.1))
    (λ following. let later = numbered_from conn (n + 1) ts numbered.2 t following in omega (arith, later))
    there

-- one ordinal is one transaction's
pub same_ordinal : (conn n : ℕ) (ts : List Transaction) → AreNumbered conn n ts → (t u : Transaction) → Among t ts → Among u ts
    → t.ordinal ≡ u.ordinal → t ≡ u
same_ordinal conn n [] numbered t u t_there u_there same = absurd t_there
same_ordinal conn n (v ∷ ts) numbered t u t_there u_there same = ⊎_elim
    (λ t_here. ⊎_elim
    (λ u_here. t_here ∙ sym u_here)
    (λ u_later.
    let at : t.ordinal ≡ v.ordinal = ap (λ (w : Transaction). w.ordinal) t_here in
    let later = numbered_from conn (n + 1) ts numbered.2 u u_later in
    absurd (omega (arith, at, later, same, numbered.1)))
    u_there)
    (λ t_later. ⊎_elim
    (λ u_here.
    let at : u.ordinal ≡ v.ordinal = ap (λ (w : Transaction). w.ordinal) u_here in
    let later = numbered_from conn (n + 1) ts numbered.2 t t_later in
    absurd (omega (arith, at, later, same, numbered.1)))
    (λ u_later. same_ordinal conn (n + 1) ts numbered.2 t u t_later u_later same)
    u_there)
    t_there

-- two transactions that fit two of the account, of which the second comes after the first
pub record AreInTurn (L : Language) (xs : List Txn) (t u : Transaction) : Type 0 where
  pub x : Txn
  pub y : Txn
  pub x_there : Among x xs
  pub y_there : Among y xs
  pub x_fits : FitsOne L t x
  pub y_fits : FitsOne L u y
  pub after : ComesAfter y x

later_turn : (L : Language) (xs : List Txn) (x : Txn) (t u : Transaction) → AreInTurn L xs t u → AreInTurn L (x ∷ xs) t u
later_turn L xs x t u turn = record {
  x = turn.x;
  y = turn.y;
  x_there = inr turn.x_there;
  y_there = inr turn.y_there;
  x_fits = turn.x_fits;
  y_fits = turn.y_fits;
  after = turn.after;
}

-- the ordinals tell which comes after which
pub in_turn : (L : Language) (conn n : ℕ) (ts : List Transaction) (xs : List Txn) → AreNumbered conn n ts → AllZip (FitsOne L) ts xs → AreOldestFirst xs
    → (t u : Transaction) → Among t ts → Among u ts → t.ordinal < u.ordinal → AreInTurn L xs t u
in_turn L conn n [] xs numbered zip ordered t u t_there u_there below = absurd t_there
in_turn L conn n (v ∷ ts) [] numbered zip ordered t u t_there u_there below = absurd zip
in_turn L conn n (v ∷ ts) (x ∷ xs) numbered zip ordered t u t_there u_there below = ⊎_elim
    (λ u_here.
    let at : u.ordinal ≡ v.ordinal = ap (λ (w : Transaction). w.ordinal) u_here in
    let from = numbered_from conn n (v ∷ ts) numbered t t_there in
    absurd (omega (arith, at, from, below, numbered.1)))
    (λ u_later. ⊎_elim
    (λ t_here.
    let found = zip_right (FitsOne L) ts xs zip.1 u u_later in
    record {
      x = x;
      y = found.0;
      x_there = inl refl;
      y_there = inr found.1;
      x_fits = subst (λ (w : Transaction). FitsOne L w x) (sym t_here) zip.0;
      y_fits = found.2;
      after = ordered.0 found.0 found.1;
    })
    (λ t_later. later_turn L xs x t u (in_turn L conn (n + 1) ts xs numbered.2 zip.1 ordered.1 t u t_later u_later below))
    t_there)
    u_there
