-- How a row is rewritten word by word: the first words are the new ones, and the others as they were.
use Rattle.std.proofs.Common.{◌≡◌, ◌≢◌, ◌∙◌, refl, sym, ap, subst, inl, inr, ⊎_elim, ℕ, suc, ◌+◌, ◌<◌, ◌≤◌, List, [], ◌∷◌, ◌++◌, cond, eqb, eq-eqb, ne_eqb, length, take, drop, get_or, set, arith, length-append, length-drop, length-take-le, append-nil}
use Rattle.std.proofs.lemmas.Bool.{cases_eq}
use Rattle.std.proofs.lemmas.List.{take_all, set-get_or}
use Rattle.std.proofs.Math.ListN.{drop_of_length-le}
use Rattle.hc_base.specs.Lookup.{Among}
use Rattle.hc_rule.specs.declared.view.Row.{Row}
use Rattle.hc_rule.specs.declared.view.View.{View}
use Rattle.hc_rule.specs.Hands.{changed, set_word, set_words}
use Rattle.hc_rule.specs.Kinds.Rows.{with_word, with_row, IsWhole, FindsWord}
use Rattle.hc_rule.specs.Kinds.StorePage.{Owns}
use Rattle.hc_rule.proofs.Laying.{begun}
use Rattle.hc_rule.proofs.RowStates.{among_after}

-- each row of the page
abbrev pub EachOf : ℕ → List Row → (Row → Type 0) → Type 0
EachOf p rows P = (row : Row) → Among row rows → row.page.0 ≡ p → P row

-- changes that are equal on each row of the page
pub changed_alike : (p : ℕ) (f g : Row → Row) (rows : List Row) → EachOf p rows (λ row. f row ≡ g row) → changed p f rows ≡ changed p g rows
changed_alike p f g [] same = refl
changed_alike p f g (x ∷ xs) same =
    ap (λ ys. cond (eqb x.page.0 p) (f x) x ∷ ys) (changed_alike p f g xs (λ row there is. same row (inr there) is))
    ∙ ap (λ z. z ∷ changed p g xs) (⊎_elim
    (λ (is : x.page.0 ≡ p). ap (λ b. cond b (f x) x) (eq-eqb x.page.0 p is) ∙ (same x (inl refl) is ∙ sym (ap (λ b. cond b (g x) x) (eq-eqb x.page.0 p is))))
    (λ (differ : x.page.0 ≢ p). ap (λ b. cond b (f x) x) (ne_eqb x.page.0 p differ) ∙ sym (ap (λ b. cond b (g x) x) (ne_eqb x.page.0 p differ)))
    (cases_eq x.page.0 p))

-- a change that changes none
pub changed_none : (p : ℕ) (f : Row → Row) (rows : List Row) → EachOf p rows (λ row. f row ≡ row) → changed p f rows ≡ rows
changed_none p f [] same = refl
changed_none p f (x ∷ xs) same =
    ap (λ ys. cond (eqb x.page.0 p) (f x) x ∷ ys) (changed_none p f xs (λ row there is. same row (inr there) is))
    ∙ ap (λ z. z ∷ xs) (⊎_elim
    (λ (is : x.page.0 ≡ p). ap (λ b. cond b (f x) x) (eq-eqb x.page.0 p is) ∙ same x (inl refl) is)
    (λ (differ : x.page.0 ≢ p). ap (λ b. cond b (f x) x) (ne_eqb x.page.0 p differ))
    (cases_eq x.page.0 p))

-- a change that leaves each row its page
module _ (p : ℕ) (f : Row → Row) (page_stays : (z : Row) → (f z).page.0 ≡ z.page.0) where
  head_twice : (g : Row → Row) (x : Row) → (let z = cond (eqb x.page.0 p) (f x) x in cond (eqb z.page.0 p) (g z) z) ≡ cond (eqb x.page.0 p) (g (f x)) x
  head_twice g x =
      ⊎_elim
      (λ (is : x.page.0 ≡ p).
      ap (λ (z : Row). cond (eqb z.page.0 p) (g z) z) (ap (λ b. cond b (f x) x) (eq-eqb x.page.0 p is))
      ∙ (ap (λ b. cond b (g (f x)) (f x)) (eq-eqb (f x).page.0 p (page_stays x ∙ is)) ∙ sym (ap (λ b. cond b (g (f x)) x) (eq-eqb x.page.0 p is))))
      (λ (differ : x.page.0 ≢ p).
      ap (λ (z : Row). cond (eqb z.page.0 p) (g z) z) (ap (λ b. cond b (f x) x) (ne_eqb x.page.0 p differ))
      ∙ (ap (λ b. cond b (g x) x) (ne_eqb x.page.0 p differ) ∙ sym (ap (λ b. cond b (g (f x)) x) (ne_eqb x.page.0 p differ))))
      (cases_eq x.page.0 p)

  -- one change, and then another
  pub changed_twice : (g : Row → Row) (rows : List Row) → changed p g (changed p f rows) ≡ changed p (λ x. g (f x)) rows
  changed_twice g [] = refl
  changed_twice g (x ∷ xs) =
      ap (λ ys. (let z = cond (eqb x.page.0 p) (f x) x in cond (eqb z.page.0 p) (g z) z) ∷ ys) (changed_twice g xs)
      ∙ ap (λ z. z ∷ changed p (λ x. g (f x)) xs) (head_twice g x)

  -- what holds of each changed row
  pub each_changed : (P : Row → Type 0) (rows : List Row) → EachOf p (changed p f rows) P → EachOf p rows (λ row. P (f row))
  each_changed P [] all row there is = absurd there
  each_changed P (x ∷ xs) all row there is =
      ⊎_elim
      (λ (here : row ≡ x).
      let at : x.page.0 ≡ p = ap (λ (r : Row). r.page.0) (sym here) ∙ is in
      let now : cond (eqb x.page.0 p) (f x) x ≡ f x = ap (λ b. cond b (f x) x) (eq-eqb x.page.0 p at) in
      subst (λ z. P (f z)) (sym here) (subst P now (all (cond (eqb x.page.0 p) (f x) x) (inl refl) (ap (λ (r : Row). r.page.0) now ∙ (page_stays x ∙ at)))))
      (λ later. each_changed P xs (λ other among same. all other (inr among) same) row later is)
      there

  -- the page is owned still
  pub still_owned : (v : View) → Owns v p → Owns (record v { pages = changed p f v.pages }) p
  still_owned v owns = let now = among_after p f page_stays owns.0 v.pages owns.1 in (now.0, now.1, now.2 ∙ owns.2)

-- a row whose first k words are new
abbrev pub begin_words : ℕ → List ℕ → Row → Row
begin_words k new x = record x { words = take k new ++ drop k x.words }

abbrev pub with_begun : ℕ → ℕ → List ℕ → View → View
with_begun p k new v = record v { pages = changed p (begin_words k new) v.pages }

-- a word that is as it was
pub word_same : (p k n : ℕ) (v : View) → FindsWord p k v n → with_word p k n v ≡ v
word_same p k n v finds =
    ap (λ xs. record v { pages = xs })
    (changed_none p (set_word k n) v.pages
    (λ row there is. ap (λ ws. record row { words = ws }) (ap (λ m. set row.words k m) (finds row there is).0 ∙ set-get_or row.words k 0)))

pub begun_none : (p : ℕ) (new : List ℕ) (v : View) → v ≡ with_begun p 0 new v
begun_none p new v = ap (λ xs. record v { pages = xs }) (sym (changed_none p (begin_words 0 new) v.pages (λ row there is. refl)))

module _ (p k : ℕ) (new : List ℕ) (v : View) (long : length new ≡ 256) where
  -- the rows that are rewritten have 256 words where those that are partly so have
  pub whole_before : k < 256 → IsWhole p (with_begun p k new v) → IsWhole p v
  whole_before within whole row there is =
      let n = each_changed p (begin_words k new) (λ z. refl) (λ z. length z.words ≡ 256) v.pages whole row there is in
      omega (arith, n, length-append (take k new) (drop k row.words), length-take-le k new (let z : k ≤ length new = omega (arith, within, long) in z), length-drop k row.words)

  -- one word more is new
  pub begun_more : k < 256 → IsWhole p (with_begun p k new v) → with_word p k (get_or new k 0) (with_begun p k new v) ≡ with_begun p (k + 1) new v
  begun_more within whole =
      ap (λ xs. record v { pages = xs })
      (changed_twice p (begin_words k new) (λ z. refl) (set_word k (get_or new k 0)) v.pages
      ∙ changed_alike p (λ z. set_word k (get_or new k 0) (begin_words k new z)) (begin_words (k + 1) new) v.pages
      (λ row there is.
      ap (λ ws. record row { words = ws })
      (begun new row.words k (omega (arith, within, long)) (whole_before within whole row there is ∙ sym long)
      ∙ ap (λ m. take m new ++ drop m row.words) (let z : suc k ≡ k + 1 = omega arith in z))))

  -- all words are new
  pub begun_all : 256 ≤ k → IsWhole p v → with_begun p k new v ≡ with_row p new v
  begun_all all whole =
      ap (λ xs. record v { pages = xs })
      (changed_alike p (begin_words k new) (set_words new) v.pages
      (λ row there is.
      let none : drop k row.words ≡ [] = drop_of_length-le row.words (omega (arith, whole row there is, all)) in
      ap (λ ws. record row { words = ws }) (ap (λ ws. take k new ++ ws) none ∙ (append-nil (take k new) ∙ take_all k new (omega (arith, long, all))))))
