-- Keys of a map by their bytes: what a change at the bytes bs leaves at any bytes cs.
use Rattle.std.proofs.Common.{◌≡◌, ◌∙◌, ℕ, List, Bool, true, false, cond, refl, sym, ap, subst, Option, Some, None}
use Rattle.std.specs.Ordering.{is_eq, nat_cmp}
use Rattle.std.specs.Cmp.{eq_by_cmp_equiv}
use Rattle.std.specs.Cmp.Lexicographic.{slice_cmp, nat_list_cmp_total, nat_list_eq_equiv, bytes_decides}
use Rattle.std.specs.Str.{bytes_eq}
use Rattle.std.specs.BTreeMap.{BTreeMap, get_by, UpdatesBy}
use Rattle.std.specs.Map.{lookup, IsKeyTest, AreApart, KeepsOthers}
use Rattle.std.specs.Prelude.{if◌then◌else◌}
use Rattle.std.specs.Option.{option_or, is_some}
use Rattle.std.proofs.lemmas.Bool.{false≢true}
use Rattle.std.proofs.lemmas.Map.Text.{is_eq-slice_cmp}

apart : (bs cs ks : List ℕ) → bytes_eq bs cs ≡ false → bytes_eq bs ks ≡ true → bytes_eq cs ks ≡ false
apart bs cs ks n y = nat_list_eq_equiv.symm cs ks ∙ sym (nat_list_eq_equiv.congr bs ks cs y) ∙ n

apart_in_order : (bs cs ks : List ℕ) → bytes_eq bs cs ≡ false → is_eq (slice_cmp nat_cmp bs ks) ≡ true → is_eq (slice_cmp nat_cmp cs ks) ≡ false
apart_in_order bs cs ks n y = is_eq-slice_cmp cs ks ∙ apart bs cs ks n (sym (is_eq-slice_cmp bs ks) ∙ y)

other_entries : {K X : Type 0} (eq : K → K → Bool) (test : K → Bool) (old new : List (K × X)) → KeepsOthers eq test old new → (other : K → Bool) → IsKeyTest eq other → AreApart test other → lookup other new ≡ lookup other old
unfolding KeepsOthers
other_entries eq test old new h = h

pub updated : {K X : Type 0} (items : K → List ℕ) (bs : List ℕ) (m n : BTreeMap K X) (w : Option X)
    → UpdatesBy (λ x y. slice_cmp nat_cmp (items x) (items y)) (λ k. slice_cmp nat_cmp bs (items k)) m n w
    → (cs : List ℕ) → get_by (λ k. slice_cmp nat_cmp cs (items k)) n ≡ cond (bytes_eq cs bs) w (get_by (λ k. slice_cmp nat_cmp cs (items k)) m)
updated items bs m n w h cs =
    by_test (bytes_eq bs cs)
    (λ y. subst (λ l. get_by (λ k. slice_cmp nat_cmp l (items k)) n ≡ w) ((bytes_decides bs cs).0 y) h.1)
    (λ e. other_entries _ _ _ _ h.3 _ (λ x y. (eq_by_cmp_equiv nat_list_cmp_total).congr cs (items x) (items y)) (λ k. apart_in_order bs cs (items k) e))
    ∙ ap (λ b. cond b w (get_by (λ k. slice_cmp nat_cmp cs (items k)) m)) (nat_list_eq_equiv.symm bs cs)
  where
    by_test : (b : Bool) → (b ≡ true → get_by (λ k. slice_cmp nat_cmp cs (items k)) n ≡ w) → (b ≡ false → get_by (λ k. slice_cmp nat_cmp cs (items k)) n ≡ get_by (λ k. slice_cmp nat_cmp cs (items k)) m)
        → get_by (λ k. slice_cmp nat_cmp cs (items k)) n ≡ cond b w (get_by (λ k. slice_cmp nat_cmp cs (items k)) m)
    by_test true f g = f refl
    by_test false f g = g refl

or_none : (o : Option ℕ) → option_or o None ≡ o
or_none None = refl
or_none (Some n) = refl

some_or : (o other : Option ℕ) → is_some o ≡ true → o ≡ option_or o other
some_or None other h = absurd (false≢true h)
some_or (Some n) other h = refl

none_or : (o other : Option ℕ) → is_some o ≡ false → other ≡ option_or o other
none_or None other h = refl
none_or (Some n) other h = absurd (false≢true (sym h))

-- a key that was met stays where it is
pub kept : (f : List ℕ → Option ℕ) (key : List ℕ) (v : ℕ) → is_some (f key) ≡ true → (q : List ℕ) → f q ≡ option_or (f q) (if bytes_eq q key then Some v else None)
kept f key v met q = by_test (bytes_eq q key) refl
  where
    by_test : (b : Bool) → bytes_eq q key ≡ b → f q ≡ option_or (f q) (if b then Some v else None)
    by_test true e = some_or (f q) (Some v) (subst (λ k. is_some (f k) ≡ true) (sym ((bytes_decides q key).0 e)) met)
    by_test false e = sym (or_none (f q))

-- and a new one comes
pub noted : (f g : List ℕ → Option ℕ) (key : List ℕ) (v : ℕ) → is_some (f key) ≡ false → ((q : List ℕ) → g q ≡ (if bytes_eq q key then Some v else f q))
    → (q : List ℕ) → g q ≡ option_or (f q) (if bytes_eq q key then Some v else None)
noted f g key v new changed q = changed q ∙ by_test (bytes_eq q key) refl
  where
    by_test : (b : Bool) → bytes_eq q key ≡ b → (if b then Some v else f q) ≡ option_or (f q) (if b then Some v else None)
    by_test true e = none_or (f q) (Some v) (subst (λ k. is_some (f k) ≡ false) (sym ((bytes_decides q key).0 e)) new)
    by_test false e = sym (or_none (f q))
