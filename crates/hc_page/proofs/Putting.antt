-- An entry is put where its key belongs.
use Rattle.std.proofs.Common.{◌≡◌, ℕ, ◌+◌, ◌-◌, ◌<◌, ◌≤◌, List, [], ◌∷◌, ◌++◌, length, take, drop, get_or, refl, sym, ap, subst, ◌∙◌, arith, length-drop, length-take-le, Bool, true, false, append-nil}
use Rattle.std.specs.List.{All, filter}
use Rattle.std.proofs.lemmas.List.{drop-drop, get_or-drop, get_or-take, get_or-map, length-map, take-append-drop}
use Rattle.std.proofs.lemmas.List.Elements.{All-head, All-tail, All-get_or, All-from_get_or, filter-append}
use Rattle.hc_range.specs.Order.{IsBelow, is_below}
use Rattle.hc_range.proofs.ByteOrder.{below_irrefl, below_flip}
use Rattle.hc_base.specs.Content.{Entry, Ascends, keys}
use Rattle.hc_page.specs.Finding.{IsFound}
use Rattle.hc_page.specs.declared.search.Found.TheVariants.{At, Before}
use Rattle.hc_page.specs.Puts.{IsAround, put_entry}
use Rattle.hc_page.proofs.Ordered.{ascends_at}

filter_keeps : (p : Entry → Bool) (xs : List Entry) → All (λ x. p x ≡ true) xs → filter p xs ≡ xs
filter_keeps p [] all = refl
filter_keeps p (x ∷ xs) all =
    let first : p x ≡ true = All-head (λ y. p y ≡ true) x xs all in
    rw first (ap (λ ys. x ∷ ys) (filter_keeps p xs (All-tail (λ y. p y ≡ true) x xs all)))

filter_drops : (p : Entry → Bool) (xs : List Entry) → All (λ x. p x ≡ false) xs → filter p xs ≡ []
filter_drops p [] all = refl
filter_drops p (x ∷ xs) all =
    let first : p x ≡ false = All-head (λ y. p y ≡ false) x xs all in
    rw first (filter_drops p xs (All-tail (λ y. p y ≡ false) x xs all))

all_map : (P Q : Entry → Type 0) (d : Entry) (xs : List Entry) → ((x : Entry) → P x → Q x) → All P xs → All Q xs
all_map P Q d xs step all = All-from_get_or Q xs d (λ i within. step (get_or xs i d) (All-get_or P xs i d within all))

-- lesser ones, those with the key, and greater ones
pub put_parts : (e : Entry) (xs same ys : List Entry) → All (λ x. IsBelow x.key e.key) xs → All (λ x. x.key ≡ e.key) same → All (λ x. IsBelow e.key x.key) ys
    → put_entry e (xs ++ (same ++ ys)) ≡ xs ++ (e ∷ ys)
put_parts e xs same ys lesser equal greater =
    let low = λ (x : Entry). is_below x.key e.key in
    let high = λ (x : Entry). is_below e.key x.key in
    let self : (x : Entry) → x.key ≡ e.key → is_below x.key e.key ≡ false = λ x is. subst (λ k. is_below k e.key ≡ false) (sym is) (below_irrefl e.key) in
    let self_too : (x : Entry) → x.key ≡ e.key → is_below e.key x.key ≡ false = λ x is. subst (λ k. is_below e.key k ≡ false) (sym is) (below_irrefl e.key) in
    let lows : filter low (xs ++ (same ++ ys)) ≡ xs =
    filter-append low xs (same ++ ys)
    ∙ (ap (λ zs. filter low xs ++ zs) (filter-append low same ys)
    ∙ (ap (λ zs. zs ++ (filter low same ++ filter low ys)) (filter_keeps low xs lesser)
    ∙ (ap (λ zs. xs ++ (zs ++ filter low ys)) (filter_drops low same (all_map (λ x. x.key ≡ e.key) (λ x. is_below x.key e.key ≡ false) e same self equal))
    ∙ (ap (λ zs. xs ++ zs) (filter_drops low ys (all_map (λ x. IsBelow e.key x.key) (λ x. is_below x.key e.key ≡ false) e ys (λ x up. below_flip e.key x.key up) greater)) ∙ append-nil xs)))) in
    let highs : filter high (xs ++ (same ++ ys)) ≡ ys =
    filter-append high xs (same ++ ys)
    ∙ (ap (λ zs. filter high xs ++ zs) (filter-append high same ys)
    ∙ (ap (λ zs. zs ++ (filter high same ++ filter high ys)) (filter_drops high xs (all_map (λ x. IsBelow x.key e.key) (λ x. is_below e.key x.key ≡ false) e xs (λ x up. below_flip x.key e.key up) lesser))
    ∙ (ap (λ zs. zs ++ filter high ys) (filter_drops high same (all_map (λ x. x.key ≡ e.key) (λ x. is_below e.key x.key ≡ false) e same self_too equal))
    ∙ filter_keeps high ys greater))) in
    ap (λ zs. zs ++ (e ∷ filter high (xs ++ (same ++ ys)))) lows ∙ ap (λ zs. xs ++ (e ∷ zs)) highs

-- the key of an entry by its number
key_is : (es : List Entry) (i : ℕ) (d : Entry) → i < length es → get_or (keys es) i [] ≡ (get_or es i d).key
key_is es i d within = get_or-map (λ entry. entry.key) es i d [] within

-- the entries of the three parts
pub around_lesser : (es : List Entry) (e : Entry) (before after : ℕ) → IsAround es e.key before after → All (λ x. IsBelow x.key e.key) (take before es)
around_lesser es e before after around =
    let size : length (take before es) ≡ before = length-take-le before es (omega (arith, around.order, around.in_list)) in
    All-from_get_or (λ x. IsBelow x.key e.key) (take before es) e
    (λ i small.
    let less : i < before = omega (arith, size) in
    subst (λ x. IsBelow x.key e.key) (sym (get_or-take before es i e less))
    (subst (λ k. IsBelow k e.key) (key_is es i e (omega (arith, less, around.order, around.in_list))) (around.below i less)))

pub around_greater : (es : List Entry) (e : Entry) (before after : ℕ) → IsAround es e.key before after → All (λ x. IsBelow e.key x.key) (drop after es)
around_greater es e before after around =
    All-from_get_or (λ x. IsBelow e.key x.key) (drop after es) e
    (λ i small.
    let within : after + i < length es = omega (arith, length-drop after es) in
    subst (λ x. IsBelow e.key x.key) (sym (get_or-drop after es i e))
    (subst (λ k. IsBelow e.key k) (key_is es (after + i) e within) (around.above (after + i) (omega arith) within)))

-- what is between
abbrev pub between : List Entry → ℕ → ℕ → List Entry
between es before after = take (after - before) (drop before es)

around_equal : (es : List Entry) (e : Entry) (before after : ℕ) → IsAround es e.key before after → All (λ x. x.key ≡ e.key) (between es before after)
around_equal es e before after around =
    let room : after - before ≤ length (drop before es) = omega (arith, length-drop before es, around.in_list, around.order) in
    let size : length (between es before after) ≡ after - before = length-take-le (after - before) (drop before es) room in
    All-from_get_or (λ x. x.key ≡ e.key) (between es before after) e
    (λ i small.
    let first : i ≡ 0 = omega (arith, size, around.near) in
    let here : before < after = omega (arith, size, small) in
    let read : get_or (between es before after) i e ≡ get_or es before e =
    get_or-take (after - before) (drop before es) i e (omega (arith, size)) ∙ (get_or-drop before es i e ∙ ap (λ n. get_or es n e) (let z : before + i ≡ before = omega (arith, first) in z)) in
    subst (λ x. x.key ≡ e.key) (sym read) (sym (key_is es before e (omega (arith, here, around.in_list))) ∙ around.same here))

-- the three parts are the list
pub parts_are : (es : List Entry) (before after : ℕ) → before ≤ after → take before es ++ (between es before after ++ drop after es) ≡ es
parts_are es before after order =
    ap (λ zs. take before es ++ (between es before after ++ zs)) (sym (drop-drop (after - before) before es ∙ ap (λ n. drop n es) (let z : before + (after - before) ≡ after = omega arith in z)))
    ∙ (ap (λ zs. take before es ++ zs) (take-append-drop (after - before) (drop before es)) ∙ take-append-drop before es)

-- so the entry is put between them
pub put_is : (es : List Entry) (e : Entry) (before after : ℕ) → IsAround es e.key before after → put_entry e es ≡ take before es ++ (e ∷ drop after es)
put_is es e before after around =
    ap (λ zs. put_entry e zs) (sym (parts_are es before after around.order))
    ∙ put_parts e (take before es) (between es before after) (drop after es) (around_lesser es e before after around) (around_equal es e before after around) (around_greater es e before after around)

-- a search tells what is around a key
pub around_at : (es : List Entry) (key : List ℕ) (slot : ℕ) → Ascends (keys es) → IsFound (keys es) key (At slot) → IsAround es key slot (slot + 1)
around_at es key slot up found =
    let same_length : length (keys es) ≡ length es = length-map es (λ entry. entry.key) in
    let inside : slot < length (keys es) = omega (arith, length-drop slot (keys es), ap (λ ks. length ks) found.1) in
    let here : get_or (keys es) slot [] ≡ key =
    ap (λ n. get_or (keys es) n []) (let z : slot ≡ slot + 0 = omega arith in z) ∙ (sym (get_or-drop slot (keys es) 0 []) ∙ ap (λ ks. get_or ks 0 []) found.1) in
    record {
      order = omega arith;
      near = omega arith;
      in_list = omega (arith, inside, same_length);
      below = λ i less. subst (λ k. IsBelow (get_or (keys es) i []) k) here (ascends_at (keys es) i slot up less inside);
      above = λ i past within. subst (λ k. IsBelow k (get_or (keys es) i [])) here (ascends_at (keys es) slot i up (omega arith) (omega (arith, same_length)));
      same = λ more. here;
    }

pub around_before : (es : List Entry) (key : List ℕ) (slot : ℕ) → IsFound (keys es) key (Before slot) → IsAround es key slot slot
around_before es key slot found =
    let same_length : length (keys es) ≡ length es = length-map es (λ entry. entry.key) in
    let within_all : slot ≤ length (keys es) = found.0 in
    record {
      order = omega arith;
      near = omega arith;
      in_list = omega (arith, within_all, same_length);
      below = λ i less.
          subst (λ k. IsBelow k key) (get_or-take slot (keys es) i [] less)
          (All-get_or (λ other. IsBelow other key) (take slot (keys es)) i [] (omega (arith, length-take-le slot (keys es) within_all)) found.1);
      above = λ i past within.
          subst (λ k. IsBelow key k) (get_or-drop slot (keys es) (i - slot) [] ∙ ap (λ n. get_or (keys es) n []) (let z : slot + (i - slot) ≡ i = omega arith in z))
          (All-get_or (λ other. IsBelow key other) (drop slot (keys es)) (i - slot) [] (omega (arith, length-drop slot (keys es), same_length)) found.2);
      same = λ more. absurd (omega arith);
    }
