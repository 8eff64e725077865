-- Writes, of which a front part is put: a write comes to the front, or leaves it.
use Rattle.std.proofs.Common.{◌≡◌, ◌∙◌, inr, ⊎_elim, refl, sym, ap, subst, ℕ, ◌+◌, ◌<◌, ◌≤◌, Bool, true, false, cond, List, [], ◌∷◌, ◌++◌, length, take, get_or, arith, Option, Some, None, MatchOption}
use Rattle.std.specs.Prelude.{position, swap}
use Rattle.std.specs.List.{position_or_len}
use Rattle.std.proofs.lemmas.List.Quantifiers.{position-Some}
use Rattle.std.proofs.lemmas.Bool.{cases_lt, lt-ltb, and_parts, and_from}
use Rattle.std.proofs.lemmas.List.{length-append, get_or_push, take-append-le, take_more, get_or-take, length-take-le}
use Rattle.std.proofs.lemmas.List.Edits.{length-swap}
use Rattle.std.proofs.lemmas.List.Sums.{fails_before_first}
use Rattle.std.proofs.lemmas.Slice.Eq.{bytes_eq-Decides}
use Rattle.std.specs.Str.{bytes_eq}
use Rattle.hc_core.specs.Account.{without}
use Rattle.hc_base.specs.Lookup.{Among}
use Rattle.hc_core.specs.Running.{HaveSameWrites, holds_key}
use Rattle.hc_core.specs.Sound.{HasEachOnce}
use Rattle.hc_core.specs.WriteSet.{HasAllOf, IsHeldIn, IsKeyAt, IsWriteAt, is_of_key, is_same_rec, is_write}
use Rattle.hc_core.specs.declared.cells.Write.{Write}
use Rattle.hc_core.proofs.Elements.{among_push}
use Rattle.hc_core.proofs.LogEntries.{holds_from}
use Rattle.hc_core.proofs.PutOnce.{left_without, once_push, taken_out}
use Rattle.hc_core.proofs.Swapping.{among_at, among_swap, front_less, front_more, place_in}

-- a test that an element passes has a first place
pub has_position : {X : Type 0} (p : X → Bool) (xs : List X) (x : X) → Among x xs → p x ≡ true → position p xs ≡ None → ⊥
has_position p xs x there passes none =
    let q = place_in x xs there in
    ⊎_elim
    (λ (below : q.0 < position_or_len p xs). let e : true ≡ false = sym passes ∙ ap p (sym (q.2 x)) ∙ fails_before_first p xs q.0 x below in cc)
    (λ (at : position_or_len p xs ≤ q.0).
    let some : position p xs ≡ Some (position_or_len p xs) =
    ap (λ b. cond b (Some (position_or_len p xs)) None) (lt-ltb (position_or_len p xs) (length xs) (omega (arith, at, q.1))) in
    let e : None ≡ Some (position_or_len p xs) = sym none ∙ some in cc)
    (cases_lt q.0 (position_or_len p xs))

-- a write that was looked for is at the place that was found
pub found_at : (key : List ℕ) (rec : Option (List ℕ)) (writes : List Write) (found : Option ℕ) → found ≡ position (is_write key rec) writes
    → MatchOption found (position (is_write key rec) writes ≡ None) (λ place. IsWriteAt key rec writes place)
found_at key rec writes None is = sym is
found_at key rec writes (Some place) is =
    let at = λ (d : Write). position-Some (is_write key rec) writes place d (sym is) in
    ((at (record { key = []; rec = None })).0, λ d. (at d).1)

-- a record is the same as itself, and as no other
same_rec : (rec : Option (List ℕ)) → is_same_rec rec rec ≡ true
same_rec None = refl
same_rec (Some rec) = (bytes_eq-Decides rec rec).1 refl

rec_same : (rec other : Option (List ℕ)) → is_same_rec rec other ≡ true → rec ≡ other
rec_same None None is = refl
rec_same (Some rec) (Some other) is = ap Some ((bytes_eq-Decides rec other).0 is)
rec_same None (Some other) is = absurd (let e : false ≡ true = is in cc)
rec_same (Some rec) None is = absurd (let e : false ≡ true = is in cc)

-- a write passes its own test, and no other does
pub write_passes : (key : List ℕ) (rec : Option (List ℕ)) → is_write key rec (record { key = key; rec = rec }) ≡ true
write_passes key rec = and_from (bytes_eq key key) (is_same_rec rec rec) ((bytes_eq-Decides key key).1 refl) (same_rec rec)

pub write_is : (key : List ℕ) (rec : Option (List ℕ)) (w : Write) → is_write key rec w ≡ true → w ≡ record { key = key; rec = rec }
write_is key rec w passes =
    let both = and_parts (bytes_eq w.key key) (is_same_rec w.rec rec) passes in
    ap (λ (k : List ℕ). record { key = k; rec = w.rec }) ((bytes_eq-Decides w.key key).0 both.0)
    ∙ ap (λ (r : Option (List ℕ)). record { key = key; rec = r }) (rec_same w.rec rec both.1)

-- a write has a place that is not of the front
pub record IsHeldAt (put : ℕ) (items : List Write) (w : Write) (place : ℕ) : Type 0 where
  pub low : put ≤ place
  pub within : place < length items
  pub is : (d : Write) → get_or items place d ≡ w

-- the place that was found of a write whose key is not put
pub found_held : (items : List Write) (key : List ℕ) (rec : Option (List ℕ)) (put place : ℕ) → put ≤ length items
    → holds_key key (take put items) ≡ false → IsWriteAt key rec items place → IsHeldAt put items (record { key = key; rec = rec }) place
found_held items key rec put place within new found =
    let w : Write = record { key = key; rec = rec } in
    let is : (d : Write) → get_or items place d ≡ w = λ d. write_is key rec _ (found.1 d) in
    record {
      low = ⊎_elim
          (λ (below : place < put).
          let here : Among w (take put items) = subst (λ v. Among v (take put items)) (get_or-take put items place w below ∙ is w)
          (among_at (take put items) place w (rw (length-take-le put items within) below)) in
          absurd (let e : true ≡ false = sym (holds_from key (take put items) (rec, here)) ∙ new in cc))
          (λ high. high)
          (cases_lt place put);
      within = found.0;
      is = is;
    }

-- a write more is put
pub record Grown (put : ℕ) (items : List Write) (w : Write) (after : List Write) : Type 0 where
  pub within : put + 1 ≤ length after
  pub once : HasEachOnce (take (put + 1) after)
  pub front : take (put + 1) after ≡ take put items ++ w ∷ []
  pub all : HasAllOf items after

-- a write for which there is room
pub grown_held : (items : List Write) (w : Write) (put place : ℕ) → HasEachOnce (take put items)
    → holds_key w.key (take put items) ≡ false → IsHeldAt put items w place → Grown put items w (swap items place put)
grown_held items w put place once new at =
    let front : take (put + 1) (swap items place put) ≡ take put items ++ w ∷ [] =
    front_more items place put w at.low at.within ∙ ap (λ v. take put items ++ v ∷ []) (at.is w) in
    record {
      within = rw (length-swap items place put) (omega (arith, at.low, at.within));
      once = subst HasEachOnce (sym front) (once_push (take put items) w once new);
      front = front;
      all = λ x. among_swap items place put x at.within (omega (arith, at.low, at.within));
    }

-- a write for which there was no room
pub grown_added : (items : List Write) (w : Write) (put place : ℕ) → put ≤ length items → HasEachOnce (take put items)
    → holds_key w.key (take put items) ≡ false → place ≡ length items → Grown put items w (swap (items ++ w ∷ []) place put)
grown_added items w put place within once new is =
    let same : take put (items ++ w ∷ []) ≡ take put items = take-append-le put items (w ∷ []) within in
    let at : IsHeldAt put (items ++ w ∷ []) w place = record {
      low = omega (arith, within, is);
      within = rw (length-append items (w ∷ [])) (omega (arith, is));
      is = λ d. get_or_push items w d place (sym is);
    } in
    let g = grown_held (items ++ w ∷ []) w put place (subst HasEachOnce (sym same) once) (ap (holds_key w.key) same ∙ new) at in
    record {
      within = g.within;
      once = g.once;
      front = g.front ∙ ap (λ ws. ws ++ w ∷ []) same;
      all = λ x there. g.all x ((among_push x w items).1 (inr there));
    }

-- a write that is held, or is held now
pub grown_either : (items after : List Write) (w : Write) (put place : ℕ) → put ≤ length items → HasEachOnce (take put items)
    → holds_key w.key (take put items) ≡ false → IsHeldIn w items after place → Grown put items w (swap after place put) × (place < length after) × (put < length after)
grown_either items after w put place within once new held =
    ⊎_elim
    (λ there. let at = found_held items w.key w.rec put place within new there.1 in
    rw (there.0) (grown_held items w put place once new at, at.within, omega (arith, at.low, at.within)))
    (λ added. rw (added.0) (
      grown_added items w put place within once new added.1,
      rw (length-append items (w ∷ [])) (omega (arith, added.1)),
      rw (length-append items (w ∷ [])) (omega (arith, within)),
    ))
    held

-- the place that was found of a key that is put
pub found_put : (items : List Write) (key : List ℕ) (put place : ℕ) → put ≤ length items → IsKeyAt key (take put items) place
    → (place < put) × ((d : Write) → (get_or (take put items) place d).key ≡ key)
found_put items key put place within found = (
  subst (λ n. place < n) (length-take-le put items within) found.0,
  λ d. (bytes_eq-Decides (get_or (take put items) place d).key key).0 (found.1 d),
)

-- and the same of the first place that a search finds
pub key_at : (key : List ℕ) (writes : List Write) (found : Option ℕ) → found ≡ position (is_of_key key) writes
    → MatchOption found (position (is_of_key key) writes ≡ None) (λ place. IsKeyAt key writes place)
key_at key writes None is = sym is
key_at key writes (Some place) is =
    let at = λ (d : Write). position-Some (is_of_key key) writes place d (sym is) in
    ((at (record { key = []; rec = None })).0, λ d. (at d).1)

-- a put is taken back, and `last` writes are left in front
pub record Shrunk (put last : ℕ) (items : List Write) (key : List ℕ) (after : List Write) : Type 0 where
  pub within : last ≤ length after
  pub once : HasEachOnce (take last after)
  pub front : HaveSameWrites (take last after) (without key (take put items))
  pub all : HasAllOf items after

pub shrunk : (items : List Write) (put last place : ℕ) (key : List ℕ) → put ≡ last + 1 → put ≤ length items → HasEachOnce (take put items) → place < put
    → ((d : Write) → (get_or (take put items) place d).key ≡ key) → Shrunk put last items key (swap items place last)
shrunk items put last place key one within once low is =
    let d : Write = record { key = []; rec = None } in
    let split : take put items ≡ take last items ++ get_or items last d ∷ [] =
    ap (λ n. take n items) one ∙ take_more items last d (omega (arith, one, within)) in
    let out = taken_out (take last items) (get_or items last d) place key
    (rw (length-take-le last items (omega (arith, one, within))) (omega (arith, one, low))) (subst HasEachOnce split once)
    (λ e. subst (λ ws. (get_or ws place e).key ≡ key) split (is e)) in
    let front = front_less items place last d (omega (arith, one, low)) (omega (arith, one, within)) in
    record {
      within = rw (length-swap items place last) (omega (arith, one, within));
      once = subst HasEachOnce (sym front) out.once;
      front = rw (front, split) (left_without key _ _ out);
      all = λ x. among_swap items place last x (omega (arith, one, low, within)) (omega (arith, one, within));
    }
