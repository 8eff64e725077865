-- Groups of rows, one row after another.
use Rattle.std.proofs.Common.{◌≡◌, ◌∙◌, refl, sym, ap, subst, List, [], ◌∷◌, ◌++◌, map, Bool, true, false, if◌then◌else◌, Ordering, Less, Equal, Greater}
use Rattle.std.specs.Prelude.{◌||◌}
use Rattle.std.specs.List.{AllByRecursion, filter, list_any}
use Rattle.std.specs.Ordering.{is_eq, ordering_reverse}
use Rattle.std.specs.Cmp.{IsTotalOrder}
use Rattle.std.specs.Cmp.Lexicographic.{slice_cmp}
use Rattle.std.specs.FinMap.{IsAntisymmetric}
use Rattle.std.proofs.lemmas.Cmp.{lists_total}
use Rattle.std.proofs.lemmas.List.{append-nil, append_assoc, map-append}
use Rattle.std.proofs.lemmas.List.Folds.{list_any-append}
use Rattle.hc_value.specs.declared.value.Value.{Value}
use Rattle.hc_value.specs.Order.{value_order}
use Rattle.hc_sql.specs.Looks.{same_values}
use Rattle.hc_sql.specs.Grouping.{Group, Keyed, with_grouped, grouped_after}
use Rattle.hc_sql.specs.Sorting.{Result, shows_same, firsts}
use Rattle.hc_sql.specs.ResultLaws.{EachPair, rows_with, showing}
use Rattle.hc_sql.proofs.Firsts.{are_same, same_itself, first_kept}

-- a group, or a row, with these values is there
abbrev has_group : List Group → List Value → Bool
has_group groups v = list_any (λ g. same_values g.values v) groups

abbrev has_row : List Keyed → List Value → Bool
has_row keyed v = list_any (λ k. same_values k.values v) keyed

abbrev Apart : Group → Group → Type 0
Apart g h = same_values g.values h.values ≡ false

abbrev values : List Group → List (List Value)
values groups = map (λ g. g.values) groups

-- what the groups of some rows are
pub record Parts (done : List Keyed) (groups : List Group) : Type 0 where
  pub covers : (v : List Value) → has_group groups v ≡ has_row done v
  pub apart : EachPair Apart groups
  pub rows : AllByRecursion (λ g. g.rows ≡ rows_with g.values done) groups
  pub values : map (λ g. g.values) groups ≡ map (λ r. r.shown) (firsts (map showing done))

-- what is so of the values of each group and of those of one more row is so after it
all_grouped : (P : List Value → Type 0) (groups : List Group) (v row : List Value) → P v → AllByRecursion (λ g. P g.values) groups
    → AllByRecursion (λ g. P g.values) (with_grouped groups v row)
all_grouped P [] v row one each = (one, tt)
all_grouped P (g ∷ groups) v row one each = by (same_values g.values v) (all_grouped P groups v row one each.1)
  where
    by : (b : Bool) → AllByRecursion (λ h. P h.values) (with_grouped groups v row)
        → AllByRecursion (λ h. P h.values) (if b then record { values = g.values; rows = g.rows ++ row ∷ [] } ∷ groups else g ∷ with_grouped groups v row)
    by true following = (each.0, each.1)
    by false following = (each.0, following)

still_apart : (groups : List Group) (v row : List Value) → EachPair Apart groups → EachPair Apart (with_grouped groups v row)
still_apart [] v row pairs = (tt, tt)
still_apart (g ∷ groups) v row pairs = by (same_values g.values v) refl (still_apart groups v row pairs.1)
  where
    by : (b : Bool) → same_values g.values v ≡ b → EachPair Apart (with_grouped groups v row)
        → EachPair Apart (if b then record { values = g.values; rows = g.rows ++ row ∷ [] } ∷ groups else g ∷ with_grouped groups v row)
    by true is following = (pairs.0, pairs.1)
    by false is following = (all_grouped (λ w. same_values g.values w ≡ false) groups v row is pairs.0, following)

-- a group more only for values that none has
values_after : (groups : List Group) (v row : List Value) → values (with_grouped groups v row) ≡ (if has_group groups v then values groups else values groups ++ v ∷ [])
values_after [] v row = refl
values_after (g ∷ groups) v row = by (same_values g.values v) (values_after groups v row)
  where
    pushed : (b : Bool) → g.values ∷ (if b then values groups else values groups ++ v ∷ [])
        ≡ (if b then g.values ∷ values groups else g.values ∷ (values groups ++ v ∷ []))
    pushed true = refl
    pushed false = refl

    by : (b : Bool) → values (with_grouped groups v row) ≡ (if has_group groups v then values groups else values groups ++ v ∷ [])
        → values (if b then record { values = g.values; rows = g.rows ++ row ∷ [] } ∷ groups else g ∷ with_grouped groups v row)
        ≡ (if b || has_group groups v then g.values ∷ values groups else g.values ∷ (values groups ++ v ∷ []))
    by true following = refl
    by false following = ap (λ rest. g.values ∷ rest) following ∙ pushed (has_group groups v)

-- the rows with some values, with one row more
rows_more : (v : List Value) (done : List Keyed) (k : Keyed) → rows_with v (done ++ k ∷ []) ≡ rows_with v done ++ (if same_values k.values v then k.row ∷ [] else [])
rows_more v [] k = by (same_values k.values v)
  where
    by : (b : Bool) → map (λ (e : Keyed). e.row) (if b then k ∷ [] else []) ≡ (if b then k.row ∷ [] else [])
    by true = refl
    by false = refl
rows_more v (e ∷ done) k = by (same_values e.values v) (rows_more v done k)
  where
    by : (b : Bool) → rows_with v (done ++ k ∷ []) ≡ rows_with v done ++ (if same_values k.values v then k.row ∷ [] else [])
        → map (λ (x : Keyed). x.row) (if b then e ∷ filter (λ x. same_values x.values v) (done ++ k ∷ []) else filter (λ x. same_values x.values v) (done ++ k ∷ []))
        ≡ map (λ (x : Keyed). x.row) (if b then e ∷ filter (λ x. same_values x.values v) done else filter (λ x. same_values x.values v) done)
        ++ (if same_values k.values v then k.row ∷ [] else [])
    by true following = ap (λ rest. e.row ∷ rest) following
    by false following = following

no_rows : (v : List Value) (done : List Keyed) → has_row done v ≡ false → rows_with v done ≡ []
no_rows v [] none = refl
no_rows v (e ∷ done) none = by (same_values e.values v) none (no_rows v done)
  where
    by : (b : Bool) → (b || has_row done v) ≡ false → (has_row done v ≡ false → rows_with v done ≡ [])
        → map (λ (x : Keyed). x.row) (if b then e ∷ filter (λ x. same_values x.values v) done else filter (λ x. same_values x.values v) done) ≡ []
    by true is following = cc
    by false is following = following is

or_swap : (a b : Bool) → (a || b) ≡ ((a || b) || a)
or_swap true b = refl
or_swap false true = refl
or_swap false false = refl

or_assoc : (a b c : Bool) → (a || (b || c)) ≡ ((a || b) || c)
or_assoc true b c = refl
or_assoc false b c = refl

or_false : (a : Bool) → (a || false) ≡ a
or_false true = refl
or_false false = refl

module _ (total : IsTotalOrder value_order) (exact : IsAntisymmetric value_order) where
  same_turned : (a b : List Value) → same_values a b ≡ same_values b a
  same_turned a b = ap is_eq ((lists_total total).antisymm a b) ∙ by (slice_cmp value_order b a)
    where
      by : (o : Ordering) → is_eq (ordering_reverse o) ≡ is_eq o
      by Less = refl
      by Equal = refl
      by Greater = refl

  has_after : (groups : List Group) (w row v : List Value) → has_group (with_grouped groups w row) v ≡ (has_group groups v || same_values w v)
  has_after [] w row v = or_false (same_values w v)
  has_after (g ∷ groups) w row v = by (same_values g.values w) refl (has_after groups w row v)
    where
      by : (b : Bool) → same_values g.values w ≡ b → has_group (with_grouped groups w row) v ≡ (has_group groups v || same_values w v)
          → has_group (if b then record { values = g.values; rows = g.rows ++ row ∷ [] } ∷ groups else g ∷ with_grouped groups w row) v
          ≡ ((same_values g.values v || has_group groups v) || same_values w v)
      by true is following =
          or_swap (same_values g.values v) (has_group groups v)
          ∙ ap (λ u. (same_values g.values v || has_group groups v) || same_values u v) (are_same exact g.values w is)
      by false is following =
          ap (λ b. same_values g.values v || b) following ∙ or_assoc (same_values g.values v) (has_group groups v) (same_values w v)

  module _ (done : List Keyed) (k : Keyed) where
    abbrev Had : Group → Type 0
    Had g = g.rows ≡ rows_with g.values done

    abbrev Has : Group → Type 0
    Has g = g.rows ≡ rows_with g.values (done ++ k ∷ [])

    -- a group of other values has no row more
    other_has : (g : Group) → same_values k.values g.values ≡ false → Had g → Has g
    other_has g none had =
        had ∙ (sym (append-nil (rows_with g.values done)) ∙ (ap (λ b. rows_with g.values done ++ (if b then k.row ∷ [] else [])) (sym none)
        ∙ sym (rows_more g.values done k)))

    others_have : (v : List Value) → k.values ≡ v → (groups : List Group) → AllByRecursion (λ h. same_values v h.values ≡ false) groups
        → AllByRecursion Had groups → AllByRecursion Has groups
    others_have v is [] apart each = tt
    others_have v is (h ∷ groups) apart each =
        (other_has h (ap (λ u. same_values u h.values) is ∙ apart.0) each.0, others_have v is groups apart.1 each.1)

    -- the group of the row's values has it
    own_has : (v : List Value) (rows : List (List Value)) → k.values ≡ v → rows ≡ rows_with v done → rows ++ k.row ∷ [] ≡ rows_with v (done ++ k ∷ [])
    own_has v rows is had =
        ap (λ list. list ++ k.row ∷ []) had
        ∙ (ap (λ b. rows_with v done ++ (if b then k.row ∷ [] else [])) (sym (ap (λ u. same_values u v) is ∙ same_itself total v))
        ∙ sym (rows_more v done k))

    rows_after : (groups : List Group) → AllByRecursion Had groups → EachPair Apart groups
        → (has_group groups k.values ≡ false → rows_with k.values done ≡ []) → AllByRecursion Has (with_grouped groups k.values k.row)
    rows_after [] each pairs none = (own_has k.values [] refl (sym (none refl)), tt)
    rows_after (g ∷ groups) each pairs none = by (same_values g.values k.values) refl none (rows_after groups each.1 pairs.1)
      where
        by : (b : Bool) → same_values g.values k.values ≡ b
            → ((b || has_group groups k.values) ≡ false → rows_with k.values done ≡ [])
            → ((has_group groups k.values ≡ false → rows_with k.values done ≡ []) → AllByRecursion Has (with_grouped groups k.values k.row))
            → AllByRecursion Has (if b then record { values = g.values; rows = g.rows ++ k.row ∷ [] } ∷ groups else g ∷ with_grouped groups k.values k.row)
        by true is alone following =
            let same : k.values ≡ g.values = sym (are_same exact g.values k.values is) in
            (own_has g.values g.rows same each.0, others_have g.values same groups pairs.0 each.1)
        by false is alone following = (other_has g (same_turned k.values g.values ∙ is) each.0, following alone)

    first_after : firsts (map showing (done ++ k ∷ [])) ≡ (if list_any (λ r. shows_same r (showing k)) (map showing done) then firsts (map showing done) else firsts (map showing done) ++ showing k ∷ [])
    first_after = ap firsts (map-append showing done (k ∷ [])) ∙ first_kept (map showing done) (showing k)

    any_showing : (list : List Keyed) → list_any (λ r. shows_same r (showing k)) (map showing list) ≡ has_row list k.values
    any_showing [] = refl
    any_showing (e ∷ list) = ap (λ b. same_values e.values k.values || b) (any_showing list)

    shown_after : (b : Bool) → map (λ (r : Result). r.shown) (if b then firsts (map showing done) else firsts (map showing done) ++ showing k ∷ [])
        ≡ (if b then map (λ (r : Result). r.shown) (firsts (map showing done)) else map (λ (r : Result). r.shown) (firsts (map showing done)) ++ k.values ∷ [])
    shown_after true = refl
    shown_after false = map-append (λ (r : Result). r.shown) (firsts (map showing done)) (showing k ∷ [])

    more : (groups : List Group) → Parts done groups → Parts (done ++ k ∷ []) (with_grouped groups k.values k.row)
    more groups p = record {
      covers = λ v.
          has_after groups k.values k.row v
          ∙ (ap (λ b. b || same_values k.values v) (p.covers v)
          ∙ (ap (λ b. has_row done v || b) (sym (or_false (same_values k.values v)))
          ∙ sym (list_any-append (λ e. same_values e.values v) done (k ∷ []))));
      apart = still_apart groups k.values k.row p.apart;
      rows = rows_after groups p.rows p.apart (λ none. no_rows k.values done (sym (p.covers k.values) ∙ none));
      values =
          values_after groups k.values k.row
          ∙ (ap (λ b. if b then values groups else values groups ++ k.values ∷ []) (p.covers k.values ∙ sym (any_showing done))
          ∙ (ap (λ list. if list_any (λ r. shows_same r (showing k)) (map showing done) then list else list ++ k.values ∷ []) p.values
          ∙ (sym (shown_after (list_any (λ r. shows_same r (showing k)) (map showing done)))
          ∙ ap (λ list. map (λ (r : Result). r.shown) list) (sym first_after))));
    }

  parted_after : (done : List Keyed) (groups : List Group) (keyed : List Keyed) → Parts done groups → Parts (done ++ keyed) (grouped_after groups keyed)
  parted_after done groups [] p = subst (λ list. Parts list groups) (sym (append-nil done)) p
  parted_after done groups (k ∷ keyed) p =
      subst (λ list. Parts list (grouped_after groups (k ∷ keyed))) (append_assoc done (k ∷ []) keyed)
      (parted_after (done ++ k ∷ []) (with_grouped groups k.values k.row) keyed (more done k groups p))

  pub parted : (keyed : List Keyed) → Parts keyed (grouped_after [] keyed)
  parted keyed = parted_after [] [] keyed (record { covers = λ v. refl; apart = tt; rows = tt; values = refl })

  -- each row is one with its values
  in_some : (more rest : List Keyed) → ((v : List Value) → has_row rest v ≡ true → has_row more v ≡ true) → AllByRecursion (λ k. has_row more k.values ≡ true) rest
  in_some more [] into = tt
  in_some more (k ∷ rest) into =
      (into k.values (ap (λ b. b || has_row rest k.values) (same_itself total k.values)), in_some more rest (λ v has. into v (later (same_values k.values v) (has_row rest v) has)))
    where
      later : (a b : Bool) → b ≡ true → (a || b) ≡ true
      later true b is = refl
      later false b is = is

  as_groups : (groups : List Group) (keyed rest : List Keyed) → ((v : List Value) → has_group groups v ≡ has_row keyed v)
      → AllByRecursion (λ k. has_row keyed k.values ≡ true) rest → AllByRecursion (λ k. has_group groups k.values ≡ true) rest
  as_groups groups keyed [] covers each = tt
  as_groups groups keyed (k ∷ rest) covers each = (covers k.values ∙ each.0, as_groups groups keyed rest covers each.1)

  pub each_grouped : (keyed : List Keyed) → AllByRecursion (λ k. list_any (λ g. same_values g.values k.values) (grouped_after [] keyed) ≡ true) keyed
  each_grouped keyed = as_groups (grouped_after [] keyed) keyed keyed (parted keyed).covers (in_some keyed keyed (λ v has. has))
