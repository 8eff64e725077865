-- A row on which the conjunct of its table's path is true is on the path.
use Rattle.std.proofs.Common.{◌≡◌, ◌∙◌, refl, sym, ap, subst, inl, inr, ◌⊎◌, ℕ, suc, ◌+◌, List, [], ◌∷◌, ◌++◌, Bool, true, false, Option, Some, None, arith}
use Rattle.std.specs.Prelude.{◌||◌, nat_eq, slice_get, slice_index_or, if◌then◌else◌}
use Rattle.std.specs.Option.{option_to_list, option_map, option_and_then, option_or, unwrap_or}
use Rattle.std.proofs.lemmas.Bool.{eqb-true}
use Rattle.hc_value.specs.declared.value.Value.{Value}
use Rattle.hc_value.specs.declared.value.Value.TheVariants.{Null}
use Rattle.hc_ast.specs.declared.operator.BinaryOp.{BinaryOp}
use Rattle.hc_ast.specs.declared.operator.BinaryOp.TheVariants as op
use Rattle.hc_ast.specs.declared.bound.Bound.{Bound}
use Rattle.hc_ast.specs.declared.bound.Bound.TheVariants as bound
use Rattle.hc_ast.specs.declared.bound.Bound.TheOpen.{Bound-F}
use Rattle.hc_ast.specs.declared.bound.Bound.TheViews.{roll-Bound}
use Rattle.hc_ast.specs.declared.bound.Bound.TheFolds.{fold-roll-Bound, ind-Bound, map-Bound}
use Rattle.hc_expr.specs.Arithmetic.{Outcome}
use Rattle.hc_expr.specs.Values.{value_of, level_value, of_both, operated, are_equal}
use Rattle.hc_schema.specs.declared.table.Table.{Table}
use Rattle.hc_schema.specs.declared.table.Index.{Index}
use Rattle.hc_schema.specs.declared.path.Path.{Path}
use Rattle.hc_schema.specs.declared.path.Path.TheVariants.{Rowid, ByIndex, Whole}
use Rattle.hc_schema.specs.Paths.{Facts, facts, level_facts, includes, side, pins, first_place, first_pin, index_path, path_of}
use Rattle.hc_plan.specs.Rows.{HasWhat, IsOnPath, IsTrueOn, SaysWhat, conjunct_of}
use Rattle.hc_plan.proofs.Before.{decide}
use Rattle.hc_plan.proofs.Counting.{includes_either}
use Rattle.hc_plan.proofs.Equalities.{sides, turned}

some_number : (m n : ℕ) → Some m ≡ Some n → m ≡ n
some_number m n same = cc

-- an expression with the facts of a column is the column
module _ (offset n : ℕ) where
  abbrev IsColumn : Bound → Type 0
  IsColumn e = (facts offset e).column ≡ Some n → e ≡ bound.Column n

  abbrev Part : Type 0
  Part = (e : Bound) × IsColumn e

  -- of its level, by the parts' facts
  column_at : (y : Bound-F Bound) → (level_facts offset (map-Bound Bound Facts (facts offset) y)).column ≡ Some n → roll-Bound y ≡ bound.Column n
  column_at (Bound-F.Value v) h = cc
  column_at (Bound-F.Column place) h = bound.rolls-Column place ∙ ap bound.Column (some_number place n h)
  column_at (Bound-F.Not of) h = cc
  column_at (Bound-F.Minus of) h = cc
  column_at (Bound-F.Plus of) h = cc
  column_at (Bound-F.Binary operator left right) h = absurd (none operator h)
    where
      none : (o : BinaryOp) → (level_facts offset (Bound-F.Binary o (facts offset left) (facts offset right))).column ≡ Some n → ⊥
      none op.Or h = cc
      none op.And h = cc
      none op.Eq h = cc
      none op.Ne h = cc
      none op.Is h = cc
      none op.IsNot h = cc
      none op.Lt h = cc
      none op.Le h = cc
      none op.Gt h = cc
      none op.Ge h = cc
      none op.Add h = cc
      none op.Sub h = cc
      none op.Mul h = cc
      none op.Div h = cc
      none op.Rem h = cc
      none op.Concat h = cc
  column_at (Bound-F.OneOf is_negated left list) h = cc
  column_at (Bound-F.Like is_negated left pattern) h = cc
  column_at (Bound-F.Between is_negated left low high) h = cc
  column_at (Bound-F.Length of) h = cc
  column_at (Bound-F.Abs of) h = cc
  column_at (Bound-F.Coalesce list) h = cc

  is_column : (e : Bound) → IsColumn e
  is_column = ind-Bound IsColumn (λ x y is h. column_at x (ap (λ f. f.column) (sym (fold-roll-Bound Facts (level_facts offset) x)) ∙ h))

-- one side that pins a column is the column, and the other is before
by_side : (place : ℕ) (column other : Facts) → includes place (side column other) ≡ true → (column.column ≡ Some place) × (other.before ≡ true)
by_side place column other h = by other.before refl h
  where
    here : (o : Option ℕ) → includes place (option_to_list o) ≡ true → o ≡ Some place
    here None none = cc
    here (Some at) is = ap Some (alone (nat_eq at place) refl is)
      where
        alone : (b : Bool) → nat_eq at place ≡ b → b || false ≡ true → at ≡ place
        alone true same told = eqb-true at place same
        alone false same told = cc

    by : (b : Bool) → other.before ≡ b → includes place (if b then option_to_list column.column else []) ≡ true → (column.column ≡ Some place) × (other.before ≡ true)
    by true is inside = (here column.column inside, is)
    by false is inside = cc

either_true : (a b : Bool) → a || b ≡ true → (a ≡ true) ⊎ (b ≡ true)
either_true true b h = inl refl
either_true false b h = inr h

-- a conjunct that pins a column says what it equals
module _ (offset place : ℕ) where
  abbrev Says : Bound → Type 0
  Says e = pins offset place e ≡ true → (other : Bound) × SaysWhat offset place e other

  of_equal : (left right : Bound) → includes place (side (facts offset left) (facts offset right) ++ side (facts offset right) (facts offset left)) ≡ true
      → (other : Bound) × SaysWhat offset place (bound.Binary op.Eq left right) other
  of_equal left right h =
      elim (either_true (includes place (side (facts offset left) (facts offset right))) (includes place (side (facts offset right) (facts offset left)))
      (sym (includes_either place (side (facts offset left) (facts offset right)) (side (facts offset right) (facts offset left))) ∙ h)) [
        | inl first ↦
            let s = by_side place (facts offset left) (facts offset right) first in
            (right, record { form = inl (ap (λ e. bound.Binary op.Eq e right) (is_column offset place left s.0)); before = s.1 })
        | inr second ↦
            let s = by_side place (facts offset right) (facts offset left) second in
            (left, record { form = inr (ap (λ e. bound.Binary op.Eq left e) (is_column offset place right s.0)); before = s.1 })
      ]

  says_at : (y : Bound-F Bound) → includes place (level_facts offset (map-Bound Bound Facts (facts offset) y)).pinned ≡ true → (other : Bound) × SaysWhat offset place (roll-Bound y) other
  says_at (Bound-F.Value v) h = cc
  says_at (Bound-F.Column at) h = cc
  says_at (Bound-F.Not of) h = cc
  says_at (Bound-F.Minus of) h = cc
  says_at (Bound-F.Plus of) h = cc
  says_at (Bound-F.Binary operator left right) h = by operator h
    where
      by : (o : BinaryOp) → includes place (level_facts offset (Bound-F.Binary o (facts offset left) (facts offset right))).pinned ≡ true
          → (other : Bound) × SaysWhat offset place (roll-Bound (Bound-F.Binary o left right)) other
      by op.Eq told = subst (λ e. (other : Bound) × SaysWhat offset place e other) (sym (bound.rolls-Binary op.Eq left right)) (of_equal left right told)
      by op.Or told = cc
      by op.And told = cc
      by op.Ne told = cc
      by op.Is told = cc
      by op.IsNot told = cc
      by op.Lt told = cc
      by op.Le told = cc
      by op.Gt told = cc
      by op.Ge told = cc
      by op.Add told = cc
      by op.Sub told = cc
      by op.Mul told = cc
      by op.Div told = cc
      by op.Rem told = cc
      by op.Concat told = cc
  says_at (Bound-F.OneOf is_negated left list) h = cc
  says_at (Bound-F.Like is_negated left pattern) h = cc
  says_at (Bound-F.Between is_negated left low high) h = cc
  says_at (Bound-F.Length of) h = cc
  says_at (Bound-F.Abs of) h = cc
  says_at (Bound-F.Coalesce list) h = cc

  says : (e : Bound) → Says e
  says = ind-Bound Says (λ x y is h. says_at x (ap (λ f. includes place f.pinned) (sym (fold-roll-Bound Facts (level_facts offset) x)) ∙ h))

-- the value of an `=`, and of a column
equal_value : (row : List Value) (l r : Bound) → value_of row (bound.Binary op.Eq l r) ≡ of_both (operated op.Eq) (value_of row l) (value_of row r)
equal_value row l r = ap (value_of row) (sym (bound.rolls-Binary op.Eq l r)) ∙ fold-roll-Bound Outcome (level_value row) (Bound-F.Binary op.Eq l r)

column_value : (row : List Value) (place : ℕ) → value_of row (bound.Column place) ≡ Some (slice_index_or row place Null)
column_value row place = ap (value_of row) (sym (bound.rolls-Column place)) ∙ fold-roll-Bound Outcome (level_value row) (Bound-F.Column place)

some_is : (v w : Value) → Some v ≡ Some w → v ≡ w
some_is v w same = cc

-- where the conjunct is true, the row has what it says
has_what : (offset place : ℕ) (row : List Value) (e : Bound) → pins offset place e ≡ true → IsTrueOn row e → HasWhat offset place e row
has_what offset place row e pinned holds =
    let said = says offset place e pinned in
    elim said.1.form [
      | inl first ↦
          let s = sides (value_of row (bound.Column place)) (value_of row said.0) holds.0
          (sym (equal_value row (bound.Column place) said.0) ∙ (ap (value_of row) (sym first) ∙ holds.1)) holds.2 in (
            said.0,
            s.1,
            said.1,
            λ like agree. sym (decide offset row like agree said.0 said.1.before) ∙ s.3,
            subst (λ v. are_equal v s.1 ≡ Some true) (some_is s.0 (slice_index_or row place Null) (sym s.2 ∙ column_value row place)) s.4,
          )
      | inr second ↦
          let s = sides (value_of row said.0) (value_of row (bound.Column place)) holds.0
          (sym (equal_value row said.0 (bound.Column place)) ∙ (ap (value_of row) (sym second) ∙ holds.1)) holds.2 in (
            said.0,
            s.0,
            said.1,
            λ like agree. sym (decide offset row like agree said.0 said.1.before) ∙ s.2,
            subst (λ v. are_equal v s.0 ≡ Some true) (some_is s.1 (slice_index_or row place Null) (sym s.3 ∙ column_value row place)) (turned s.0 s.1 s.4),
          )
    ]

-- the first that passes is there, and passes
module _ {A : Type 0} (passes : A → Bool) where
  abbrev IsThere : List A → ℕ → Type 0
  IsThere xs n = (x : A) × (slice_get xs n ≡ Some x) × (passes x ≡ true)

  later : (x : A) (xs : List A) (n : ℕ) (o : Option ℕ) → ((m : ℕ) → o ≡ Some m → IsThere xs m) → option_map (λ m. m + 1) o ≡ Some n → IsThere (x ∷ xs) n
  later x xs n None found h = cc
  later x xs n (Some m) found h =
      let there = found m refl in
      let is : suc m ≡ n = omega (arith, some_number (m + 1) n h) in
      subst (IsThere (x ∷ xs)) is (there.0, there.1, there.2)

  one_of : (x : A) (xs : List A) (n : ℕ) (b : Bool) → passes x ≡ b → ((m : ℕ) → first_place passes xs ≡ Some m → IsThere xs m)
      → (if b then Some 0 else option_map (λ m. m + 1) (first_place passes xs)) ≡ Some n → IsThere (x ∷ xs) n
  one_of x xs n true is found h = subst (IsThere (x ∷ xs)) (some_number 0 n h) (x, refl, is)
  one_of x xs n false is found h = later x xs n (first_place passes xs) found h

  first_is : (xs : List A) (n : ℕ) → first_place passes xs ≡ Some n → IsThere xs n
  first_is [] n h = cc
  first_is (x ∷ xs) n h = one_of x xs n (passes x) refl (λ m is. first_is xs m is) h

module _ (t : Table) (offset : ℕ) (conjuncts : List Bound) (row : List Value) where
  abbrev Given : Option ℕ → Type 0
  Given o = (n : ℕ) (conjunct : Bound) → o ≡ Some n → slice_get conjuncts n ≡ Some conjunct → IsTrueOn row conjunct

  -- by the rowid
  by_rowid : (k n : ℕ) → t.alias ≡ Some k → first_pin offset (offset + k) conjuncts ≡ Some n → Given (Some n) → IsOnPath t offset conjuncts (Rowid n) row
  by_rowid k n alias first given =
      let found = first_is (pins offset (offset + k)) conjuncts n first in
      (k, found.0, alias, found.1, has_what offset (offset + k) row found.0 found.2 (given n found.0 refl found.1))

  -- by an index
  by_index : (i : ℕ) (index : Index) (k n : ℕ) → slice_get t.indexes i ≡ Some index → slice_get index.columns 0 ≡ Some k → first_pin offset (offset + k) conjuncts ≡ Some n → Given (Some n)
      → IsOnPath t offset conjuncts (ByIndex i n) row
  by_index i index k n there column first given =
      let found = first_is (pins offset (offset + k)) conjuncts n first in
      (index, k, found.0, there, column, found.1, has_what offset (offset + k) row found.0 found.2 (given n found.0 refl found.1))

  abbrev OnIt : Option Path → Type 0
  OnIt o = Given (conjunct_of (unwrap_or o Whole)) → IsOnPath t offset conjuncts (unwrap_or o Whole) row

  -- by one index, or by a later one
  by_pin : (i : ℕ) (index : Index) (k : ℕ) (rest : Option Path) (o : Option ℕ) → slice_get t.indexes i ≡ Some index → slice_get index.columns 0 ≡ Some k
      → first_pin offset (offset + k) conjuncts ≡ o → OnIt rest → OnIt (option_or (option_map (λ n. ByIndex i n) o) rest)
  by_pin i index k rest None there column is following given = following given
  by_pin i index k rest (Some n) there column is following given = by_index i index k n there column is given

  by_column : (i : ℕ) (index : Index) (rest : Option Path) (o : Option ℕ) → slice_get t.indexes i ≡ Some index → slice_get index.columns 0 ≡ o
      → OnIt rest → OnIt (option_or (option_map (λ n. ByIndex i n) (option_and_then (λ column. first_pin offset (offset + column) conjuncts) o)) rest)
  by_column i index rest None there is following given = following given
  by_column i index rest (Some k) there is following given = by_pin i index k rest (first_pin offset (offset + k) conjuncts) there is refl following given

  by_indexes : (i : ℕ) (indexes : List Index) → ((j : ℕ) (index : Index) → slice_get indexes j ≡ Some index → slice_get t.indexes (i + j) ≡ Some index) → OnIt (index_path i offset conjuncts indexes)
  by_indexes i [] there given = tt
  by_indexes i (index ∷ indexes) there given =
      by_column i index (index_path (i + 1) offset conjuncts indexes) (slice_get index.columns 0) (subst (λ n. slice_get t.indexes n ≡ Some index) (let z : i + 0 ≡ i = omega arith in z) (there 0 index refl)) refl
      (by_indexes (i + 1) indexes (λ j other is. subst (λ n. slice_get t.indexes n ≡ Some other) (let z : i + suc j ≡ (i + 1) + j = omega arith in z) (there (suc j) other is)))
      given

  own : (j : ℕ) (index : Index) → slice_get t.indexes j ≡ Some index → slice_get t.indexes (0 + j) ≡ Some index
  own j index there = subst (λ n. slice_get t.indexes n ≡ Some index) (let z : j ≡ 0 + j = omega arith in z) there

  by_alias : (a : Option ℕ) → t.alias ≡ a
      → OnIt (option_or (option_and_then (λ k. option_map (λ n. Rowid n) (first_pin offset (offset + k) conjuncts)) a) (index_path 0 offset conjuncts t.indexes))
  by_alias None is given = by_indexes 0 t.indexes own given
  by_alias (Some k) is given = by_first (first_pin offset (offset + k) conjuncts) refl given
    where
      by_first : (o : Option ℕ) → first_pin offset (offset + k) conjuncts ≡ o → OnIt (option_or (option_map (λ n. Rowid n) o) (index_path 0 offset conjuncts t.indexes))
      by_first None first told = by_indexes 0 t.indexes own told
      by_first (Some n) first told = by_rowid k n is first told

  pub on_path : Given (conjunct_of (path_of t offset conjuncts)) → IsOnPath t offset conjuncts (path_of t offset conjuncts) row
  on_path given = by_alias t.alias refl given
