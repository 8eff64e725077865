-- What an expression means on rows, by its form.
use Rattle.std.proofs.Common.{◌≡◌, ◌∙◌, ◌⊎◌, inl, inr, ap, sym, List, [], ◌∷◌, map, refl, Bool, true, false, ℕ, Option, Ok}
use Rattle.hc_ast.specs.declared.operator.BinaryOp.{BinaryOp}
use Rattle.hc_ast.specs.declared.bound.Bound.TheVariants as bound
use Rattle.hc_ast.specs.declared.expression.Expr.{Expr}
use Rattle.hc_ast.specs.declared.expression.Expr.TheVariants as expr
use Rattle.hc_ast.specs.declared.expression.Expr.TheOpen.{Expr-F}
use Rattle.hc_ast.specs.declared.expression.Expr.TheFolds.{fold-roll-Expr}
use Rattle.hc_bind.proofs.Conditions.{other_operator}
use Rattle.hc_schema.specs.declared.typed.Typed.{Typed}
use Rattle.hc_schema.specs.Binding.Faults.{Judged}
use Rattle.hc_schema.specs.Binding.Functions.{function_of, is_aggregate, is_count}
use Rattle.hc_schema.specs.Binding.Scopes.{Scope, typed, resolved}
use Rattle.hc_schema.specs.Binding.Expressions.{Reading, level_reading, reading_of, unary, binary, one_of, like, between, row_function, unary_reading, binary_reading, one_of_reading, like_reading, between_reading, call_reading, reading, name_reading, call_all_reading, alone}
use Rattle.hc_value.specs.declared.value.Value.{Value}
use Rattle.hc_value.specs.Order.{class_of}
use Rattle.hc_ast.specs.declared.operator.BinaryOp.TheVariants.{And}

abbrev pub rows : Scope → Expr → Judged Typed
rows s e = (reading_of s e).on_rows

-- the readings of a list on rows
pub fused : (s : Scope) (xs : List Expr) → map (λ r. r.on_rows) (map (reading_of s) xs) ≡ map (λ e. (reading_of s e).on_rows) xs
fused s [] = refl
fused s (x ∷ xs) = ap (λ js. rows s x ∷ js) (fused s xs)

pub not_form : (s : Scope) (of : Expr) → reading_of s (expr.Not of) ≡ unary_reading bound.Not (reading_of s of)
not_form s of = ap (reading_of s) (sym (expr.rolls-Not of)) ∙ fold-roll-Expr Reading (level_reading s) (Expr-F.Not of)

pub minus_form : (s : Scope) (of : Expr) → reading_of s (expr.Minus of) ≡ unary_reading bound.Minus (reading_of s of)
minus_form s of = ap (reading_of s) (sym (expr.rolls-Minus of)) ∙ fold-roll-Expr Reading (level_reading s) (Expr-F.Minus of)

pub plus_form : (s : Scope) (of : Expr) → reading_of s (expr.Plus of) ≡ unary_reading bound.Plus (reading_of s of)
plus_form s of = ap (reading_of s) (sym (expr.rolls-Plus of)) ∙ fold-roll-Expr Reading (level_reading s) (Expr-F.Plus of)

pub binary_form : (s : Scope) (op : BinaryOp) (l r : Expr) → reading_of s (expr.Binary op l r) ≡ binary_reading op (reading_of s l) (reading_of s r)
binary_form s op l r = ap (reading_of s) (sym (expr.rolls-Binary op l r)) ∙ fold-roll-Expr Reading (level_reading s) (Expr-F.Binary op l r)

pub one_of_form : (s : Scope) (n : Bool) (l : Expr) (list : List Expr) → reading_of s (expr.OneOf n l list) ≡ one_of_reading n (reading_of s l) (map (reading_of s) list)
one_of_form s n l list = ap (reading_of s) (sym (expr.rolls-OneOf n l list)) ∙ fold-roll-Expr Reading (level_reading s) (Expr-F.OneOf n l list)

pub like_form : (s : Scope) (n : Bool) (l p : Expr) → reading_of s (expr.Like n l p) ≡ like_reading n (reading_of s l) (reading_of s p)
like_form s n l p = ap (reading_of s) (sym (expr.rolls-Like n l p)) ∙ fold-roll-Expr Reading (level_reading s) (Expr-F.Like n l p)

pub between_form : (s : Scope) (n : Bool) (t l h : Expr) → reading_of s (expr.Between n t l h) ≡ between_reading n (reading_of s t) (reading_of s l) (reading_of s h)
between_form s n t l h = ap (reading_of s) (sym (expr.rolls-Between n t l h)) ∙ fold-roll-Expr Reading (level_reading s) (Expr-F.Between n t l h)

pub call_form : (s : Scope) (name : List ℕ) (args : List Expr) → reading_of s (expr.Call name args) ≡ call_reading (is_aggregate (function_of name)) name (map (reading_of s) args)
call_form s name args = ap (reading_of s) (sym (expr.rolls-Call name args)) ∙ fold-roll-Expr Reading (level_reading s) (Expr-F.Call name args)

-- ---- on rows, of operands that are borrowed

pub not_rows : (s : Scope) (e of got : Expr) → e ≡ expr.Not of → got ≡ of → rows s e ≡ unary bound.Not (rows s got)
not_rows s e of got is gets = ap (rows s) is ∙ ap (λ r. r.on_rows) (not_form s of) ∙ ap (λ x. unary bound.Not (rows s x)) (sym gets)

pub minus_rows : (s : Scope) (e of got : Expr) → e ≡ expr.Minus of → got ≡ of → rows s e ≡ unary bound.Minus (rows s got)
minus_rows s e of got is gets = ap (rows s) is ∙ ap (λ r. r.on_rows) (minus_form s of) ∙ ap (λ x. unary bound.Minus (rows s x)) (sym gets)

pub plus_rows : (s : Scope) (e of got : Expr) → e ≡ expr.Plus of → got ≡ of → rows s e ≡ unary bound.Plus (rows s got)
plus_rows s e of got is gets = ap (rows s) is ∙ ap (λ r. r.on_rows) (plus_form s of) ∙ ap (λ x. unary bound.Plus (rows s x)) (sym gets)

pub binary_rows : (s : Scope) (op : BinaryOp) (e l r a b : Expr) → e ≡ expr.Binary op l r → a ≡ l → b ≡ r → rows s e ≡ binary op (rows s a) (rows s b)
binary_rows s op e l r a b is gets got = ap (rows s) is ∙ ap (λ r. r.on_rows) (binary_form s op l r) ∙ ap (λ x. binary op (rows s x) (rows s r)) (sym gets) ∙ ap (λ x. binary op (rows s a) (rows s x)) (sym got)

pub one_of_rows : (s : Scope) (n : Bool) (e l a : Expr) (list others : List Expr) → e ≡ expr.OneOf n l list → a ≡ l → others ≡ list
    → rows s e ≡ one_of n (rows s a) (map (λ x. (reading_of s x).on_rows) others)
one_of_rows s n e l a list others is gets got =
    ap (rows s) is ∙ ap (λ r. r.on_rows) (one_of_form s n l list) ∙ ap (one_of n (rows s l)) (fused s list)
    ∙ ap (λ x. one_of n (rows s x) (map (λ x. (reading_of s x).on_rows) list)) (sym gets)
    ∙ ap (λ xs. one_of n (rows s a) (map (λ x. (reading_of s x).on_rows) xs)) (sym got)

pub like_rows : (s : Scope) (n : Bool) (e l p a b : Expr) → e ≡ expr.Like n l p → a ≡ l → b ≡ p → rows s e ≡ like n (rows s a) (rows s b)
like_rows s n e l p a b is gets got = ap (rows s) is ∙ ap (λ r. r.on_rows) (like_form s n l p) ∙ ap (λ x. like n (rows s x) (rows s p)) (sym gets) ∙ ap (λ x. like n (rows s a) (rows s x)) (sym got)

pub between_rows : (s : Scope) (n : Bool) (e t l h a b c : Expr) → e ≡ expr.Between n t l h → a ≡ t → b ≡ l → c ≡ h → rows s e ≡ between n (rows s a) (rows s b) (rows s c)
between_rows s n e t l h a b c is one two three =
    ap (rows s) is ∙ ap (λ r. r.on_rows) (between_form s n t l h) ∙ ap (λ x. between n (rows s x) (rows s l) (rows s h)) (sym one)
    ∙ ap (λ x. between n (rows s a) (rows s x) (rows s h)) (sym two) ∙ ap (λ x. between n (rows s a) (rows s b) (rows s x)) (sym three)

-- on rows a call of an aggregate is a call as well
call_on_rows : (flag : Bool) (name : List ℕ) (args : List Reading) → (call_reading flag name args).on_rows ≡ row_function name (map (λ r. r.on_rows) args)
call_on_rows true name args = refl
call_on_rows false name args = refl

pub call_rows : (s : Scope) (e : Expr) (name called : List ℕ) (list args : List Expr) → e ≡ expr.Call name list → called ≡ name → args ≡ list
    → rows s e ≡ row_function called (map (λ x. (reading_of s x).on_rows) args)
call_rows s e name called list args is gets got =
    ap (rows s) is ∙ ap (λ r. r.on_rows) (call_form s name list) ∙ call_on_rows (is_aggregate (function_of name)) name (map (reading_of s) list)
    ∙ ap (row_function name) (fused s list)
    ∙ ap (λ n. row_function n (map (λ x. (reading_of s x).on_rows) list)) (sym gets)
    ∙ ap (λ xs. row_function called (map (λ x. (reading_of s x).on_rows) xs)) (sym got)

-- ---- conjuncts

pub value_form : (s : Scope) (v : Value) → reading_of s (expr.Value v) ≡ reading [] (Ok (typed (bound.Value v) (class_of v))) (λ g. Ok (typed (bound.Value v) (class_of v)))
value_form s v = ap (reading_of s) (sym (expr.rolls-Value v)) ∙ fold-roll-Expr Reading (level_reading s) (Expr-F.Value v)

pub name_form : (s : Scope) (source : Option (List ℕ)) (name : List ℕ) → reading_of s (expr.Name source name) ≡ name_reading (resolved s source name)
name_form s source name = ap (reading_of s) (sym (expr.rolls-Name source name)) ∙ fold-roll-Expr Reading (level_reading s) (Expr-F.Name source name)

pub call_all_form : (s : Scope) (name : List ℕ) → reading_of s (expr.CallAll name) ≡ call_all_reading (is_count (function_of name)) name
call_all_form s name = ap (reading_of s) (sym (expr.rolls-CallAll name)) ∙ fold-roll-Expr Reading (level_reading s) (Expr-F.CallAll name)

abbrev pub IsAlone : Reading → Type 0
IsAlone r = r.conjuncts ≡ alone r.on_rows

pub is_alone : (s : Scope) (e f : Expr) (r : Reading) → e ≡ f → reading_of s f ≡ r → IsAlone r → IsAlone (reading_of s e)
is_alone s e f r is form h = ap (λ x. (reading_of s x).conjuncts) is ∙ ap (λ q. q.conjuncts) form ∙ h ∙ ap (λ q. alone q.on_rows) (sym form) ∙ ap (λ x. alone (reading_of s x).on_rows) (sym is)

pub call_alone : (flag : Bool) (name : List ℕ) (args : List Reading) → IsAlone (call_reading flag name args)
call_alone true name args = refl
call_alone false name args = refl

pub call_all_alone : (flag : Bool) (name : List ℕ) → IsAlone (call_all_reading flag name)
call_all_alone true name = refl
call_all_alone false name = refl

-- both sides of an AND, which are borrowed
pub and_form : (s : Scope) (op : BinaryOp) (e l r a b : Expr) → e ≡ expr.Binary op l r → op ≡ And → a ≡ l → b ≡ r → reading_of s e ≡ binary_reading And (reading_of s a) (reading_of s b)
and_form s op e l r a b is is_and gets got =
    ap (reading_of s) is ∙ binary_form s op l r ∙ ap (λ o. binary_reading o (reading_of s l) (reading_of s r)) is_and
    ∙ ap (λ x. binary_reading And (reading_of s x) (reading_of s r)) (sym gets) ∙ ap (λ x. binary_reading And (reading_of s a) (reading_of s x)) (sym got)

-- any other operator
pub other_alone : (s : Scope) (op : BinaryOp) (e l r : Expr) → e ≡ expr.Binary op l r → (op ≡ And → ⊥) → IsAlone (reading_of s e)
other_alone s op e l r is apart = is_alone s e (expr.Binary op l r) (binary_reading op (reading_of s l) (reading_of s r)) is (binary_form s op l r) (other_operator op (reading_of s l) (reading_of s r) apart)

-- the other forms
pub single : (s : Scope) (e : Expr)
    → ((v : Value) × (e ≡ expr.Value v))
    ⊎ (((a : Option (List ℕ)) × (b : List ℕ) × (e ≡ expr.Name a b))
    ⊎ (((a : Expr) × (e ≡ expr.Not a))
    ⊎ (((a : Expr) × (e ≡ expr.Minus a))
    ⊎ (((a : Expr) × (e ≡ expr.Plus a))
    ⊎ (((n : Bool) × (a : Expr) × (b : List Expr) × (e ≡ expr.OneOf n a b))
    ⊎ (((n : Bool) × (a : Expr) × (b : Expr) × (e ≡ expr.Like n a b))
    ⊎ (((n : Bool) × (a : Expr) × (b : Expr) × (d : Expr) × (e ≡ expr.Between n a b d))
    ⊎ (((a : List ℕ) × (b : List Expr) × (e ≡ expr.Call a b))
    ⊎ ((a : List ℕ) × (e ≡ expr.CallAll a))))))))))
    → IsAlone (reading_of s e)
single s e (inl h) = is_alone s e (expr.Value h.0) _ h.1 (value_form s h.0) refl
single s e (inr (inl h)) = is_alone s e (expr.Name h.0 h.1) _ h.2 (name_form s h.0 h.1) refl
single s e (inr (inr (inl h))) = is_alone s e (expr.Not h.0) _ h.1 (not_form s h.0) refl
single s e (inr (inr (inr (inl h)))) = is_alone s e (expr.Minus h.0) _ h.1 (minus_form s h.0) refl
single s e (inr (inr (inr (inr (inl h))))) = is_alone s e (expr.Plus h.0) _ h.1 (plus_form s h.0) refl
single s e (inr (inr (inr (inr (inr (inl h)))))) = is_alone s e (expr.OneOf h.0 h.1 h.2) _ h.3 (one_of_form s h.0 h.1 h.2) refl
single s e (inr (inr (inr (inr (inr (inr (inl h))))))) = is_alone s e (expr.Like h.0 h.1 h.2) _ h.3 (like_form s h.0 h.1 h.2) refl
single s e (inr (inr (inr (inr (inr (inr (inr (inl h)))))))) = is_alone s e (expr.Between h.0 h.1 h.2 h.3) _ h.4 (between_form s h.0 h.1 h.2 h.3) refl
single s e (inr (inr (inr (inr (inr (inr (inr (inr (inl h))))))))) =
    is_alone s e (expr.Call h.0 h.1) _ h.2 (call_form s h.0 h.1) (call_alone (is_aggregate (function_of h.0)) h.0 (map (reading_of s) h.1))
single s e (inr (inr (inr (inr (inr (inr (inr (inr (inr h))))))))) =
    is_alone s e (expr.CallAll h.0) _ h.1 (call_all_form s h.0) (call_all_alone (is_count (function_of h.0)) h.0)
