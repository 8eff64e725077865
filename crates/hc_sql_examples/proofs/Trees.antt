-- What a fold comes to on each form of an expression, so that a statement can be worked out.
use Rattle.std.proofs.Common.{◌≡◌, ◌∙◌, ap, sym, List, map, ℕ, Option, Bool}
use Rattle.hc_value.specs.declared.value.Value.{Value}
use Rattle.hc_ast.specs.declared.operator.BinaryOp.{BinaryOp}
use Rattle.hc_ast.specs.declared.expression.Expr.{Expr}
use Rattle.hc_ast.specs.declared.expression.Expr.TheVariants as expr
use Rattle.hc_ast.specs.declared.expression.Expr.TheOpen.{Expr-F}
use Rattle.hc_ast.specs.declared.expression.Expr.TheFolds.{fold-Expr, fold-roll-Expr}
use Rattle.hc_ast.specs.declared.bound.Bound.{Bound, out-Bound}
use Rattle.hc_ast.specs.declared.bound.Bound.TheVariants as bound
use Rattle.hc_ast.specs.declared.bound.Bound.TheOpen.{Bound-F}
use Rattle.hc_ast.specs.declared.bound.Bound.TheFolds.{fold-Bound, fold-roll-Bound}
use Rattle.hc_ast.specs.declared.bound.Bound.TheViews.{out-roll-Bound}
use Rattle.hc_schema.specs.Binding.Scopes.{Scope}
use Rattle.hc_schema.specs.Binding.Expressions.{Reading, level_reading, reading_of}
use Rattle.hc_schema.specs.Paths.{Facts, level_facts, facts}

pub expr_value : (A : Type 0) (f : Expr-F A → A) (v : Value) → fold-Expr A f (expr.Value v) ≡ f (Expr-F.Value v)
expr_value A f v = ap (fold-Expr A f) (sym (expr.rolls-Value v)) ∙ fold-roll-Expr A f (Expr-F.Value v)

pub expr_name : (A : Type 0) (f : Expr-F A → A) (t : Option (List ℕ)) (c : List ℕ) → fold-Expr A f (expr.Name t c) ≡ f (Expr-F.Name t c)
expr_name A f t c = ap (fold-Expr A f) (sym (expr.rolls-Name t c)) ∙ fold-roll-Expr A f (Expr-F.Name t c)

pub expr_not : (A : Type 0) (f : Expr-F A → A) (e : Expr) → fold-Expr A f (expr.Not e) ≡ f (Expr-F.Not (fold-Expr A f e))
expr_not A f e = ap (fold-Expr A f) (sym (expr.rolls-Not e)) ∙ fold-roll-Expr A f (Expr-F.Not e)

pub expr_minus : (A : Type 0) (f : Expr-F A → A) (e : Expr) → fold-Expr A f (expr.Minus e) ≡ f (Expr-F.Minus (fold-Expr A f e))
expr_minus A f e = ap (fold-Expr A f) (sym (expr.rolls-Minus e)) ∙ fold-roll-Expr A f (Expr-F.Minus e)

pub expr_plus : (A : Type 0) (f : Expr-F A → A) (e : Expr) → fold-Expr A f (expr.Plus e) ≡ f (Expr-F.Plus (fold-Expr A f e))
expr_plus A f e = ap (fold-Expr A f) (sym (expr.rolls-Plus e)) ∙ fold-roll-Expr A f (Expr-F.Plus e)

pub expr_binary : (A : Type 0) (f : Expr-F A → A) (op : BinaryOp) (l r : Expr) → fold-Expr A f (expr.Binary op l r) ≡ f (Expr-F.Binary op (fold-Expr A f l) (fold-Expr A f r))
expr_binary A f op l r = ap (fold-Expr A f) (sym (expr.rolls-Binary op l r)) ∙ fold-roll-Expr A f (Expr-F.Binary op l r)

pub expr_one_of : (A : Type 0) (f : Expr-F A → A) (n : Bool) (l : Expr) (es : List Expr) → fold-Expr A f (expr.OneOf n l es) ≡ f (Expr-F.OneOf n (fold-Expr A f l) (map (fold-Expr A f) es))
expr_one_of A f n l es = ap (fold-Expr A f) (sym (expr.rolls-OneOf n l es)) ∙ fold-roll-Expr A f (Expr-F.OneOf n l es)

pub expr_call : (A : Type 0) (f : Expr-F A → A) (name : List ℕ) (es : List Expr) → fold-Expr A f (expr.Call name es) ≡ f (Expr-F.Call name (map (fold-Expr A f) es))
expr_call A f name es = ap (fold-Expr A f) (sym (expr.rolls-Call name es)) ∙ fold-roll-Expr A f (Expr-F.Call name es)

pub expr_call_all : (A : Type 0) (f : Expr-F A → A) (name : List ℕ) → fold-Expr A f (expr.CallAll name) ≡ f (Expr-F.CallAll name)
expr_call_all A f name = ap (fold-Expr A f) (sym (expr.rolls-CallAll name)) ∙ fold-roll-Expr A f (Expr-F.CallAll name)

pub bound_value : (A : Type 0) (f : Bound-F A → A) (v : Value) → fold-Bound A f (bound.Value v) ≡ f (Bound-F.Value v)
bound_value A f v = ap (fold-Bound A f) (sym (bound.rolls-Value v)) ∙ fold-roll-Bound A f (Bound-F.Value v)

pub bound_column : (A : Type 0) (f : Bound-F A → A) (k : ℕ) → fold-Bound A f (bound.Column k) ≡ f (Bound-F.Column k)
bound_column A f k = ap (fold-Bound A f) (sym (bound.rolls-Column k)) ∙ fold-roll-Bound A f (Bound-F.Column k)

pub bound_not : (A : Type 0) (f : Bound-F A → A) (e : Bound) → fold-Bound A f (bound.Not e) ≡ f (Bound-F.Not (fold-Bound A f e))
bound_not A f e = ap (fold-Bound A f) (sym (bound.rolls-Not e)) ∙ fold-roll-Bound A f (Bound-F.Not e)

pub bound_minus : (A : Type 0) (f : Bound-F A → A) (e : Bound) → fold-Bound A f (bound.Minus e) ≡ f (Bound-F.Minus (fold-Bound A f e))
bound_minus A f e = ap (fold-Bound A f) (sym (bound.rolls-Minus e)) ∙ fold-roll-Bound A f (Bound-F.Minus e)

pub bound_plus : (A : Type 0) (f : Bound-F A → A) (e : Bound) → fold-Bound A f (bound.Plus e) ≡ f (Bound-F.Plus (fold-Bound A f e))
bound_plus A f e = ap (fold-Bound A f) (sym (bound.rolls-Plus e)) ∙ fold-roll-Bound A f (Bound-F.Plus e)

pub bound_binary : (A : Type 0) (f : Bound-F A → A) (op : BinaryOp) (l r : Bound) → fold-Bound A f (bound.Binary op l r) ≡ f (Bound-F.Binary op (fold-Bound A f l) (fold-Bound A f r))
bound_binary A f op l r = ap (fold-Bound A f) (sym (bound.rolls-Binary op l r)) ∙ fold-roll-Bound A f (Bound-F.Binary op l r)

pub bound_one_of : (A : Type 0) (f : Bound-F A → A) (n : Bool) (l : Bound) (es : List Bound) → fold-Bound A f (bound.OneOf n l es) ≡ f (Bound-F.OneOf n (fold-Bound A f l) (map (fold-Bound A f) es))
bound_one_of A f n l es = ap (fold-Bound A f) (sym (bound.rolls-OneOf n l es)) ∙ fold-roll-Bound A f (Bound-F.OneOf n l es)

-- `on_rows` of each form
pub on_rows_expr_value : (s : Scope) (v : Value) → (reading_of s (expr.Value v)).on_rows ≡ (level_reading s (Expr-F.Value v)).on_rows
on_rows_expr_value s v = ap (λ (r : Reading). r.on_rows) (expr_value Reading (level_reading s) v)

pub on_rows_expr_name : (s : Scope) (t : Option (List ℕ)) (c : List ℕ) → (reading_of s (expr.Name t c)).on_rows ≡ (level_reading s (Expr-F.Name t c)).on_rows
on_rows_expr_name s t c = ap (λ (r : Reading). r.on_rows) (expr_name Reading (level_reading s) t c)

pub on_rows_expr_not : (s : Scope) (e : Expr) → (reading_of s (expr.Not e)).on_rows ≡ (level_reading s (Expr-F.Not (reading_of s e))).on_rows
on_rows_expr_not s e = ap (λ (r : Reading). r.on_rows) (expr_not Reading (level_reading s) e)

pub on_rows_expr_minus : (s : Scope) (e : Expr) → (reading_of s (expr.Minus e)).on_rows ≡ (level_reading s (Expr-F.Minus (reading_of s e))).on_rows
on_rows_expr_minus s e = ap (λ (r : Reading). r.on_rows) (expr_minus Reading (level_reading s) e)

pub on_rows_expr_plus : (s : Scope) (e : Expr) → (reading_of s (expr.Plus e)).on_rows ≡ (level_reading s (Expr-F.Plus (reading_of s e))).on_rows
on_rows_expr_plus s e = ap (λ (r : Reading). r.on_rows) (expr_plus Reading (level_reading s) e)

pub on_rows_expr_binary : (s : Scope) (op : BinaryOp) (l r : Expr) → (reading_of s (expr.Binary op l r)).on_rows ≡ (level_reading s (Expr-F.Binary op (reading_of s l) (reading_of s r))).on_rows
on_rows_expr_binary s op l r = ap (λ (r : Reading). r.on_rows) (expr_binary Reading (level_reading s) op l r)

pub on_rows_expr_one_of : (s : Scope) (n : Bool) (l : Expr) (es : List Expr) → (reading_of s (expr.OneOf n l es)).on_rows ≡ (level_reading s (Expr-F.OneOf n (reading_of s l) (map (reading_of s) es))).on_rows
on_rows_expr_one_of s n l es = ap (λ (r : Reading). r.on_rows) (expr_one_of Reading (level_reading s) n l es)

pub on_rows_expr_call : (s : Scope) (name : List ℕ) (es : List Expr) → (reading_of s (expr.Call name es)).on_rows ≡ (level_reading s (Expr-F.Call name (map (reading_of s) es))).on_rows
on_rows_expr_call s name es = ap (λ (r : Reading). r.on_rows) (expr_call Reading (level_reading s) name es)

pub on_rows_expr_call_all : (s : Scope) (name : List ℕ) → (reading_of s (expr.CallAll name)).on_rows ≡ (level_reading s (Expr-F.CallAll name)).on_rows
on_rows_expr_call_all s name = ap (λ (r : Reading). r.on_rows) (expr_call_all Reading (level_reading s) name)

-- `on_groups` of each form
pub on_groups_expr_value : (s : Scope) (v : Value) → (reading_of s (expr.Value v)).on_groups ≡ (level_reading s (Expr-F.Value v)).on_groups
on_groups_expr_value s v = ap (λ (r : Reading). r.on_groups) (expr_value Reading (level_reading s) v)

pub on_groups_expr_name : (s : Scope) (t : Option (List ℕ)) (c : List ℕ) → (reading_of s (expr.Name t c)).on_groups ≡ (level_reading s (Expr-F.Name t c)).on_groups
on_groups_expr_name s t c = ap (λ (r : Reading). r.on_groups) (expr_name Reading (level_reading s) t c)

pub on_groups_expr_not : (s : Scope) (e : Expr) → (reading_of s (expr.Not e)).on_groups ≡ (level_reading s (Expr-F.Not (reading_of s e))).on_groups
on_groups_expr_not s e = ap (λ (r : Reading). r.on_groups) (expr_not Reading (level_reading s) e)

pub on_groups_expr_minus : (s : Scope) (e : Expr) → (reading_of s (expr.Minus e)).on_groups ≡ (level_reading s (Expr-F.Minus (reading_of s e))).on_groups
on_groups_expr_minus s e = ap (λ (r : Reading). r.on_groups) (expr_minus Reading (level_reading s) e)

pub on_groups_expr_plus : (s : Scope) (e : Expr) → (reading_of s (expr.Plus e)).on_groups ≡ (level_reading s (Expr-F.Plus (reading_of s e))).on_groups
on_groups_expr_plus s e = ap (λ (r : Reading). r.on_groups) (expr_plus Reading (level_reading s) e)

pub on_groups_expr_binary : (s : Scope) (op : BinaryOp) (l r : Expr) → (reading_of s (expr.Binary op l r)).on_groups ≡ (level_reading s (Expr-F.Binary op (reading_of s l) (reading_of s r))).on_groups
on_groups_expr_binary s op l r = ap (λ (r : Reading). r.on_groups) (expr_binary Reading (level_reading s) op l r)

pub on_groups_expr_one_of : (s : Scope) (n : Bool) (l : Expr) (es : List Expr) → (reading_of s (expr.OneOf n l es)).on_groups ≡ (level_reading s (Expr-F.OneOf n (reading_of s l) (map (reading_of s) es))).on_groups
on_groups_expr_one_of s n l es = ap (λ (r : Reading). r.on_groups) (expr_one_of Reading (level_reading s) n l es)

pub on_groups_expr_call : (s : Scope) (name : List ℕ) (es : List Expr) → (reading_of s (expr.Call name es)).on_groups ≡ (level_reading s (Expr-F.Call name (map (reading_of s) es))).on_groups
on_groups_expr_call s name es = ap (λ (r : Reading). r.on_groups) (expr_call Reading (level_reading s) name es)

pub on_groups_expr_call_all : (s : Scope) (name : List ℕ) → (reading_of s (expr.CallAll name)).on_groups ≡ (level_reading s (Expr-F.CallAll name)).on_groups
on_groups_expr_call_all s name = ap (λ (r : Reading). r.on_groups) (expr_call_all Reading (level_reading s) name)

-- `aggregates` of each form
pub aggregates_expr_value : (s : Scope) (v : Value) → (reading_of s (expr.Value v)).aggregates ≡ (level_reading s (Expr-F.Value v)).aggregates
aggregates_expr_value s v = ap (λ (r : Reading). r.aggregates) (expr_value Reading (level_reading s) v)

pub aggregates_expr_name : (s : Scope) (t : Option (List ℕ)) (c : List ℕ) → (reading_of s (expr.Name t c)).aggregates ≡ (level_reading s (Expr-F.Name t c)).aggregates
aggregates_expr_name s t c = ap (λ (r : Reading). r.aggregates) (expr_name Reading (level_reading s) t c)

pub aggregates_expr_not : (s : Scope) (e : Expr) → (reading_of s (expr.Not e)).aggregates ≡ (level_reading s (Expr-F.Not (reading_of s e))).aggregates
aggregates_expr_not s e = ap (λ (r : Reading). r.aggregates) (expr_not Reading (level_reading s) e)

pub aggregates_expr_minus : (s : Scope) (e : Expr) → (reading_of s (expr.Minus e)).aggregates ≡ (level_reading s (Expr-F.Minus (reading_of s e))).aggregates
aggregates_expr_minus s e = ap (λ (r : Reading). r.aggregates) (expr_minus Reading (level_reading s) e)

pub aggregates_expr_plus : (s : Scope) (e : Expr) → (reading_of s (expr.Plus e)).aggregates ≡ (level_reading s (Expr-F.Plus (reading_of s e))).aggregates
aggregates_expr_plus s e = ap (λ (r : Reading). r.aggregates) (expr_plus Reading (level_reading s) e)

pub aggregates_expr_binary : (s : Scope) (op : BinaryOp) (l r : Expr) → (reading_of s (expr.Binary op l r)).aggregates ≡ (level_reading s (Expr-F.Binary op (reading_of s l) (reading_of s r))).aggregates
aggregates_expr_binary s op l r = ap (λ (r : Reading). r.aggregates) (expr_binary Reading (level_reading s) op l r)

pub aggregates_expr_one_of : (s : Scope) (n : Bool) (l : Expr) (es : List Expr) → (reading_of s (expr.OneOf n l es)).aggregates ≡ (level_reading s (Expr-F.OneOf n (reading_of s l) (map (reading_of s) es))).aggregates
aggregates_expr_one_of s n l es = ap (λ (r : Reading). r.aggregates) (expr_one_of Reading (level_reading s) n l es)

pub aggregates_expr_call : (s : Scope) (name : List ℕ) (es : List Expr) → (reading_of s (expr.Call name es)).aggregates ≡ (level_reading s (Expr-F.Call name (map (reading_of s) es))).aggregates
aggregates_expr_call s name es = ap (λ (r : Reading). r.aggregates) (expr_call Reading (level_reading s) name es)

pub aggregates_expr_call_all : (s : Scope) (name : List ℕ) → (reading_of s (expr.CallAll name)).aggregates ≡ (level_reading s (Expr-F.CallAll name)).aggregates
aggregates_expr_call_all s name = ap (λ (r : Reading). r.aggregates) (expr_call_all Reading (level_reading s) name)

-- `conjuncts` of each form
pub conjuncts_expr_value : (s : Scope) (v : Value) → (reading_of s (expr.Value v)).conjuncts ≡ (level_reading s (Expr-F.Value v)).conjuncts
conjuncts_expr_value s v = ap (λ (r : Reading). r.conjuncts) (expr_value Reading (level_reading s) v)

pub conjuncts_expr_name : (s : Scope) (t : Option (List ℕ)) (c : List ℕ) → (reading_of s (expr.Name t c)).conjuncts ≡ (level_reading s (Expr-F.Name t c)).conjuncts
conjuncts_expr_name s t c = ap (λ (r : Reading). r.conjuncts) (expr_name Reading (level_reading s) t c)

pub conjuncts_expr_not : (s : Scope) (e : Expr) → (reading_of s (expr.Not e)).conjuncts ≡ (level_reading s (Expr-F.Not (reading_of s e))).conjuncts
conjuncts_expr_not s e = ap (λ (r : Reading). r.conjuncts) (expr_not Reading (level_reading s) e)

pub conjuncts_expr_minus : (s : Scope) (e : Expr) → (reading_of s (expr.Minus e)).conjuncts ≡ (level_reading s (Expr-F.Minus (reading_of s e))).conjuncts
conjuncts_expr_minus s e = ap (λ (r : Reading). r.conjuncts) (expr_minus Reading (level_reading s) e)

pub conjuncts_expr_plus : (s : Scope) (e : Expr) → (reading_of s (expr.Plus e)).conjuncts ≡ (level_reading s (Expr-F.Plus (reading_of s e))).conjuncts
conjuncts_expr_plus s e = ap (λ (r : Reading). r.conjuncts) (expr_plus Reading (level_reading s) e)

pub conjuncts_expr_binary : (s : Scope) (op : BinaryOp) (l r : Expr) → (reading_of s (expr.Binary op l r)).conjuncts ≡ (level_reading s (Expr-F.Binary op (reading_of s l) (reading_of s r))).conjuncts
conjuncts_expr_binary s op l r = ap (λ (r : Reading). r.conjuncts) (expr_binary Reading (level_reading s) op l r)

pub conjuncts_expr_one_of : (s : Scope) (n : Bool) (l : Expr) (es : List Expr) → (reading_of s (expr.OneOf n l es)).conjuncts ≡ (level_reading s (Expr-F.OneOf n (reading_of s l) (map (reading_of s) es))).conjuncts
conjuncts_expr_one_of s n l es = ap (λ (r : Reading). r.conjuncts) (expr_one_of Reading (level_reading s) n l es)

pub conjuncts_expr_call : (s : Scope) (name : List ℕ) (es : List Expr) → (reading_of s (expr.Call name es)).conjuncts ≡ (level_reading s (Expr-F.Call name (map (reading_of s) es))).conjuncts
conjuncts_expr_call s name es = ap (λ (r : Reading). r.conjuncts) (expr_call Reading (level_reading s) name es)

pub conjuncts_expr_call_all : (s : Scope) (name : List ℕ) → (reading_of s (expr.CallAll name)).conjuncts ≡ (level_reading s (Expr-F.CallAll name)).conjuncts
conjuncts_expr_call_all s name = ap (λ (r : Reading). r.conjuncts) (expr_call_all Reading (level_reading s) name)

-- `column` of each form
pub column_bound_value : (offset : ℕ) (v : Value) → (facts offset (bound.Value v)).column ≡ (level_facts offset (Bound-F.Value v)).column
column_bound_value offset v = ap (λ (r : Facts). r.column) (bound_value Facts (level_facts offset) v)

pub column_bound_column : (offset : ℕ) (k : ℕ) → (facts offset (bound.Column k)).column ≡ (level_facts offset (Bound-F.Column k)).column
column_bound_column offset k = ap (λ (r : Facts). r.column) (bound_column Facts (level_facts offset) k)

pub column_bound_not : (offset : ℕ) (e : Bound) → (facts offset (bound.Not e)).column ≡ (level_facts offset (Bound-F.Not (facts offset e))).column
column_bound_not offset e = ap (λ (r : Facts). r.column) (bound_not Facts (level_facts offset) e)

pub column_bound_minus : (offset : ℕ) (e : Bound) → (facts offset (bound.Minus e)).column ≡ (level_facts offset (Bound-F.Minus (facts offset e))).column
column_bound_minus offset e = ap (λ (r : Facts). r.column) (bound_minus Facts (level_facts offset) e)

pub column_bound_plus : (offset : ℕ) (e : Bound) → (facts offset (bound.Plus e)).column ≡ (level_facts offset (Bound-F.Plus (facts offset e))).column
column_bound_plus offset e = ap (λ (r : Facts). r.column) (bound_plus Facts (level_facts offset) e)

pub column_bound_binary : (offset : ℕ) (op : BinaryOp) (l r : Bound) → (facts offset (bound.Binary op l r)).column ≡ (level_facts offset (Bound-F.Binary op (facts offset l) (facts offset r))).column
column_bound_binary offset op l r = ap (λ (r : Facts). r.column) (bound_binary Facts (level_facts offset) op l r)

pub column_bound_one_of : (offset : ℕ) (n : Bool) (l : Bound) (es : List Bound) → (facts offset (bound.OneOf n l es)).column ≡ (level_facts offset (Bound-F.OneOf n (facts offset l) (map (facts offset) es))).column
column_bound_one_of offset n l es = ap (λ (r : Facts). r.column) (bound_one_of Facts (level_facts offset) n l es)

-- `before` of each form
pub before_bound_value : (offset : ℕ) (v : Value) → (facts offset (bound.Value v)).before ≡ (level_facts offset (Bound-F.Value v)).before
before_bound_value offset v = ap (λ (r : Facts). r.before) (bound_value Facts (level_facts offset) v)

pub before_bound_column : (offset : ℕ) (k : ℕ) → (facts offset (bound.Column k)).before ≡ (level_facts offset (Bound-F.Column k)).before
before_bound_column offset k = ap (λ (r : Facts). r.before) (bound_column Facts (level_facts offset) k)

pub before_bound_not : (offset : ℕ) (e : Bound) → (facts offset (bound.Not e)).before ≡ (level_facts offset (Bound-F.Not (facts offset e))).before
before_bound_not offset e = ap (λ (r : Facts). r.before) (bound_not Facts (level_facts offset) e)

pub before_bound_minus : (offset : ℕ) (e : Bound) → (facts offset (bound.Minus e)).before ≡ (level_facts offset (Bound-F.Minus (facts offset e))).before
before_bound_minus offset e = ap (λ (r : Facts). r.before) (bound_minus Facts (level_facts offset) e)

pub before_bound_plus : (offset : ℕ) (e : Bound) → (facts offset (bound.Plus e)).before ≡ (level_facts offset (Bound-F.Plus (facts offset e))).before
before_bound_plus offset e = ap (λ (r : Facts). r.before) (bound_plus Facts (level_facts offset) e)

pub before_bound_binary : (offset : ℕ) (op : BinaryOp) (l r : Bound) → (facts offset (bound.Binary op l r)).before ≡ (level_facts offset (Bound-F.Binary op (facts offset l) (facts offset r))).before
before_bound_binary offset op l r = ap (λ (r : Facts). r.before) (bound_binary Facts (level_facts offset) op l r)

pub before_bound_one_of : (offset : ℕ) (n : Bool) (l : Bound) (es : List Bound) → (facts offset (bound.OneOf n l es)).before ≡ (level_facts offset (Bound-F.OneOf n (facts offset l) (map (facts offset) es))).before
before_bound_one_of offset n l es = ap (λ (r : Facts). r.before) (bound_one_of Facts (level_facts offset) n l es)

-- `pinned` of each form
pub pinned_bound_value : (offset : ℕ) (v : Value) → (facts offset (bound.Value v)).pinned ≡ (level_facts offset (Bound-F.Value v)).pinned
pinned_bound_value offset v = ap (λ (r : Facts). r.pinned) (bound_value Facts (level_facts offset) v)

pub pinned_bound_column : (offset : ℕ) (k : ℕ) → (facts offset (bound.Column k)).pinned ≡ (level_facts offset (Bound-F.Column k)).pinned
pinned_bound_column offset k = ap (λ (r : Facts). r.pinned) (bound_column Facts (level_facts offset) k)

pub pinned_bound_not : (offset : ℕ) (e : Bound) → (facts offset (bound.Not e)).pinned ≡ (level_facts offset (Bound-F.Not (facts offset e))).pinned
pinned_bound_not offset e = ap (λ (r : Facts). r.pinned) (bound_not Facts (level_facts offset) e)

pub pinned_bound_minus : (offset : ℕ) (e : Bound) → (facts offset (bound.Minus e)).pinned ≡ (level_facts offset (Bound-F.Minus (facts offset e))).pinned
pinned_bound_minus offset e = ap (λ (r : Facts). r.pinned) (bound_minus Facts (level_facts offset) e)

pub pinned_bound_plus : (offset : ℕ) (e : Bound) → (facts offset (bound.Plus e)).pinned ≡ (level_facts offset (Bound-F.Plus (facts offset e))).pinned
pinned_bound_plus offset e = ap (λ (r : Facts). r.pinned) (bound_plus Facts (level_facts offset) e)

pub pinned_bound_binary : (offset : ℕ) (op : BinaryOp) (l r : Bound) → (facts offset (bound.Binary op l r)).pinned ≡ (level_facts offset (Bound-F.Binary op (facts offset l) (facts offset r))).pinned
pinned_bound_binary offset op l r = ap (λ (r : Facts). r.pinned) (bound_binary Facts (level_facts offset) op l r)

pub pinned_bound_one_of : (offset : ℕ) (n : Bool) (l : Bound) (es : List Bound) → (facts offset (bound.OneOf n l es)).pinned ≡ (level_facts offset (Bound-F.OneOf n (facts offset l) (map (facts offset) es))).pinned
pinned_bound_one_of offset n l es = ap (λ (r : Facts). r.pinned) (bound_one_of Facts (level_facts offset) n l es)

-- the form of an operator, as a path looks at it
pub out_binary : (op : BinaryOp) (l r : Bound) → out-Bound (bound.Binary op l r) ≡ Bound-F.Binary op l r
out_binary op l r = ap out-Bound (sym (bound.rolls-Binary op l r)) ∙ out-roll-Bound (Bound-F.Binary op l r)

-- all of them, for `simp`
pub ruleset trees = (expr_value, expr_name, expr_not, expr_minus, expr_plus, expr_binary, expr_one_of, expr_call, expr_call_all, bound_value, bound_column, bound_not, bound_minus, bound_plus, bound_binary, bound_one_of, on_rows_expr_value, on_rows_expr_name, on_rows_expr_not, on_rows_expr_minus, on_rows_expr_plus, on_rows_expr_binary, on_rows_expr_one_of, on_rows_expr_call, on_rows_expr_call_all, on_groups_expr_value, on_groups_expr_name, on_groups_expr_not, on_groups_expr_minus, on_groups_expr_plus, on_groups_expr_binary, on_groups_expr_one_of, on_groups_expr_call, on_groups_expr_call_all, aggregates_expr_value, aggregates_expr_name, aggregates_expr_not, aggregates_expr_minus, aggregates_expr_plus, aggregates_expr_binary, aggregates_expr_one_of, aggregates_expr_call, aggregates_expr_call_all, conjuncts_expr_value, conjuncts_expr_name, conjuncts_expr_not, conjuncts_expr_minus, conjuncts_expr_plus, conjuncts_expr_binary, conjuncts_expr_one_of, conjuncts_expr_call, conjuncts_expr_call_all, column_bound_value, column_bound_column, column_bound_not, column_bound_minus, column_bound_plus, column_bound_binary, column_bound_one_of, before_bound_value, before_bound_column, before_bound_not, before_bound_minus, before_bound_plus, before_bound_binary, before_bound_one_of, pinned_bound_value, pinned_bound_column, pinned_bound_not, pinned_bound_minus, pinned_bound_plus, pinned_bound_binary, pinned_bound_one_of, out_binary)
