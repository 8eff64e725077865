-- The places of a statement. What a query asks for is told by its first three lexemes: `name.*`, or an expression.
use Rattle.std.proofs.Common.{◌≡◌, ◌⊎◌, inl, inr, ⊎_elim, ap, ◌∙◌, ℕ, zero, suc, ◌≤◌, ◌<◌, Bool, true, false, ◌&&◌, ◌||◌, List, [], ◌∷◌, ◌++◌, Option, Some, None, Ok, Err, refl, sym, subst, arith, append_assoc}
use Rattle.std.specs.Prelude.{if◌then◌else◌}
use Rattle.std.proofs.lemmas.Bool.{and_parts}
use Rattle.hc_lex.specs.declared.token.TokenKind.{TokenKind}
use Rattle.hc_lex.specs.declared.token.TokenKind.TheVariants as kind
use Rattle.hc_ast.specs.declared.expression.Expr.{Expr}
use Rattle.hc_ast.specs.declared.expression.Expr.TheVariants as expr
use Rattle.hc_ast.specs.declared.query.Item.{Item}
use Rattle.hc_ast.specs.declared.query.Item.TheVariants as choice
use Rattle.hc_grammar.specs.Lexemes.{Lexeme, IsName}
use Rattle.hc_grammar.specs.Kinds.{is, among, Starts}
use Rattle.hc_grammar.specs.Marks.{Plain, Mark, At, Begins, Limits, limits, lexemes}
use Rattle.hc_grammar.specs.Terminals.{Name, unquoted}
use Rattle.hc_grammar.specs.Grammar.{Grammar, Nothing, Word, Within, Place, Whole, Negation, Signed, Asked}
use Rattle.hc_grammar.specs.First.{first, ends, nullable, place_first, place_ends, is_clear_by_one}
use Rattle.hc_grammar.specs.Has.{Phrase, has}
use Rattle.hc_grammar.specs.Reads.{Read, put, and_then, made, got, chain, read}
use Rattle.hc_grammar.specs.Expressions.{Precedence, loose, tight, grouped, tail_of, applied, after_name, negated, unary}
use Rattle.hc_grammar.specs.Phrases.{maybe}
use Rattle.hc_grammar.specs.Queries.{alias, all_of, item}
use Rattle.hc_grammar.specs.Places.{body, Nested, Placed, reading, placed, runner, places, run_of, begins_all_of}
use Rattle.hc_grammar.specs.Runs.{Budget, run}
use Rattle.hc_grammar.proofs.Meanings.Spending.{IsBalanced, balanced}
use Rattle.hc_grammar.proofs.Meanings.Limited.{room, cut, cut_by, limited}
use Rattle.hc_grammar.proofs.Terminals.Numbers.{kind_is, is_of_kind}
use Rattle.hc_grammar.proofs.Terminals.Lists.{differ, or_true, both_true, false_unless, starts_fewer, ends_fewer, ends_none}
use Rattle.hc_grammar.proofs.Terminals.Values.{means_kind}
use Rattle.hc_grammar.proofs.Meanings.Clear.{body_clear, item_clear, item_first, item_ends}
use Rattle.hc_grammar.proofs.Meanings.Marks.{IsWithin, IsBeyond, split, same_first}
use Rattle.hc_grammar.proofs.Meanings.Begins.{begins, begun}
use Rattle.hc_grammar.proofs.Meanings.Some.{HasSome}
use Rattle.hc_grammar.proofs.Meanings.Sound.{IsSound, sound, sound_as, sound_by}
use Rattle.hc_grammar.proofs.Meanings.Reaches.{Reaches, reaches}
use Rattle.hc_grammar.proofs.Meanings.Follows.{taken, Extends, Follows, follows}
use Rattle.hc_grammar.proofs.Places.Nested.{a_name, some_body, alone, qualified, nested_begins, nested_some, nested_sound, nested_reaches, nested_follows, nested_balanced, nested_runs}

-- a lexeme of a kind with a text
abbrev of : TokenKind → List ℕ → Lexeme
of k text = record { kind = k; text = text }

-- the expression stops where `name.*` goes on
abbrev StopsAlong : ℕ → List Lexeme → Type 0
StopsAlong m tokens = (stop : List Mark × List Lexeme) × (read (reading m) item tokens ≡ Err stop) × ((more : List Mark) × (taken (read (reading m) all_of tokens) ≡ stop.0 ++ more))

-- what is read of operators after a first operand
abbrev read_grouped : ℕ → List Precedence → Grammar Expr → Read Expr → Read Expr
read_grouped m [] operand first_read = first_read
read_grouped m (p ∷ ps) operand first_read =
    chain (read_grouped m ps operand first_read) (first (tail_of p (grouped ps operand))) (λ value. read (reading m) (tail_of p (grouped ps operand))) applied

-- the same of an item that begins with a name, if the name is this one
abbrev item_by : ℕ → Lexeme → List Lexeme → Option (List ℕ) → Read Item
item_by m t rest o =
    and_then (put (Begins ∷ []) (read_grouped m loose negated (read_grouped m tight unary (and_then (got Plain t rest o) (λ x rest. made (λ make. make x) (read (reading m) after_name rest))))))
    (λ x rest. made (λ alias. choice.One x alias) (read (reading (suc m)) (maybe alias) rest))

abbrev all_by : Lexeme → List Lexeme → Option (List ℕ) → Read Item
all_by t rest o =
    put (Begins ∷ []) (made choice.AllOf (and_then (got Plain t rest o) (λ table rest. made (λ star. table) (read (reading 0) (Word Plain kind.Dot (Word Plain kind.Star (Nothing true))) rest))))

abbrev StopsBy : Read Item → Read Item → Type 0
StopsBy asked all = (stop : List Mark × List Lexeme) × (asked ≡ Err stop) × ((more : List Mark) × (taken all ≡ stop.0 ++ more))

by_name : (m : ℕ) (t : Lexeme) (d s : List ℕ) (rest : List Lexeme) (o : Option (List ℕ))
    → StopsBy (item_by m t (of kind.Dot d ∷ of kind.Star s ∷ rest) o) (all_by t (of kind.Dot d ∷ of kind.Star s ∷ rest) o)
unfolding read reading
by_name m t d s rest None = ((Begins ∷ [], t ∷ of kind.Dot d ∷ of kind.Star s ∷ rest), refl, ([], refl))
by_name m t d s rest (Some x) = ((Begins ∷ At Plain t ∷ At Plain (of kind.Dot d) ∷ [], of kind.Star s ∷ rest), refl, (At Plain (of kind.Star s) ∷ [], refl))

stops_quoted : (m : ℕ) (text d s : List ℕ) (rest : List Lexeme) → StopsAlong m (of kind.QuotedName text ∷ of kind.Dot d ∷ of kind.Star s ∷ rest)
unfolding read reading
stops_quoted zero text d s rest = by (unquoted 34 text)
  where
    by : (o : Option (List ℕ)) → StopsBy (Err (Begins ∷ [], of kind.QuotedName text ∷ of kind.Dot d ∷ of kind.Star s ∷ rest)) (all_by (of kind.QuotedName text) (of kind.Dot d ∷ of kind.Star s ∷ rest) o)
    by None = ((Begins ∷ [], _), refl, (_, refl))
    by (Some x) = ((Begins ∷ [], _), refl, (_, refl))
stops_quoted (suc m) text d s rest = by_name m (of kind.QuotedName text) d s rest (unquoted 34 text)

stops_name : (m : ℕ) (text d s : List ℕ) (rest : List Lexeme) → StopsAlong m (of kind.Name text ∷ of kind.Dot d ∷ of kind.Star s ∷ rest)
unfolding read reading
stops_name zero text d s rest = ((Begins ∷ [], _), refl, (_, refl))
stops_name (suc m) text d s rest = by_name m (of kind.Name text) d s rest (Some text)

-- lexemes that begin `name.*`
record Stars (tokens : List Lexeme) : Type 0 where
  pub name : Lexeme
  pub dot : Lexeme
  pub star : Lexeme
  pub rest : List Lexeme
  pub is : tokens ≡ name ∷ dot ∷ star ∷ rest
  pub named : (name.kind ≡ kind.Name) ⊎ (name.kind ≡ kind.QuotedName)
  pub dotted : dot.kind ≡ kind.Dot
  pub starred : star.kind ≡ kind.Star

stars : (tokens : List Lexeme) → begins_all_of tokens ≡ true → Stars tokens
stars [] h = absurd (cc)
stars (a ∷ []) h = absurd (cc)
stars (a ∷ b ∷ []) h = absurd (cc)
stars (a ∷ b ∷ c ∷ rest) h =
    let one = and_parts (among (kind.Name ∷ kind.QuotedName ∷ []) a) (is kind.Dot b && is kind.Star c) h in
    let two = and_parts (is kind.Dot b) (is kind.Star c) one.1 in
    record {
      name = a;
      dot = b;
      star = c;
      rest = rest;
      is = refl;
      named = ⊎_elim (λ n. inl (kind_is kind.Name a refl n))
          (λ m. ⊎_elim (λ n. inr (kind_is kind.QuotedName a refl n)) (λ bad. absurd (cc)) (or_true (is kind.QuotedName a) false m))
          (or_true (is kind.Name a) (is kind.QuotedName a || false) one.0);
      dotted = kind_is kind.Dot b refl two.0;
      starred = kind_is kind.Star c refl two.1;
    }

-- where they begin so, the expression stops where `name.*` goes on
stops : (m : ℕ) (tokens : List Lexeme) → begins_all_of tokens ≡ true → StopsAlong m tokens
stops m tokens h = subst (StopsAlong m) (sym s.is) (by s.named)
  where
    s : Stars tokens
    s = stars tokens h

    rest_is : (k : TokenKind) → StopsAlong m (of k s.name.text ∷ of kind.Dot s.dot.text ∷ of kind.Star s.star.text ∷ s.rest) → s.name.kind ≡ k → StopsAlong m (s.name ∷ s.dot ∷ s.star ∷ s.rest)
    rest_is k h e =
        subst (λ l. StopsAlong m (of l s.name.text ∷ s.dot ∷ s.star ∷ s.rest)) (sym e)
        (subst (λ l. StopsAlong m (of k s.name.text ∷ of l s.dot.text ∷ s.star ∷ s.rest)) (sym s.dotted)
        (subst (λ l. StopsAlong m (of k s.name.text ∷ of kind.Dot s.dot.text ∷ of l s.star.text ∷ s.rest)) (sym s.starred) h))

    by : (s.name.kind ≡ kind.Name) ⊎ (s.name.kind ≡ kind.QuotedName) → StopsAlong m (s.name ∷ s.dot ∷ s.star ∷ s.rest)
    by (inl e) = rest_is kind.Name (stops_name m s.name.text s.dot.text s.star.text s.rest) e
    by (inr e) = rest_is kind.QuotedName (stops_quoted m s.name.text s.dot.text s.star.text s.rest) e

-- the three lexemes of `name.*`
record IsStarred (x : Item) (marks : List Mark) : Type 0 where
  pub table : List ℕ
  pub name : Lexeme
  pub dot : Lexeme
  pub star : Lexeme
  pub is : marks ≡ Begins ∷ At Plain name ∷ At Plain dot ∷ At Plain star ∷ []
  pub named : IsName name table
  pub dotted : dot.kind ≡ kind.Dot
  pub starred : star.kind ≡ kind.Star

starred : (W : (A : Type 0) → Place A → A → Phrase) (x : Item) (marks : List Mark) → has W all_of x marks → IsStarred x marks
unfolding has
starred W x marks h =
    let both = h.2.2.3 in
    let t = both.3 in
    let d = both.4 in
    let s = d.4 in
    record {
      table = h.2.2.0;
      name = t.0;
      dot = d.0;
      star = s.0;
      is = h.1 ∙ ap (λ (m : List Mark). Begins ∷ m) (both.2 ∙ ap (λ (m : List Mark). m ++ both.1) t.1 ∙ ap (λ (m : List Mark). At Plain t.0 ∷ m) (d.2 ∙ ap (λ (m : List Mark). At Plain d.0 ∷ m) (s.2 ∙ ap (λ (m : List Mark). At Plain s.0 ∷ m) s.4.0)));
      named = t.2;
      dotted = d.3;
      starred = s.3;
    }

-- they begin so
begins_starred : (t d s : Lexeme) (table : List ℕ) (rest : List Lexeme) → IsName t table → d.kind ≡ kind.Dot → s.kind ≡ kind.Star → begins_all_of (t ∷ d ∷ s ∷ rest) ≡ true
begins_starred t d s table rest n dot star = both_true (means_kind Name t table n) (both_true (is_of_kind kind.Dot d dot) (is_of_kind kind.Star s star))

pub placed_begins : (n : ℕ) (A : Type 0) (place : Place A) (x : A) (marks : List Mark) → Placed n A place x marks → Starts (place_first place) (lexemes marks)
unfolding Nested
placed_begins n A Whole x marks h = nested_begins n A Whole x marks h
placed_begins n A Negation x marks h = nested_begins n A Negation x marks h
placed_begins n A Signed x marks h = nested_begins n A Signed x marks h
placed_begins n A Asked x marks (inl h) = nested_begins (suc n) A Asked x marks h
placed_begins n A Asked x marks (inr h) =
    starts_fewer (first item) (place_first Asked) (lexemes marks) item_first (begun (first item) (nullable item) marks refl (begins (Nested n) (nested_begins n) item x marks item_clear h))

pub placed_some : (n : ℕ) (A : Type 0) (place : Place A) → HasSome (Placed (suc n) A place)
placed_some n A Whole = let s = nested_some n A Whole in record { value = s.value; marks = s.marks; is = s.is }
placed_some n A Negation = let s = nested_some n A Negation in record { value = s.value; marks = s.marks; is = s.is }
placed_some n A Signed = let s = nested_some n A Signed in record { value = s.value; marks = s.marks; is = s.is }
placed_some n A Asked = let s = some_body (Nested (suc n)) A Asked in record { value = s.value; marks = s.marks; is = inl s.is }

pub placed_sound : (n : ℕ) (A : Type 0) (place : Place A) (tokens : List Lexeme) → IsSound (Placed (suc n) A place) tokens (placed n A place tokens)
placed_sound n A Whole tokens = sound_as (Nested (suc n) A Whole) (Placed (suc n) A Whole) (λ x m p. p) tokens (reading n A Whole tokens) (nested_sound n A Whole tokens)
placed_sound n A Negation tokens = sound_as (Nested (suc n) A Negation) (Placed (suc n) A Negation) (λ x m p. p) tokens (reading n A Negation tokens) (nested_sound n A Negation tokens)
placed_sound n A Signed tokens = sound_as (Nested (suc n) A Signed) (Placed (suc n) A Signed) (λ x m p. p) tokens (reading n A Signed tokens) (nested_sound n A Signed tokens)
placed_sound n A Asked tokens =
    sound_by (has (Nested (suc n)) all_of) (has (Nested (suc n)) item) (Placed (suc n) A Asked) tokens (read (reading n) all_of tokens) (read (reading n) item tokens)
    (λ x m p. inl p) (λ x m p. inr p) (begins_all_of tokens)
    (sound (Nested (suc n)) (reading n) (nested_some n) (nested_sound n) all_of (body_clear Asked) tokens)
    (sound (Nested (suc n)) (reading n) (nested_some n) (nested_sound n) item item_clear tokens)

-- where an expression is read, no `name.*` is there
no_star : (m : ℕ) (tokens : List Lexeme) (x : Item × List Mark × List Lexeme) → read (reading m) item tokens ≡ Ok x → begins_all_of tokens ≡ false
no_star m tokens x e = false_unless (begins_all_of tokens) (λ h. let s = stops m tokens h in let bad = sym e ∙ s.1 in cc)

pub placed_reaches : (n m : ℕ) → n ≤ m → (A : Type 0) (place : Place A) → Reaches (Placed n A place) (place_ends place) (placed m A place)
placed_reaches n m fits A Whole x marks rest h e = nested_reaches n m fits A Whole x marks rest h e
placed_reaches n m fits A Negation x marks rest h e = nested_reaches n m fits A Negation x marks rest h e
placed_reaches n m fits A Signed x marks rest h e = nested_reaches n m fits A Signed x marks rest h e
placed_reaches n m fits A Asked x marks rest (inl h) e =
    let s = starred (Nested n) x marks h in
    let tokens = lexemes marks ++ rest in
    let here : begins_all_of tokens ≡ true = ap (λ k. begins_all_of (lexemes k ++ rest)) s.is ∙ begins_starred s.name s.dot s.star s.table rest s.named s.dotted s.starred in
    ap (λ b. if b then read (reading m) all_of tokens else read (reading m) item tokens) here
    ∙ reaches (Nested n) (reading m) (nested_begins n) (nested_reaches n m fits) all_of (body_clear Asked) x marks rest h (ends_none rest)
placed_reaches n m fits A Asked x marks rest (inr h) e =
    let tokens = lexemes marks ++ rest in
    let reached = reaches (Nested n) (reading m) (nested_begins n) (nested_reaches n m fits) item item_clear x marks rest h (ends_fewer (ends item) (place_ends Asked) rest item_ends e) in
    ap (λ b. if b then read (reading m) all_of tokens else read (reading m) item tokens) (no_star m tokens (x, marks, rest) reached) ∙ reached

-- an expression that begins as `name.*` does
alike : (t d : Lexeme) (table : List ℕ) → IsName t table → d.kind ≡ kind.Dot
    → has (Nested 1) item (choice.One (expr.Name (Some table) []) None) (Begins ∷ At Plain t ∷ At Plain d ∷ At Plain a_name ∷ [])
unfolding has Nested
alike t d table n dot =
    let marks : List Mark = At Plain t ∷ At Plain d ∷ At Plain a_name ∷ [] in
    let e : has (Nested 0) unary (expr.Name (Some table) []) marks = qualified (Nested 0) table [] t d a_name n dot (inl (refl, refl)) in
    inr (expr.Name (Some table) [], None, refl, (Begins ∷ marks, [], refl, (marks, refl, alone (Nested 0) loose negated _ marks (inr (alone (Nested 0) tight unary _ marks e))), inr (refl, refl)))

pub placed_follows : (n m : ℕ) → n ≤ suc m → (A : Type 0) (place : Place A) → Follows (Placed n A place) (placed (suc m) A place)
placed_follows n m fits A Whole x marks front q rest h is ended = nested_follows n (suc m) fits A Whole x marks front q rest h is ended
placed_follows n m fits A Negation x marks front q rest h is ended = nested_follows n (suc m) fits A Negation x marks front q rest h is ended
placed_follows n m fits A Signed x marks front q rest h is ended = nested_follows n (suc m) fits A Signed x marks front q rest h is ended
placed_follows n m fits A Asked x marks front q rest (inl h) is ended = by (begins_all_of tokens) refl (split three (At Plain s.star ∷ []) front q (sym s.is ∙ is))
  where
    tokens : List Lexeme
    tokens = lexemes front ++ rest

    s : IsStarred x marks
    s = starred (Nested n) x marks h

    three : List Mark
    three = Begins ∷ At Plain s.name ∷ At Plain s.dot ∷ []

    whole : (next : Mark) (more : List Mark) → front ≡ three ++ next ∷ more → At Plain s.star ∷ [] ≡ next ∷ more ++ q → begins_all_of tokens ≡ true
    whole next more e last =
        ap (λ (f : List Mark). begins_all_of (lexemes f ++ rest)) (e ∙ ap (λ (k : Mark). three ++ k ∷ more) (sym (same_first (At Plain s.star) next [] (more ++ q) last)))
        ∙ begins_starred s.name s.dot s.star s.table (lexemes more ++ rest) s.named s.dotted s.starred

    by : (test : Bool) → begins_all_of tokens ≡ test → IsWithin three (At Plain s.star ∷ []) front q ⊎ IsBeyond three (At Plain s.star ∷ []) front q
        → Extends front (if test then read (reading (suc m)) all_of tokens else read (reading (suc m)) item tokens)
    by true e p =
        follows (Nested n) (reading (suc m)) (nested_begins n) (nested_reaches n (suc m) fits) (nested_follows n (suc m) fits) all_of (body_clear Asked) x marks front q rest h is ended
    by false e (inl w) =
        let one : 1 ≤ suc m = omega arith in
        follows (Nested 1) (reading (suc m)) (nested_begins 1) (nested_reaches 1 (suc m) one) (nested_follows 1 (suc m) one) item item_clear (choice.One (expr.Name (Some s.table) []) None)
        (three ++ At Plain a_name ∷ []) front (w.more ++ At Plain a_name ∷ []) rest (alike s.name s.dot s.table s.named s.dotted)
        (ap (λ (l : List Mark). l ++ At Plain a_name ∷ []) w.is ∙ append_assoc front w.more (At Plain a_name ∷ [])) ended
    by false e (inr b) = differ (begins_all_of tokens) (whole b.next b.more b.is b.rest) e
placed_follows n m fits A Asked x marks front q rest (inr h) is ended = by (begins_all_of tokens) refl
  where
    tokens : List Lexeme
    tokens = lexemes front ++ rest

    along : Extends front (read (reading (suc m)) item tokens)
    along = follows (Nested n) (reading (suc m)) (nested_begins n) (nested_reaches n (suc m) fits) (nested_follows n (suc m) fits) item item_clear x marks front q rest h is ended

    by : (test : Bool) → begins_all_of tokens ≡ test → Extends front (if test then read (reading (suc m)) all_of tokens else read (reading (suc m)) item tokens)
    by false e = along
    by true e =
        let s = stops (suc m) tokens e in
        let stop : s.0.0 ≡ front ++ along.0 = ap taken (sym s.1) ∙ along.1 in
        (along.0 ++ s.2.0, s.2.1 ∙ ap (λ (l : List Mark). l ++ s.2.0) stop ∙ append_assoc front along.0 s.2.0)

pub placed_balanced : (all : Limits) (n : ℕ) (A : Type 0) (place : Place A) (x : A) (marks : List Mark) → Placed n A place x marks → IsBalanced all marks
placed_balanced all n A Whole x marks h = nested_balanced all n A Whole x marks h
placed_balanced all n A Negation x marks h = nested_balanced all n A Negation x marks h
placed_balanced all n A Signed x marks h = nested_balanced all n A Signed x marks h
placed_balanced all n A Asked x marks h = ⊎_elim (balanced all (Nested n) (nested_balanced all n) all_of x marks) (balanced all (Nested n) (nested_balanced all n) item x marks) h

-- within limits the same is read
module _ (all : Limits) (n : ℕ) where
  expression_runs : {A : Type 0} (g : Grammar A) → is_clear_by_one g ≡ true → (levels : ℕ) → levels < n → (budget : Budget) (tokens : List Lexeme)
      → run all.operators (runner all.operators) levels g budget tokens ≡ cut all (room levels budget) (read (reading n) g tokens)
  expression_runs g clear levels less budget tokens =
      limited all (Nested (suc n)) (reading n) (nested_some n) (nested_sound n) (nested_balanced all (suc n)) (runner all.operators) n
      (λ k under. nested_runs all (suc k) n k (omega arith) under) g clear levels (inl less) budget tokens

  pub placed_runs : (levels : ℕ) → levels < n → (A : Type 0) (place : Place A) (budget : Budget) (tokens : List Lexeme)
      → places all.operators levels A place budget tokens ≡ cut all (room levels budget) (placed n A place tokens)
  placed_runs levels less A Whole budget tokens = nested_runs all (suc levels) n levels (omega arith) less A Whole budget tokens
  placed_runs levels less A Negation budget tokens = nested_runs all (suc levels) n levels (omega arith) less A Negation budget tokens
  placed_runs levels less A Signed budget tokens = nested_runs all (suc levels) n levels (omega arith) less A Signed budget tokens
  placed_runs levels less A Asked budget tokens =
      cut_by all (room levels budget) (begins_all_of tokens) (run all.operators (runner all.operators) levels all_of budget tokens) (run all.operators (runner all.operators) levels item budget tokens)
      (read (reading n) all_of tokens) (read (reading n) item tokens)
      (expression_runs all_of (body_clear Asked) levels less budget tokens) (expression_runs item item_clear levels less budget tokens)

  -- what is read of a grammar within limits, where enough levels may lie within one another
  pub runs : {A : Type 0} (g : Grammar A) → is_clear_by_one g ≡ true → (levels : ℕ) → levels < n → (budget : Budget) (tokens : List Lexeme)
      → run all.operators (places all.operators) levels g budget tokens ≡ cut all (room levels budget) (read (placed n) g tokens)
  runs g clear levels less budget tokens =
      limited all (Placed (suc n)) (placed n) (placed_some n) (placed_sound n) (placed_balanced all (suc n)) (places all.operators) n placed_runs g clear levels (inl less) budget tokens

-- a place is its body, one level down or in a statement
pub place_is : (all : Limits) (levels : ℕ) (place : Place Expr) (budget : Budget) (tokens : List Lexeme)
    → runner all.operators levels Expr place budget tokens ≡ run all.operators (runner all.operators) levels (body place) budget tokens
unfolding reading
place_is all levels place budget tokens =
    nested_runs all (suc levels) (suc (suc levels)) levels (omega arith) (omega arith) Expr place budget tokens
    ∙ sym (expression_runs all (suc levels) (body place) (body_clear place) levels (omega arith) budget tokens)

-- the same as the code reads it
pub whole_is : (levels : ℕ) (budget : Budget) (tokens : List Lexeme) → run_of levels (Within Whole) budget tokens ≡ run_of levels (body Whole) budget tokens
whole_is levels budget tokens = place_is limits levels Whole budget tokens

pub negation_is : (levels : ℕ) (budget : Budget) (tokens : List Lexeme) → run_of levels (Within Negation) budget tokens ≡ run_of levels (body Negation) budget tokens
negation_is levels budget tokens = place_is limits levels Negation budget tokens

pub signed_is : (levels : ℕ) (budget : Budget) (tokens : List Lexeme) → run_of levels (Within Signed) budget tokens ≡ run_of levels (body Signed) budget tokens
signed_is levels budget tokens = place_is limits levels Signed budget tokens
