-- Lists of kinds, and what is first.
use Rattle.std.proofs.Common.{◌≡◌, ◌⊎◌, inl, inr, ⊎_elim, ap, ◌∙◌, ◌==◌, ◌||◌, ◌&&◌, not, Bool, true, false, cond, List, [], ◌∷◌, ◌++◌, refl, sym}
use Rattle.std.proofs.lemmas.Bool.{eqb-true, eq-eqb, and_parts, not-true}
use Rattle.std.proofs.Math.Bool.{or-false}
use Rattle.hc_lex.specs.declared.token.TokenKind.{TokenKind}
use Rattle.hc_grammar.specs.Lexemes.{Lexeme}
use Rattle.hc_grammar.specs.Kinds.{kind_number, is, among, head_is, Ends, Starts}
use Rattle.hc_grammar.specs.First.{has_kind, apart, included}

-- nothing holds and does not
pub differ : {A : Type 0} (a : Bool) → a ≡ true → a ≡ false → A
differ a holds fails = absurd (let bad : true ≡ false = sym holds ∙ fails in cc)

pub both_true : {a b : Bool} → a ≡ true → b ≡ true → (a && b) ≡ true
both_true {a} {b} h g = ap (λ c. c && b) h ∙ g

pub or_true : (a b : Bool) → (a || b) ≡ true → (a ≡ true) ⊎ (b ≡ true)
or_true true b h = inl refl
or_true false b h = inr h

pub true_left : (a b : Bool) → a ≡ true → (a || b) ≡ true
true_left true b h = refl
true_left false b h = absurd (cc)

pub true_right : (a b : Bool) → b ≡ true → (a || b) ≡ true
true_right true b h = refl
true_right false b h = h

-- a lexeme of a kind is among kinds that have it
pub among_has : (kinds : List TokenKind) (kind : TokenKind) (lexeme : Lexeme) → has_kind kinds kind ≡ true → is kind lexeme ≡ true → among kinds lexeme ≡ true
among_has [] kind lexeme h this = absurd (cc)
among_has (other ∷ kinds) kind lexeme h this = by (λ g. among_has kinds kind lexeme g this) (kind_number other == kind_number kind) refl h
  where
    by : (has_kind kinds kind ≡ true → among kinds lexeme ≡ true) → (b : Bool) → (kind_number other == kind_number kind) ≡ b → cond b true (has_kind kinds kind) ≡ true
        → among (other ∷ kinds) lexeme ≡ true
    by ih true same h = true_left (is other lexeme) (among kinds lexeme) (ap (λ n. kind_number lexeme.kind == n) (eqb-true (kind_number other) (kind_number kind) same) ∙ this)
    by ih false same h = true_right (is other lexeme) (among kinds lexeme) (ih h)

-- a lexeme of a kind shows that kinds which it is among have the kind
pub has_among : (kinds : List TokenKind) (kind : TokenKind) (lexeme : Lexeme) → is kind lexeme ≡ true → among kinds lexeme ≡ true → has_kind kinds kind ≡ true
has_among [] kind lexeme this h = absurd (cc)
has_among (other ∷ kinds) kind lexeme this h = by (has_among kinds kind lexeme this) (kind_number other == kind_number kind) refl (or_true (is other lexeme) (among kinds lexeme) h)
  where
    by : (among kinds lexeme ≡ true → has_kind kinds kind ≡ true) → (b : Bool) → (kind_number other == kind_number kind) ≡ b → (is other lexeme ≡ true) ⊎ (among kinds lexeme ≡ true) → cond b true (has_kind kinds kind) ≡ true
    by ih true same h = refl
    by ih false same (inr h) = ih h
    by ih false same (inl h) =
        differ (kind_number other == kind_number kind) (eq-eqb (kind_number other) (kind_number kind) (sym (eqb-true (kind_number lexeme.kind) (kind_number other) h) ∙ eqb-true (kind_number lexeme.kind) (kind_number kind) this)) same

-- a lexeme is not among kinds of two lists that are apart
pub not_both : {A : Type 0} (kinds others : List TokenKind) (lexeme : Lexeme) → apart kinds others ≡ true → among kinds lexeme ≡ true → among others lexeme ≡ true → A
not_both [] others lexeme h this that = absurd (cc)
not_both (kind ∷ kinds) others lexeme h this that =
    let parts = and_parts (not (has_kind others kind)) (apart kinds others) h in
    ⊎_elim
    (λ is. differ (has_kind others kind) (has_among others kind lexeme is that) (not-true (has_kind others kind) parts.0))
    (λ more. not_both kinds others lexeme parts.1 more that)
    (or_true (is kind lexeme) (among kinds lexeme) this)

pub false_unless : (a : Bool) → (a ≡ true → ⊥) → a ≡ false
false_unless true h = absurd (h refl)
false_unless false h = refl

-- a lexeme of one of the kinds is none of others
pub apart_from : (kinds others : List TokenKind) (lexeme : Lexeme) → apart kinds others ≡ true → among kinds lexeme ≡ true → among others lexeme ≡ false
apart_from kinds others lexeme h this = false_unless (among others lexeme) (λ that. not_both kinds others lexeme h this that)

-- and the other way round
pub apart_to : (kinds others : List TokenKind) (lexeme : Lexeme) → apart kinds others ≡ true → among others lexeme ≡ true → among kinds lexeme ≡ false
apart_to kinds others lexeme h that = false_unless (among kinds lexeme) (λ this. not_both kinds others lexeme h this that)

-- to be among two lists is to be among one of them
pub among_either : (kinds others : List TokenKind) (lexeme : Lexeme) → among (kinds ++ others) lexeme ≡ (among kinds lexeme || among others lexeme)
among_either [] others lexeme = refl
among_either (kind ∷ kinds) others lexeme = ap (λ b. is kind lexeme || b) (among_either kinds others lexeme) ∙ assoc (is kind lexeme) (among kinds lexeme) (among others lexeme)
  where
    assoc : (a b c : Bool) → (a || (b || c)) ≡ ((a || b) || c)
    assoc true b c = refl
    assoc false b c = refl

pub starts_left : (kinds others : List TokenKind) (tokens : List Lexeme) → Starts kinds tokens → Starts (kinds ++ others) tokens
starts_left kinds others [] h = h
starts_left kinds others (lexeme ∷ tokens) h = among_either kinds others lexeme ∙ true_left (among kinds lexeme) (among others lexeme) h

pub starts_right : (kinds others : List TokenKind) (tokens : List Lexeme) → Starts others tokens → Starts (kinds ++ others) tokens
starts_right kinds others [] h = h
starts_right kinds others (lexeme ∷ tokens) h = among_either kinds others lexeme ∙ true_right (among kinds lexeme) (among others lexeme) h

or_false : (a b : Bool) → (a || b) ≡ false → (a ≡ false) × (b ≡ false)
or_false true b h = absurd (cc)
or_false false b h = (refl, h)

-- none of two lists is first
pub ends_both : (kinds others : List TokenKind) (tokens : List Lexeme) → Ends (kinds ++ others) tokens → Ends kinds tokens × Ends others tokens
ends_both kinds others [] h = (refl, refl)
ends_both kinds others (lexeme ∷ tokens) h = or_false (among kinds lexeme) (among others lexeme) (sym (among_either kinds others lexeme) ∙ h)

pub ends_join : (kinds others : List TokenKind) (tokens : List Lexeme) → Ends kinds tokens → Ends others tokens → Ends (kinds ++ others) tokens
ends_join kinds others [] h g = refl
ends_join kinds others (lexeme ∷ tokens) h g = among_either kinds others lexeme ∙ ap (λ b. b || among others lexeme) h ∙ g

-- where one of the kinds is first, none of kinds apart does
pub starts_apart : (kinds others : List TokenKind) (tokens : List Lexeme) → apart kinds others ≡ true → Starts others tokens → Ends kinds tokens
starts_apart kinds others [] h starts = refl
starts_apart kinds others (lexeme ∷ tokens) h starts = apart_to kinds others lexeme h starts

-- where one of the kinds is first, it does with more after it
pub starts_more : (kinds : List TokenKind) (front rest : List Lexeme) → Starts kinds front → Starts kinds (front ++ rest)
starts_more kinds [] rest h = absurd (cc)
starts_more kinds (lexeme ∷ front) rest h = h

-- of no kinds none is first
pub ends_none : (rest : List Lexeme) → Ends [] rest
ends_none [] = refl
ends_none (lexeme ∷ rest) = refl

-- what is among fewer kinds is among more
pub among_more : (kinds others : List TokenKind) (lexeme : Lexeme) → included kinds others ≡ true → among kinds lexeme ≡ true → among others lexeme ≡ true
among_more [] others lexeme h this = absurd (cc)
among_more (kind ∷ kinds) others lexeme h this =
    let parts = and_parts (has_kind others kind) (included kinds others) h in
    ⊎_elim (λ is. among_has others kind lexeme parts.0 is) (λ more. among_more kinds others lexeme parts.1 more) (or_true (is kind lexeme) (among kinds lexeme) this)

-- where none of the kinds is first, none of fewer kinds does
pub ends_fewer : (kinds others : List TokenKind) (rest : List Lexeme) → included kinds others ≡ true → Ends others rest → Ends kinds rest
ends_fewer kinds others [] h none = refl
ends_fewer kinds others (lexeme ∷ rest) h none = false_unless (among kinds lexeme) (λ this. differ (among others lexeme) (among_more kinds others lexeme h this) none)

-- where one of the kinds is first, one of more kinds does
pub starts_fewer : (kinds others : List TokenKind) (tokens : List Lexeme) → included kinds others ≡ true → Starts kinds tokens → Starts others tokens
starts_fewer kinds others [] h starts = starts
starts_fewer kinds others (lexeme ∷ tokens) h starts = among_more kinds others lexeme h starts

-- to be among one kind is to be of it
pub among_one : (kind : TokenKind) (tokens : List Lexeme) → head_is (among (kind ∷ [])) tokens ≡ head_is (is kind) tokens
among_one kind [] = refl
among_one kind (lexeme ∷ tokens) = or-false (is kind lexeme)
