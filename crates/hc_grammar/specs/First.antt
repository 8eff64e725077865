-- Which lexemes may begin a phrase, which go on with one that is whole, and where one lexeme is enough to choose by.
use Rattle.std.specs.Prelude.{◌==◌, ◌||◌, ◌&&◌, not, Bool, true, false, if◌then◌else◌, List, [], ◌∷◌, ◌++◌}
use Rattle.hc_lex.specs.declared.token.TokenKind.{TokenKind}
use Rattle.hc_lex.specs.declared.token.TokenKind.TheVariants as kind
use Rattle.hc_lex.specs.declared.keyword.Keyword.TheVariants as word
use Rattle.hc_grammar.specs.Kinds.{kind_number}
use Rattle.hc_grammar.specs.Terminals.{Terminal, Name, Literal, Integer, Negative, Direction, Kinds, kinds_of, left_of}
use Rattle.hc_grammar.specs.Grammar.{Grammar, Nothing, One, Word, Level, Both, Depending, Made, Choice, Chain, Phased, Within, Begin, Place, Whole, Negation, Signed, Asked}

-- what an operand of a sign begins with
abbrev pub operand_kinds : List TokenKind
operand_kinds =
    kind.Minus ∷ kind.Plus ∷ kind.Keyword word.Null ∷ kind.Text ∷ kind.Blob ∷ kind.Integer 0 ∷ kind.Name ∷ kind.QuotedName ∷ kind.LeftParen ∷ []

-- what goes on after a name
abbrev pub name_ends : List TokenKind
name_ends = kind.Dot ∷ kind.LeftParen ∷ []

-- what goes on after an operand of NOT
abbrev pub operator_kinds : List TokenKind
operator_kinds =
    kind.DoubleBar ∷ kind.Star ∷ kind.Slash ∷ kind.Percent ∷ kind.Plus ∷ kind.Minus ∷ kind.Less ∷ kind.LessEqual ∷ kind.Greater ∷ kind.GreaterEqual
    ∷ kind.Equal ∷ kind.DoubleEqual ∷ kind.LessGreater ∷ kind.NotEqual ∷ kind.Keyword word.Is ∷ kind.Keyword word.Not ∷ kind.Keyword word.In
    ∷ kind.Keyword word.Like ∷ kind.Keyword word.Between ∷ []

-- what a place begins with
abbrev pub place_first : {A : Type 0} → Place A → List TokenKind
place_first Whole = kind.Keyword word.Not ∷ operand_kinds
place_first Negation = kind.Keyword word.Not ∷ operand_kinds
place_first Signed = operand_kinds
place_first Asked = kind.Star ∷ kind.Keyword word.Not ∷ operand_kinds

-- what goes on after a place
abbrev pub place_ends : {A : Type 0} → Place A → List TokenKind
place_ends Whole = kind.Keyword word.And ∷ kind.Keyword word.Or ∷ name_ends ++ operator_kinds
place_ends Negation = name_ends ++ operator_kinds
place_ends Signed = name_ends
place_ends Asked = kind.Keyword word.As ∷ kind.Name ∷ kind.QuotedName ∷ kind.Keyword word.And ∷ kind.Keyword word.Or ∷ name_ends ++ operator_kinds

-- a phrase may have no lexeme
abbrev pub nullable : {A : Type 0} → Grammar A → Bool
nullable (Nothing x) = true
nullable (One label terminal) = false
nullable (Word label kind g) = false
nullable (Level kind g) = false
nullable (Both f g h) = nullable g && nullable h
nullable (Depending f g test h k) = nullable g && (nullable h || nullable k)
nullable (Made f g) = nullable g
nullable (Choice g h) = nullable g || nullable h
nullable (Chain g h join) = nullable g
nullable (Phased g test h k join) = nullable g
nullable (Within place) = false
nullable (Begin g) = nullable g

-- these kinds where the test holds
abbrev pub where_true : Bool → List TokenKind → List TokenKind
where_true true kinds = kinds
where_true false kinds = []

-- what a phrase begins with
abbrev pub first : {A : Type 0} → Grammar A → List TokenKind
first (Nothing x) = []
first (One label terminal) = kinds_of terminal
first (Word label kind g) = kind ∷ []
first (Level kind g) = kind ∷ []
first (Both f g h) = first g ++ where_true (nullable g) (first h)
first (Depending f g test h k) = first g ++ where_true (nullable g) (first h ++ first k)
first (Made f g) = first g
first (Choice g h) = first g ++ first h
first (Chain g h join) = first g ++ where_true (nullable g) (first h)
first (Phased g test h k join) = first g ++ where_true (nullable g) (first h ++ first k)
first (Within place) = place_first place
first (Begin g) = first g

-- what goes on after a phrase that is whole
abbrev pub ends : {A : Type 0} → Grammar A → List TokenKind
ends (Nothing x) = []
ends (One label terminal) = []
ends (Word label kind g) = ends g
ends (Level kind g) = ends g
ends (Both f g h) = ends h ++ where_true (nullable h) (first h ++ ends g)
ends (Depending f g test h k) = ends h ++ (ends k ++ where_true (nullable h || nullable k) (first h ++ (first k ++ ends g)))
ends (Made f g) = ends g
ends (Choice g h) = ends g ++ (ends h ++ where_true (nullable h) (first g))
ends (Chain g h join) = first h ++ (ends h ++ ends g)
ends (Phased g test h k join) = (first h ++ first k) ++ ((ends h ++ ends k) ++ ends g)
ends (Within place) = place_ends place
ends (Begin g) = ends g

-- one of these kinds is that kind
abbrev pub has_kind : List TokenKind → TokenKind → Bool
has_kind [] other = false
has_kind (kind ∷ kinds) other = if kind_number kind == kind_number other then true else has_kind kinds other

-- no kind is in both
abbrev pub apart : List TokenKind → List TokenKind → Bool
apart [] others = true
apart (kind ∷ kinds) others = not (has_kind others kind) && apart kinds others

-- each of these kinds is among the others
abbrev pub included : List TokenKind → List TokenKind → Bool
included [] others = true
included (kind ∷ kinds) others = has_kind others kind && included kinds others

-- the number of the kind tells it
abbrev pub is_plain : TokenKind → Bool
is_plain kind = not (kind_number kind == 2) && not (kind_number kind == 77)

abbrev pub are_plain : List TokenKind → Bool
are_plain [] = true
are_plain (kind ∷ kinds) = is_plain kind && are_plain kinds

-- no kind comes twice
abbrev pub are_distinct : List TokenKind → Bool
are_distinct [] = true
are_distinct (kind ∷ kinds) = not (has_kind kinds kind) && are_distinct kinds

-- there is one
abbrev pub is_filled : {A : Type 0} → List A → Bool
is_filled [] = false
is_filled (x ∷ xs) = true

-- a lexeme has one meaning as a terminal
abbrev pub is_clear : {A : Type 0} → Terminal A → Bool
is_clear Name = true
is_clear Literal = true
is_clear Integer = true
is_clear Negative = true
is_clear Direction = true
is_clear (Kinds table) = are_plain (left_of table) && (are_distinct (left_of table) && is_filled table)

-- one lexeme is enough to choose by
abbrev pub is_clear_by_one : {A : Type 0} → Grammar A → Bool
is_clear_by_one (Nothing x) = true
is_clear_by_one (One label terminal) = is_clear terminal
is_clear_by_one (Word label kind g) = is_plain kind && is_clear_by_one g
is_clear_by_one (Level kind g) = is_plain kind && is_clear_by_one g
is_clear_by_one (Both f g h) = is_clear_by_one g && (is_clear_by_one h && apart (ends g) (first h))
is_clear_by_one (Depending f g test h k) = is_clear_by_one g && (is_clear_by_one h && (is_clear_by_one k && apart (ends g) (first h ++ first k)))
is_clear_by_one (Made f g) = is_clear_by_one g
is_clear_by_one (Choice g h) = is_clear_by_one g && (is_clear_by_one h && (not (nullable g) && apart (first g) (first h)))
is_clear_by_one (Chain g h join) = is_clear_by_one g && (is_clear_by_one h && (not (nullable h) && apart (ends g ++ ends h) (first h)))
is_clear_by_one (Phased g test h k join) =
    is_clear_by_one g && (is_clear_by_one h && (is_clear_by_one k && (not (nullable h) && (not (nullable k)
    && apart (ends g ++ (ends h ++ ends k)) (first h ++ first k)))))
is_clear_by_one (Within place) = true
is_clear_by_one (Begin g) = is_clear_by_one g && not (nullable g)
