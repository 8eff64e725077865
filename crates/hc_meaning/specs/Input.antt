-- The language that is read: statements, with blanks before, between and after them.
use Rattle.std.specs.Prelude.{◌≡◌, ◌⊎◌, ℕ, ◌^◌, ◌<◌, ◌≤◌, ℤ, pos, List, [], ◌∷◌, ◌++◌, length, codes, decimal}
use Rattle.std.specs.List.{AllByRecursion}
use Rattle.hc_meaning.specs.declared.limits.TheConstants.{MAX_INPUT, MAX_STATEMENTS}
use Rattle.hc_meaning.specs.declared.statement.Statement.{Statement}
use Rattle.hc_meaning.specs.declared.statement.Statement.TheVariants.{Insert, Select}
use Rattle.hc_meaning.specs.declared.transaction.Script.{Script}

-- a space or a line feed
abbrev pub IsBlankByte : ℕ → Type 0
IsBlankByte b = (b ≡ 32) ⊎ (b ≡ 10)

-- any number of them
abbrev pub IsBlank : List ℕ → Type 0
IsBlank text = AllByRecursion IsBlankByte text

-- `0`, or decimal digits that do not begin with 0, up to the greatest i64
abbrev pub IsNumber : List ℕ → ℤ → Type 0
IsNumber text n = (k : ℕ) × (k < 2 ^ 63) × (n ≡ pos k) × (text ≡ decimal k)

-- the text of a statement, written exactly so
abbrev pub IsStatement : List ℕ → Statement → Type 0
IsStatement text (Insert id v) = (a b : List ℕ) × IsNumber a id × IsNumber b v
    × (text ≡ codes "INSERT INTO t VALUES(" ++ a ++ codes "," ++ b ++ codes ");")
IsStatement text (Select id) = (a : List ℕ) × IsNumber a id
    × (text ≡ codes "SELECT v FROM t WHERE id=" ++ a ++ codes ";")

-- a script: each statement with the blanks before it, and blanks at the end
abbrev pub IsScript : List ℕ → List Statement → Type 0
IsScript text [] = IsBlank text
IsScript text (statement ∷ statements) = (blank written rest : List ℕ) × IsBlank blank × IsStatement written statement
    × (text ≡ blank ++ written ++ rest) × IsScript rest statements

-- The input of a run: the script of connection 0, which is the only one, within both limits.
abbrev pub IsInput : List ℕ → List Script → Type 0
IsInput input scripts = (statements : List Statement) × IsScript input statements
    × (length input ≤ MAX_INPUT) × (length statements ≤ MAX_STATEMENTS) × (scripts ≡ record { conn = 0; statements = statements } ∷ [])

-- the bytes are an input
abbrev pub IsOfForm : List ℕ → Type 0
IsOfForm input = (scripts : List Script) × IsInput input scripts

-- they are none: not in the language, or over one of its limits
abbrev pub BreaksForm : List ℕ → Type 0
BreaksForm input = (scripts : List Script) → IsInput input scripts → ⊥
