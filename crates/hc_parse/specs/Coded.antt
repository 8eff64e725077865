-- What the answer of code is for a run.
use Rattle.std.specs.Prelude.{◌≡◌, ◌<◌, ◌≤◌, length, ℕ, suc, ◌-◌, Bool, true, false, if◌then◌else◌, List, [], ◌∷◌, drop, Result, Ok, Err, ⊤}
use Rattle.hc_lex.specs.declared.token.TokenKind.{TokenKind}
use Rattle.hc_parse.specs.declared.cursor.Cursor.{Cursor}
use Rattle.hc_parse.specs.declared.source.Source.{Source}
use Rattle.hc_parse.specs.declared.stop.Stop.{Stop as Halt}
use Rattle.hc_parse.specs.declared.stop.Stop.TheVariants as halt
use Rattle.hc_parse.specs.declared.fault.ParseFault.{ParseFault}
use Rattle.hc_parse.specs.declared.fault.ParseFault.TheVariants.{Syntax, NoMemory}
use Rattle.hc_parse.specs.declared.fault.ParseFault.TheVariants.{TooDeep as TooDeepAt}
use Rattle.hc_grammar.specs.Grammar.{Grammar, Choice, Made}
use Rattle.hc_grammar.specs.Kinds.{is, among, head_is}
use Rattle.hc_grammar.specs.Runs.{Run, Runner, Unexpected, TooDeep}
use Rattle.hc_grammar.specs.Statements.{Parts, Part, OneColumn, OneRule, has_no_rule, column, key_rule}
use Rattle.hc_grammar.specs.Places.{run_of}
use Rattle.hc_parse.specs.Seen.{left, budget_of}

-- the answer is what the run gives, and the cursor is where it ends, unless memory ran out
abbrev pub Gives : {A : Type 0} → Source → Result A Halt → Cursor → Run A → Type 0
Gives source (Ok x) cursor run = run ≡ Ok (x, budget_of cursor, left source cursor)
Gives source (Err halt.Unexpected) cursor run = run ≡ Err (Unexpected, left source cursor)
Gives source (Err halt.TooDeep) cursor run = run ≡ Err (TooDeep, left source cursor)
Gives source (Err halt.NoMemory) cursor run = ⊤

-- the run of a grammar from a cursor on, where so many levels may be opened
abbrev pub within : {A : Type 0} → Source → ℕ → Grammar A → Cursor → Run A
within source levels g cursor = run_of levels g (budget_of cursor) (left source cursor)

-- the same where no level is open
abbrev pub from : {A : Type 0} → Source → Grammar A → Cursor → Run A
from source g cursor = within source 100 g cursor

-- the cursor is after the first lexeme
abbrev pub Advances : Source → Cursor → Cursor → Type 0
Advances source before after = (budget_of after ≡ budget_of before) × (left source after ≡ drop 1 (left source before))

-- what a test for this kind tells of the first lexeme
abbrev pub Tells : Source → TokenKind → Cursor → Bool → Type 0
Tells source kind cursor found = (found ≡ head_is (is kind) (left source cursor)) × (found ≡ head_is (among (kind ∷ [])) (left source cursor))

-- a lexeme of this kind is passed where it is next, and only there
abbrev pub Accepts : Source → TokenKind → Cursor → Cursor → Bool → Type 0
Accepts source kind before after true = Tells source kind before true × Advances source before after
Accepts source kind before after false = Tells source kind before false × (budget_of after ≡ budget_of before) × (left source after ≡ left source before)

-- a lexeme of this kind is passed, and another one is unexpected
abbrev pub Expects : Source → TokenKind → Cursor → Cursor → Result Unit Halt → Type 0
Expects source kind before after (Ok u) = Accepts source kind before after true
Expects source kind before after (Err halt.Unexpected) = Accepts source kind before after false
Expects source kind before after (Err halt.TooDeep) = ⊥
Expects source kind before after (Err halt.NoMemory) = ⊥

-- the same of one that opens a level, for which there is room
abbrev pub Opens : Source → TokenKind → ℕ → Cursor → Cursor → Result Unit Halt → Type 0
Opens source kind levels before after (Ok u) = (levels ≡ suc (levels - 1)) × Accepts source kind before after true
Opens source kind levels before after (Err halt.Unexpected) = Accepts source kind before after false
Opens source kind levels before after (Err halt.TooDeep) =
    (levels ≡ 0) × Tells source kind before true × (budget_of after ≡ budget_of before) × (left source after ≡ left source before)
Opens source kind levels before after (Err halt.NoMemory) = ⊥

-- an operator is taken of those that may still come
abbrev pub Charges : Cursor → Cursor → Result Unit Halt → Type 0
Charges before after (Ok u) = (before.operators ≡ suc after.operators) × (after.tables ≡ before.tables) × (after.at ≡ before.at)
Charges before after (Err halt.Unexpected) = ⊥
Charges before after (Err halt.TooDeep) = (before.operators ≡ 0) × (after ≡ before)
Charges before after (Err halt.NoMemory) = ⊥

-- a column or a rule after these parts
abbrev pub part_after : Parts → Runner Part
part_after parts budget tokens =
    if has_no_rule parts
    then run_of 100 (Choice (Made OneColumn column) (Made OneRule key_rule)) budget tokens
    else run_of 100 (Made OneRule key_rule) budget tokens

-- a table is taken of those that may still come
abbrev pub ChargesTable : Cursor → Cursor → Result Unit Halt → Type 0
ChargesTable before after (Ok u) = (before.tables ≡ suc after.tables) × (after.operators ≡ before.operators) × (after.at ≡ before.at)
ChargesTable before after (Err halt.Unexpected) = (before.tables ≡ 0) × (after ≡ before)
ChargesTable before after (Err halt.TooDeep) = ⊥
ChargesTable before after (Err halt.NoMemory) = ⊥

-- nothing may follow what is found
abbrev pub AtEnd : {A : Type 0} → Source → Cursor → Result A Halt → Result A Halt → Type 0
AtEnd source cursor (Ok x) (Ok y) = (y ≡ x) × (length source.tokens.now ≤ cursor.at)
AtEnd source cursor (Ok x) (Err halt.Unexpected) = cursor.at < length source.tokens.now
AtEnd source cursor (Ok x) (Err halt.TooDeep) = ⊥
AtEnd source cursor (Ok x) (Err halt.NoMemory) = ⊥
AtEnd source cursor (Err stop) found = found ≡ Err stop

-- the fault that a stop at a place is
abbrev pub fault_of : Halt → ℕ → ParseFault
fault_of halt.Unexpected at = Syntax at
fault_of halt.TooDeep at = TooDeepAt at
fault_of halt.NoMemory at = NoMemory
