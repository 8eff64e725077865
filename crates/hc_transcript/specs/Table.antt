-- The table of refusals: each one as its tag with what its fields hold, and back.
use Rattle.std.specs.Prelude.{ℕ, List, [], codes}
use Rattle.hc_base.specs.declared.full.Full.TheVariants as full
use Rattle.hc_transcript.specs.declared.refusal.Refusal.{Refusal}
use Rattle.hc_transcript.specs.declared.refusal.Refusal.TheVariants as refusal
use Rattle.hc_transcript.specs.declared.table.Told.{Told}
use Rattle.hc_transcript.specs.declared.table.Told.TheVariants as told
use Rattle.hc_transcript.specs.declared.tag.BareTag.{BareTag}
use Rattle.hc_transcript.specs.declared.tag.BareTag.TheVariants as bare
use Rattle.hc_transcript.specs.declared.tag.NumberTag.{NumberTag}
use Rattle.hc_transcript.specs.declared.tag.NumberTag.TheVariants as number
use Rattle.hc_transcript.specs.declared.tag.NameTag.{NameTag}
use Rattle.hc_transcript.specs.declared.tag.NameTag.TheVariants as name
use Rattle.hc_transcript.specs.declared.tag.NamesTag.{NamesTag}
use Rattle.hc_transcript.specs.declared.tag.NamesTag.TheVariants as names
use Rattle.hc_transcript.specs.declared.tag.NumbersTag.{NumbersTag}
use Rattle.hc_transcript.specs.declared.tag.NumbersTag.TheVariants as numbers
use Rattle.hc_transcript.specs.declared.tag.RefusalTag.{RefusalTag}
use Rattle.hc_transcript.specs.declared.tag.RefusalTag.TheVariants as tag
use Rattle.hc_transcript.specs.declared.tag.LineTag.{LineTag}
use Rattle.hc_transcript.specs.declared.tag.LineTag.TheVariants as line
use Rattle.hc_transcript.specs.Fields.{Nothing, Number32, Number64, Integer, Name, Key, Fields, Values, Last, Next, Content}

-- ---- the fields of each line

-- the words between two numbers, after a space
abbrev pub between : NumbersTag → List ℕ
between numbers.Arity = codes "of "
between numbers.Pages = codes "floor "

-- the fields of a refusal
abbrev pub refusal_fields : RefusalTag → Fields
refusal_fields (tag.Bare t) = Last Nothing
refusal_fields (tag.Number t) = Last Number32
refusal_fields (tag.Name t) = Last Name
refusal_fields (tag.Names t) = Next Name [] (Last Name)
refusal_fields (tag.Numbers t) = Next Number32 (between t) (Last Number32)
refusal_fields tag.NoItem = Last Integer
refusal_fields tag.TooBig = Last Number64
refusal_fields tag.Busy = Next Number32 (codes "txn ") (Next Number32 (codes "key ") (Last Key))

-- the fields of a line
abbrev pub fields : LineTag → Fields
fields line.Conn = Last Number32
fields line.Row = Values
fields line.Ok = Last Number64
fields (line.Ending t) = Last Number32
fields (line.Refusal t) = refusal_fields t

-- ---- refusals as lines

-- a refusal's tag, and what its fields hold
abbrev pub RefusalLine : Type 0
RefusalLine = (t : RefusalTag) × Content (refusal_fields t)

-- the tag of a refusal, and what its fields hold
abbrev pub line_of : Refusal → RefusalLine
line_of (refusal.Lex kind at) = (tag.Number (number.Lex kind), at)
line_of (refusal.Syntax at) = (tag.Number number.Syntax, at)
line_of (refusal.TooDeep at) = (tag.Number number.TooDeep, at)
line_of refusal.Within = (tag.Bare bare.Within, tt)
line_of refusal.NoTransaction = (tag.Bare bare.NoTransaction, tt)
line_of (refusal.NoSavepoint savepoint) = (tag.Name name.NoSavepoint, savepoint)
line_of (refusal.NoTable table) = (tag.Name name.NoTable, table)
line_of (refusal.NoIndex index) = (tag.Name name.NoIndex, index)
line_of (refusal.Exists used) = (tag.Name name.Exists, used)
line_of (refusal.Reserved kept) = (tag.Name name.Reserved, kept)
line_of (refusal.TwoColumns column) = (tag.Name name.TwoColumns, column)
line_of refusal.TwoKeys = (tag.Bare bare.TwoKeys, tt)
line_of (refusal.TooManyColumns table) = (tag.Name name.TooManyColumns, table)
line_of (refusal.NoColumn column) = (tag.Name name.NoColumn, column)
line_of (refusal.Ambiguous column) = (tag.Name name.Ambiguous, column)
line_of (refusal.NoFunction function) = (tag.Name name.NoFunction, function)
line_of refusal.Mixed = (tag.Bare bare.Mixed, tt)
line_of refusal.Aggregate = (tag.Bare bare.Aggregate, tt)
line_of (refusal.Arity given wanted) = (tag.Numbers numbers.Arity, (given, wanted))
line_of (refusal.NoItem item) = (tag.NoItem, item)
line_of refusal.NotItem = (tag.Bare bare.NotItem, tt)
line_of refusal.Overflow = (tag.Bare bare.Overflow, tt)
line_of refusal.NoMemory = (tag.Bare bare.NoMemory, tt)
line_of (refusal.Rowid table) = (tag.Name name.Rowid, table)
line_of refusal.Trees = (tag.Bare bare.Trees, tt)
line_of (refusal.Full (full.Pages count floor)) = (tag.Numbers numbers.Pages, (count, floor.0))
line_of (refusal.Full (full.Numbers limit)) = (tag.Number number.Numbers, limit)
line_of (refusal.Full (full.Transactions limit)) = (tag.Number number.Transactions, limit)
line_of (refusal.TooBig length) = (tag.TooBig, length)
line_of (refusal.Busy conn ord key) = (tag.Busy, (conn, (ord, key)))
line_of (refusal.NotNull table column) = (tag.Names names.NotNull, (table, column))
line_of (refusal.Primary table key) = (tag.Names names.Primary, (table, key))
line_of (refusal.Unique table index) = (tag.Names names.Unique, (table, index))

-- what the code tells of a refusal
abbrev pub line_told : Told → RefusalLine
line_told (told.Bare t) = (tag.Bare t, tt)
line_told (told.Number t n) = (tag.Number t, n)
line_told (told.Name t x) = (tag.Name t, x.now)
line_told (told.Names t x y) = (tag.Names t, (x.now, y.now))
line_told (told.Numbers t m n) = (tag.Numbers t, (m, n))
line_told (told.NoItem n) = (tag.NoItem, n)
line_told (told.TooBig n) = (tag.TooBig, n)
line_told (told.Busy m n key) = (tag.Busy, (m, (n, key.now)))

-- ---- lines as refusals

abbrev pub bare_of : BareTag → Refusal
bare_of bare.Within = refusal.Within
bare_of bare.NoTransaction = refusal.NoTransaction
bare_of bare.TwoKeys = refusal.TwoKeys
bare_of bare.Mixed = refusal.Mixed
bare_of bare.Aggregate = refusal.Aggregate
bare_of bare.NotItem = refusal.NotItem
bare_of bare.Overflow = refusal.Overflow
bare_of bare.NoMemory = refusal.NoMemory
bare_of bare.Trees = refusal.Trees

abbrev pub number_of : NumberTag → ℕ → Refusal
number_of (number.Lex kind) n = refusal.Lex kind n
number_of number.Syntax n = refusal.Syntax n
number_of number.TooDeep n = refusal.TooDeep n
number_of number.Numbers n = refusal.Full (full.Numbers n)
number_of number.Transactions n = refusal.Full (full.Transactions n)

abbrev pub name_of : NameTag → List ℕ → Refusal
name_of name.NoSavepoint t = refusal.NoSavepoint t
name_of name.NoTable t = refusal.NoTable t
name_of name.NoIndex t = refusal.NoIndex t
name_of name.Exists t = refusal.Exists t
name_of name.Reserved t = refusal.Reserved t
name_of name.TwoColumns t = refusal.TwoColumns t
name_of name.TooManyColumns t = refusal.TooManyColumns t
name_of name.NoColumn t = refusal.NoColumn t
name_of name.Ambiguous t = refusal.Ambiguous t
name_of name.NoFunction t = refusal.NoFunction t
name_of name.Rowid t = refusal.Rowid t

abbrev pub names_of : NamesTag → List ℕ → List ℕ → Refusal
names_of names.NotNull t u = refusal.NotNull t u
names_of names.Primary t u = refusal.Primary t u
names_of names.Unique t u = refusal.Unique t u

abbrev pub numbers_of : NumbersTag → ℕ → ℕ → Refusal
numbers_of numbers.Arity m n = refusal.Arity m n
numbers_of numbers.Pages m n = refusal.Full (full.Pages m (record { 0 = n }))

-- the refusal with this tag, and with this in its fields
abbrev pub refusal_of : (t : RefusalTag) → Content (refusal_fields t) → Refusal
refusal_of (tag.Bare t) content = bare_of t
refusal_of (tag.Number t) content = number_of t content
refusal_of (tag.Name t) content = name_of t content
refusal_of (tag.Names t) content = names_of t content.0 content.1
refusal_of (tag.Numbers t) content = numbers_of t content.0 content.1
refusal_of tag.NoItem content = refusal.NoItem content
refusal_of tag.TooBig content = refusal.TooBig content
refusal_of tag.Busy content = refusal.Busy content.0 content.1.0 content.1.1
