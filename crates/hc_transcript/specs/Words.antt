-- The words with which each line of the output opens, each once. No line's words begin another's.
use Rattle.std.specs.Prelude.{ℕ, List, codes}
use Rattle.hc_lex.specs.declared.fault.LexKind.TheVariants as lex
use Rattle.hc_transcript.specs.declared.tag.EndingTag.{EndingTag}
use Rattle.hc_transcript.specs.declared.tag.EndingTag.TheVariants as ending
use Rattle.hc_transcript.specs.declared.tag.BareTag.{BareTag}
use Rattle.hc_transcript.specs.declared.tag.BareTag.TheVariants as bare
use Rattle.hc_transcript.specs.declared.tag.NumberTag.{NumberTag}
use Rattle.hc_transcript.specs.declared.tag.NumberTag.TheVariants as number
use Rattle.hc_transcript.specs.declared.tag.NameTag.{NameTag}
use Rattle.hc_transcript.specs.declared.tag.NameTag.TheVariants as name
use Rattle.hc_transcript.specs.declared.tag.NamesTag.{NamesTag}
use Rattle.hc_transcript.specs.declared.tag.NamesTag.TheVariants as names
use Rattle.hc_transcript.specs.declared.tag.NumbersTag.{NumbersTag}
use Rattle.hc_transcript.specs.declared.tag.NumbersTag.TheVariants as numbers
use Rattle.hc_transcript.specs.declared.tag.RefusalTag.{RefusalTag}
use Rattle.hc_transcript.specs.declared.tag.RefusalTag.TheVariants as tag
use Rattle.hc_transcript.specs.declared.tag.LineTag.{LineTag}
use Rattle.hc_transcript.specs.declared.tag.LineTag.TheVariants as line

-- how a transaction ended
abbrev pub ending_words : EndingTag → List ℕ
ending_words ending.Commit = codes "commit "
ending_words ending.Snapshot = codes "snapshot "
ending_words ending.RolledBack = codes "rolled back "

-- refusals of which this is the whole text
abbrev pub bare_words : BareTag → List ℕ
bare_words bare.Within = codes "error 1 within a transaction"
bare_words bare.NoTransaction = codes "error 1 no transaction"
bare_words bare.TwoKeys = codes "error 1 two keys"
bare_words bare.Mixed = codes "error 1 mixed classes"
bare_words bare.Aggregate = codes "error 1 aggregate"
bare_words bare.NotItem = codes "error 1 not an item"
bare_words bare.Overflow = codes "error 1 overflow"
bare_words bare.NoMemory = codes "error 7"
bare_words bare.Trees = codes "error 13 trees"

-- a number follows
abbrev pub number_words : NumberTag → List ℕ
number_words (number.Lex lex.Char) = codes "error 1 lex Char at "
number_words (number.Lex lex.OpenText) = codes "error 1 lex OpenText at "
number_words (number.Lex lex.BadBlob) = codes "error 1 lex BadBlob at "
number_words (number.Lex lex.TooLarge) = codes "error 1 lex TooLarge at "
number_words number.Syntax = codes "error 1 syntax at "
number_words number.TooDeep = codes "error 1 too deep at "
number_words number.Numbers = codes "error 13 numbers "
number_words number.Transactions = codes "error 13 transactions "

-- a name follows
abbrev pub name_words : NameTag → List ℕ
name_words name.NoSavepoint = codes "error 1 no savepoint "
name_words name.NoTable = codes "error 1 no table "
name_words name.NoIndex = codes "error 1 no index "
name_words name.Exists = codes "error 1 exists "
name_words name.Reserved = codes "error 1 reserved "
name_words name.TwoColumns = codes "error 1 two columns "
name_words name.TooManyColumns = codes "error 1 too many columns "
name_words name.NoColumn = codes "error 1 no column "
name_words name.Ambiguous = codes "error 1 ambiguous "
name_words name.NoFunction = codes "error 1 no function "
name_words name.Rowid = codes "error 13 rowid "

-- two names follow
abbrev pub names_words : NamesTag → List ℕ
names_words names.NotNull = codes "error 1299 "
names_words names.Primary = codes "error 1555 "
names_words names.Unique = codes "error 2067 "

-- two numbers follow, with words between them
abbrev pub numbers_words : NumbersTag → List ℕ
numbers_words numbers.Arity = codes "error 1 arity "
numbers_words numbers.Pages = codes "error 13 pages "

abbrev pub words_between : NumbersTag → List ℕ
words_between numbers.Arity = codes " of "
words_between numbers.Pages = codes " floor "

-- refusals
abbrev pub refusal_words : RefusalTag → List ℕ
refusal_words (tag.Bare t) = bare_words t
refusal_words (tag.Number t) = number_words t
refusal_words (tag.Name t) = name_words t
refusal_words (tag.Names t) = names_words t
refusal_words (tag.Numbers t) = numbers_words t
refusal_words tag.NoItem = codes "error 1 no item "
refusal_words tag.TooBig = codes "error 18 "
refusal_words tag.Busy = codes "error 517 conn "

-- every line
abbrev pub tag_words : LineTag → List ℕ
tag_words line.Conn = codes "conn "
tag_words line.Row = codes "row "
tag_words line.Ok = codes "ok "
tag_words (line.Ending t) = ending_words t
tag_words (line.Refusal t) = refusal_words t
