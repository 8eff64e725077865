-- Each refusal is one row of the table: its line is read as itself, and has the parts that tell it.
use Rattle.std.proofs.Common.{◌≡◌, ◌∙◌, ap, refl, sym}
use Rattle.hc_base.specs.declared.full.Full.TheVariants as full
use Rattle.hc_lex.specs.declared.fault.LexKind.TheVariants as lex
use Rattle.hc_transcript.specs.declared.refusal.Refusal.{Refusal}
use Rattle.hc_transcript.specs.declared.refusal.Refusal.TheVariants as refusal
use Rattle.hc_transcript.specs.declared.tag.RefusalTag.{RefusalTag}
use Rattle.hc_transcript.specs.declared.tag.BareTag.TheVariants as bare
use Rattle.hc_transcript.specs.declared.tag.NumberTag.TheVariants as number
use Rattle.hc_transcript.specs.declared.tag.NameTag.TheVariants as name
use Rattle.hc_transcript.specs.declared.tag.NamesTag.TheVariants as names
use Rattle.hc_transcript.specs.declared.tag.NumbersTag.TheVariants as numbers
use Rattle.hc_transcript.specs.declared.tag.RefusalTag.TheVariants as tag
use Rattle.hc_transcript.specs.Fields.{Content}
use Rattle.hc_transcript.specs.Table.{RefusalLine, refusal_fields, line_of, refusal_of}
use Rattle.hc_transcript.specs.Parts.{Held, parts_of}

-- the line of a refusal is read as this refusal
pub refusal_again : (r : Refusal) → refusal_of (line_of r).0 (line_of r).1 ≡ r
refusal_again (refusal.Lex kind at) = refl
refusal_again (refusal.Syntax at) = refl
refusal_again (refusal.TooDeep at) = refl
refusal_again refusal.Within = refl
refusal_again refusal.NoTransaction = refl
refusal_again (refusal.NoSavepoint savepoint) = refl
refusal_again (refusal.NoTable table) = refl
refusal_again (refusal.NoIndex index) = refl
refusal_again (refusal.Exists used) = refl
refusal_again (refusal.Reserved kept) = refl
refusal_again (refusal.TwoColumns column) = refl
refusal_again refusal.TwoKeys = refl
refusal_again (refusal.TooManyColumns table) = refl
refusal_again (refusal.NoColumn column) = refl
refusal_again (refusal.Ambiguous column) = refl
refusal_again (refusal.NoFunction function) = refl
refusal_again refusal.Mixed = refl
refusal_again refusal.Aggregate = refl
refusal_again (refusal.Arity given wanted) = refl
refusal_again (refusal.NoItem item) = refl
refusal_again refusal.NotItem = refl
refusal_again refusal.Overflow = refl
refusal_again refusal.NoMemory = refl
refusal_again (refusal.Rowid table) = refl
refusal_again refusal.Trees = refl
refusal_again (refusal.Full (full.Pages count floor)) = refl
refusal_again (refusal.Full (full.Numbers limit)) = refl
refusal_again (refusal.Full (full.Transactions limit)) = refl
refusal_again (refusal.TooBig length) = refl
refusal_again (refusal.Busy conn ord key) = refl
refusal_again (refusal.NotNull table column) = refl
refusal_again (refusal.Primary table key) = refl
refusal_again (refusal.Unique table index) = refl

-- the refusal that was made of a line has this line
pub line_again : (t : RefusalTag) (content : Content (refusal_fields t)) → line_of (refusal_of t content) ≡ (t, content)
line_again (tag.Bare bare.Within) content = refl
line_again (tag.Bare bare.NoTransaction) content = refl
line_again (tag.Bare bare.TwoKeys) content = refl
line_again (tag.Bare bare.Mixed) content = refl
line_again (tag.Bare bare.Aggregate) content = refl
line_again (tag.Bare bare.NotItem) content = refl
line_again (tag.Bare bare.Overflow) content = refl
line_again (tag.Bare bare.NoMemory) content = refl
line_again (tag.Bare bare.Trees) content = refl
line_again (tag.Number (number.Lex lex.Char)) content = refl
line_again (tag.Number (number.Lex lex.OpenText)) content = refl
line_again (tag.Number (number.Lex lex.BadBlob)) content = refl
line_again (tag.Number (number.Lex lex.TooLarge)) content = refl
line_again (tag.Number number.Syntax) content = refl
line_again (tag.Number number.TooDeep) content = refl
line_again (tag.Number number.Numbers) content = refl
line_again (tag.Number number.Transactions) content = refl
line_again (tag.Name name.NoSavepoint) content = refl
line_again (tag.Name name.NoTable) content = refl
line_again (tag.Name name.NoIndex) content = refl
line_again (tag.Name name.Exists) content = refl
line_again (tag.Name name.Reserved) content = refl
line_again (tag.Name name.TwoColumns) content = refl
line_again (tag.Name name.TooManyColumns) content = refl
line_again (tag.Name name.NoColumn) content = refl
line_again (tag.Name name.Ambiguous) content = refl
line_again (tag.Name name.NoFunction) content = refl
line_again (tag.Name name.Rowid) content = refl
line_again (tag.Names names.NotNull) content = refl
line_again (tag.Names names.Primary) content = refl
line_again (tag.Names names.Unique) content = refl
line_again (tag.Numbers numbers.Arity) content = refl
line_again (tag.Numbers numbers.Pages) content = refl
line_again tag.NoItem content = refl
line_again tag.TooBig content = refl
line_again tag.Busy content = refl

-- the line with these parts
line_from : Held → RefusalLine
line_from p = by p.tag
  where
    by : RefusalTag → RefusalLine
    by (tag.Bare t) = (tag.Bare t, tt)
    by (tag.Number t) = (tag.Number t, p.first)
    by (tag.Name t) = (tag.Name t, p.name)
    by (tag.Names t) = (tag.Names t, (p.name, p.other))
    by (tag.Numbers t) = (tag.Numbers t, (p.first, p.second))
    by tag.NoItem = (tag.NoItem, p.item)
    by tag.TooBig = (tag.TooBig, p.first)
    by tag.Busy = (tag.Busy, (p.first, (p.second, p.name)))

-- it is the line that had them
line_by_parts : (l : RefusalLine) → line_from (parts_of l) ≡ l
unfolding line_from
line_by_parts (tag.Bare t, x) = refl
line_by_parts (tag.Number t, x) = refl
line_by_parts (tag.Name t, x) = refl
line_by_parts (tag.Names t, x) = refl
line_by_parts (tag.Numbers t, x) = refl
line_by_parts (tag.NoItem, x) = refl
line_by_parts (tag.TooBig, x) = refl
line_by_parts (tag.Busy, x) = refl

-- refusals with the same parts are the same
pub same_by_parts : (r q : Refusal) → parts_of (line_of r) ≡ parts_of (line_of q) → r ≡ q
same_by_parts r q e =
    let lines : line_of r ≡ line_of q = sym (line_by_parts (line_of r)) ∙ ap line_from e ∙ line_by_parts (line_of q) in
    sym (refusal_again r) ∙ ap (λ (l : RefusalLine). refusal_of l.0 l.1) lines ∙ refusal_again q
