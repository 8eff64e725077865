use Rattle.std.proofs.Common.{inl, inr, subst, sym}
use Rattle.hc_lex.specs.Flaws.{IsFlaw}
use Rattle.hc_lex.specs.Tokens.{IsBlobMark}
use Rattle.hc_lex.proofs.BlobLemmas.{bad_blob, blob_here}
use Rattle.hc_lex.proofs.scanner.read_word_or_blob.Goals as goal
use Rattle.hc_lex.proofs.scanner.read_word_or_blob.Goals.{then-first-eq120-via-then-first-eq120, then-first-eq120-via-else-first-eq120+then-first-eq88}

pub returns-in-Some-skip_blob-clause-ok : goal.returns-in-Some-skip_blob-clause-ok
returns-in-Some-skip_blob-clause-ok c =
    let mark : IsBlobMark c.args.first = elim c.then-first-eq120.branch [
      | then-first-eq120-via-then-first-eq120 w ↦ inl w.if-first-eq120.true
      | then-first-eq120-via-else-first-eq120+then-first-eq88 w ↦ inr w.if-first-eq88.true
    ] in
    blob_here c.args.bytes.now c.args.first c.args.tail.now c.in-Some.digits.now _ c.requires.whole mark c.in-Some.ensures c.in-Some-skip_blob.ensures.some

pub returns-in-None-clause-err : goal.returns-in-None-clause-err
returns-in-None-clause-err c =
    let mark : IsBlobMark c.args.first = elim c.then-first-eq120.branch [
      | then-first-eq120-via-then-first-eq120 w ↦ inl w.if-first-eq120.true
      | then-first-eq120-via-else-first-eq120+then-first-eq88 w ↦ inr w.if-first-eq88.true
    ] in
    subst (λ flaw. IsFlaw flaw.kind flaw.offset c.args.bytes.now) (sym c.at_front.ensures)
    (bad_blob c.args.bytes.now c.args.first c.args.tail.now c.in-Some.digits.now c.requires.whole mark c.in-Some.ensures c.in-None.ensures.none)
