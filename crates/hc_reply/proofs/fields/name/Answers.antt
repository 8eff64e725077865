use Rattle.std.proofs.Common.{ℕ, List, ◌++◌}
use Rattle.std.specs.Str.{IsUtf8}
use Rattle.std.proofs.lemmas.Result.{err_from_is_err_and}
use Rattle.hc_transcript.specs.Literals.{text_literal}
use Rattle.hc_reply.specs.Mismatches.{Anything, NoQuote}
use Rattle.hc_reply.specs.Words.{IsWord, the_word}
use Rattle.hc_reply.proofs.Sequences.{mismatch_as, mismatch_before_word, mismatch_in_word}
use Rattle.hc_reply.proofs.Texts.{text_free}
use Rattle.hc_reply.proofs.FirstBytes.{no_quote_there}
use Rattle.hc_reply.proofs.fields.name.Goals as goal

pub returns-in_err-text-clause-stop : goal.returns-in_err-text-clause-stop
returns-in_err-text-clause-stop c =
    let p = err_from_is_err_and c.from_residual.result c.from_residual.ensures.1 in
    rw (p.1, p.2)
    (mismatch_as NoQuote Anything IsUtf8 text_literal IsUtf8 (λ (t : List ℕ). text_literal t ++ c.args.words.now) c.args.bytes.now c.args.bytes.now
    (λ rest s. mismatch_before_word NoQuote IsUtf8 text_literal c.args.words.now c.requires.ends c.args.bytes.now rest s) c.in_err-text.field-0.0 c.in_err-text.ensures.stop)

pub returns-in_err-rest-clause-stop : goal.returns-in_err-rest-clause-stop
returns-in_err-rest-clause-stop c =
    let p = err_from_is_err_and c.from_residual-in_err-rest.result c.from_residual-in_err-rest.ensures.1 in
    rw (p.1, p.2)
    (mismatch_as Anything Anything IsWord (the_word c.args.words.now) IsUtf8 (λ (t : List ℕ). text_literal t ++ c.args.words.now) c.in_ok-text.after.now c.args.bytes.now
    (λ rest s. mismatch_in_word NoQuote IsUtf8 text_literal c.args.words.now c.requires.ends text_free no_quote_there
    c.args.bytes.now c.in_ok-text.after.now rest c.in_ok-text.text c.in_ok-text.ensures.found.0 c.in_ok-text.ensures.found.1 c.in_ok-text.ensures.found.2 s) c.in_err-rest.field-0.0 c.in_err-rest.ensures.stop)
