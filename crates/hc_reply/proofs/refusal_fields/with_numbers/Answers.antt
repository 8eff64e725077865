use Rattle.std.proofs.Common.{◌≡◌, ◌∙◌, ap, ℕ, List, ◌∷◌, ◌++◌, subst, refl}
use Rattle.std.specs.Prelude.{decimal}
use Rattle.std.proofs.lemmas.Result.{err_from_is_err_and}
use Rattle.hc_transcript.specs.declared.tag.NumbersTag.{NumbersTag}
use Rattle.hc_transcript.specs.declared.tag.NumbersTag.TheVariants.{Arity, Pages}
use Rattle.hc_transcript.specs.Words.{words_between}
use Rattle.hc_transcript.specs.Table.{between}
use Rattle.hc_reply.specs.Mismatches.{Anything, MismatchIn}
use Rattle.hc_transcript.specs.Fields.{Number32, Last, IsHeld}
use Rattle.hc_reply.proofs.FieldByField.{first_fails, later_fails, next_found}
use Rattle.hc_reply.proofs.refusal_fields.with_numbers.Goals as goal

-- the words between two numbers begin with a space
spaced : (tag : NumbersTag) → words_between tag ≡ 32 ∷ between tag
spaced Arity = refl
spaced Pages = refl

pub returns-in_err-first-clause-stop : goal.returns-in_err-first-clause-stop
returns-in_err-first-clause-stop c =
    let p = err_from_is_err_and c.from_residual.result c.from_residual.ensures.1 in
    rw (p.1, p.2)
    (first_fails Number32 (between c.args.tag) (Last Number32) c.args.bytes.now c.in_err-first.field-0.0
    (subst (λ (w : List ℕ). MismatchIn Anything (IsHeld Number32) (λ n. decimal n ++ w) c.args.bytes.now c.in_err-first.field-0.0) (c.words_between.ensures ∙ spaced c.args.tag) c.in_err-first.ensures.stop))

pub returns-in_err-second-clause-stop : goal.returns-in_err-second-clause-stop
returns-in_err-second-clause-stop c =
    let p = err_from_is_err_and c.from_residual-in_err-second.result c.from_residual-in_err-second.ensures.1 in
    rw (p.1, p.2)
    (later_fails Number32 (between c.args.tag) (Last Number32) c.args.bytes.now c.in_ok-first.after.now c.in_ok-first.first c.in_ok-first.ensures.found.0
    (c.in_ok-first.ensures.found.1 ∙ ap (λ (w : List ℕ). (decimal c.in_ok-first.first ++ w) ++ c.in_ok-first.after.now) (c.words_between.ensures ∙ spaced c.args.tag))
    c.in_err-second.field-0.0 c.in_err-second.ensures.stop)

pub returns-clause-found : goal.returns-clause-found
returns-clause-found c = (
  (c.in_ok-first.first, c.in_ok-second.second),
  (c.in_ok-first.ensures.found.0, c.in_ok-second.ensures.found.0),
  c.numbers_of.ensures,
  next_found Number32 (between c.args.tag) (Last Number32) c.args.bytes.now c.in_ok-first.after.now c.in_ok-second.rest.now c.in_ok-first.first c.in_ok-second.second
      (c.in_ok-first.ensures.found.1 ∙ ap (λ (w : List ℕ). (decimal c.in_ok-first.first ++ w) ++ c.in_ok-first.after.now) (c.words_between.ensures ∙ spaced c.args.tag)) c.in_ok-second.ensures.found.1,
)
