use Rattle.std.proofs.Common.{◌≡◌, ◌∙◌, ◌-◌, ap, sym, subst, arith, Option, Some, None}
use Rattle.std.specs.Prelude.{slice_get}
use Rattle.std.proofs.lemmas.Bool.{false≢true}
use Rattle.hc_meaning.specs.declared.transaction.Transaction.{Transaction}
use Rattle.hc_transcript.specs.Text.{ending_number}
use Rattle.hc_meaning.proofs.reference.commits.is_placed.Goals as goal

pub returns-then-k-eq0 : goal.returns-then-k-eq0
returns-then-k-eq0 c = (λ no. absurd (false≢true no), λ all. absurd (omega (arith, c.if-k-eq0.true, (all c.in-Commit.k (sym c.in-Commit.ensures)).0)))

pub returns-in-Some : goal.returns-in-Some
returns-in-Some c = (
  λ yes k is.
      let same : c.in-Commit.k ≡ k = ap ending_number (c.in-Commit.ensures ∙ is) in
      let placed : slice_get c.args.history.now (c.in-Commit.k - 1) ≡ Some c.args.transaction.now = sym c.in-Some.ensures ∙ ap Some (c.is_same.ensures.0 yes) in
      (omega (arith, same, c.if-k-eq0.false), subst (λ n. slice_get c.args.history.now (n - 1) ≡ Some c.args.transaction.now) same placed),
  λ all.
      let both : ◌≡◌ {A = Option Transaction} (Some c.in-Some.placed.now) (Some c.args.transaction.now) = c.in-Some.ensures ∙ (all c.in-Commit.k (sym c.in-Commit.ensures)).1 in
      c.is_same.ensures.1 cc,
)

pub returns-in-None : goal.returns-in-None
returns-in-None c = (
  λ no. absurd (false≢true no),
  λ all. let none : ◌≡◌ {A = Option Transaction} None (Some c.args.transaction.now) = c.in-None.ensures ∙ (all c.in-Commit.k (sym c.in-Commit.ensures)).1 in cc,
)
