use Rattle.std.proofs.Common.{◌≡◌, ◌∙◌, ◌-◌, ap, sym, subst, Option, Some, None}
use Rattle.std.specs.Prelude.{slice_get}
use Rattle.std.proofs.lemmas.Bool.{false≢true}
use Rattle.hc_meaning.specs.Runs.Cut.{Transaction}
use Rattle.hc_transcript.specs.Text.{ending_number}
use Rattle.hc_verdict.proofs.OneMore.{at_place}
use Rattle.hc_verdict.proofs.history.is_placed.Goals as goal

pub returns-then-k-eq0 : goal.returns-then-k-eq0
returns-then-k-eq0 c = (λ no. absurd (false≢true no), λ all. absurd ((all c.in-Commit.k (sym c.in-Commit.ensures)).0 c.if-k-eq0.true))

pub returns-in-Some : goal.returns-in-Some
returns-in-Some c = (
  λ yes k is.
      let same : c.in-Commit.k ≡ k = ap ending_number (c.in-Commit.ensures ∙ is) in
      let named = c.has_name_of.ensures.0 yes in
      let one : c.in-Some.placed.now ≡ c.args.transaction.now = c.requires c.in-Some.placed.now (at_place c.in-Some.placed.now c.args.history.now (c.in-Commit.k - 1) (sym c.in-Some.ensures)) named.0 named.1 in
      let placed : slice_get c.args.history.now (c.in-Commit.k - 1) ≡ Some c.args.transaction.now = sym c.in-Some.ensures ∙ ap Some one in
      ((λ none. c.if-k-eq0.false (same ∙ none)), subst (λ n. slice_get c.args.history.now (n - 1) ≡ Some c.args.transaction.now) same placed),
  λ all.
      let both : ◌≡◌ {A = Option Transaction} (Some c.in-Some.placed.now) (Some c.args.transaction.now) = c.in-Some.ensures ∙ (all c.in-Commit.k (sym c.in-Commit.ensures)).1 in
      let one : c.in-Some.placed.now ≡ c.args.transaction.now = cc in
      c.has_name_of.ensures.1 (ap (λ (t : Transaction). t.conn) one, ap (λ (t : Transaction). t.ordinal) one),
)

pub returns-in-None : goal.returns-in-None
returns-in-None c = (
  λ no. absurd (false≢true no),
  λ all. let none : ◌≡◌ {A = Option Transaction} None (Some c.args.transaction.now) = c.in-None.ensures ∙ (all c.in-Commit.k (sym c.in-Commit.ensures)).1 in cc,
)
