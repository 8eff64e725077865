-- A note has no account of its own, and the seat that takes it in keeps its own.
use Rattle.std.proofs.Common.{◌≡◌, ◌≢◌, ◌∙◌, refl, sym, ap, ℕ, List, set}
use mathlib.Core.Option.{some}
use lib.ListN.{get_elem?}
use Rattle.atomic_table.proofs.Lists.{set_else}
use Rattle.hc_rule.specs.declared.view.View.{View}
use Rattle.hc_rule.specs.Views.{known, nobody}
use Rattle.hc_rule.specs.Kinds.Note.{informed}
use Rattle.hc_rule.proofs.Views.{known_kept}
use Rattle.hc_tidlog.proofs.laws.a_note_changes_no_account.Goals as goal

-- a field that both keep
kept : {A : Type 0} (f : View → A) (views : List View) (i other : ℕ) (v note : View) → get_elem? views i ≡ some v → get_elem? views other ≡ some note → i ≢ other
    → f (informed v note) ≡ f v → f nobody ≡ f note → known f (set (set views i (informed v note)) other nobody) ≡ known f views
kept f views i other v note at there differ one spent =
    known_kept f (set views i (informed v note)) other note nobody (set_else views i other (informed v note) (λ same. differ (sym same)) ∙ there) spent
    ∙ known_kept f views i v (informed v note) at one

pub returns : goal.returns
returns c = λ views i other v note at there differ is. (
  kept (λ x. x.account) views i other v note at there differ refl (sym (ap (λ (x : View). x.account) is)),
  kept (λ x. x.role) views i other v note at there differ refl (sym (ap (λ (x : View). x.role) is)),
)
