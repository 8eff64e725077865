-- Sound and fitting is right.
use Rattle.std.proofs.Common.{◌≡◌, ◌≢◌, ◌∙◌, ◌≤◌, sym, ap, subst, ℕ, false, List, [], map, filter, arith}
use Rattle.hc_base.specs.Lookup.{Among}
use Rattle.hc_core.proofs.Elements.{among_filter}
use Rattle.std.proofs.lemmas.Bool.{true≢false}
use Rattle.hc_meaning.specs.Runs.Cut.{Connection, IsCutOf, IsRefusedOutside, Script}
use Rattle.std.specs.List.{AllByRecursion}
use Rattle.hc_meaning.specs.Runs.Language.{Language}
use Rattle.hc_meaning.specs.Runs.Orders.{weight_of_conns}
use Rattle.hc_meaning.specs.Runs.Laws.{SoundAndFittingIsRight}
use Rattle.hc_meaning.specs.Runs.RightRun.{has_command, transactions_of, weight_committing}
use Rattle.hc_meaning.proofs.Runs.Clauses.{in_order, is_history, is_legal, others}
use Rattle.hc_meaning.proofs.Runs.Conflicts.{conflicts}
use Rattle.hc_meaning.proofs.Runs.Connections.{Fitted, all_as, fittings}
use Rattle.hc_meaning.proofs.Runs.History.{shown_to}
use Rattle.hc_meaning.proofs.Runs.Rising.{AreRising, are_rising, filter_rising, same_script}
use Rattle.hc_meaning.proofs.Runs.UsedUp.{conns_weight, used_up, weight_within}

pub sound_and_fitting : (L : Language) → SoundAndFittingIsRight L
sound_and_fitting L laws size log of scripts transcripts by_number sound first fulls fit =
    let f = fittings L of (filter has_command scripts) transcripts fit.each in
    let cs : List Connection = f.connections in
    let rising : AreRising (map (λ (c : Connection). c.script) cs) =
    subst AreRising (sym f.scripts_are) (filter_rising has_command scripts (are_rising scripts by_number)) in
    let no_other : (i : ℕ) → ((s : Script) → Among s (map (λ (c : Connection). c.script) cs) → s.conn ≢ i) → of i ≡ [] =
    λ i none. fit.no_other i (λ s there. none s (subst (λ (l : List Script). Among s l) (sym f.scripts_are) there)) in
    let shown = shown_to L laws sound cs f.each no_other size (omega arith) in
    let idle : (s : Script) → Among s scripts → has_command s ≡ false → of s.conn ≡ [] = λ s there empty.
    fit.no_other s.conn (λ u u_there same.
    let kept = (among_filter has_command u scripts).0 u_there in
    let u_is : u ≡ s = same_script scripts (are_rising scripts by_number) u s kept.0 there same in
    true≢false (sym kept.1 ∙ ap has_command u_is ∙ empty)) in
    let dropped = conns_weight of has_command scripts idle in
    let listed : weight_of_conns of (map (λ (s : Script). s.conn) (map (λ (c : Connection). c.script) cs))
    ≡ weight_of_conns of (map (λ (s : Script). s.conn) (filter has_command scripts)) =
    ap (λ (l : List Script). weight_of_conns of (map (λ (s : Script). s.conn) l)) f.scripts_are in
    let most = weight_within L laws sound cs f.each rising shown no_other in
    let within : weight_of_conns of (map (λ (s : Script). s.conn) scripts) ≤ weight_committing L (transactions_of cs) shown.history =
    omega (arith, dropped, listed, most) in
    record {
      connections = cs;
      form = record { by_number = by_number; scripts_are = f.scripts_are; transcripts_are = f.transcripts_are };
      cut = all_as (Fitted L of) IsCutOf (λ c h. h.is_cut) cs f.each;
      strays = all_as (Fitted L of) (λ (c : Connection). AllByRecursion IsRefusedOutside c.cut.strays) (λ c h. h.strays) cs f.each;
      history = shown.history;
      commits = is_history L laws sound cs f.each rising shown;
      legal = is_legal L laws sound cs f.each rising shown;
      others = others L laws sound cs f.each rising shown;
      conflicts = conflicts L laws sound cs f.each rising shown no_other;
      in_order = in_order L laws sound cs f.each rising shown first;
      used_up = used_up L laws sound cs f.each rising shown no_other (map (λ (s : Script). s.conn) scripts) within fulls;
    }
