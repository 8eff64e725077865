-- Lists of events: each has a run from a sound machine, and one alone.
use Rattle.std.proofs.Common.{◌≡◌, refl, ap, ap₂, subst, ℕ, List, [], ◌∷◌}
use Rattle.hc_core.specs.Diary.{entry_of}
use Rattle.hc_core.specs.Laws.{IsTheRun, asked_of, events_asked, unanswered}
use Rattle.hc_core.specs.Machine.{Answers, IsStep, Machine, Runs, after, after_step, start}
use Rattle.hc_core.specs.Sound.{IsSound}
use Rattle.hc_core.specs.declared.account.Entry.{Entry}
use Rattle.hc_core.specs.declared.account.Entry.TheVariants.{Answered, Reserved, FoundFull}
use Rattle.hc_core.specs.declared.outcome.Outcome.TheVariants.{NotNow}
use Rattle.hc_core.specs.declared.event.Event.{Event}
use Rattle.hc_core.proofs.Answered.{answer_there}
use Rattle.hc_core.proofs.OneAnswer.{answers_one}
use Rattle.hc_core.proofs.SoundRuns.{sound_with, start_sound, step_sound}

-- what a step asks for determines the step
step_one : (m : Machine) (step other : Entry) → IsSound m → unanswered other ≡ unanswered step → IsStep m step → IsStep m other → other ≡ step
step_one m (Answered event outcome) (Answered other_event other_outcome) s same is other_is =
    let event_same : other_event ≡ event = cc in
    let outcome_same : other_outcome ≡ outcome =
    answers_one m event other_outcome outcome s (subst (λ e. Answers m e other_outcome) event_same other_is) is in
    ap₂ Answered event_same outcome_same
step_one m (Answered event outcome) (Reserved i writes) s same is other_is = absurd (cc same)
step_one m (Answered event outcome) (FoundFull i full) s same is other_is = absurd (cc same)
step_one m (Reserved i writes) (Answered event outcome) s same is other_is = absurd (cc same)
step_one m (Reserved i writes) (Reserved j other) s same is other_is = same
step_one m (Reserved i writes) (FoundFull j full) s same is other_is = same
step_one m (FoundFull i full) (Answered event outcome) s same is other_is = absurd (cc same)
step_one m (FoundFull i full) (Reserved j writes) s same is other_is = same
step_one m (FoundFull i full) (FoundFull j other) s same is other_is = same

-- two runs that ask for the same are one
runs_one : (m last other_last : Machine) (steps others : List Entry) → IsSound m → Runs m steps last → Runs m others other_last
    → asked_of others ≡ asked_of steps → others ≡ steps
runs_one m last other_last [] [] s runs other_runs same = refl
runs_one m last other_last [] (other ∷ others) s runs other_runs same = absurd (cc same)
runs_one m last other_last (step ∷ steps) [] s runs other_runs same = absurd (cc same)
runs_one m last other_last (step ∷ steps) (other ∷ others) s runs other_runs same =
    let first : unanswered other ≡ unanswered step = cc in
    let rest : asked_of others ≡ asked_of steps = cc in
    let is : other ≡ step = step_one m step other s first runs.0 other_runs.0 in
    ap₂ (λ (first : Entry) (following : List Entry). first ∷ following) is
    (runs_one (after_step m step) last other_last steps others (step_sound m step s runs.0) runs.1
    (subst (λ (e : Entry). Runs (after_step m e) others other_last) is other_runs.1) rest)

-- a run of a new machine is the only one over its events
pub the_run : (conns : ℕ) (steps : List Entry) → (m : Machine) × Runs (start conns) steps m → IsTheRun conns steps
the_run conns steps run = record {
  runs = run;
  only = λ others m other_runs same. runs_one (start conns) run.0 m steps others (start_sound conns) run.1 other_runs same;
}

-- there is a run over events
runs_there : (m : Machine) (events : List Event) → IsSound m → (steps : List Entry) × (last : Machine) × (asked_of steps ≡ events_asked events) × Runs m steps last
runs_there m [] s = ([], m, refl, refl)
runs_there m (event ∷ events) s =
    let a = answer_there m event s in
    let following = runs_there (after m event a.0) events (sound_with m event a.0 s a.1) in
    (entry_of event a.0 ∷ following.0, following.1, ap (λ (rest : List Entry). Answered event NotNow ∷ rest) following.2, (a.1, following.3))

-- each list of events has a run of a new machine, the only one over them
pub one_run : (conns : ℕ) (events : List Event) → (steps : List Entry) × (asked_of steps ≡ events_asked events) × IsTheRun conns steps
one_run conns events =
    let r = runs_there (start conns) events (start_sound conns) in (r.0, r.2, the_run conns r.0 (r.1, r.3))
