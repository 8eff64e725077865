-- What each form answers and puts, and that its integers fit.
use Rattle.std.proofs.Common.{◌≡◌, refl, ℕ, ℤ, pos, negsuc, ◌^◌, true, ◌&&◌, Option, Some, None, FitsSigned, w64}
use Rattle.std.proofs.lemmas.Bool.{and_parts, cond_both, ltb-true}
use Rattle.hc_transcript.specs.declared.reply.Line.TheVariants.{Ok, Error}
use Rattle.hc_transcript.specs.declared.refusal.Refusal.{Refusal}
use Rattle.hc_meaning.specs.Runs.Language.{IsOwn}
use Rattle.hc_table.specs.declared.action.Action.{Action}
use Rattle.hc_table.specs.declared.action.Action.TheVariants.{Inserts, Selects, Updates}
use Rattle.hc_table.specs.Statements.{is_integer, has_integers, if_integers, id_of, answer_at, put_at}

-- a value that is put fits
abbrev pub PutFits : Option ℤ → Type 0
PutFits None = Unit {0}
PutFits (Some v) = FitsSigned w64 v

-- the integers of a form
abbrev pub HaveFit : Option Action → Type 0
HaveFit None = Unit {0}
HaveFit (Some (Inserts id v)) = FitsSigned w64 id × FitsSigned w64 v
HaveFit (Some (Selects id)) = FitsSigned w64 id
HaveFit (Some (Updates id v)) = FitsSigned w64 id × FitsSigned w64 v

integer_fits : (z : ℤ) → is_integer z ≡ true → FitsSigned w64 z
integer_fits (pos n) is = record { sfits = ltb-true n (2 ^ 63) is }
integer_fits (negsuc n) is = record { sfits = ltb-true n (2 ^ 63) is }

pair_fits : (x y : ℤ) → (is_integer x && is_integer y) ≡ true → FitsSigned w64 x × FitsSigned w64 y
pair_fits x y is = let parts = and_parts (is_integer x) (is_integer y) is in (integer_fits x parts.0, integer_fits y parts.1)

action_fits : (action : Action) → has_integers action ≡ true → HaveFit (Some action)
action_fits (Inserts id v) is = pair_fits id v is
action_fits (Selects id) is = integer_fits id is
action_fits (Updates id v) is = pair_fits id v is

-- those of each form that is taken fit
pub they_fit : (form : Option Action) → HaveFit (if_integers form)
they_fit None = tt
they_fit (Some action) = cond_both (has_integers action) (Some action) None HaveFit (action_fits action) (λ _. tt)

pub id_fits : (action : Action) → HaveFit (Some action) → FitsSigned w64 (id_of action)
id_fits (Inserts id v) fit = fit.0
id_fits (Selects id) fit = fit
id_fits (Updates id v) fit = fit.0

pub put_fits : (action : Action) (there : Option ℤ) → HaveFit (Some action) → PutFits (put_at action there)
put_fits (Inserts id v) None fit = fit.1
put_fits (Inserts id v) (Some old) fit = tt
put_fits (Selects id) there fit = tt
put_fits (Updates id v) None fit = tt
put_fits (Updates id v) (Some old) fit = fit.1

-- a refusal is the statement's own, and puts nothing
pub own_at : (action : Action) (there : Option ℤ) → IsOwn (answer_at action there).last
own_at (Inserts id v) None = tt
own_at (Inserts id v) (Some old) = tt
own_at (Selects id) None = tt
own_at (Selects id) (Some old) = tt
own_at (Updates id v) None = tt
own_at (Updates id v) (Some old) = tt

no_refusal : {P : Type 0} (count : ℕ) (refusal : Refusal) → Ok count ≡ Error refusal → P
no_refusal count refusal e = absurd cc

pub none_put : (action : Action) (there : Option ℤ) (refusal : Refusal) → (answer_at action there).last ≡ Error refusal → put_at action there ≡ None
none_put (Inserts id v) None refusal e = no_refusal 1 refusal e
none_put (Inserts id v) (Some old) refusal e = refl
none_put (Selects id) there refusal e = refl
none_put (Updates id v) None refusal e = refl
none_put (Updates id v) (Some old) refusal e = no_refusal 1 refusal e
