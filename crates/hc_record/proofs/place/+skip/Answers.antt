use Rattle.std.proofs.Common.{◌≡◌, ◌-◌, ◌∷◌, suc, length, drop, ◌∙◌, ap, arith}
use Rattle.std.specs.Prelude.{slice_get}
use Rattle.hc_record.specs.Record.{bodies_of}
use Rattle.hc_record.proofs.Placed.{first_type, no_type, option_weaker}
use Rattle.hc_record.proofs.place.+skip.Goals as goal

pub returns-in_err-serial : goal.returns-in_err-serial
returns-in_err-serial k c values have types bodies =
    let none = no_type values c.args.types.now have types c.in_err-serial.ensures.read in rw c.from_residual.ensures (omega (arith, none))

pub returns-then-place-eq0 : goal.returns-then-place-eq0
returns-then-place-eq0 k c values have types bodies =
    let f = first_type values c.args.types.now c.in_ok-serial.after.now c.args.bodies.now c.in_ok-serial.serial have types bodies c.in_ok-serial.ensures.read in
    (f.v, bodies_of f.others, ap (λ l. slice_get l c.args.place) f.parts ∙ ap (λ n. slice_get (f.v ∷ f.others) n) c.if-place-eq0.true, f.type_is, f.body)

pub returns-then-len-bodies : goal.returns-then-len-bodies
returns-then-len-bodies k c values have types bodies =
    let f = first_type values c.args.types.now c.in_ok-serial.after.now c.args.bodies.now c.in_ok-serial.serial have types bodies c.in_ok-serial.ensures.read in
    absurd (omega (arith, f.long, c.body_len-len.ensures, c.if-len-bodies.true))

pub returns : goal.returns
returns k c values have types bodies =
    let f = first_type values c.args.types.now c.in_ok-serial.after.now c.args.bodies.now c.in_ok-serial.serial have types bodies c.in_ok-serial.ensures.read in
    let place : c.args.place ≡ suc (c.args.place - 1) = omega (arith, c.if-place-eq0.false) in
    let next = c.split_at.ensures.back ∙ ap (λ n. drop n c.args.bodies.now) c.body_len-len.ensures ∙ f.next in
    option_weaker c.skip.result _ _ _ _ (c.skip.ensures f.others f.have f.rest next)
    (λ past. let all = ap (λ l. length l) f.parts in omega (arith, past, all, place))
    (λ found is. (is.0, is.1, ap (λ l. slice_get l c.args.place) f.parts ∙ ap (λ n. slice_get (f.v ∷ f.others) n) place ∙ is.2, is.3, is.4))
