use Rattle.std.proofs.Common.{◌≡◌, ◌∙◌, ◌<◌, ◌≤◌, true, false, ℕ, List, sym, arith, length, get_or, w64}
use Rattle.std.specs.Str.Parse.{ParsesSigned}
use Rattle.hc_top.proofs.Absent.{if_none}
use Rattle.hc_top.proofs.Numbers.{digits_are_text, leading_zero_is_none, parsed_none, parsed_some, text_is_digits}
use Rattle.hc_top.proofs.script.number_of.Goals as goal

not_long : {n : ℕ} → (1 < n → ⊥) → n ≤ 1
not_long short = omega arith

pub returns-then-has_needless_zero-clause-none : goal.returns-then-has_needless_zero-clause-none
returns-then-has_needless_zero-clause-none c =
    let zero : (1 < length c.args.digits.now) × (get_or c.args.digits.now 0 0 ≡ 48) = c.has_needless_zero.ensures.0 c.if-has_needless_zero.true in
    λ n. leading_zero_is_none c.args.digits.now n zero.0 zero.1

pub returns-in_err-text-clause-none : goal.returns-in_err-text-clause-none
returns-in_err-text-clause-none c =
    if_none c.from_residual.result _ (λ n _. digits_are_text _ c.args.digits.now c.from_utf8.result c.requires c.from_utf8.ensures.cases c.in_err-text.ensures.value)

pub returns-clause-some : goal.returns-clause-some
returns-clause-some c =
    let digits : List ℕ = c.args.digits.now in
    let plain : get_or digits 0 0 ≡ 48 → length digits ≤ 1 = λ first.
    not_long (λ long. let no : false ≡ true = sym c.if-has_needless_zero.false ∙ c.has_needless_zero.ensures.1 (long, first) in cc) in
    let is_text : c.in_ok-text.text.now ≡ digits = text_is_digits _ digits c.from_utf8.result c.in_ok-text.text c.from_utf8.ensures.cases c.in_ok-text.ensures.value in
    let parses : ParsesSigned w64 10 digits c.parse.result = rw is_text at c.parse.ensures.value.0 in
    rw c.ok-2.ensures.value (parsed_some digits c.parse.result c.requires plain parses)

pub returns-clause-none : goal.returns-clause-none
returns-clause-none c =
    let digits : List ℕ = c.args.digits.now in
    let is_text : c.in_ok-text.text.now ≡ digits = text_is_digits _ digits c.from_utf8.result c.in_ok-text.text c.from_utf8.ensures.cases c.in_ok-text.ensures.value in
    let parses : ParsesSigned w64 10 digits c.parse.result = rw is_text at c.parse.ensures.value.0 in
    rw c.ok-2.ensures.value (parsed_none digits c.parse.result c.requires parses)
