-- The setup's commits are as many as the history begins with.
use Rattle.std.proofs.Common.{◌≡◌, ◌≢◌, ℕ, ◌<◌, ◌≤◌, List, [], length, get_or, Some, arith, ⊎_elim}
use Rattle.std.specs.Prelude.{slice_get}
use Rattle.std.proofs.lemmas.Bool.{cases_lt}
use Rattle.std.proofs.lemmas.Option.{slice_get-get_or}
use Rattle.hc_transcript.specs.declared.reply.Ending.TheVariants.{Commit}
use Rattle.hc_meaning.specs.Runs.Cut.{Transaction}
use Rattle.hc_meaning.specs.Runs.Walk.{Abandoned}
use Rattle.hc_verdict.specs.Orders.{IsSetupFirst}

-- a transaction, to look a place up with
abbrev some : Transaction
some = record { conn = 0; ordinal = 0; items = []; close = Abandoned; ending = Commit 0 }

-- no other number fits
pub setup_once : (history : List Transaction) (setup other : ℕ) → setup ≤ length history → ((k : ℕ) (t : Transaction) → slice_get history k ≡ Some t → k < setup → t.conn ≡ 0)
    → ((t : Transaction) → slice_get history setup ≡ Some t → t.conn ≢ 0) → other ≤ length history → IsSetupFirst history other → other ≡ setup
setup_once history setup other within first end inside is_first =
    ⊎_elim (λ longer.
    let at = slice_get-get_or history setup some (omega (arith, longer, inside)) in
    absurd (end (get_or history setup some) at ((is_first setup (get_or history setup some) at).1 longer)))
    (λ most. ⊎_elim (λ shorter.
    let at = slice_get-get_or history other some (omega (arith, shorter, within)) in
    let below = (is_first other (get_or history other some) at).0 (first other (get_or history other some) at shorter) in
    absurd (omega (arith, below)))
    (λ least. omega (arith, most, least)) (cases_lt other setup))
    (cases_lt setup other)
