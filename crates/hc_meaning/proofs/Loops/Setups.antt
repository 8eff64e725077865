-- The setup's commits are as many as the history begins with.
use Rattle.std.proofs.Common.{◌≡◌, ◌≢◌, ℕ, ◌<◌, ◌≤◌, List, [], length, get_or, Some, arith, ⊎_elim}
use Rattle.std.specs.Prelude.{◌↔◌, slice_get}
use Rattle.std.proofs.lemmas.Bool.{cases_lt}
use Rattle.std.proofs.lemmas.Option.{slice_get-get_or}
use Rattle.hc_transcript.specs.declared.reply.Ending.TheVariants.{Commit}
use Rattle.hc_meaning.specs.declared.transaction.Transaction.{Transaction}

-- connection 0's commits are the first so many
abbrev pub IsFirst : List Transaction → ℕ → Type 0
IsFirst history setup = (k : ℕ) (t : Transaction) → slice_get history k ≡ Some t → (t.conn ≡ 0) ↔ (k < setup)

-- a transaction, to look a place up with
abbrev some : Transaction
some = record { conn = 0; ordinal = 0; statements = []; answers = []; ending = Commit 0 }

-- no other number fits
pub setup-once : (history : List Transaction) (setup other : ℕ) → setup ≤ length history → ((k : ℕ) (t : Transaction) → slice_get history k ≡ Some t → k < setup → t.conn ≡ 0)
    → ((t : Transaction) → slice_get history setup ≡ Some t → t.conn ≢ 0) → other ≤ length history → IsFirst history other → other ≡ setup
setup-once history setup other within first end inside is_first =
    ⊎_elim (λ longer.
    let at = slice_get-get_or history setup some (omega (arith, longer, inside)) in
    absurd (end (get_or history setup some) at ((is_first setup (get_or history setup some) at).1 longer)))
    (λ most. ⊎_elim (λ shorter.
    let at = slice_get-get_or history other some (omega (arith, shorter, within)) in
    let below = (is_first other (get_or history other some) at).0 (first other (get_or history other some) at shorter) in
    absurd (omega (arith, below)))
    (λ least. omega (arith, most, least)) (cases_lt other setup))
    (cases_lt setup other)
