-- In a right run each chain of refusals with 517 ends at a commit: along it keys rise, so it cannot go on for ever.
use Rattle.std.proofs.Common.{◌≡◌, ◌∙◌, ⊎_elim, refl, sym, ap, cond, ℕ, zero, suc, ◌+◌, ◌<◌, ◌≤◌, Bool, true, false, List, [], ◌∷◌, arith}
use Rattle.std.proofs.lemmas.Bool.{false≢true}
use Rattle.hc_base.specs.Lookup.{Among}
use Rattle.hc_range.specs.Order.{IsBelow, is_below}
use Rattle.hc_range.proofs.ByteOrder.{below_irrefl, below_trans}
use Rattle.hc_transcript.specs.declared.refusal.Refusal.TheVariants.{Busy}
use Rattle.hc_transcript.specs.declared.reply.Transcript.{Transcript}
use Rattle.hc_meaning.specs.Runs.Cut.{Script, Transaction}
use Rattle.hc_meaning.specs.Runs.Language.{Language}
use Rattle.hc_meaning.specs.Runs.Met.{WasRefusedLater}
use Rattle.hc_meaning.specs.Runs.RightRun.{IsRightRun, transactions_of}
use Rattle.hc_meaning.specs.Runs.Walk.{Close, Refused}
use Rattle.hc_judge.specs.Laws.{ChainsTo, EachChainEndsAtACommit, Names}

-- ---- how many were refused over a key above this one

is_over : List ℕ → Close → Bool
is_over key (Refused (Busy conn ordinal other)) = is_below key other
is_over key close = false

abbrev as_one : Bool → ℕ
as_one b = cond b 1 0

at_most_if : (a b : Bool) → (a ≡ true → b ≡ true) → as_one a ≤ as_one b
at_most_if false b follows = omega arith
at_most_if true true follows = omega arith
at_most_if true false follows = absurd (false≢true (follows refl))

how_many : List ℕ → List Transaction → ℕ
how_many key [] = 0
how_many key (t ∷ ts) = as_one (is_over key t.close) + how_many key ts

module _ (key other : List ℕ) (below : is_below key other ≡ true) where
  over_both : (close : Close) → is_over other close ≡ true → is_over key close ≡ true
  unfolding is_over
  over_both (Refused (Busy conn ordinal k)) over = below_trans key other k below over
  over_both close over = absurd (false≢true over)

  fewer : (ts : List Transaction) → how_many other ts ≤ how_many key ts
  unfolding how_many
  fewer [] = omega arith
  fewer (t ∷ ts) =
      let one = at_most_if (is_over other t.close) (is_over key t.close) (over_both t.close) in
      let rest = fewer ts in
      omega (arith, one, rest)

  fewer_by_one : (ts : List Transaction) (y : Transaction) → Among y ts → is_over key y.close ≡ true → is_over other y.close ≡ false → how_many other ts < how_many key ts
  unfolding how_many
  fewer_by_one [] y there over not_over = absurd there
  fewer_by_one (t ∷ ts) y there over not_over = ⊎_elim
      (λ here.
      let now : as_one (is_over key t.close) ≡ as_one true = ap (λ (u : Transaction). as_one (is_over key u.close)) (sym here) ∙ ap as_one over in
      let none : as_one (is_over other t.close) ≡ as_one false = ap (λ (u : Transaction). as_one (is_over other u.close)) (sym here) ∙ ap as_one not_over in
      let rest = fewer ts in
      omega (arith, now, none, rest))
      (λ following.
      let one = at_most_if (is_over other t.close) (is_over key t.close) (over_both t.close) in
      let rest = fewer_by_one ts y following over not_over in
      omega (arith, one, rest))
      there

is_over_as : (key other : List ℕ) (close : Close) (conn ordinal : ℕ) → close ≡ Refused (Busy conn ordinal other) → is_over key close ≡ is_below key other
unfolding is_over
is_over_as key other close conn ordinal is = ap (λ (c : Close). is_over key c) is

-- ---- the chain

names_as : (x y : Transaction) (conn ordinal : ℕ) (key : List ℕ) → x.close ≡ Refused (Busy conn ordinal key) → y.conn ≡ conn → y.ordinal ≡ ordinal → Names x y
names_as x y conn ordinal key x_is conn_is ordinal_is =
    (key, x_is ∙ ap (λ (n : ℕ). Refused (Busy n ordinal key)) (sym conn_is) ∙ ap (λ (n : ℕ). Refused (Busy y.conn n key)) (sym ordinal_is))

module _ (L : Language) (scripts : List Script) (transcripts : List Transcript) (right : IsRightRun L scripts transcripts) where
  abbrev ts : List Transaction
  ts = transactions_of right.connections

  -- what a chain is from a transaction that was refused, where that is known of all that fewer are above of
  abbrev Chains : ℕ → Type 0
  Chains n = (x : Transaction) (conn ordinal : ℕ) (key : List ℕ) → Among x ts → x.close ≡ Refused (Busy conn ordinal key) → how_many key ts < n
      → (path : List Transaction) × ChainsTo ts x path

  step : (n : ℕ) → Chains n → (x : Transaction) (conn ordinal : ℕ) (key : List ℕ) → Among x ts → x.close ≡ Refused (Busy conn ordinal key) → how_many key ts < n + 1
      → (path : List Transaction) × ChainsTo ts x path
  step n known x conn ordinal key x_there x_is few =
      let named = right.conflicts x x_there conn ordinal key x_is in
      let y : Transaction = named.0 in
      let y_there : Among y ts = named.1.among in
      let first : Names x y = names_as x y conn ordinal key x_is named.1.conn_is named.1.ordinal_is in
      ⊎_elim
      (λ above. (y ∷ [], (y_there, first, above.commit)))
      (λ (later : WasRefusedLater ts key y).
      ⊎_elim
      (λ (below : IsBelow key later.other_key).
      let over : is_over key y.close ≡ true = is_over_as key later.other_key y.close later.conn later.ordinal later.refusal ∙ below in
      let not_over : is_over later.other_key y.close ≡ false =
      is_over_as later.other_key later.other_key y.close later.conn later.ordinal later.refusal ∙ below_irrefl later.other_key in
      let less = fewer_by_one key later.other_key below ts y y_there over not_over in
      let rest = known y later.conn later.ordinal later.other_key y_there later.refusal (omega (arith, less, few)) in
      (y ∷ rest.0, (y_there, first, rest.1)))
      (λ found. (y ∷ found.0 ∷ [], (y_there, first, (found.1.among, names_as y found.0 later.conn later.ordinal later.other_key later.refusal found.1.conn_is found.1.ordinal_is, found.2))))
      later.later)
      named.2.later

  chains : (n : ℕ) → Chains n
  chains zero x conn ordinal key x_there x_is few = absurd (omega (arith, few))
  chains (suc n) x conn ordinal key x_there x_is few = step n (chains n) x conn ordinal key x_there x_is (omega (arith, few))

pub each_chain_ends : (L : Language) → EachChainEndsAtACommit L
each_chain_ends L scripts transcripts right x conn ordinal key x_there x_is =
    chains L scripts transcripts right (how_many key (transactions_of right.connections) + 1) x conn ordinal key x_there x_is (omega arith)
