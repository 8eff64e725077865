-- Transactions have one history at most, and one whose numbers leave none out is it.
use Rattle.std.proofs.Common.{◌≡◌, ◌∙◌, ap, sym, subst, refl, ℕ, zero, suc, ◌+◌, ◌-◌, ◌<◌, ◌≤◌, List, [], ◌∷◌, ◌++◌, length, Option, None, Some, arith, get_or, ◌⊎◌, inl, inr, ⊎_elim}
use Rattle.std.specs.Prelude.{slice_get}
use Rattle.std.proofs.lemmas.Option.{slice_get_within, slice_get-get_or}
use Rattle.hc_base.specs.Lookup.{Among}
use Rattle.hc_transcript.specs.declared.reply.Ending.TheVariants.{Commit}
use Rattle.hc_meaning.specs.Runs.Commits.{IsHistory}
use Rattle.hc_meaning.specs.Runs.Cut.{Transaction}
use Rattle.hc_verdict.specs.Histories.{DifferByName, IsToldByName}
use Rattle.hc_verdict.proofs.OneMore.{place_of}

-- a list that has grown has the earlier ones at their places, and the new one at its end
pub push_cases : {X : Type 0} (xs : List X) (y x : X) (k : ℕ) → slice_get (xs ++ y ∷ []) k ≡ Some x → (slice_get xs k ≡ Some x) ⊎ ((k ≡ length xs) × (y ≡ x))
push_cases [] y x zero is = inr (refl, cc)
push_cases [] y x (suc k) is = cc
push_cases (z ∷ xs) y x zero is = inl is
push_cases (z ∷ xs) y x (suc k) is = ⊎_elim (λ earlier. inl earlier) (λ new. inr (ap suc new.0, new.1)) (push_cases xs y x k is)

-- lists are the same where each place has the same
same_places : {X : Type 0} (xs ys : List X) → ((k : ℕ) (x : X) → slice_get xs k ≡ Some x → slice_get ys k ≡ Some x)
    → ((k : ℕ) (x : X) → slice_get ys k ≡ Some x → slice_get xs k ≡ Some x) → xs ≡ ys
same_places [] [] there back = refl
same_places {X} [] (y ∷ ys) there back = let none : ◌≡◌ {A = Option X} None (Some y) = back 0 y refl in cc
same_places {X} (x ∷ xs) [] there back = let none : ◌≡◌ {A = Option X} None (Some x) = there 0 x refl in cc
same_places {X} (x ∷ xs) (y ∷ ys) there back =
    let first : ◌≡◌ {A = Option X} (Some y) (Some x) = there 0 x refl in
    let rest : xs ≡ ys = same_places xs ys (λ k z is. there (suc k) z is) (λ k z is. back (suc k) z is) in
    cc

-- each place of the list printed its number
abbrev pub IsPrinted : List Transaction → List Transaction → Type 0
IsPrinted transactions history = (k : ℕ) (t : Transaction) → slice_get history k ≡ Some t → (t.ending ≡ Commit (k + 1)) × Among t transactions

-- a list whose places printed their numbers is the front of each history
front-of : (transactions front history : List Transaction) → IsPrinted transactions front → IsHistory transactions history → (k : ℕ) (t : Transaction) → slice_get front k ≡ Some t → slice_get history k ≡ Some t
front-of transactions front history printed is_history k t is =
    let p = printed k t is in
    let place : k + 1 - 1 ≡ k = omega arith in
    subst (λ n. slice_get history n ≡ Some t) place (is_history.placed (k + 1) t p.1 p.0).1

-- so a history is the only one
pub history_once : (transactions one other : List Transaction) → IsHistory transactions one → IsHistory transactions other → one ≡ other
history_once transactions one other is_one is_other =
    same_places one other (front-of transactions one other is_one.printed is_other) (front-of transactions other one is_other.printed is_one)

-- where the list goes up to the greatest number, it is each history
pub all_printed : (transactions front history : List Transaction) → IsPrinted transactions front
    → ((k : ℕ) (t : Transaction) → Among t transactions → t.ending ≡ Commit k → k ≤ length front) → IsHistory transactions history → history ≡ front
all_printed transactions front history printed greatest is_history =
    same_places history front (λ k t is. back k t is) (front-of transactions front history printed is_history)
  where
    back : (k : ℕ) (t : Transaction) → slice_get history k ≡ Some t → slice_get front k ≡ Some t
    back k t is =
        let p = is_history.printed k t is in
        let within : k < length front = omega (arith, greatest (k + 1) t p.1 p.0) in
        let there : slice_get front k ≡ Some (get_or front k t) = slice_get-get_or front k t within in
        there ∙ sym (front-of transactions front history printed is_history k (get_or front k t) there) ∙ is

-- a number that no transaction printed, up to the greatest, is in no history
pub left_out : (transactions history : List Transaction) (k last : ℕ) → k < last → (t : Transaction) × Among t transactions × (t.ending ≡ Commit last)
    → ((t : Transaction) → Among t transactions → t.ending ≡ Commit (k + 1) → ⊥) → IsHistory transactions history → ⊥
left_out transactions history k last below (t, among, is) none is_history =
    let there = slice_get_within history (last - 1) t (is_history.placed last t among is).1 in
    let within : k < length history = omega (arith, there, below) in
    let p = is_history.printed k (get_or history k t) (slice_get-get_or history k t within) in
    none (get_or history k t) p.1 p.0

-- one more transaction, with the next number
pub printed_push : (transactions front : List Transaction) (t : Transaction) → IsPrinted transactions front → Among t transactions → t.ending ≡ Commit (length front + 1) → IsPrinted transactions (front ++ t ∷ [])
printed_push transactions front t printed among is k u at =
    ⊎_elim (λ earlier. printed k u earlier)
    (λ last. (
      ap (λ (v : Transaction). v.ending) (sym last.1) ∙ is ∙ ap (λ n. Commit (n + 1)) (sym last.0),
      subst (λ (v : Transaction). Among v transactions) last.1 among,
    ))
    (push_cases front t u k at)

-- what printed its number is one of the transactions, so its name tells it
pub told_in : (transactions front : List Transaction) → DifferByName transactions → IsPrinted transactions front → (t : Transaction) → Among t transactions → IsToldByName front t
told_in transactions front differ printed t t_there u u_there conn ordinal =
    let place = place_of u front u_there in
    differ t t_there u (printed place.0 u place.1).1 conn ordinal
