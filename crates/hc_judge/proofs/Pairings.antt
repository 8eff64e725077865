-- Scripts with their transcripts: the loops that pair and cut them, and the connections that these are.
use Rattle.std.proofs.Common.{◌≡◌, ◌≢◌, ◌∙◌, refl, sym, ap, subst, cond, Option, None, Some, ⊎_elim, ℕ, suc, ◌+◌, ◌<◌, ◌≤◌, Bool, true, false, List, [], ◌∷◌, ◌++◌, length, map, take, drop, get_or, append_assoc, arith, length-append, take-append-drop}
use Rattle.std.specs.Prelude.{◌==◌, filter, not, slice_get}
use Rattle.std.proofs.lemmas.Bool.{cases_lt, false≢true}
use Rattle.std.proofs.lemmas.Option.{get_or_from_slice_get, none-some, slice_get-get_or, slice_get_within}
use Rattle.std.specs.List.{AllByRecursion}
use Rattle.std.proofs.lemmas.List.{append-nil, at_drop_all, at_drop_more, length-map, take_all, take_more}
use Rattle.hc_transcript.specs.declared.reply.Transcript.{Transcript}
use Rattle.hc_meaning.specs.declared.command.Command.{Command}
use Rattle.hc_meaning.specs.Runs.Cut.{Script, Transaction, is_over}
use Rattle.hc_meaning.specs.Runs.RightRun.{has_command}
use Rattle.hc_judge.specs.Cuts.{IsCutInto}
use Rattle.hc_judge.specs.Pairs.{ArePaired, AreCutInto, IsOne, Paired}

-- ---- a filter, at one element and the rest

filter_joined : (p : Script → Bool) (xs ys : List Script) → filter p (xs ++ ys) ≡ filter p xs ++ filter p ys
filter_joined p [] ys = refl
filter_joined p (x ∷ xs) ys = elim (p x) as (λ b. cond b (x ∷ filter p (xs ++ ys)) (filter p (xs ++ ys)) ≡ cond b (x ∷ filter p xs) (filter p xs) ++ filter p ys) [
  | true ↦ ap (λ (l : List Script). x ∷ l) (filter_joined p xs ys)
  | false ↦ filter_joined p xs ys
]

kept : (p : Script → Bool) (x : Script) (xs : List Script) → p x ≡ true → filter p (x ∷ xs) ≡ x ∷ filter p xs
kept p x xs is = ap (λ (b : Bool). cond b (x ∷ filter p xs) (filter p xs)) is

left_out : (p : Script → Bool) (x : Script) (xs : List Script) → p x ≡ false → filter p (x ∷ xs) ≡ filter p xs
left_out p x xs is = ap (λ (b : Bool). cond b (x ∷ filter p xs) (filter p xs)) is

module _ (scripts : List Script) (i : ℕ) (s : Script) (within : i < length scripts) (s_is : s ≡ get_or scripts i s) where
  abbrev before : List Script
  before = filter has_command (take i scripts)

  abbrev after : List Script
  after = filter has_command (drop (i + 1) scripts)

  taken : take (i + 1) scripts ≡ take i scripts ++ s ∷ []
  taken = take_more scripts i s within ∙ ap (λ (t : Script). take i scripts ++ t ∷ []) (sym s_is)

  pub one_kept : has_command s ≡ true → filter has_command (take (i + 1) scripts) ≡ before ++ s ∷ []
  one_kept is = ap (filter has_command) taken ∙ filter_joined has_command (take i scripts) (s ∷ []) ∙ ap (λ (l : List Script). before ++ l) (kept has_command s [] is)

  pub one_left : has_command s ≡ false → filter has_command (take (i + 1) scripts) ≡ before
  one_left is = ap (filter has_command) taken ∙ filter_joined has_command (take i scripts) (s ∷ []) ∙ ap (λ (l : List Script). before ++ l) (left_out has_command s [] is) ∙ append-nil before

  whole : scripts ≡ take i scripts ++ s ∷ drop (i + 1) scripts
  whole = sym (take-append-drop i scripts) ∙ ap (λ (l : List Script). take i scripts ++ l)
      (at_drop_more (λ (l : List Script). l) scripts i s within ∙ ap (λ (t : Script). t ∷ drop (i + 1) scripts) (sym s_is))

  pub all_kept : has_command s ≡ true → filter has_command scripts ≡ before ++ s ∷ after
  all_kept is = ap (filter has_command) whole ∙ filter_joined has_command (take i scripts) (s ∷ drop (i + 1) scripts) ∙ ap (λ (l : List Script). before ++ l) (kept has_command s (drop (i + 1) scripts) is)

-- ---- the loop that pairs

-- The scripts so far are paired.
pub record HasPaired (scripts : List Script) (transcripts : List Transcript) (i : ℕ) (pairs : List Paired) : Type 0 where
  pub scripts_are : map (λ (p : Paired). p.script) pairs ≡ filter has_command (take i scripts)
  pub within : length pairs ≤ length transcripts
  pub transcripts_are : map (λ (p : Paired). p.transcript) pairs ≡ take (length pairs) transcripts
  pub each : AllByRecursion IsOne pairs

map_joined : {A B : Type 0} (f : A → B) (xs ys : List A) → map f (xs ++ ys) ≡ map f xs ++ map f ys
map_joined f [] ys = refl
map_joined f (x ∷ xs) ys = ap (λ (l : List _). f x ∷ l) (map_joined f xs ys)

all_joined : {A : Type 0} (P : A → Type 0) (xs ys : List A) → AllByRecursion P xs → AllByRecursion P ys → AllByRecursion P (xs ++ ys)
all_joined P [] ys front back = back
all_joined P (x ∷ xs) ys front back = (front.0, all_joined P xs ys front.1 back)

pub pairs_more : (scripts : List Script) (transcripts : List Transcript) (i : ℕ) (pairs longer : List Paired) (s : Script) (t : Transcript) → i < length scripts → s ≡ get_or scripts i s
    → has_command s ≡ true → length pairs < length transcripts → t ≡ get_or transcripts (length pairs) t → IsOne (record { script = s; transcript = t })
    → longer ≡ pairs ++ record { script = s; transcript = t } ∷ [] → HasPaired scripts transcripts i pairs → HasPaired scripts transcripts (i + 1) longer
pairs_more scripts transcripts i pairs longer s t within s_is has inside t_is one longer_is so_far =
    let p : Paired = record { script = s; transcript = t } in
    let long : length (pairs ++ p ∷ []) ≡ length pairs + 1 = length-append pairs (p ∷ []) in
    subst (HasPaired scripts transcripts (i + 1)) (sym longer_is) (record {
      scripts_are = map_joined (λ (q : Paired). q.script) pairs (p ∷ []) ∙ ap (λ (l : List Script). l ++ s ∷ []) so_far.scripts_are ∙ sym (one_kept scripts i s within s_is has);
      within = omega (arith, long, inside);
      transcripts_are = map_joined (λ (q : Paired). q.transcript) pairs (p ∷ []) ∙ ap (λ (l : List Transcript). l ++ t ∷ []) so_far.transcripts_are
          ∙ ap (λ (u : Transcript). take (length pairs) transcripts ++ u ∷ []) t_is ∙ sym (take_more transcripts (length pairs) t inside) ∙ ap (λ (n : ℕ). take n transcripts) (sym long);
      each = all_joined IsOne pairs (p ∷ []) so_far.each (one, tt);
    })

pub pairs_same : (scripts : List Script) (transcripts : List Transcript) (i : ℕ) (pairs : List Paired) (s : Script) → i < length scripts → s ≡ get_or scripts i s
    → has_command s ≡ false → HasPaired scripts transcripts i pairs → HasPaired scripts transcripts (i + 1) pairs
pairs_same scripts transcripts i pairs s within s_is none so_far = record {
  scripts_are = so_far.scripts_are ∙ sym (one_left scripts i s within s_is none);
  within = so_far.within;
  transcripts_are = so_far.transcripts_are;
  each = so_far.each;
}

pub pairs_whole : (scripts : List Script) (transcripts : List Transcript) (i : ℕ) (pairs : List Paired) → length scripts ≤ i → length transcripts ≤ length pairs
    → HasPaired scripts transcripts i pairs → ArePaired scripts transcripts pairs
pairs_whole scripts transcripts i pairs past r_past so_far = record {
  scripts_are = so_far.scripts_are ∙ ap (filter has_command) (take_all i scripts past);
  transcripts_are = so_far.transcripts_are ∙ take_all (length pairs) transcripts r_past;
  each = so_far.each;
}

-- how many there are
pub paired_length : (scripts : List Script) (transcripts : List Transcript) (pairs : List Paired) → ArePaired scripts transcripts pairs → length transcripts ≡ length (filter has_command scripts)
paired_length scripts transcripts pairs are =
    ap length (sym are.transcripts_are) ∙ length-map pairs (λ (p : Paired). p.transcript) ∙ sym (length-map pairs (λ (p : Paired). p.script)) ∙ ap length are.scripts_are

so_far_length : (scripts : List Script) (transcripts : List Transcript) (i : ℕ) (pairs : List Paired) → HasPaired scripts transcripts i pairs → length pairs ≡ length (filter has_command (take i scripts))
so_far_length scripts transcripts i pairs so_far = sym (length-map pairs (λ (p : Paired). p.script)) ∙ ap length so_far.scripts_are

pub too_few : (scripts : List Script) (transcripts : List Transcript) (i : ℕ) (pairs : List Paired) (s : Script) → i < length scripts → s ≡ get_or scripts i s
    → has_command s ≡ true → length transcripts ≤ length pairs → HasPaired scripts transcripts i pairs → (ps : List Paired) → ArePaired scripts transcripts ps → ⊥
too_few scripts transcripts i pairs s within s_is has past so_far ps are =
    let e1 = paired_length scripts transcripts ps are in
    let e2 = ap length (all_kept scripts i s within s_is has) in
    let e3 = length-append (filter has_command (take i scripts)) (s ∷ filter has_command (drop (i + 1) scripts)) in
    let e4 = so_far_length scripts transcripts i pairs so_far in
    omega (arith, e1, e2, e3, e4, past)

pub too_many : (scripts : List Script) (transcripts : List Transcript) (i : ℕ) (pairs : List Paired) → length scripts ≤ i → length pairs < length transcripts
    → HasPaired scripts transcripts i pairs → (ps : List Paired) → ArePaired scripts transcripts ps → ⊥
too_many scripts transcripts i pairs past more so_far ps are =
    let e1 = paired_length scripts transcripts ps are in
    let e2 = so_far_length scripts transcripts i pairs so_far in
    let e3 = ap (λ (l : List Script). length (filter has_command l)) (take_all i scripts past) in
    omega (arith, e1, e2, e3, more)

-- the pair at the place of a script
one_at : (ps : List Paired) (front back : List Script) (s : Script) (ts : List Transcript) (t : Transcript) → map (λ (p : Paired). p.script) ps ≡ front ++ s ∷ back
    → map (λ (p : Paired). p.transcript) ps ≡ ts → t ≡ get_or ts (length front) t → AllByRecursion IsOne ps → IsOne (record { script = s; transcript = t })
one_at [] [] back s ts t scripts_are transcripts_are t_is each = absurd (let e : ◌≡◌ {A = List Script} [] (s ∷ back) = scripts_are in cc)
one_at [] (f ∷ front) back s ts t scripts_are transcripts_are t_is each = absurd (let e : ◌≡◌ {A = List Script} [] (f ∷ (front ++ s ∷ back)) = scripts_are in cc)
one_at (p ∷ ps) [] back s ts t scripts_are transcripts_are t_is each =
    let e : p.script ≡ s = let h : ◌≡◌ {A = List Script} (p.script ∷ map (λ (q : Paired). q.script) ps) (s ∷ back) = scripts_are in cc in
    let f : t ≡ p.transcript = t_is ∙ ap (λ (l : List Transcript). get_or l 0 t) (sym transcripts_are) in
    subst (λ (x : Script). IsOne (record { script = x; transcript = t })) e (subst (λ (u : Transcript). IsOne (record { script = p.script; transcript = u })) (sym f) each.0)
one_at (p ∷ ps) (f ∷ front) back s ts t scripts_are transcripts_are t_is each =
    let e : map (λ (q : Paired). q.script) ps ≡ front ++ s ∷ back = let h : ◌≡◌ {A = List Script} (p.script ∷ map (λ (q : Paired). q.script) ps) (f ∷ (front ++ s ∷ back)) = scripts_are in cc in
    one_at ps front back s (map (λ (q : Paired). q.transcript) ps) t e refl
    (t_is ∙ ap (λ (l : List Transcript). get_or l (suc (length front)) t) (sym transcripts_are)) each.1

pub not_one : (scripts : List Script) (transcripts : List Transcript) (i : ℕ) (pairs : List Paired) (s : Script) (t : Transcript) → i < length scripts → s ≡ get_or scripts i s
    → has_command s ≡ true → t ≡ get_or transcripts (length pairs) t → HasPaired scripts transcripts i pairs → (ps : List Paired) → ArePaired scripts transcripts ps
    → IsOne (record { script = s; transcript = t })
not_one scripts transcripts i pairs s t within s_is has t_is so_far ps are =
    one_at ps (filter has_command (take i scripts)) (filter has_command (drop (i + 1) scripts)) s transcripts t
    (are.scripts_are ∙ all_kept scripts i s within s_is has) are.transcripts_are
    (t_is ∙ ap (λ (n : ℕ). get_or transcripts n t) (so_far_length scripts transcripts i pairs so_far)) are.each

-- ---- the loop that cuts

-- the pairs from a place on decide, and these are the transactions of those before it
pub record HasCutPairs (pairs : List Paired) (i : ℕ) (done : List Transaction) : Type 0 where
  pub forth : (rest : List Transaction) → AreCutInto (drop i pairs) rest → AreCutInto pairs (done ++ rest)
  pub back : (ts : List Transaction) → AreCutInto pairs ts → (rest : List Transaction) × AreCutInto (drop i pairs) rest

module _ (pairs : List Paired) (i : ℕ) (p : Paired) (within : i < length pairs) (p_is : p ≡ get_or pairs i p) where
  pairs_left : drop i pairs ≡ p ∷ drop (i + 1) pairs
  pairs_left = at_drop_more (λ (l : List Paired). l) pairs i p within ∙ ap (λ (q : Paired). q ∷ drop (i + 1) pairs) (sym p_is)

  pub cut_more : (done longer own : List Transaction) → IsCutInto p.script p.transcript own → longer ≡ done ++ own → HasCutPairs pairs i done → HasCutPairs pairs (i + 1) longer
  cut_more done longer own cut longer_is so_far = subst (HasCutPairs pairs (i + 1)) (sym longer_is) (record {
    forth = λ rest later. subst (AreCutInto pairs) (sym (append_assoc done own rest))
        (so_far.forth (own ++ rest) (subst (λ (l : List Paired). AreCutInto l (own ++ rest)) (sym pairs_left) (own, rest, cut, later, refl)));
    back = λ ts all.
        let found = so_far.back ts all in
        let here = subst (λ (l : List Paired). AreCutInto l found.0) pairs_left found.1 in
        (here.1, here.3);
  })

  pub cut_none : (done : List Transaction) → ((own : List Transaction) → IsCutInto p.script p.transcript own → ⊥) → HasCutPairs pairs i done → (ts : List Transaction) → AreCutInto pairs ts → ⊥
  cut_none done none so_far ts all =
      let found = so_far.back ts all in
      let here = subst (λ (l : List Paired). AreCutInto l found.0) pairs_left found.1 in
      none here.0 here.2

pub cut_whole : (pairs : List Paired) (i : ℕ) (done : List Transaction) → length pairs ≤ i → HasCutPairs pairs i done → AreCutInto pairs done
cut_whole pairs i done past so_far = subst (AreCutInto pairs) (append-nil done)
    (so_far.forth [] (subst (λ (l : List Paired). AreCutInto l []) (sym (at_drop_all (λ (l : List Paired). l) pairs i past)) refl))

pub cut_begun : (pairs : List Paired) → HasCutPairs pairs 0 []
cut_begun pairs = record { forth = λ rest all. all; back = λ ts all. (ts, all) }

pub pairs_begun : (scripts : List Script) (transcripts : List Transcript) → HasPaired scripts transcripts 0 []
pairs_begun scripts transcripts = record { scripts_are = refl; within = omega arith; transcripts_are = refl; each = tt }

-- whether a script has a command
pub has_some : (s : Script) → s.commands ≢ [] → has_command s ≡ true
has_some s some = elim s.commands as (λ (l : List Command). (l ≢ []) → not (is_over l) ≡ true) [ [] ↦ λ h. absurd (h refl) | c ∷ commands ↦ λ h. refl ] some

pub has_one : (s : Script) (commands : List Command) (empty : Bool) → empty ≡ (length commands == 0) → empty ≡ false → commands ≡ s.commands → has_command s ≡ true
has_one s commands empty empty_is is_not same =
    has_some s (λ none. false≢true (sym is_not ∙ empty_is ∙ ap (λ (l : List Command). length l == 0) (same ∙ none)))

pub has_none : (s : Script) → s.commands ≡ [] → has_command s ≡ false
has_none s none = ap (λ (l : List Command). not (is_over l)) none

-- what a look-up says
pub none_there : (ts : List Transcript) (n : ℕ) → ◌≡◌ {A = Option Transcript} None (slice_get ts n) → length ts ≤ n
none_there ts n none = ⊎_elim
    (λ below. let d : Transcript = record { conn = 0; replies = [] } in
    let e : ◌≡◌ {A = Option Transcript} None (Some (get_or ts n d)) = none ∙ slice_get-get_or ts n d below in absurd (none-some (get_or ts n d) e))
    (λ past. past)
    (cases_lt n (length ts))

pub one_there : (ts : List Transcript) (n : ℕ) (t : Transcript) → ◌≡◌ {A = Option Transcript} (Some t) (slice_get ts n) → (n < length ts) × (t ≡ get_or ts n t)
one_there ts n t is = (slice_get_within ts n t (sym is), sym (get_or_from_slice_get ts n t t (sym is)))
