-- A note is given and taken in: what a seat tells is true of the accounts and the log, and of no word.
use Rattle.std.proofs.Common.{◌≡◌, ◌≢◌, ◌∙◌, refl, sym, ap, subst, ⊎_elim, inl, inr, ℕ, ◌≤◌, Bool, true, false, cond, ltb, List, [], ◌∷◌, ◌++◌, length, set, arith}
use mathlib.Core.Option.{some}
use lib.ListN.{get_elem?}
use Rattle.atomic_table.specs.Table.{State as TableState, Splits, Joins}
use Rattle.atomic_table.proofs.Lists.{set_again}
use Rattle.hc_base.specs.Lookup.{Among, but}
use Rattle.hc_base.specs.declared.numbers.Cid.{Cid}
use Rattle.hc_base.proofs.Lookups.{but-other}
use Rattle.hc_core.specs.declared.account.Account.{Account}
use Rattle.hc_core.specs.declared.account.Entry.{Entry}
use Rattle.hc_rows.specs.declared.layout.Layout.{Layout}
use Rattle.hc_rule.specs.declared.view.View.{View}
use Rattle.hc_rule.specs.declared.view.Told.{Told}
use Rattle.hc_rule.specs.declared.view.Role.{Role}
use Rattle.hc_rule.specs.declared.view.Role.TheVariants.{Dealer, Connection, Nobody}
use Rattle.hc_rule.specs.Views.{Knowledge, knowledge_of, known, nobody}
use Rattle.hc_rule.specs.Accounts.{AreAccounts, HasBegun}
use Rattle.hc_rule.specs.Recorded.{IsRecorded}
use Rattle.hc_rule.specs.Rule.{Holds}
use Rattle.hc_rule.specs.Kinds.Note.{told_by, note_of, informed}
use Rattle.hc_rule.proofs.Along.{holds_with, held_along, recorded_along}
use Rattle.hc_rule.proofs.Recording.{recorded_learned}
use Rattle.hc_rule.proofs.Roles.{not_nobody}
use Rattle.hc_rule.proofs.Views.{known_is, known_kept, known_set, known_new, known_more, nobody_past}

-- what a seat can tell of is true
told_is : (role : ℕ → Role) (know : ℕ → Knowledge) (account : ℕ → List Entry) → AreAccounts role know account → (i : ℕ) (r : Role) (a : Account) (told : List Told)
    → role i ≡ r → (know i).account ≡ a.entries → (know i).told ≡ told → (x : Told) → Among x (told_by r a told) → HasBegun account x
told_is role know account h i (Dealer n) a told is has tolds x there = h.told i x (subst (Among x) (sym tolds) there)
told_is role know account h i (Connection conn) a told is has tolds x there =
    ⊎_elim
    (λ (same : x ≡ record { conn = conn; account = a }). subst (HasBegun account) (sym same) ([], sym (h.own i conn is) ∙ has))
    (λ old. h.told i x (subst (Among x) (sym tolds) old))
    there
told_is role know account h i Nobody a told is has tolds x there = h.told i x (subst (Among x) (sym tolds) there)

-- what is told by one or the other
among_both : (x : Told) (xs ys : List Told) (P : Type 0) → (Among x xs → P) → (Among x ys → P) → Among x (xs ++ ys) → P
among_both x [] ys P one other there = other there
among_both x (z ∷ xs) ys P one other there = ⊎_elim (λ (is : x ≡ z). one (inl is)) (λ later. among_both x xs ys P (λ old. one (inr old)) other later) there

more_within : (b : Bool) (one other : Cid) (size : ℕ) → one.0 ≤ size → other.0 ≤ size → (cond b one other).0 ≤ size
more_within true one other size first second = first
more_within false one other size first second = second

module _ (last : ℕ) (seat tid log : ℕ → ℕ) (role : ℕ → Role) (know : ℕ → Knowledge) (h : IsRecorded last seat tid log role know) (id : ℕ) (v : View)
    (mine : role id ≡ v.role) (is : know id ≡ knowledge_of v) where
  seen_within : v.seen.0 ≤ h.size
  seen_within = subst (λ (k : Knowledge). k.seen ≤ h.size) is (h.seen.within id)

  -- the seat of a note
  pub recorded_told : (m : ℕ) → role m ≡ Nobody → IsRecorded last seat tid log role (but know m (knowledge_of (note_of v)))
  recorded_told m none = recorded_learned last seat tid log role know h m (knowledge_of (note_of v)) (λ conn some. absurd (not_nobody conn (sym none ∙ some)))
      (record {
        told = told_is role know h.account h.accounts id v.role v.account v.told mine (ap (λ (k : Knowledge). k.account) is) (ap (λ (k : Knowledge). k.told) is);
        within = seen_within;
        words = λ x there. absurd there;
        places = λ x there. absurd there;
      })

  -- a seat that takes in a note, and what is left of it
  pub recorded_informed : (other : ℕ) (w : View) → id ≢ other → role other ≡ Nobody → know other ≡ knowledge_of w
      → IsRecorded last seat tid log role (but (but know id (knowledge_of (informed v w))) other (knowledge_of nobody))
  recorded_informed other w differ none note =
      let first : IsRecorded last seat tid log role (but know id (knowledge_of (informed v w))) =
      recorded_learned last seat tid log role know h id (knowledge_of (informed v w))
      (λ conn some. record { account = ap (λ (k : Knowledge). k.account) (sym is); stage = ap (λ (k : Knowledge). k.stage) (sym is); own = ap (λ (k : Knowledge). k.own) (sym is); word = ap (λ (k : Knowledge). k.word) (sym is) })
      (record {
        told = λ x. among_both x v.told w.told (HasBegun h.account x) (λ there. h.accounts.told id x (subst (λ (k : Knowledge). Among x k.told) (sym is) there)) (λ there. h.accounts.told other x (subst (λ (k : Knowledge). Among x k.told) (sym note) there));
        within = more_within (ltb v.seen.0 w.seen.0) w.seen v.seen h.size (subst (λ (k : Knowledge). k.seen ≤ h.size) note (h.seen.within other)) seen_within;
        words = λ x there. h.seen.words id x (subst (λ (k : Knowledge). Among x k.words) (sym is) there);
        places = λ x there. h.seen.places id x (subst (λ (k : Knowledge). Among x k.places) (sym is) there);
      }) in
      recorded_learned last seat tid log role _ first other (knowledge_of nobody) (λ conn some. absurd (not_nobody conn (sym none ∙ some)))
      (record { told = λ x there. absurd there; within = omega arith; words = λ x there. absurd there; places = λ x there. absurd there })

pub note_splits : (y : Layout) (id : ℕ) (v : View) → Splits (λ (s : TableState Unit View). Holds y s.words s.views) id v v (note_of v)
note_splits y id v s h at =
    let role = known (λ x. x.role) s.views in
    let told = recorded_told y.transactions _ _ _ role (known knowledge_of s.views) h.recorded id v (known_is (λ x. x.role) s.views id v at) (known_is knowledge_of s.views id v at) (length s.views) (nobody_past (λ x. x.role) s.views) in
    let roles = known_more (λ x. x.role) s.views (note_of v) refl in
    subst (λ vs. Holds y s.words (vs ++ (note_of v ∷ []))) (sym (set_again s.views id v at))
    (holds_with y s.words s.words s.views (s.views ++ (note_of v ∷ [])) h refl refl refl refl roles (known_more (λ x. x.pages) s.views (note_of v) refl)
    (known_more (λ x. x.claimed) s.views (note_of v) refl) (known_more (λ x. x.loaded) s.views (note_of v) refl)
    (held_along s.views (s.views ++ (note_of v ∷ [])) (known_more (λ x. x.stage) s.views (note_of v) refl) (known_more (λ x. x.pages) s.views (note_of v) refl) h.held)
    (recorded_along y.transactions _ _ _ _ _ _ _ _ _ _ refl refl refl roles (known_new knowledge_of s.views (note_of v)) told))

-- a field of neither seat that the join changes
same_twice : {A : Type 0} (f : View → A) (views : List View) (id other : ℕ) (v w both spent : View) → get_elem? views id ≡ some v → get_elem? (set views id both) other ≡ some w → f both ≡ f v → f spent ≡ f w
    → known f (set (set views id both) other spent) ≡ known f views
same_twice f views id other v w both spent at there one two = known_kept f (set views id both) other w spent there two ∙ known_kept f views id v both at one

-- a field of another seat, before the first step of the join and after it
pub known_there : {A : Type 0} (f : View → A) (views : List View) (id other : ℕ) (v w both : View) → get_elem? views id ≡ some v → id ≢ other → get_elem? (set views id both) other ≡ some w → known f views other ≡ f w
known_there f views id other v w both at differ there =
    sym (but-other (known f views) id other (f both) differ) ∙ (ap (λ g. g other) (sym (known_set f views id v both at)) ∙ known_is f (set views id both) other w there)

pub note_joins : (y : Layout) (id other : ℕ) (v w : View) → w ≡ note_of w → Joins (λ (s : TableState Unit View). Holds y s.words s.views) id v other w (informed v w) nobody
note_joins y id other v w note s h at differs there =
    let differ : id ≢ other = (λ same. differs (sym same)) in
    let role = known (λ x. x.role) s.views in
    let nobodys : known (λ x. x.role) s.views other ≡ Nobody = known_there (λ x. x.role) s.views id other v w (informed v w) at differ there ∙ ap (λ (x : View). x.role) note in
    let joined = recorded_informed y.transactions _ _ _ role (known knowledge_of s.views) h.recorded id v (known_is (λ x. x.role) s.views id v at) (known_is knowledge_of s.views id v at) other w differ nobodys (known_there knowledge_of s.views id other v w (informed v w) at differ there) in
    let roles = same_twice (λ x. x.role) s.views id other v w (informed v w) nobody at there refl (ap (λ (x : View). x.role) (sym note)) in
    holds_with y s.words s.words s.views (set (set s.views id (informed v w)) other nobody) h refl refl refl refl
    roles
    (same_twice (λ x. x.pages) s.views id other v w (informed v w) nobody at there refl (ap (λ (x : View). x.pages) (sym note)))
    (same_twice (λ x. x.claimed) s.views id other v w (informed v w) nobody at there refl (ap (λ (x : View). x.claimed) (sym note)))
    (same_twice (λ x. x.loaded) s.views id other v w (informed v w) nobody at there refl (ap (λ (x : View). x.loaded) (sym note)))
    (held_along s.views (set (set s.views id (informed v w)) other nobody) (same_twice (λ x. x.stage) s.views id other v w (informed v w) nobody at there refl (ap (λ (x : View). x.stage) (sym note)))
    (same_twice (λ x. x.pages) s.views id other v w (informed v w) nobody at there refl (ap (λ (x : View). x.pages) (sym note))) h.held)
    (recorded_along y.transactions _ _ _ _ _ _ _ _ _ _ refl refl refl roles (known_set knowledge_of (set s.views id (informed v w)) other w nobody there ∙ ap (λ g. but g other (knowledge_of nobody)) (known_set knowledge_of s.views id v (informed v w) at)) joined)
