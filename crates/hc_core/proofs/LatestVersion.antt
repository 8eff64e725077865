-- The latest version of a key is the one with which its versions begin.
use Rattle.std.proofs.Common.{◌≡◌, ◌≢◌, ◌⊎◌, ⊎_elim, ◌<◌, ◌≤◌, refl, sym, subst, inl, inr, ℕ, List, [], ◌∷◌, arith}
use Rattle.std.proofs.lemmas.Bool.{cases_eq}
use Rattle.hc_base.specs.Lookup.{Among}
use Rattle.hc_core.specs.Account.{Txn}
use Rattle.hc_core.specs.Versions.{AreVersions, IsLatestVersion, IsNewerThanEach}
use Rattle.hc_core.specs.Laws.{VersionsBeginWithTheLatest}

-- a transaction that follows another is older
following : (t u : Txn) (us : List Txn) → IsNewerThanEach t us → Among u us → (u.place ≢ 0) × ((t.place ≡ 0) ⊎ (u.place < t.place))
following t u [] newer there = absurd there
following t u (v ∷ us) newer there =
    elim there [
      | inl same ↦ subst (λ (w : Txn). (w.place ≢ 0) × ((t.place ≡ 0) ⊎ (w.place < t.place))) (sym same) newer.0
      | inr rest ↦ following t u us newer.1 rest
    ]

-- the first of the list is the latest version
head_first : (of : ℕ → List Txn) (key : List ℕ) (i : ℕ) (t : Txn) (older : List Txn) → AreVersions of key (t ∷ older) → Among t (of i)
    → IsLatestVersion of key i t
head_first of key i t older are there = (
  there,
  ((are.exact t).0 (inl refl)).2,
  ⊎_elim (λ (undecided : t.place ≡ 0). inl undecided)
      (λ decided. inr (
        decided,
        λ j u u_there written.
            elim ((are.exact u).1 (j, u_there, written)) [
              | inl same ↦ subst (λ (v : Txn). (v.place ≢ 0) × (v.place ≤ t.place)) (sym same) (decided, omega arith)
              | inr rest ↦ let b = following t u older (are.ordered).0 rest in
                  (b.0, ⊎_elim (λ (none : t.place ≡ 0). absurd (decided none)) (λ (low : u.place < t.place). omega (arith, low)) b.1)
            ],
      ))
      (cases_eq t.place 0),
)

-- the latest version is the first of the list
first_head : (of : ℕ → List Txn) (key : List ℕ) (versions : List Txn) (i : ℕ) (t : Txn) → AreVersions of key versions → IsLatestVersion of key i t
    → (older : List Txn) × (versions ≡ t ∷ older)
first_head of key [] i t are first = absurd ((are.exact t).1 (i, first.0, first.1))
first_head of key (h ∷ older) i t are first =
    elim ((are.exact t).1 (i, first.0, first.1)) [
      | inl same ↦ (older, subst (λ (v : Txn). h ∷ older ≡ v ∷ older) (sym same) refl)
      | inr rest ↦ let b = following h t older (are.ordered).0 rest in let head = (are.exact h).0 (inl refl) in
          absurd (⊎_elim (λ (undecided : t.place ≡ 0). b.0 undecided)
          (λ decided. let top = decided.1 head.0 h head.1 head.2 in
          ⊎_elim (λ (none : h.place ≡ 0). top.0 none) (λ (low : t.place < h.place). omega (arith, low, top.1)) b.1)
          first.2)
    ]

-- a transaction is the latest version just where the list of versions begins with it
pub versions_begin : VersionsBeginWithTheLatest
versions_begin of key versions i t are there = (
  λ first. first_head of key versions i t are first,
  λ begins. head_first of key i t begins.0 (subst (AreVersions of key) begins.1 are) there,
)
