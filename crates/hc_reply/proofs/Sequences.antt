-- A part and fixed words after it: where the part has a mismatch or the words have, the two have.
use Rattle.std.proofs.Common.{◌≡◌, ◌∙◌, ap, ℕ, List, ◌++◌, sym, subst, append_assoc}
use Rattle.std.proofs.lemmas.List.{append_cancel_left}
use Rattle.hc_reply.specs.declared.mismatch.Mismatch.{Mismatch}
use Rattle.hc_reply.specs.declared.mismatch.Mismatch.TheVariants.{At, NoMemory}
use Rattle.hc_reply.specs.Mismatches.{MismatchIn, SameFirst, Anything, IsMismatch}
use Rattle.hc_reply.specs.Words.{IsWord, the_word}
use Rattle.hc_reply.proofs.FirstBytes.{IsPrefixFree, same_after}

-- `follows`: where the words are, the part may end.
module _ {V : Type 0} (Ends : List ℕ → Type 0) (Is : V → Type 0) (text : V → List ℕ) (word : List ℕ)
    (follows : (rest : List ℕ) → Ends (word ++ rest)) where
  -- its text
  abbrev ended : V → List ℕ
  ended v = text v ++ word

  -- a mismatch in the part is one in the part with its words
  pub mismatch_before_word : (bytes rest : List ℕ) → IsMismatch Ends Is text bytes rest → IsMismatch Anything Is ended bytes rest
  mismatch_before_word bytes rest s = record {
    before = s.before;
    splits = s.splits;
    value = s.value;
    more = s.more ++ word;
    has = s.has;
    begins = ap (λ (l : List ℕ). l ++ word) s.begins ∙ append_assoc s.before s.more word;
    none = λ v more other is any same e. s.none v (word ++ more) other is (follows more) same (sym (append_assoc (text v) word more) ∙ e);
  }

  -- a mismatch in the words after a part is one too; `heads`: what may follow the part is told by its first byte
  pub mismatch_in_word : IsPrefixFree Ends Is text → ((r s : List ℕ) → SameFirst r s → Ends r → Ends s) → (bytes mid rest : List ℕ) (v : V) → Is v → bytes ≡ text v ++ mid → Ends mid
      → IsMismatch Anything IsWord (the_word word) mid rest → IsMismatch Anything Is ended bytes rest
  mismatch_in_word free heads bytes mid rest v is all ends s = record {
    before = text v ++ s.before;
    splits = all ∙ ap (λ (l : List ℕ). text v ++ l) s.splits ∙ sym (append_assoc (text v) s.before rest);
    value = v;
    more = s.more;
    has = is;
    begins = ap (λ (l : List ℕ). text v ++ l) s.begins ∙ sym (append_assoc (text v) s.before s.more);
    none = λ w more other is2 any same e.
        let there : Ends (s.before ++ other) = heads (s.before ++ rest) (s.before ++ other) (same_after s.before rest other same) (subst Ends s.splits ends) in
        let split = free w v (word ++ more) (s.before ++ other) is2 is (follows more) there (sym (append_assoc (text w) word more) ∙ e ∙ append_assoc (text v) s.before other) in
        s.none tt more other tt tt same split.1;
  }

  -- where no part begins another, none with its words does
  pub ended_free : IsPrefixFree Ends Is text → IsPrefixFree Anything Is ended
  ended_free free v w r s is is2 any more e =
      let split = free v w (word ++ r) (word ++ s) is is2 (follows r) (follows s) (sym (append_assoc (text v) word r) ∙ e ∙ append_assoc (text w) word s) in
      (split.0, append_cancel_left word r s split.1)

-- words with which each text of a part begins
pub mismatch_in_front : {V : Type 0} (Ends : List ℕ → Type 0) (Is : V → Type 0) (text : V → List ℕ) (word : List ℕ) (tail : V → List ℕ) (begins : (v : V) → text v ≡ word ++ tail v) (some : V) → Is some
    → (bytes rest : List ℕ) → IsMismatch Anything IsWord (the_word word) bytes rest → IsMismatch Ends Is text bytes rest
mismatch_in_front Ends Is text word tail begins some is bytes rest s = record {
  before = s.before;
  splits = s.splits;
  value = some;
  more = s.more ++ tail some;
  has = is;
  begins = begins some ∙ ap (λ (l : List ℕ). l ++ tail some) s.begins ∙ append_assoc s.before s.more (tail some);
  none = λ v following other fits ends same e.
      s.none tt (tail v ++ following) other tt tt same (sym (append_assoc word (tail v) following) ∙ ap (λ (l : List ℕ). l ++ following) (sym (begins v)) ∙ e);
}

-- a mismatch of one part as one of another
pub mismatch_as : {V W : Type 0} (E F : List ℕ → Type 0) (Is : V → Type 0) (text : V → List ℕ) (Is2 : W → Type 0) (text2 : W → List ℕ) (bytes bytes2 : List ℕ)
    → ((rest : List ℕ) → IsMismatch E Is text bytes rest → IsMismatch F Is2 text2 bytes2 rest) → (mismatch : Mismatch) → MismatchIn E Is text bytes mismatch → MismatchIn F Is2 text2 bytes2 mismatch
mismatch_as E F Is text Is2 text2 bytes bytes2 f (At rest) s = f rest.now s
mismatch_as E F Is text Is2 text2 bytes bytes2 f NoMemory s = tt

-- the same part, said in other words
pub mismatch_as_other : {V : Type 0} (E : List ℕ → Type 0) (Is Is2 : V → Type 0) (text text2 : V → List ℕ) → ((v : V) → Is v → Is2 v) → ((v : V) → Is2 v → Is v) → ((v : V) → text v ≡ text2 v)
    → (bytes rest : List ℕ) → IsMismatch E Is text bytes rest → IsMismatch E Is2 text2 bytes rest
mismatch_as_other E Is Is2 text text2 to from same bytes rest s = record {
  before = s.before;
  splits = s.splits;
  value = s.value;
  more = s.more;
  has = to s.value s.has;
  begins = sym (same s.value) ∙ s.begins;
  none = λ v following other is ends first e. s.none v following other (from v is) ends first (ap (λ (l : List ℕ). l ++ following) (same v) ∙ e);
}
