-- The tags whose words were tried, and where none of them goes on.
use Rattle.std.proofs.Common.{◌≡◌, ◌≢◌, ◌∙◌, ap, ℕ, zero, suc, ◌-◌, ◌<◌, ◌≤◌, ◌⊎◌, inl, inr, true, List, [], ◌∷◌, ◌++◌, length, slice_index_or, take, drop, refl, sym, subst, arith}
use Rattle.std.specs.List.{Contains}
use Rattle.hc_transcript.specs.declared.tag.LineTag.{LineTag}
use Rattle.hc_transcript.specs.declared.tag.LineTag.TheVariants.{Conn, Ok}
use Rattle.hc_transcript.specs.Words.{tag_words}
use Rattle.hc_reply.specs.declared.allowed.Allowed.{Allowed}
use Rattle.hc_reply.specs.Lines.{MayCome}
use Rattle.hc_reply.specs.Words.{common}
use Rattle.hc_reply.specs.Mismatches.{SameFirst, Anything, IsMismatch}
use Rattle.hc_reply.proofs.Words.{misses, common_front, front_and_left, left_is}

-- the word is in common with so many bytes at most, and not whole
abbrev pub IsMissed : ℕ → List ℕ → List ℕ → Type 0
IsMissed most bytes word = (common word bytes ≤ most) × (common word bytes ≢ length word)

-- so many bytes begin the words of a line that may come
abbrev pub IsBegun : Allowed → ℕ → List ℕ → Type 0
IsBegun allowed n bytes = (tag : LineTag) × (more : List ℕ) × MayCome allowed tag × (tag_words tag ≡ take n bytes ++ more)

-- each line that may come is among those left, or was missed
abbrev pub Tried : Allowed → List LineTag → ℕ → List ℕ → Type 0
Tried allowed left most bytes = (tag : LineTag) → MayCome allowed tag → Contains left tag ⊎ IsMissed most bytes (tag_words tag)

-- no byte begins some line that may come
pub begun_at_start : (allowed : Allowed) (bytes : List ℕ) → (allowed.conn ≡ true) ⊎ (allowed.reply ≡ true) → IsBegun allowed 0 bytes
begun_at_start allowed bytes (inl conn) = (Conn, tag_words Conn, conn, refl)
begun_at_start allowed bytes (inr reply) = (Ok, tag_words Ok, reply, refl)

-- the bytes in common with the words of a line that may come begin it
pub begun_by : (allowed : Allowed) (tag : LineTag) (n : ℕ) (bytes word : List ℕ) → MayCome allowed tag → word ≡ tag_words tag → n ≡ common word bytes → IsBegun allowed n bytes
begun_by allowed tag n bytes word may words is = (
  tag,
  drop n (tag_words tag),
  may,
  common_front (tag_words tag) bytes ∙ (λ i. take (same i) bytes ++ drop (same i) (tag_words tag)),
)
  where
    same : common (tag_words tag) bytes ≡ n
    same = ap (λ (w : List ℕ). common w bytes) (sym words) ∙ sym is

-- words that are not all in common with the bytes are missed
pub missed_by : (tag : LineTag) (n now : ℕ) (bytes word : List ℕ) → word ≡ tag_words tag → n ≡ common word bytes → n ≢ length word → n ≤ now → IsMissed now bytes (tag_words tag)
missed_by tag n now bytes word words is short le =
    subst (IsMissed now bytes) words (omega (arith, is, le), λ whole. short (is ∙ whole))

-- with one tag more that was missed or may not come, the others are left
pub tried_more : (allowed : Allowed) (left others : List LineTag) (one : LineTag) (most now : ℕ) (bytes : List ℕ) → left ≡ one ∷ others → most ≤ now → (MayCome allowed one → IsMissed now bytes (tag_words one))
    → Tried allowed left most bytes → Tried allowed others now bytes
tried_more allowed left others one most now bytes is le missed tried other may = by (tried other may)
  where
    among : (k : ℕ) → k < length (one ∷ others) → slice_index_or (one ∷ others) k other ≡ other → Contains others other ⊎ IsMissed now bytes (tag_words other)
    among zero lt same = inr (subst (λ (t : LineTag). IsMissed now bytes (tag_words t)) same (missed (subst (MayCome allowed) (sym same) may)))
    among (suc k) lt same = inl (k, omega (arith, lt), same)

    by : Contains left other ⊎ IsMissed most bytes (tag_words other) → Contains others other ⊎ IsMissed now bytes (tag_words other)
    by (inl a) = let there : Contains (one ∷ others) other = subst (λ (l : List LineTag). Contains l other) is a in among there.0 there.1 there.2
    by (inr m) = inr (omega (arith, m.0, le), m.1)

-- a mismatch after the most bytes in common, where no tag is left
pub mismatch_there : (allowed : Allowed) (most : ℕ) (bytes : List ℕ) → Tried allowed [] most bytes → IsBegun allowed most bytes
    → IsMismatch Anything (MayCome allowed) tag_words bytes (take (length bytes - most) (drop most bytes))
mismatch_there allowed most bytes tried b = record {
  before = take most bytes;
  splits = front_and_left most bytes;
  value = b.0;
  more = b.1;
  has = b.2;
  begins = b.3;
  none = λ tag more other may any same e. by tag (tried tag may) more other (subst (λ (l : List ℕ). SameFirst l other) (left_is most bytes) same) e;
}
  where
    by : (tag : LineTag) → Contains [] tag ⊎ IsMissed most bytes (tag_words tag) → (more other : List ℕ) → SameFirst (drop most bytes) other → tag_words tag ++ more ≡ take most bytes ++ other → ⊥
    by tag (inl none) more other same e = omega (arith, none.1)
    by tag (inr m) more other same e = misses (tag_words tag) bytes most more other m.0 m.1 same e
