-- What words tell of the head of a page.
use Rattle.std.proofs.Common.{◌≡◌, ℕ, ◌+◌, ◌*◌, ◌/◌, ◌%◌, ◌^◌, List, [], length, get_or, refl, sym, ap, subst, ◌∙◌, arith, Option, Some, None, slice_index}
use Rattle.hc_base.specs.Content.{Content, IsFence, OfSome}
use Rattle.hc_base.specs.Layout.{IsPage, no_high_flag, low_at, high_at}
use Rattle.std.specs.Option.{option_copied}
use Rattle.hc_page.specs.declared.writer.Head.{Head}
use Rattle.hc_page.specs.Drafts.{started}
use Rattle.hc_page.specs.Puts.{with_entries}
use Rattle.hc_page.specs.Entries.{AreAt}
use Rattle.hc_page.specs.Reading.{IsKeyAt, digit}
use Rattle.hc_page.specs.Told.{TellsFence}
use Rattle.hc_page.proofs.Keys.{key_digit}
use Rattle.hc_page.proofs.HeadWords.{head_read, low_read, high_read}

-- the bytes of a key are at its place
pub key_bytes_at : (words : List ℕ) (at len : ℕ) (bytes : List ℕ) → IsKeyAt words at len bytes → AreAt words (at * 8) len bytes
key_bytes_at words at len bytes key = (
  key.len_is,
  λ k small.
      ap (λ n. digit (slice_index words n) ((at * 8 + k) % 8)) (let z : (at * 8 + k) / 8 ≡ at + k / 8 = omega arith in z)
      ∙ (ap (λ m. digit (slice_index words (at + k / 8)) m) (let z : (at * 8 + k) % 8 ≡ k % 8 = omega arith in z)
      ∙ key_digit words at len k bytes key small),
)

-- the low fence of a page is told
pub low_told : (words : List ℕ) (c : Content) (told : Option (List ℕ)) → IsPage words c → TellsFence words (get_or words 2 0 / 2 ^ 32) told → told ≡ Some c.low
low_told words c told page tells =
    let r = head_read words c page in
    let word = get_or words 2 0 / 2 ^ 32 in
    let at : word / 2 ^ 16 ≡ low_at c.level c = omega (arith, r.low_place) in
    tells.is c.low page.content.low
    (subst (λ n. IsKeyAt words n (word % 2 ^ 16) c.low) (sym at) (subst (λ n. IsKeyAt words (low_at c.level c) n c.low) (sym r.low_length) (low_read words c page)))
    (omega (arith, at, r.low_fits, r.low_length))

-- the high fence, where the flag is not set
pub high_told : (words : List ℕ) (c : Content) (told : Option (List ℕ)) → IsPage words c → (get_or words 0 0 % 2 ≡ 1 → ⊥) → TellsFence words (get_or words 2 0 % 2 ^ 32) told
    → (h : List ℕ) × (c.high ≡ Some h) × (told ≡ Some h)
high_told words c told page unset tells = by_case c.high refl
  where
    by_case : (high : Option (List ℕ)) → c.high ≡ high → (h : List ℕ) × (c.high ≡ Some h) × (told ≡ Some h)
    by_case None is = absurd (unset (let r = head_read words c page in omega (arith, r.no_high, ap no_high_flag is)))
    by_case (Some h) is =
        let r = head_read words c page in
        let word = get_or words 2 0 % 2 ^ 32 in
        let known = r.high h is in
        let at : word / 2 ^ 16 ≡ high_at c = omega (arith, known.0) in
        let len : word % 2 ^ 16 ≡ length h = omega (arith, known.1) in (
          h,
          is,
          tells.is h (subst (λ f. OfSome IsFence f) is page.content.high)
              (subst (λ n. IsKeyAt words n (word % 2 ^ 16) h) (sym at) (subst (λ n. IsKeyAt words (high_at c) n h) (sym len) (high_read words c h page is)))
              (omega (arith, at, len, r.high_fits h is)),
        )

-- so the head is
pub head_is : (c : Content) (head : Head) → head.level ≡ c.level → head.own.0 ≡ c.own.0 → head.right ≡ c.right → head.low.now ≡ c.low → option_copied head.high ≡ c.high → c.mark ≡ 0
    → started head ≡ with_entries c []
head_is c head level own right low high mark = λ i. record {
  level = level i;
  own = record { 0 = own i };
  right = right i;
  low = low i;
  high = high i;
  mark = sym mark i;
  entries = [];
}

-- there is no high fence where the flag is set
pub no_high_told : (words : List ℕ) (c : Content) → IsPage words c → get_or words 0 0 % 2 ≡ 1 → c.high ≡ None
no_high_told words c page set = by_case c.high refl
  where
    by_case : (high : Option (List ℕ)) → c.high ≡ high → c.high ≡ None
    by_case None is = is
    by_case (Some h) is = absurd (let r = head_read words c page in omega (arith, r.no_high, ap no_high_flag is, set))
