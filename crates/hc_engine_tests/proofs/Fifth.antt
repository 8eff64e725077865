-- A put with a key that is not there takes room besides that of all entries.
use Rattle.std.proofs.Common.{◌≡◌, ◌≢◌, ℕ, ◌+◌, List, [], ◌∷◌, length, refl, ap, ◌∙◌, inl, inr, arith, length-append, false}
use Rattle.std.specs.List.{All, filter}
use Rattle.std.proofs.lemmas.List.Elements.{All-head, All-tail}
use Rattle.hc_range.specs.Order.{is_below}
use Rattle.hc_range.proofs.ByteOrder.{order_total, below_flip}
use Rattle.hc_base.specs.Content.{Content, Entry}
use Rattle.hc_base.specs.Layout.{entry_words, all_words, used_words, low_words, fence_words}
use Rattle.hc_page.specs.Puts.{with_entry}
use Rattle.hc_page.proofs.Entries.{all_words-split}
use Rattle.hc_engine_tests.specs.Four.{HasFour}

abbrev low_of : List ℕ → List Entry → List Entry
low_of key es = filter (λ x. is_below x.key key) es

abbrev high_of : List ℕ → List Entry → List Entry
high_of key es = filter (λ x. is_below key x.key) es

-- each entry is on one side of the key
sides : (key : List ℕ) (es : List Entry) → All (λ entry. entry.key ≢ key) es
    → (length (low_of key es) + length (high_of key es) ≡ length es) × (length (all_words (low_of key es)) + length (all_words (high_of key es)) ≡ length (all_words es))
sides key [] new = (refl, refl)
sides key (x ∷ es) new =
    let rest = sides key es (All-tail (λ entry. entry.key ≢ key) x es new) in
    elim (order_total x.key key) [
      | inl below ↦
          let above : is_below key x.key ≡ false = below_flip x.key key below in
          let low : low_of key (x ∷ es) ≡ x ∷ low_of key es = rw below refl in
          let high : high_of key (x ∷ es) ≡ high_of key es = rw above refl in (
            omega (arith, rest.0, ap (λ xs. length xs) low, ap (λ xs. length xs) high),
            omega (arith, rest.1, ap (λ xs. length (all_words xs)) low, ap (λ xs. length (all_words xs)) high, length-append (entry_words x) (all_words (low_of key es)), length-append (entry_words x) (all_words es)),
          )
      | inr other ↦
          elim other [
            | inl same ↦ absurd (All-head (λ entry. entry.key ≢ key) x es new same)
            | inr above ↦
                let below : is_below x.key key ≡ false = below_flip key x.key above in
                let low : low_of key (x ∷ es) ≡ low_of key es = rw below refl in
                let high : high_of key (x ∷ es) ≡ x ∷ high_of key es = rw above refl in (
                  omega (arith, rest.0, ap (λ xs. length xs) low, ap (λ xs. length xs) high),
                  omega (arith, rest.1, ap (λ xs. length (all_words xs)) low, ap (λ xs. length (all_words xs)) high, length-append (entry_words x) (all_words (high_of key es)), length-append (entry_words x) (all_words es)),
                )
          ]
    ]

-- five entries of 53 words have 271 words with the head and the directory
pub fifth_used : (words : List ℕ) (c : Content) (e : Entry) → HasFour words e.key c → length (entry_words e) ≡ 53 → used_words (with_entry c e) ≡ 271
fifth_used words c e has size =
    let es = c.entries in
    let both = sides e.key es has.new in
    let low : length (low_words c.level c.low) ≡ 0 = ap (λ l. length (low_words l c.low)) has.leaf ∙ ap (λ bytes. length (low_words 0 bytes)) has.low in
    let high : length (fence_words c.high) ≡ 0 = ap (λ h. length (fence_words h)) has.high in
    omega (arith, both.0, both.1, low, high, has.four, has.size, size, length-append (low_of e.key es) (e ∷ high_of e.key es), all_words-split (low_of e.key es) (e ∷ high_of e.key es), length-append (entry_words e) (all_words (high_of e.key es)))
