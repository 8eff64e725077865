-- Joining: what is known of the entries of a page with one more.
use Rattle.std.proofs.Common.{◌≡◌, sym, ap, ◌∙◌, ℕ, ◌+◌, ◌-◌, ◌<◌, ◌≤◌, List, ◌∷◌, ◌++◌, length, take, drop, Some, arith, length-append}
use Rattle.std.specs.List.{All, slice_get}
use Rattle.std.proofs.lemmas.List.Elements.{All-append, All-cons, All-drop, All-take}
use Rattle.hc_base.specs.Content.{Content, Entry}
use Rattle.hc_base.specs.Layout.{all_words, entry_words}
use Rattle.hc_page.proofs.Entries.{all_words-split, entry_there, key_at}
use Rattle.hc_page.specs.Puts.{put_entry, HasShort}
use Rattle.hc_page.proofs.Putting.{put_is}
use Rattle.hc_shape.specs.Halves.{IsSmall}
use Rattle.hc_split.specs.declared.joined.Joined.{Joined}
use Rattle.hc_split.specs.Joined.{IsJoined, entry_added, joined_entries, key_of}
use Rattle.hc_split.proofs.Lists.{all_get, at_after, at_before, at_new, get_drop, long, take_after, take_before, take_more}

module _ (joined : Joined) (c : Content) (is : IsJoined joined c) where
  within : joined.before ≤ length c.entries
  within = omega (arith, is.around.order, is.around.in_list)

  pub are_put : joined_entries joined c ≡ put_entry (entry_added joined.added) c.entries
  are_put = sym (put_is c.entries (entry_added joined.added) joined.before joined.after is.around)

  pub joined_long : length (joined_entries joined c) ≡ joined.before + 1 + (length c.entries - joined.after)
  joined_long = long joined.before joined.after c.entries (entry_added joined.added) within

  pub from_before : (slot : ℕ) → slot < joined.before → (slice_get (joined_entries joined c) slot ≡ slice_get c.entries slot) × (slot < length c.entries)
  from_before slot less = (
    at_before joined.before slot c.entries (entry_added joined.added ∷ drop joined.after c.entries) less within,
    omega (arith, less, within),
  )

  pub from_new : slice_get (joined_entries joined c) joined.before ≡ Some (entry_added joined.added)
  from_new = at_new joined.before c.entries (drop joined.after c.entries) (entry_added joined.added) within

  pub from_after : (slot : ℕ) → joined.before < slot → slot < length (joined_entries joined c)
      → (slice_get (joined_entries joined c) slot ≡ slice_get c.entries (slot - 1 - joined.before + joined.after)) × (slot - 1 - joined.before + joined.after < length c.entries)
  from_after slot past inside = (
    at_after joined.before slot (slot - 1 - joined.before) c.entries (drop joined.after c.entries) (entry_added joined.added) within (omega (arith, past))
        ∙ get_drop joined.after (slot - 1 - joined.before + joined.after) (slot - 1 - joined.before) c.entries (omega arith),
    omega (arith, past, inside, joined_long, is.around.in_list),
  )

  -- the words of the first entries
  pub words_before : (slot : ℕ) → slot ≤ joined.before → take slot (joined_entries joined c) ≡ take slot c.entries
  words_before slot less = take_before slot joined.before c.entries (entry_added joined.added ∷ drop joined.after c.entries) less within

  pub words_after : (slot : ℕ) → joined.before < slot
      → length (all_words (take slot (joined_entries joined c))) + length (all_words (take joined.after c.entries))
      ≡ length (all_words (take joined.before c.entries)) + length (entry_words (entry_added joined.added)) + length (all_words (take (slot - 1 - joined.before + joined.after) c.entries))
  words_after slot past =
      let k = slot - 1 - joined.before in
      let e = entry_added joined.added in
      let mine : length (all_words (take slot (joined_entries joined c))) ≡ length (all_words (take joined.before c.entries ++ (e ∷ take k (drop joined.after c.entries)))) =
      ap (λ es. length (all_words es)) (take_after joined.before slot k c.entries (drop joined.after c.entries) e within (omega (arith, past))) in
      let whole : length (all_words (take (k + joined.after) c.entries)) ≡ length (all_words (take joined.after c.entries ++ take k (drop joined.after c.entries))) =
      ap (λ es. length (all_words es)) (take_more joined.after k (k + joined.after) c.entries (omega arith)) in
      omega (
        arith,
        mine,
        whole,
        all_words-split (take joined.before c.entries) (e ∷ take k (drop joined.after c.entries)),
        length-append (entry_words e) (all_words (take k (drop joined.after c.entries))),
        all_words-split (take joined.after c.entries) (take k (drop joined.after c.entries)),
      )

-- a page's entry is short
pub is_short : (joined : Joined) (c : Content) (of : ℕ) (e : Entry) → IsJoined joined c → slice_get c.entries of ≡ Some e → HasShort joined.page.now.words of c e
is_short joined c of e is there = record {
  page = is.will.page;
  there = there;
  short = (all_get IsSmall c.entries of e is.will.small there).1;
}

-- more entries have no fewer words
pub words_more : (a n : ℕ) (es : List Entry) → a ≤ n → length (all_words (take a es)) ≤ length (all_words (take n es))
words_more a n es order =
    omega (arith, ap (λ xs. length (all_words xs)) (take_more a (n - a) n es (omega (arith, order))), all_words-split (take a es) (take (n - a) (drop a es)))

pub up_to : (joined : Joined) (c : Content) → IsJoined joined c → joined.before ≤ length c.entries
up_to joined c is = omega (arith, is.around.order, is.around.in_list)

pub after_within : (joined : Joined) (c : Content) → IsJoined joined c → (slot : ℕ) → slot ≤ length (joined_entries joined c)
    → slot - 1 - joined.before + joined.after ≤ length c.entries
after_within joined c is slot within = omega (arith, within, joined_long joined c is, is.around.in_list)

-- each key is short
pub key_short : (joined : Joined) (c : Content) → IsJoined joined c → (slot : ℕ) → slot < length (joined_entries joined c) → length (key_of (joined_entries joined c) slot) ≤ 463
key_short joined c is slot inside =
    let es = joined_entries joined c in
    let there = entry_there es slot inside in
    let small : All IsSmall es =
    All-append IsSmall (take joined.before c.entries) (entry_added joined.added ∷ drop joined.after c.entries) (All-take IsSmall joined.before c.entries is.will.small)
    (All-cons IsSmall (entry_added joined.added) (drop joined.after c.entries) is.will.new_small (All-drop IsSmall joined.after c.entries is.will.small)) in
    omega (arith, (all_get IsSmall es slot there.0 small there.1).1, ap (λ k. length k) (key_at es slot there.0 there.1))
