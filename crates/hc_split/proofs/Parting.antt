-- Parting: the halves of the entries of a page with one more are contents, and fit.
use Rattle.std.proofs.Common.{◌≡◌, sym, ap, subst, ◌∙◌, ℕ, zero, suc, ◌-◌, ◌<◌, ◌≤◌, List, [], ◌∷◌, ◌++◌, length, take, drop, Option, Some, None, arith}
use Rattle.std.specs.List.{All}
use Rattle.std.proofs.lemmas.Bool.{true≢false}
use Rattle.std.proofs.lemmas.List.Elements.{All-append, All-cons, All-drop, All-take}
use Rattle.hc_range.specs.Order.{IsAtMost, IsBelow}
use Rattle.hc_base.specs.declared.numbers.Logical.{Logical}
use Rattle.hc_base.specs.Content.{Ascends, BeginsAt, Content, Entry, IsContent, IsEntryOf, IsFence, IsWithin, OfSome, keys}
use Rattle.hc_base.specs.Layout.{IsPage, fence_words, low_words, used_words}
use Rattle.hc_base.proofs.Places.{words_of-length}
use Rattle.hc_page.specs.declared.writer.Head.{Head}
use Rattle.hc_page.specs.Drafts.{started}
use Rattle.hc_page.specs.Puts.{IsAround, put_entry, with_entries}
use Rattle.hc_page.proofs.Changed.{ascends_put, of_keys, to_keys}
use Rattle.hc_page.proofs.Putting.{around_greater, around_lesser}
use Rattle.hc_page.proofs.Ranges.{from_start, to_end}
use Rattle.hc_shape.specs.Halves.{AreEntriesOf, CanHalve, HalvesFit, IsCut, IsSmall, cut_at, left_half, right_half}
use Rattle.hc_shape.proofs.Halves.{halves_fit, some_place}
use Rattle.hc_shape.proofs.HalfContents.{contents}
use Rattle.hc_split.specs.declared.cut.Frame.{Frame}
use Rattle.hc_split.specs.declared.joined.Joined.{Joined}
use Rattle.hc_split.specs.Joined.{CanWrite, entry_added, joined_entries, part_of}
use Rattle.hc_split.specs.Parts.{AreParts, CanPart, HasPlace, IsFrame, owned}
use Rattle.hc_split.proofs.Best.{least_some}
use Rattle.hc_split.proofs.Joining.{are_put}

-- a fence takes 58 words at most
pub low_small : (level : ℕ) (low : List ℕ) → length low ≤ 463 → length (low_words level low) ≤ 58
low_small zero low short = omega (arith, words_of-length low, short)
low_small (suc level) low short = omega arith

pub high_small : (high : Option (List ℕ)) → OfSome IsFence high → length (fence_words high) ≤ 58
high_small None fence = omega arith
high_small (Some high) fence = omega (arith, words_of-length high, fence.0)

-- what is told of a page's fences is its frame
pub frame_is : (frame : Frame) (c : Content) (level : ℕ) (low : List ℕ) (high : Option (List ℕ)) → IsContent c → level ≡ c.level → low ≡ c.low → high ≡ c.high
    → frame.level ≡ level → frame.low ≡ length (low_words level low) → frame.high ≡ length (fence_words high) → IsFrame frame c
frame_is frame c level low high is level_is low_is high_is of_level of_low of_high =
    let l : frame.low ≡ length (low_words c.level c.low) = of_low ∙ (ap (λ n. length (low_words n low)) level_is ∙ ap (λ k. length (low_words c.level k)) low_is) in
    let h : frame.high ≡ length (fence_words c.high) = of_high ∙ ap (λ k. length (fence_words k)) high_is in
    record {
      level_is = of_level ∙ level_is;
      low_is = l;
      high_is = h;
      low_small = omega (arith, l, low_small c.level c.low is.low.0);
      high_small = omega (arith, h, high_small c.high is.high);
    }

-- an inner page with one entry more begins at its low fence still
begins_put : (level : ℕ) (low : List ℕ) (es : List Entry) (e : Entry) (b a : ℕ) → IsAround es e.key b a → BeginsAt level low (keys es) → IsAtMost low e.key
    → BeginsAt level low (keys (take b es ++ (e ∷ drop a es)))
begins_put zero low es e b a around begins from = tt
begins_put (suc level) low [] e b a around begins from = absurd begins
begins_put (suc level) low (x ∷ es) e (suc b) a around begins from = begins
begins_put (suc level) low (x ∷ es) e zero zero around begins from =
    absurd (true≢false (sym (subst (λ k. IsBelow e.key k) (sym begins) (around.above 0 (omega arith) (omega arith))) ∙ from))
begins_put (suc level) low (x ∷ es) e zero (suc a) around begins from = begins ∙ around.same (omega arith)

-- the entries with one more are entries of such a page
module _ (words : List ℕ) (c : Content) (e : Entry) (b a : ℕ) (page : IsPage words c) (of : IsEntryOf c.level e) (inside : IsWithin c.low c.high e.key)
    (new_small : IsSmall e) (small : All IsSmall c.entries) (around : IsAround c.entries e.key b a) where
  within_all : All (λ (x : Entry). IsWithin c.low c.high x.key) c.entries
  within_all = of_keys (IsWithin c.low c.high) e c.entries page.content.within

  each : (Q : Entry → Type 0) → All Q c.entries → Q e → All Q (take b c.entries ++ (e ∷ drop a c.entries))
  each Q all own = All-append Q (take b c.entries) (e ∷ drop a c.entries) (All-take Q b c.entries all) (All-cons Q e (drop a c.entries) own (All-drop Q a c.entries all))

  pub are_entries : AreEntriesOf c (take b c.entries ++ (e ∷ drop a c.entries))
  are_entries = record {
    each = each (IsEntryOf c.level) page.content.entries of;
    small = each IsSmall small new_small;
    ascending =
        ascends_put c.entries e b a around.order page.content.ascending (around_lesser c.entries e b a around) (around_greater c.entries e b a around);
    within = to_keys (IsWithin c.low c.high) e (take b c.entries ++ (e ∷ drop a c.entries)) (each (λ (x : Entry). IsWithin c.low c.high x.key) within_all inside);
    begins = begins_put c.level c.low c.entries e b a around page.content.begins inside.0;
  }

-- the entries are cut in two
module _ (joined : Joined) (own fresh : Logical) (c : Content) (can : CanPart joined own fresh c) where
  can_halve : CanHalve c (entry_added joined.added)
  can_halve = record {
    low = can.joined_is.will.page.content.low;
    high = can.joined_is.will.page.content.high;
    fits = can.joined_is.will.page.fits;
    small = can.joined_is.will.small;
    new_small = can.joined_is.will.new_small;
    over = can.over;
  }

  pub entries : AreEntriesOf c (joined_entries joined c)
  entries =
      let will = can.joined_is.will in
      are_entries joined.page.now.words c (entry_added joined.added) joined.before joined.after will.page will.entry will.within will.new_small will.small can.joined_is.around

  pub has_place : (frame : Frame) → IsFrame frame c → HasPlace joined frame c
  has_place frame is =
      let some = some_place c (entry_added joined.added) fresh can_halve in
      record {
        joined_is = can.joined_is;
        frame_is = is;
        place = omega (arith, some.1.0, some.1.1, ap (λ xs. length xs) (are_put joined c can.joined_is));
      }

  module _ (at : ℕ) (cut : IsCut c fresh (joined_entries joined c) at) where
    pub cut_some : 0 < at
    cut_some = omega (arith, cut.place.0, least_some c.level)

    pub cut_within : at < length (joined_entries joined c)
    cut_within = omega (arith, cut.place.1, least_some c.level)

    cut_put : IsCut c fresh (put_entry (entry_added joined.added) c.entries) at
    cut_put = subst (λ xs. IsCut c fresh xs at) (are_put joined c can.joined_is) cut

    fit : HalvesFit c fresh (joined_entries joined c) at
    fit =
        subst (λ xs. HalvesFit c fresh xs at) (sym (are_put joined c can.joined_is))
        (halves_fit c (entry_added joined.added) fresh at can_halve cut_put)

    both : IsContent (left_half (owned c own) fresh (joined_entries joined c) at) × IsContent (right_half (owned c own) fresh (joined_entries joined c) at)
    both =
        let is = can.joined_is.will.page.content in
        contents (owned c own) fresh (joined_entries joined c) at
        (record {
          level = is.level;
          own = can.own_is;
          right = is.right;
          low = is.low;
          high = is.high;
          mark = is.mark;
          entries = is.entries;
          ascending = is.ascending;
          within = is.within;
          begins = is.begins;
        })
        can.fresh_is
        (record { each = entries.each; small = entries.small; ascending = entries.ascending; within = entries.within; begins = entries.begins })
        cut_some cut_within

    -- what is written of each half
    module _ (head : Head) (key : List ℕ) (key_is : key ≡ cut_at (joined_entries joined c) at) where
      left_part : started head ≡ record c { own = own; right = Some fresh; high = Some key; entries = [] }
          → part_of joined head 0 at c ≡ left_half (owned c own) fresh (joined_entries joined c) at
      left_part is =
          ap (λ h. with_entries h (take (at - 0) (drop 0 (joined_entries joined c)))) is
          ∙ (ap (λ xs. with_entries (record c { own = own; right = Some fresh; high = Some key; entries = [] }) xs) (from_start (joined_entries joined c) at)
          ∙ ap (λ k. record c { own = own; right = Some fresh; high = Some k; entries = take at (joined_entries joined c) }) key_is)

      right_part : (n : ℕ) → n ≡ length (joined_entries joined c) → started head ≡ record c { own = fresh; low = key; entries = [] }
          → part_of joined head at n c ≡ right_half (owned c own) fresh (joined_entries joined c) at
      right_part n all is =
          ap (λ h. with_entries h (take (n - at) (drop at (joined_entries joined c)))) is
          ∙ (ap (λ xs. with_entries (record c { own = fresh; low = key; entries = [] }) xs) (to_end (joined_entries joined c) at n all)
          ∙ ap (λ k. record c { own = fresh; low = k; entries = drop at (joined_entries joined c) }) key_is)

      pub can_write_left : started head ≡ record c { own = own; right = Some fresh; high = Some key; entries = [] } → CanWrite joined head 0 at c
      can_write_left is = record {
        joined_is = can.joined_is;
        order = omega arith;
        in_list = omega (arith, cut_within);
        content = subst (λ x. IsContent x) (sym (left_part is)) both.0;
        fits = subst (λ x. used_words x ≤ 256) (sym (left_part is)) fit.0;
      }

      pub can_write_right : (n : ℕ) → n ≡ length (joined_entries joined c) → started head ≡ record c { own = fresh; low = key; entries = [] } → CanWrite joined head at n c
      can_write_right n all is = record {
        joined_is = can.joined_is;
        order = omega (arith, all, cut_within);
        in_list = omega (arith, all);
        content = subst (λ x. IsContent x) (sym (right_part n all is)) both.1;
        fits = subst (λ x. used_words x ≤ 256) (sym (right_part n all is)) fit.1;
      }

      pub left_written : (out : List ℕ) → started head ≡ record c { own = own; right = Some fresh; high = Some key; entries = [] }
          → IsPage out (part_of joined head 0 at c) → IsPage out (left_half (owned c own) fresh (put_entry (entry_added joined.added) c.entries) at)
      left_written out is page =
          subst (λ xs. IsPage out (left_half (owned c own) fresh xs at)) (are_put joined c can.joined_is) (subst (λ x. IsPage out x) (left_part is) page)

      pub right_written : (out : List ℕ) (n : ℕ) → n ≡ length (joined_entries joined c) → started head ≡ record c { own = fresh; low = key; entries = [] }
          → IsPage out (part_of joined head at n c) → IsPage out (right_half (owned c own) fresh (put_entry (entry_added joined.added) c.entries) at)
      right_written out n all is page =
          subst (λ xs. IsPage out (right_half (owned c own) fresh xs at)) (are_put joined c can.joined_is) (subst (λ x. IsPage out x) (right_part n all is) page)

    pub parts : (left right : List ℕ) → IsPage left (left_half (owned c own) fresh (put_entry (entry_added joined.added) c.entries) at)
        → IsPage right (right_half (owned c own) fresh (put_entry (entry_added joined.added) c.entries) at) → AreParts (owned c own) (entry_added joined.added) fresh left right
    parts left right of_left of_right = record {
      at = at;
      cut = record { place = cut_put.place; least = cut_put.least; first = cut_put.first };
      left_page = of_left;
      right_page = of_right;
    }

-- the entries with one more ascend
pub ascends_all : (joined : Joined) (own fresh : Logical) (c : Content) → CanPart joined own fresh c → Ascends (keys (put_entry (entry_added joined.added) c.entries))
ascends_all joined own fresh c can = subst (λ xs. Ascends (keys xs)) (are_put joined c can.joined_is) (entries joined own fresh c can).ascending
