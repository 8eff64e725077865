-- Whole: all entries of a page with one more, as one page.
use Rattle.std.proofs.Common.{◌≡◌, sym, ap, subst, ◌∙◌, ℕ, ◌-◌, ◌≤◌, [], length, take, drop, arith}
use Rattle.hc_base.specs.Content.{Content, IsContent}
use Rattle.hc_base.specs.Layout.{used_words}
use Rattle.hc_page.specs.declared.writer.Head.{Head}
use Rattle.hc_page.specs.Drafts.{started}
use Rattle.hc_page.specs.Puts.{put_entry, with_entries, with_entry}
use Rattle.hc_page.proofs.Ranges.{from_start}
use Rattle.std.proofs.lemmas.List.{take_all}
use Rattle.hc_split.specs.declared.joined.Added.{Added}
use Rattle.hc_split.specs.declared.joined.Joined.{Joined}
use Rattle.hc_split.specs.Joined.{CanWrite, IsJoined, entry_added, joined_entries, part_of}
use Rattle.hc_split.proofs.Joining.{are_put}
use Rattle.hc_split.proofs.Parting.{are_entries}

module _ (joined : Joined) (c : Content) (is : IsJoined joined c) where
  -- they are the content with the entry put
  pub whole_is : (added : Added) → joined.added ≡ added → with_entries c (joined_entries joined c) ≡ with_entry c (entry_added added)
  whole_is added same = ap (λ xs. with_entries c xs) (are_put joined c is ∙ ap (λ a. put_entry (entry_added a) c.entries) same)

  content : IsContent (with_entries c (joined_entries joined c))
  content =
      let will = is.will in
      let all = are_entries joined.page.now.words c (entry_added joined.added) joined.before joined.after will.page will.entry will.within will.new_small will.small is.around in
      record {
        level = will.page.content.level;
        own = will.page.content.own;
        right = will.page.content.right;
        low = will.page.content.low;
        high = will.page.content.high;
        mark = will.page.content.mark;
        entries = all.each;
        ascending = all.ascending;
        within = all.within;
        begins = all.begins;
      }

  module _ (head : Head) (n : ℕ) (all : n ≡ length (joined_entries joined c)) (head_is : started head ≡ with_entries c []) where
    pub part_whole : part_of joined head 0 n c ≡ with_entries c (joined_entries joined c)
    part_whole =
        ap (λ h. with_entries h (take (n - 0) (drop 0 (joined_entries joined c)))) head_is
        ∙ ap (λ xs. with_entries c xs) (from_start (joined_entries joined c) n ∙ take_all n (joined_entries joined c) (omega (arith, all)))

    pub can_write_whole : used_words (with_entries c (joined_entries joined c)) ≤ 256 → CanWrite joined head 0 n c
    can_write_whole fits = record {
      joined_is = is;
      order = omega arith;
      in_list = omega (arith, all);
      content = subst (λ x. IsContent x) (sym part_whole) content;
      fits = subst (λ x. used_words x ≤ 256) (sym part_whole) fits;
    }
