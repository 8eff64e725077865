-- Where the words are a page, the next entry is told, has room and comes after the last one.
use Rattle.std.proofs.Common.{◌≡◌, ◌+◌, ◌≤◌, [], ◌∷◌, Some, sym, ap, subst, ◌∙◌, arith, length}
use Rattle.std.proofs.lemmas.Bool.{both_ways}
use Rattle.std.specs.Option.{option_copied}
use Rattle.hc_base.specs.Layout.{entry_words}
use Rattle.hc_page.specs.Drafts.{started, with_last}
use Rattle.hc_page.specs.Told.{entry_told, MayFollow}
use Rattle.hc_page.proofs.CopyingOn.{next_there, next_fits, next_follows, next_copied, next_count}
use Rattle.hc_page.proofs.validity.copy_next.Goals.{then-size-copied-via-then-size-copied, then-size-copied-via-else-size-copied+then-not-may_follow}
use Rattle.hc_page.proofs.validity.copy_next.Goals as goal

pub returns-in_err-entry-clause-none : goal.returns-in_err-entry-clause-none
returns-in_err-entry-clause-none c =
    rw c.from_residual.ensures
    (λ has.
    let words = c.args.page.now.words in
    let h = c.requires.copied in
    let next = next_there words c.args.out.now.words c.args.head.now c.args.copied h.0 h.1 has.0 has.1 c.requires.more in
    c.in_err-entry.ensures.is has.0 next.0 has.1 next.1)

pub returns-then-size-copied-clause-none : goal.returns-then-size-copied-clause-none
returns-then-size-copied-clause-none c = λ has.
    let words = c.args.page.now.words in
    let out = c.args.out.now.words in
    let head = c.args.head.now in
    let h = c.requires.copied in
    let next = next_there words out head c.args.copied h.0 h.1 has.0 has.1 c.requires.more in
    let told : entry_told c.in_ok-entry.entry ≡ next.0 = c.in_ok-entry.ensures.is has.0 next.0 has.1 next.1 in
    elim c.then-size-copied.branch [
      | then-size-copied-via-then-size-copied w ↦
          let fits : c.args.copied.draft.used + length (entry_words (entry_told c.in_ok-entry.entry)) ≤ 256 =
          subst (λ e. c.args.copied.draft.used + length (entry_words e) ≤ 256) (sym told) (next_fits words out head c.args.copied h.0 h.1 has.0 next.0 has.1 next.1) in
          omega (arith, fits, c.size.ensures, w.if-size-copied.true, h.1.drafted.fits)
      | then-size-copied-via-else-size-copied+then-not-may_follow w ↦
          let follows : MayFollow (started head) (option_copied c.args.copied.last) c.key-key.result.now =
          subst (λ k. MayFollow (started head) (option_copied c.args.copied.last) k) (sym (c.key-key.ensures ∙ ap (λ e. e.key) told)) (next_follows words out head c.args.copied h.0 h.1 has.0 next.0 has.1 next.1) in
          both_ways w.may_follow.result w.if-not-may_follow.true (w.may_follow.ensures.1 follows)
    ]

pub returns-clause-some : goal.returns-clause-some
returns-clause-some c =
    let words = c.args.page.now.words in
    let out = c.args.out.now.words in
    let head = c.args.head.now in
    let h = c.requires.copied in
    let e = entry_told c.in_ok-entry.entry in
    let follows : MayFollow (started head) (option_copied c.args.copied.last) e.key =
    subst (λ k. MayFollow (started head) (option_copied c.args.copied.last) k) c.key-key.ensures (c.may_follow.ensures.0 c.if-not-may_follow.false) in
    let drafted = c.push.ensures.draft h.0 h.1.drafted in (
      (
        with_last h.0 (e ∷ []),
        next_copied words out head c.args.copied h.0 h.1 e (record { draft = c.push.result; last = Some c.key-key.result }) c.push.new.out.words c.in_ok-entry.ensures.within follows drafted c.push.ensures.total
            (ap Some c.key-key.ensures)
            (λ d page.
            let next = next_there words out head c.args.copied h.0 h.1 d page c.requires.more in
            next.1 ∙ ap Some (sym (c.in_ok-entry.ensures.is d next.0 page next.1))),
      ),
      (next_count words out head c.args.copied h.0 h.1 (record { draft = c.push.result; last = Some c.key-key.result }) c.push.new.out.words e drafted, c.push.ensures.total),
    )
