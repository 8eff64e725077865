-- Key bytes: where the bytes of an entry's key are.
use Rattle.std.proofs.Common.{◌≡◌, sym, ap, subst, ◌∙◌, ℕ, ◌+◌, ◌*◌, ◌≤◌, List, ◌++◌, length, arith, length-append}
use Rattle.std.proofs.lemmas.List.{get_or_append_left}
use Rattle.hc_base.specs.Content.{Content, Entry}
use Rattle.hc_base.proofs.Places.{place_of, words_of-length}
use Rattle.hc_page.specs.Entries.{AreAt}
use Rattle.hc_page.specs.Puts.{HasShort}
use Rattle.hc_page.specs.Reading.{entry_head, place_in}
use Rattle.hc_page.proofs.Entries.{bytes_after, entry_read}

pub key_there : (words : List ℕ) (slot : ℕ) (d : Content) (e : Entry) (place level head len : ℕ) → HasShort words slot d e → place ≡ place_in words slot → level ≡ d.level
    → head ≡ entry_head level → len ≡ length e.key → ((place + head) * 8 + len ≤ 2048) × AreAt words ((place + head) * 8) len e.key
key_there words slot d e place level head len has place_is level_is head_is len_is =
    let r = entry_read words d slot e has.page has.there in
    let after = bytes_after e.held in
    let at : (place_of d slot + entry_head d.level) * 8 ≡ (place + head) * 8 =
    ap (λ p. (p + entry_head d.level) * 8) (sym (place_is ∙ r.place)) ∙ ap (λ h. (place + h) * 8) (sym (head_is ∙ ap entry_head level_is)) in (
      omega (arith, at, r.within, r.long, words_of-length (e.key ++ after), length-append e.key after, len_is),
      subst (λ n. AreAt words n len e.key) at
          (sym len_is, λ k small. r.bytes k (omega (arith, small, len_is, length-append e.key after)) ∙ get_or_append_left e.key after 0 k (omega (arith, small, len_is))),
    )
