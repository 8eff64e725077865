-- The key's bytes are read where the entry has them.
use Rattle.std.proofs.Common.{sym, ◌∙◌, arith}
use Rattle.hc_page.proofs.Entries.{level_is}
use Rattle.hc_page.proofs.rewrite.entry_key.Goals as goal

pub key_of-requires : goal.key_of-requires
key_of-requires c =
    let h = c.requires.there in
    record { entry = (h.0, h.1, h.2.page, sym (level_is c.args.page.now.words h.0 h.2.page) ∙ sym c.level.ensures, h.2.there) }

pub copy_key-requires-clause-short : goal.copy_key-requires-clause-short
copy_key-requires-clause-short c =
    let h = c.requires.there in
    let read = c.key_of.ensures.key h.0 h.1 h.2.page h.2.there in omega (arith, read.len_is, h.2.short)

pub returns : goal.returns
returns c = record { key = λ d e has. c.copy_key.ensures e.key (c.key_of.ensures.key d e has.page has.there) }
