-- The page's first entries; from the new one on, it and the page's entries after its place.
use Rattle.std.proofs.Common.{◌-◌, ◌+◌, arith}
use Rattle.hc_split.proofs.Joining.{after_within, up_to, words_after, words_more}
use Rattle.hc_split.proofs.joined.Joined.words_to.Goals as goal

pub overflow_sub-rest : goal.overflow_sub-rest
overflow_sub-rest c =
    let h = c.requires.there in
    let joined = c.args.self.now in
    let page = h.1.will.page in
    let a = after_within joined h.0 h.1 c.args.slot h.2 in
    omega (
      arith,
      c.words_to-2.ensures.words h.0 (record { page = page; in_list = a }),
      c.words_to-3.ensures.words h.0 (record { page = page; in_list = h.1.around.in_list }),
      words_more joined.after (c.args.slot - 1 - joined.before + joined.after) h.0.entries (omega arith),
    )

pub returns-clause-words : goal.returns-clause-words
returns-clause-words c = λ d is within.
    let joined = c.args.self.now in
    let page = is.will.page in
    let a = after_within joined d is c.args.slot within in
    omega (
      arith,
      c.words_to-2.ensures.words d (record { page = page; in_list = a }),
      c.words_to-3.ensures.words d (record { page = page; in_list = is.around.in_list }),
      c.words_to-4.ensures.words d (record { page = page; in_list = up_to joined d is }),
      c.size.ensures,
      words_after joined d is c.args.slot (omega (arith, c.if-slot-self.false)),
      words_more joined.after (c.args.slot - 1 - joined.before + joined.after) d.entries (omega arith),
    )
