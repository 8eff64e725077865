use Rattle.std.proofs.Common.{◌∙◌, ap, arith, length, sym}
use Rattle.hc_lex.proofs.WordOrder.{cut_in_two}
use Rattle.hc_lex.proofs.keyword.+look_up.Goals as goal

pub look_up-requires : goal.look_up-requires
look_up-requires t c =
    let first = ap length c.in-Some.ensures.cases.0 in
    let halves = cut_in_two (λ k. (k.0.now, k.1)) _ _ _ _ _ c.args.word.now c.split_at.ensures.by_index.0 c.in-Some.ensures.cases.0 c.requires in
    (omega (arith, c.decreases, first, c.split_at.ensures.front_len, c.split_at.ensures.back_len), halves.rises_before)

pub look_up-requires-in-Greater : goal.look_up-requires-in-Greater
look_up-requires-in-Greater t c =
    let first = ap length c.in-Some.ensures.cases.0 in
    let halves = cut_in_two (λ k. (k.0.now, k.1)) _ _ _ _ _ c.args.word.now c.split_at.ensures.by_index.0 c.in-Some.ensures.cases.0 c.requires in
    (omega (arith, c.decreases, first, c.split_at.ensures.front_len, c.split_at.ensures.back_len), halves.rises_after)

pub returns-in-Less : goal.returns-in-Less
returns-in-Less t c =
    let halves = cut_in_two (λ k. (k.0.now, k.1)) _ _ _ _ _ c.args.word.now c.split_at.ensures.by_index.0 c.in-Some.ensures.cases.0 c.requires in
    c.look_up.ensures ∙ halves.before (sym c.compare_words.ensures ∙ c.in-Less.is)

pub returns-in-Equal : goal.returns-in-Equal
returns-in-Equal t c =
    let halves = cut_in_two (λ k. (k.0.now, k.1)) _ _ _ _ _ c.args.word.now c.split_at.ensures.by_index.0 c.in-Some.ensures.cases.0 c.requires in
    halves.here (sym c.compare_words.ensures ∙ c.in-Equal.is)

pub returns-in-Greater : goal.returns-in-Greater
returns-in-Greater t c =
    let halves = cut_in_two (λ k. (k.0.now, k.1)) _ _ _ _ _ c.args.word.now c.split_at.ensures.by_index.0 c.in-Some.ensures.cases.0 c.requires in
    c.look_up-in-Greater.ensures ∙ halves.after (sym c.compare_words.ensures ∙ c.in-Greater.is)
