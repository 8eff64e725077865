-- What is used, and what is freed.
use Rattle.std.proofs.Common.{◌+◌, ◌-◌, refl, sym, subst, ◌∙◌, arith}
use Rattle.hc_page.specs.Puts.{IsAround}
use Rattle.hc_page.proofs.Entries.{count_is}
use Rattle.hc_page.proofs.Freed.{fits_by}
use Rattle.hc_page.proofs.room.has_room.Goals as goal

pub returns : goal.returns
returns c = record {
  room = λ d e page key len_is.
      let b = c.around-gap.result.before in
      let a = c.around-gap.result.after in
      let n = c.count-count.result in
      let around = subst (λ k. IsAround d.entries k b a) (sym key) (c.around-gap.ensures.around d page) in
      let n_is = c.count-count.ensures ∙ count_is c.args.page.now.words d page in
      let freed_is = c.freed.ensures.freed d (record { page = page; order = around.order; near = around.near; in_list = around.in_list }) in
      let all = fits_by d e b a n c.used.result c.args.len c.freed.result (b + 1 + (n - a)) around n_is (c.used.ensures.used d page) len_is freed_is refl in
      (λ yes. omega (arith, all, c.is_at_most.ensures.0 yes), λ small. c.is_at_most.ensures.1 (omega (arith, all, small)));
}
