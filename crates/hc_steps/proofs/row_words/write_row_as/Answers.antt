-- Word after word is new.
use Rattle.std.proofs.Common.{◌≡◌, ◌∙◌, ◌<◌, ◌≤◌, refl, sym, ap, subst, length, get_or, arith}
use Rattle.hc_rule.specs.Views.{bare}
use Rattle.hc_rule.specs.Kinds.Rows.{IsWhole, with_word}
use Rattle.hc_rule.specs.Kinds.StorePage.{Owns}
use Rattle.hc_rule.proofs.Rewriting.{begin_words, still_owned, begun_none, begun_more, begun_all, whole_before}
use Rattle.hc_steps.proofs.row_words.write_row_as.Goals as goal

pub loop-word-init : goal.loop-word-init
loop-word-init c = record {
  table = refl;
  whole = λ none. absurd (omega (arith, none));
  long = λ none. absurd (omega (arith, none));
  written = c.requires.seated.4 ∙ ap bare (begun_none c.args.p.0 c.args.page.now.words c.args.seat.now.me.0);
}

pub write_word_as-requires : goal.write_word_as-requires
write_word_as-requires c =
    let v = c.args.seat.now.me.0 in
    let now = c.loop-word.invariant.written in record {
      seated = (c.loop-word.invariant.table ∙ c.requires.seated.0, c.requires.seated.1, c.requires.seated.2, c.requires.seated.3, now ∙ ap (λ m. bare m.0) (sym now));
      connected = ap (λ m. m.0.role) now ∙ c.requires.connected;
      page = c.requires.page;
      owns = subst (λ m. Owns m.0 c.args.p.0) (sym now) (still_owned c.args.p.0 (begin_words c.loop-word.word c.args.page.now.words) (λ z. refl) v c.requires.owns);
      word = omega (arith, c.loop-word-test.true);
    }

pub loop-word-preserved : goal.loop-word-preserved
loop-word-preserved c =
    let v = c.args.seat.now.me.0 in
    let p = c.args.p.0 in
    let k = c.loop-word.word in
    let new = c.args.page.now.words in
    let long : length c.args.page.now.words ≡ 256 = omega (arith, c.type_inv.page) in
    let within : c.loop-word.word < 256 = omega (arith, c.loop-word-test.true) in
    let now = ap (λ m. m.0) c.loop-word.invariant.written in
    let whole = subst (λ w. IsWhole p w) now c.write_word_as.ensures.whole in
    record {
      table = c.write_word_as.ensures.table ∙ c.loop-word.invariant.table;
      whole = λ more. whole_before p k new v long within whole;
      long = λ more. long;
      written = c.write_word_as.ensures.stored ∙ ap bare (ap (λ w. with_word p k (get_or new k 0) w) now ∙ begun_more p k new v long within whole);
    }

pub returns-clause-written : goal.returns-clause-written
returns-clause-written c =
    let v = c.args.seat.now.me.0 in
    let k = c.loop-word.word in
    let past : 256 ≤ c.loop-word.word = omega (arith, c.loop-word-test.false) in
    let some : 0 < c.loop-word.word = omega (arith, past) in
    c.loop-word.invariant.written ∙ ap bare (begun_all c.args.p.0 k c.args.page.now.words v (c.loop-word.invariant.long some) past (c.loop-word.invariant.whole some))
