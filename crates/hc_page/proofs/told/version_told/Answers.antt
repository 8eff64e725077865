-- What the words tell is what the entry has.
use Rattle.std.proofs.Common.{◌%◌, arith, get_or, nat_eq}
use Rattle.std.proofs.lemmas.Option.{none-some}
use Rattle.hc_page.proofs.Entries.{bytes_after}
use Rattle.hc_page.proofs.TellingEntries.{told_one, version_there, version_key, version_record, version_is, part_bytes, record_within}
use Rattle.hc_page.proofs.told.version_told.Goals as goal

pub returns-then-at-gt254 : goal.returns-then-at-gt254
returns-then-at-gt254 c = record {
  within = tt;
  is = λ d slot e page leaf there is. let r = version_there c.args.page.now.words d slot e c.args.at page leaf there is in absurd (omega (arith, r.room));
}

pub returns-in_err-key : goal.returns-in_err-key
returns-in_err-key c =
    rw c.from_residual.ensures
    (record {
      within = tt;
      is = λ d slot e page leaf there is.
          let words = c.args.page.now.words in
          let r = version_there words d slot e c.args.at page leaf there is in
          none-some e.key (version_key words c.args.at e _ _ r c.key_len-key_len.ensures (c.in_err-key.ensures words c.requires.bytes));
    })

pub returns-in_err-rec : goal.returns-in_err-rec
returns-in_err-rec c =
    rw c.from_residual-in_err-rec.ensures
    (record {
      within = tt;
      is = λ d slot e page leaf there is.
          let words = c.args.page.now.words in
          let r = version_there words d slot e c.args.at page leaf there is in
          none-some (bytes_after e.held) (version_record words c.args.at e _ _ _ r c.key_len-key_len.ensures c.rec_len.ensures (c.in_err-rec.ensures words c.requires.bytes));
    })

pub returns : goal.returns
returns c =
    let words = c.args.page.now.words in
    let at = c.args.at in
    let key = c.in_ok-key.key.now in
    let rec = c.in_ok-rec.rec.now in
    let key_told = c.in_ok-key.ensures words c.requires.bytes in
    let rec_told = c.in_ok-rec.ensures words c.requires.bytes in
    record {
      within = (
        (c.upper.ensures.small, record_within (nat_eq (get_or words at 0 % 2) 1) rec _ c.record.ensures (part_bytes words _ _ 4095 rec rec_told.are (omega (arith, c.rec_len.ensures))), c.older.ensures.within),
        part_bytes words _ _ 4095 key key_told.are (omega (arith, c.key_len-key_len.ensures)),
      );
      is = λ d slot e page leaf there is.
          let r = version_there words d slot e at page leaf there is in
          version_is words at e _ key rec _ _ r c.upper.ensures.half (told_one key e.key (version_key words at e _ _ r c.key_len-key_len.ensures key_told)) (told_one rec (bytes_after e.held) (version_record words at e _ _ _ r c.key_len-key_len.ensures c.rec_len.ensures rec_told)) c.record.ensures c.older.ensures.older;
    }
