-- With a record of zeros the entry would have 53 words, and all 271.
use Rattle.std.proofs.Common.{◌≡◌, List, ℕ, length, Some, None, ◌∙◌, inl, inr, arith}
use Rattle.std.specs.Prelude.{replicate}
use Rattle.std.proofs.lemmas.List.{length-replicate}
use Rattle.std.proofs.lemmas.Bool.{cases_Bool}
use Rattle.hc_base.specs.Content.{Entry, Version}
use Rattle.hc_base.specs.Layout.{entry_words, used_words}
use Rattle.hc_page.specs.Puts.{with_entry}
use Rattle.hc_page.proofs.Freed.{version_size}
use Rattle.hc_engine_tests.proofs.Fifth.{fifth_used}
use Rattle.hc_engine_tests.proofs.room.a_fifth_of_that_size.Goals as goal

pub fits-requires : goal.fits-requires
fits-requires c = record { valid = (c.requires.four.0, c.requires.four.1.page); key = c.requires.key }

pub returns : goal.returns
returns c =
    let d = c.requires.four.0 in
    let has = c.requires.four.1 in
    let rec : List ℕ = replicate c.args.rec_len 0 in
    let long : length rec ≡ c.args.rec_len = length-replicate {A = ℕ} c.args.rec_len 0 in
    let e : Entry = record { key = c.args.key.now; held = Version (record { 0 = 0 }) (Some rec) None } in
    let size : length (entry_words e) ≡ 53 = version_size c.args.key.now (record { 0 = 0 }) (Some rec) None c.args.rec_len long ∙ c.requires.size in
    let all : used_words (with_entry d e) ≡ 271 = fifth_used c.args.page.now.words d e has size in
    elim (cases_Bool c.fits.result) [
      | inl fit ↦ absurd (omega (arith, all, (c.fits.ensures.fits d (record { 0 = 0 }) (Some rec) None has.page long).0 fit))
      | inr not_fit ↦ not_fit
    ]
