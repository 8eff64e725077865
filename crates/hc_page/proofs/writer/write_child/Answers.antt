-- A word, and then the bytes of the key.
use Rattle.std.proofs.Common.{◌≡◌, ◌+◌, ◌*◌, ◌^◌, ◌∷◌, length, set, ap, subst, arith, append-nil}
use Rattle.hc_base.specs.Layout.{words_of}
use Rattle.hc_base.proofs.Places.{words_of-length}
use Rattle.hc_page.specs.Drafts.{IsWritten}
use Rattle.hc_page.proofs.Written.{written_one}
use Rattle.hc_page.proofs.writer.write_child.Goals as goal

pub write_bytes-requires : goal.write_bytes-requires
write_bytes-requires c = omega (arith, words_of-length c.args.key.now, c.requires.room)

pub returns : goal.returns
returns c =
    let key = c.args.key.now in
    let head = c.from.result * 2 ^ 32 + length key * 2 ^ 16 in
    let is : head ≡ c.args.child.0 * 2 ^ 32 + length key * 2 ^ 16 = ap (λ n. n * 2 ^ 32 + length key * 2 ^ 16) c.from.ensures in
    record {
      written = subst (λ n. IsWritten c.args.out.now.words c.write_bytes.new.out.words c.args.at (n ∷ words_of key)) is (written_one c.args.out.now.words c.write_bytes.new.out.words c.args.at head (words_of key) (omega (arith, c.requires.room))
          (subst (λ bs. IsWritten (set c.args.out.now.words c.args.at head) c.write_bytes.new.out.words (c.args.at + 1) (words_of bs)) (append-nil key) c.write_bytes.ensures));
      len = c.child_size.ensures c.args.child;
    }
