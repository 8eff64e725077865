-- Two words, and then the bytes of key and record.
use Rattle.std.proofs.Common.{◌≡◌, ◌+◌, ◌*◌, ◌^◌, ◌≤◌, ◌++◌, ◌∷◌, List, ℕ, length, set, subst, arith}
use Rattle.std.specs.Option.{option_copied}
use Rattle.hc_base.specs.Layout.{words_of, record_bytes, record_flags, older_word, entry_words}
use Rattle.hc_page.specs.Drafts.{IsWritten, entry_of}
use Rattle.hc_page.specs.declared.writer.NewEntry.{NewEntry}
use Rattle.hc_page.proofs.Sizes.{new_size}
use Rattle.hc_page.proofs.Written.{written_two}
use Rattle.hc_page.proofs.writer.write_version.Goals as goal

-- the words that are written are those of the entry
all_written : (new : NewEntry) (old now : List ℕ) (at head older : ℕ) (record_now : List ℕ) → record_now ≡ record_bytes (option_copied new.rec) → at + 2 ≤ length old
    → head ≡ new.tid.0 * 2 ^ 32 + length new.key.now * 2 ^ 20 + length record_now * 2 ^ 8 + record_flags (option_copied new.rec)
    → older ≡ older_word new.older
    → IsWritten (set (set old at head) (at + 1) older) now (at + 2) (words_of (new.key.now ++ record_now))
    → IsWritten old now at (entry_words (entry_of new))
all_written new old now at head older record_now is room head_is older_is writes =
    let key = new.key.now in
    let flags = record_flags (option_copied new.rec) in
    let rb = record_bytes (option_copied new.rec) in
    let whole : IsWritten old now at (head ∷ older ∷ words_of (key ++ record_now)) = written_two old now at head older (words_of (key ++ record_now)) room writes in
    subst (λ bs. IsWritten old now at ((new.tid.0 * 2 ^ 32 + length key * 2 ^ 20 + length bs * 2 ^ 8 + flags) ∷ older_word new.older ∷ words_of (key ++ bs))) is
    (subst (λ n. IsWritten old now at ((new.tid.0 * 2 ^ 32 + length key * 2 ^ 20 + length record_now * 2 ^ 8 + flags) ∷ n ∷ words_of (key ++ record_now))) older_is
    (subst (λ n. IsWritten old now at (n ∷ older ∷ words_of (key ++ record_now))) head_is whole))

pub write_bytes-requires : goal.write_bytes-requires
write_bytes-requires c = omega (arith, new_size c.args.new.now c.bytes_of-record.result.now c.bytes_of-record.ensures.record, c.requires.room)

pub returns : goal.returns
returns c =
    let long = new_size c.args.new.now c.bytes_of-record.result.now c.bytes_of-record.ensures.record in
    record {
      written = all_written c.args.new.now c.args.out.now.words c.write_bytes.new.out.words c.args.at c.version_head.result c.older_number.result c.bytes_of-record.result.now c.bytes_of-record.ensures.record
          (omega (arith, long, c.requires.room)) c.version_head.ensures c.older_number.ensures c.write_bytes.ensures;
      len = c.version_size.ensures;
    }
