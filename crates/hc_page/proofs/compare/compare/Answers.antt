-- The first words that differ decide, and where none does the lengths.
use Rattle.std.proofs.Common.{◌≡◌, ◌+◌, ◌*◌, length, drop, sym, ap, ◌∙◌, arith}
use Rattle.std.specs.Ordering.{nat_cmp}
use Rattle.hc_base.specs.Layout.{word}
use Rattle.hc_base.proofs.KeyOrder.{first_bytes, words-decide, words-agree, lengths-decide, equal_only}
use Rattle.hc_page.proofs.Keys.{key_word-is, key_bytes}
use Rattle.hc_page.proofs.compare.compare.Goals as goal

pub words-preserved : goal.words-preserved
words-preserved c = λ bytes key.
    let words = c.args.page.now.words in
    let j = c.words.j in
    let mine : c.word_of_key-one.result ≡ word 8 (drop (8 * j) bytes) = c.word_of_key-one.ensures ∙ key_word-is words c.args.key.at c.args.key.len j bytes key in
    let its : c.word-other.result ≡ word 8 (drop (8 * j) c.args.sought.now.bytes.now) = c.word-other.ensures.word in
    ap (λ n. first_bytes n bytes c.args.sought.now.bytes.now) (let e : 8 * (j + 1) ≡ 8 * j + 8 = omega arith in e)
    ∙ words-agree (8 * j) bytes c.args.sought.now.bytes.now (key_bytes words c.args.key.at c.args.key.len bytes key) c.word-other.ensures.bytes (c.words.invariant bytes key)
    (sym mine ∙ (c.if-one-other.false ∙ its))

pub returns-then-one-other : goal.returns-then-one-other
returns-then-one-other c = λ bytes key.
    let words = c.args.page.now.words in
    let j = c.words.j in
    let mine : c.word_of_key-one.result ≡ word 8 (drop (8 * j) bytes) = c.word_of_key-one.ensures ∙ key_word-is words c.args.key.at c.args.key.len j bytes key in
    let its : c.word-other.result ≡ word 8 (drop (8 * j) c.args.sought.now.bytes.now) = c.word-other.ensures.word in
    let decided : nat_cmp (word 8 (drop (8 * j) bytes)) (word 8 (drop (8 * j) c.args.sought.now.bytes.now)) ≡ c.cmp.result =
    ap (λ m. nat_cmp m (word 8 (drop (8 * j) c.args.sought.now.bytes.now))) (sym mine) ∙ (ap (λ n. nat_cmp c.word_of_key-one.result n) (sym its) ∙ sym c.cmp.ensures) in
    sym
    (words-decide (8 * j) bytes c.args.sought.now.bytes.now c.cmp.result (key_bytes words c.args.key.at c.args.key.len bytes key) c.word-other.ensures.bytes (c.words.invariant bytes key) decided
    (λ same. c.if-one-other.true (equal_only c.word_of_key-one.result c.word-other.result (sym c.cmp.ensures ∙ same))))

pub returns : goal.returns
returns c = λ bytes key.
    c.cmp-2.ensures
    ∙ (ap (λ n. nat_cmp c.args.key.len n) c.len-2.ensures
    ∙ ap (λ n. nat_cmp n (length c.args.sought.now.bytes.now)) (sym key.len_is)
    ∙ sym (lengths-decide (8 * c.words.j) bytes c.args.sought.now.bytes.now (omega (arith, key.len_is, c.max-longest.ensures, c.len.ensures)) (omega (arith, c.max-longest.ensures, c.len.ensures)) (c.words.invariant bytes key)))
