-- What holds of the words of lines.
use Rattle.std.specs.Prelude.{◌≡◌, ◌++◌, ℕ, List}
use Rattle.hc_transcript.specs.declared.tag.LineTag.{LineTag}
use Rattle.hc_transcript.specs.Words.{tag_words}

-- no line's words begin another's, whatever follows them
abbrev pub NoTagBeginsAnother : Type 0
NoTagBeginsAnother =
    (one other : LineTag) (rest more : List ℕ) → tag_words one ++ rest ≡ tag_words other ++ more → (one ≡ other) × (rest ≡ more)
