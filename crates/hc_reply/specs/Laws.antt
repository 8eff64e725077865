-- What holds of all outputs.
use Rattle.std.specs.Prelude.{◌≡◌, ℕ, List}
use Rattle.hc_transcript.specs.declared.reply.Transcript.{Transcript}
use Rattle.hc_transcript.specs.Text.{output_text}
use Rattle.hc_transcript.specs.Outputs.{AreTranscripts, IsOutput, IsTextOf, IsFaultAt}

-- an output is the text of one list of transcripts at most
abbrev pub OutputsDiffer : Type 0
OutputsDiffer =
    (one other : List Transcript) → AreTranscripts one → AreTranscripts other → output_text one ≡ output_text other → one ≡ other

-- transcripts have one text at most, since it is a function of them
abbrev pub OneSpelling : Type 0
OneSpelling = (one other : List ℕ) (transcripts : List Transcript) → IsTextOf one transcripts → IsTextOf other transcripts → one ≡ other

-- bytes are at fault at one place at most
abbrev pub OneFault : Type 0
OneFault = (bytes : List ℕ) (at other : ℕ) → IsFaultAt bytes at → IsFaultAt bytes other → at ≡ other

-- an output has no fault
abbrev pub OutputsHaveNoFault : Type 0
OutputsHaveNoFault = (bytes : List ℕ) (at : ℕ) → IsOutput bytes → IsFaultAt bytes at → ⊥
