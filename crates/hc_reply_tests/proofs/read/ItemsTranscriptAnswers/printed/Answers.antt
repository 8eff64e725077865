use Rattle.std.proofs.Common.{◌≢◌, List, [], ◌∷◌, sym, subst}
use Rattle.std.specs.List.{AllByRecursion}
use Rattle.hc_transcript.specs.declared.reply.Row.{Row}
use Rattle.hc_transcript.specs.declared.reply.Reply.{Reply}
use Rattle.hc_transcript.specs.declared.reply.Transcript.{Transcript}
use Rattle.hc_transcript.specs.Outputs.{IsRow, IsReply, IsTranscript, HasValues, RowsHaveValues, RepliesHaveValues, HaveValues}
use Rattle.hc_reply_tests.proofs.read.ItemsTranscriptAnswers.printed.Goals as goal

-- what P of an element gives holds of each, where P does
each : {T : Type 0} (P Q : T → Type 0) → ((x : T) → P x → Q x) → (xs : List T) → AllByRecursion P xs → AllByRecursion Q xs
each P Q gives [] are = tt
each P Q gives (x ∷ xs) are = (gives x are.0, each P Q gives xs are.1)

-- each row of an output has a value
rows_have : (reply : Reply) → IsReply reply → RowsHaveValues reply
rows_have reply is = each IsRow HasValues (λ row r. r.0) reply.rows is.0

replies_have : (transcript : Transcript) → IsTranscript transcript → RepliesHaveValues transcript
replies_have transcript is = each IsReply RowsHaveValues rows_have transcript.replies is.2

pub print-requires-clause-replies : goal.print-requires-clause-replies
print-requires-clause-replies c =
    subst (λ (all : List Transcript). AllByRecursion (λ (t : Transcript). t.replies ≢ []) all) (sym c.as_slice.ensures)
    (each IsTranscript (λ (t : Transcript). t.replies ≢ []) (λ t is. is.1) c.args.self.now c.requires.1)

pub print-requires-clause-values : goal.print-requires-clause-values
print-requires-clause-values c = subst HaveValues (sym c.as_slice.ensures) (each IsTranscript RepliesHaveValues replies_have c.args.self.now c.requires.1)
