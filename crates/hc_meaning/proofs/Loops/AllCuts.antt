-- The walk that cuts scripts with their transcripts: its turn at a script, and a transcript too many.
use Rattle.std.proofs.Common.{◌≡◌, ◌≢◌, ◌∙◌, refl, sym, ap, cond, ℕ, ◌+◌, ◌<◌, ◌≤◌, true, List, [], ◌∷◌, ◌++◌, Option, None, Some, length, drop, get_or, append_assoc}
use Rattle.std.specs.Prelude.{filter}
use Rattle.std.proofs.lemmas.List.{at_drop_all, at_drop_more}
use Rattle.hc_transcript.specs.declared.reply.Transcript.{Transcript}
use Rattle.hc_meaning.specs.declared.statement.Statement.{Statement}
use Rattle.hc_meaning.specs.declared.transaction.Script.{Script}
use Rattle.hc_meaning.specs.declared.transaction.Transaction.{Transaction}
use Rattle.hc_meaning.specs.Transactions.{cut_each, cut_one, has_statement, is_filled, joined}
use Rattle.hc_meaning.proofs.Loops.Cuts.{followed_by}

-- the transactions so far, and then those of the scripts and transcripts from two places on
abbrev pub cut_each_from : List Script → List Transcript → List Transaction → ℕ → ℕ → Option (List Transaction)
cut_each_from scripts transcripts done i at = followed_by done (cut_each (filter has_statement (drop i scripts)) (drop at transcripts))

-- statements that are some
filled : (statements : List Statement) → statements ≢ [] → is_filled statements ≡ true
filled [] some = absurd (some refl)
filled (statement ∷ statements) some = refl

-- the script at a place, and those after it
turn : (scripts : List Script) (transcripts : List Transcript) (done : List Transaction) (i at : ℕ) (script : Script) → i < length scripts → script ≡ get_or scripts i script
    → cut_each_from scripts transcripts done i at ≡ followed_by done (cut_each (filter has_statement (script ∷ drop (i + 1) scripts)) (drop at transcripts))
turn scripts transcripts done i at script within is =
    at_drop_more (λ left. followed_by done (cut_each (filter has_statement left) (drop at transcripts))) scripts i script within
    ∙ ap (λ s. followed_by done (cut_each (filter has_statement (s ∷ drop (i + 1) scripts)) (drop at transcripts))) (sym is)

-- the script has a statement
turn-filled : (scripts : List Script) (transcripts : List Transcript) (done : List Transaction) (i at : ℕ) (script : Script) → i < length scripts → script ≡ get_or scripts i script → script.statements ≢ []
    → cut_each_from scripts transcripts done i at ≡ followed_by done (cut_each (script ∷ filter has_statement (drop (i + 1) scripts)) (drop at transcripts))
turn-filled scripts transcripts done i at script within is some =
    turn scripts transcripts done i at script within is
    ∙ ap (λ b. followed_by done (cut_each (cond b (script ∷ filter has_statement (drop (i + 1) scripts)) (filter has_statement (drop (i + 1) scripts))) (drop at transcripts))) (filled script.statements some)

-- and there is a transcript
turn-transcript : (scripts : List Script) (transcripts : List Transcript) (done : List Transaction) (i at : ℕ) (script : Script) (transcript : Transcript) → i < length scripts → script ≡ get_or scripts i script → script.statements ≢ []
    → at < length transcripts → transcript ≡ get_or transcripts at transcript
    → cut_each_from scripts transcripts done i at ≡ followed_by done (joined (cut_one script transcript) (cut_each (filter has_statement (drop (i + 1) scripts)) (drop (at + 1) transcripts)))
turn-transcript scripts transcripts done i at script transcript within is some inside at_is =
    turn-filled scripts transcripts done i at script within is some
    ∙ at_drop_more (λ left. followed_by done (cut_each (script ∷ filter has_statement (drop (i + 1) scripts)) left)) transcripts at transcript inside
    ∙ ap (λ t. followed_by done (cut_each (script ∷ filter has_statement (drop (i + 1) scripts)) (t ∷ drop (at + 1) transcripts))) (sym at_is)

-- what is found is done, or it is the first of what is to come
joined-followed : (done found : List Transaction) (later : Option (List Transaction)) → followed_by done (joined (Some found) later) ≡ followed_by (done ++ found) later
joined-followed done found None = refl
joined-followed done found (Some rest) = ap Some (sym (append_assoc done found rest))

-- the transcript is cut
pub cut_each_from-more : (scripts : List Script) (transcripts : List Transcript) (done longer found : List Transaction) (i at : ℕ) (script : Script) (transcript : Transcript) → i < length scripts → script ≡ get_or scripts i script → script.statements ≢ []
    → at < length transcripts → transcript ≡ get_or transcripts at transcript → Some found ≡ cut_one script transcript → longer ≡ done ++ found
    → cut_each_from scripts transcripts done i at ≡ cut_each_from scripts transcripts longer (i + 1) (at + 1)
cut_each_from-more scripts transcripts done longer found i at script transcript within is some inside at_is cut longer_is =
    turn-transcript scripts transcripts done i at script transcript within is some inside at_is
    ∙ ap (λ own. followed_by done (joined own (cut_each (filter has_statement (drop (i + 1) scripts)) (drop (at + 1) transcripts)))) (sym cut)
    ∙ joined-followed done found (cut_each (filter has_statement (drop (i + 1) scripts)) (drop (at + 1) transcripts))
    ∙ ap (λ all. followed_by all (cut_each (filter has_statement (drop (i + 1) scripts)) (drop (at + 1) transcripts))) (sym longer_is)

-- no script is left, but a transcript is
pub cut_each_from-too_many : (scripts : List Script) (transcripts : List Transcript) (done : List Transaction) (i at : ℕ) (d : Transcript) → length scripts ≤ i → at < length transcripts → cut_each_from scripts transcripts done i at ≡ None
cut_each_from-too_many scripts transcripts done i at d past inside =
    at_drop_all (λ left. followed_by done (cut_each (filter has_statement left) (drop at transcripts))) scripts i past
    ∙ at_drop_more (λ left. followed_by done (cut_each [] left)) transcripts at d inside
