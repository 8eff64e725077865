-- The walk that cuts a connection's replies, and its end where a reply is missing.
use Rattle.std.proofs.Common.{◌≡◌, ◌∙◌, ℕ, ◌+◌, ◌<◌, ◌≤◌, List, ◌∷◌, ◌++◌, Option, None, length, drop, get_or}
use Rattle.std.specs.Prelude.{option_map, pos}
use Rattle.std.proofs.lemmas.List.{at_drop_all, at_drop_more}
use Rattle.hc_transcript.specs.declared.reply.Reply.{Reply}
use Rattle.hc_meaning.specs.declared.statement.Statement.{Statement}
use Rattle.hc_meaning.specs.declared.statement.Statement.TheVariants.{Select}
use Rattle.hc_meaning.specs.declared.transaction.Transaction.{Transaction}
use Rattle.hc_meaning.specs.Transactions.{cut}

-- transactions, and then those that are still to be cut
abbrev pub followed_by : List Transaction → Option (List Transaction) → Option (List Transaction)
followed_by done later = option_map (λ rest. done ++ rest) later

-- the transactions so far, and then those of the statements and replies from a place on
abbrev pub cut_from : ℕ → List Statement → List Reply → List Transaction → ℕ → Option (List Transaction)
cut_from conn statements replies done at = followed_by done (cut conn (at + 1) (drop at statements) (drop at replies))

-- a statement without a reply
pub cut_from-no_reply : (conn : ℕ) (statements : List Statement) (replies : List Reply) (done : List Transaction) (at : ℕ) → at < length statements → length replies ≤ at → cut_from conn statements replies done at ≡ None
cut_from-no_reply conn statements replies done at in_statements ended =
    let statement : Statement = Select (pos 0) in
    at_drop_more (λ left. followed_by done (cut conn (at + 1) left (drop at replies))) statements at statement in_statements
    ∙ at_drop_all (λ left. followed_by done (cut conn (at + 1) (get_or statements at statement ∷ drop (at + 1) statements) left)) replies at ended
