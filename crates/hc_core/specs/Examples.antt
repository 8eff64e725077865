-- Runs of the machine's table, worked out by hand: the definitions at given events, with no program between.
use Rattle.std.specs.Prelude.{ℕ, Some, List, [], ◌∷◌, ◌++◌}
use Rattle.hc_core.specs.Diary.{entry_of}
use Rattle.hc_core.specs.declared.account.Entry.{Entry}
use Rattle.hc_core.specs.declared.event.Event.TheVariants.{Begin, Draw, Read, Put, Propose, Check, Decide, Unput, End}
use Rattle.hc_core.specs.declared.outcome.Outcome.TheVariants.{Done, Began, Drew, Cells, Met, Proposed, Decided, NotNow}

-- keys of one byte
abbrev pub key_a : List ℕ
key_a = 97 ∷ []

abbrev pub key_b : List ℕ
key_b = 98 ∷ []

abbrev pub key_c : List ℕ
key_c = 99 ∷ []

abbrev pub key_p : List ℕ
key_p = 112 ∷ []

-- one commit; a put before the transaction begins is not enabled
abbrev pub one_commit : List Entry
one_commit =
    entry_of (Put 0 key_a (Some [])) NotNow
    ∷ entry_of (Begin 0) (Began (record { 0 = 0 }))
    ∷ entry_of (Draw 0 1) (Drew (record { 0 = 1 }))
    ∷ entry_of (Put 0 key_a (Some [])) Done
    ∷ entry_of (Propose 0) (Proposed (record { 0 = 1 }))
    ∷ entry_of (Decide 0) (Decided (record { 0 = 1 }))
    ∷ entry_of (End 0) Done
    ∷ []

-- write skew: each of two transactions reads what the other puts. The first one to decide wins; the other may not
-- decide unchecked, and its check is refused
abbrev pub write_skew : List Entry
write_skew =
    entry_of (Begin 0) (Began (record { 0 = 0 }))
    ∷ entry_of (Begin 1) (Began (record { 0 = 0 }))
    ∷ entry_of (Read 0 key_b (Some key_c)) (Cells (record { cells = [] }))
    ∷ entry_of (Read 1 key_a (Some key_b)) (Cells (record { cells = [] }))
    ∷ entry_of (Draw 0 1) (Drew (record { 0 = 1 }))
    ∷ entry_of (Draw 1 1) (Drew (record { 0 = 2 }))
    ∷ entry_of (Put 0 key_a (Some [])) Done
    ∷ entry_of (Put 1 key_b (Some [])) Done
    ∷ entry_of (Propose 0) (Proposed (record { 0 = 1 }))
    ∷ entry_of (Check 0 key_b (Some key_c)) Done
    ∷ entry_of (Decide 0) (Decided (record { 0 = 1 }))
    ∷ entry_of (Propose 1) (Proposed (record { 0 = 2 }))
    ∷ entry_of (Decide 1) NotNow
    ∷ entry_of (Check 1 key_a (Some key_b)) (Met (record { tid = record { 0 = 1 }; conn = 0; ord = 1; key = key_a }))
    ∷ entry_of (Unput 1 key_b) Done
    ∷ entry_of (End 1) Done
    ∷ entry_of (End 0) Done
    ∷ []

-- a connection commits a put of the first key
abbrev pub commits_a : ℕ → ℕ → ℕ → ℕ → List Entry
commits_a conn snapshot id number =
    entry_of (Begin conn) (Began (record { 0 = snapshot }))
    ∷ entry_of (Draw conn 1) (Drew (record { 0 = id }))
    ∷ entry_of (Put conn key_a (Some [])) Done
    ∷ entry_of (Propose conn) (Proposed (record { 0 = number }))
    ∷ entry_of (Decide conn) (Decided (record { 0 = number }))
    ∷ entry_of (End conn) Done
    ∷ []

-- a version under a newer one: the number 2 is proposed, and another transaction takes it and puts the same key
-- again. A check for the number 2 finds the older version, and names that
abbrev pub under_a_newer_one : List Entry
under_a_newer_one =
    (entry_of (Begin 0) (Began (record { 0 = 0 }))
    ∷ entry_of (Read 0 key_a (Some key_b)) (Cells (record { cells = [] }))
    ∷ [])
    ++ commits_a 1 0 1 1
    ++ (entry_of (Draw 0 1) (Drew (record { 0 = 2 }))
    ∷ entry_of (Put 0 key_p (Some [])) Done
    ∷ entry_of (Propose 0) (Proposed (record { 0 = 2 }))
    ∷ [])
    ++ commits_a 2 1 3 2
    ++ entry_of (Check 0 key_a (Some key_b)) (Met (record { tid = record { 0 = 1 }; conn = 1; ord = 1; key = key_a }))
    ∷ []
