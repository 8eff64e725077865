-- A note from one seat to another. It has how much of the log the seat has seen, its own account and what it was told of
-- others, and nothing else: no connection, page or number, and no word or place of the log that the seat noted. A split of the
-- seat gives it, and a join takes it in.
use Rattle.std.specs.Prelude.{List, ◌∷◌, cond, ltb, ◌++◌}
use Rattle.hc_core.specs.declared.account.Account.{Account}
use Rattle.hc_rule.specs.declared.view.Role.{Role}
use Rattle.hc_rule.specs.declared.view.Role.TheVariants.{Dealer, Connection, Nobody}
use Rattle.hc_rule.specs.declared.view.Told.{Told}
use Rattle.hc_rule.specs.declared.view.View.{View}
use Rattle.hc_rule.specs.Views.{nobody}

-- the accounts that a seat can tell of: that of its own connection, and those that it was told of
abbrev pub told_by : Role → Account → List Told → List Told
told_by (Connection conn) account told = record { conn = conn; account = account } ∷ told
told_by (Dealer n) account told = told
told_by Nobody account told = told

abbrev pub note_of : View → View
note_of v = record nobody { told = told_by v.role v.account v.told; seen = v.seen }

-- what a seat knows once it was told what another one knew
abbrev pub informed : View → View → View
informed v w = record v { told = v.told ++ w.told; seen = cond (ltb v.seen.0 w.seen.0) w.seen v.seen }
