-- The dealing of a seat to the next connection, by a split of the dealer's.
use Rattle.std.specs.Prelude.{ℕ, ◌+◌}
use Rattle.hc_rule.specs.declared.view.View.{View}
use Rattle.hc_rule.specs.declared.view.Role.{Role}
use Rattle.hc_rule.specs.declared.view.Role.TheVariants.{Dealer, Connection, Nobody}
use Rattle.hc_rule.specs.Views.{dealt_view}

-- how many connections the dealer has dealt a seat to
abbrev pub dealt_by : Role → ℕ
dealt_by (Dealer n) = n
dealt_by (Connection conn) = 0
dealt_by Nobody = 0

-- the dealer's view after it, and the view of the seat that was dealt
abbrev pub dealer_after : View → View
dealer_after v = record v { role = Dealer (dealt_by v.role + 1) }

abbrev pub seat_dealt : View → View
seat_dealt v = dealt_view (dealt_by v.role)
