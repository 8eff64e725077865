-- Seated: a seat at the engine's table, which has this layout. It carries no slot.
use Rattle.std.specs.Prelude.{◌≡◌}
use Rattle.atomic_table.specs.Seated.{TableId}
use Rattle.atomic_table.specs.Table.{Me}
use Rattle.hc_rows.specs.declared.layout.Layout.{Layout}
use Rattle.hc_rows.specs.Places.{IsLayout, total}
use Rattle.hc_rule.specs.declared.view.View.{View}
use Rattle.hc_rule.specs.Views.{bare}

-- the table and its key; the layout; the table of the seat, and what the seat knows
abbrev pub IsSeated : TableId → Layout → Layout → TableId → Me Unit View → Type 0
IsSeated table key y id me = (id ≡ table) × (key ≡ y) × (table.words ≡ total y) × IsLayout y × (me ≡ bare me.0)
