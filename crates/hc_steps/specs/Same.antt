-- Same: a grip is that of the same connection, at the same table, and where its next claim begins is the same.
use Rattle.std.specs.Prelude.{◌≡◌}
use Rattle.hc_steps.specs.declared.grip.Grip.{Grip}

-- the grip of the same connection, at the same table
abbrev pub IsAlike : Grip → Grip → Type 0
IsAlike before after = (after.layout ≡ before.layout) × (after.conn ≡ before.conn) × (after.seat.table_id ≡ before.seat.table_id)

-- and its next claim begins where it would have begun
abbrev pub IsSame : Grip → Grip → Type 0
IsSame before after = IsAlike before after × (after.hint ≡ before.hint)
