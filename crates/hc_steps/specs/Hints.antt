-- Hints: where the claims of a connection begin.
use Rattle.std.specs.Prelude.{ℕ, ◌+◌, ◌*◌, ◌/◌}
use Rattle.hc_rows.specs.declared.layout.Layout.{Layout}

-- as it is dealt: of n connections the first begins at the first page, the second after an n-th of the pages, and so on
abbrev pub first_hint_of : Layout → ℕ → ℕ
first_hint_of y conn = conn * y.pages / y.seats + 1
