-- Own: the id that the open transaction of a seat has drawn, and the steps on its word and by it.
use Rattle.std.specs.Prelude.{ℕ, ltb, leb, Bool, true, ◌&&◌, Option, None, Some}
use Rattle.hc_base.specs.declared.numbers.Tid.{Tid}
use Rattle.hc_base.specs.declared.tid_word.TidWord.{TidWord}
use Rattle.hc_rows.specs.declared.layout.Layout.{Layout}
use Rattle.hc_rule.specs.declared.view.View.{View}
use Rattle.hc_rule.specs.Kinds.TidWord.{TidStore}
use Rattle.hc_rule.specs.Kinds.WinLog.{Winning}

-- its number, and 0 where none is drawn
abbrev pub own_id : Option Tid → ℕ
own_id None = 0
own_id (Some t) = t.0

-- it is one of those that there are, or none is drawn
abbrev pub is_own : Layout → Option Tid → Bool
is_own y None = true
is_own y (Some t) = ltb 0 t.0 && leb t.0 y.transactions

-- a store of its word by the seat of a connection
abbrev pub own_store : ℕ → TidWord → View → TidStore
own_store conn w v = record { conn = conn; id = own_id v.own; word = w }

-- an exchange of the word of a commit number by it, where there are ids up to `last`
abbrev pub own_win : ℕ → ℕ → ℕ → View → Winning
own_win conn c last v = record { conn = conn; c = c; id = own_id v.own; last = last }
