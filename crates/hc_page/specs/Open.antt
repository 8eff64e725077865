-- Open: a leaf without fences, as the first one of a tree is.
use Rattle.std.specs.Prelude.{◌≡◌, ℕ, List, [], None}
use Rattle.hc_base.specs.Content.{Content}
use Rattle.hc_base.specs.Layout.{IsPage}

pub record IsOpen (words : List ℕ) (c : Content) : Type 0 where
  pub page : IsPage words c
  pub leaf : c.level ≡ 0
  pub low : c.low ≡ []
  pub high : c.high ≡ None

abbrev pub IsOpenLeaf : List ℕ → Type 0
IsOpenLeaf words = (c : Content) × IsOpen words c
