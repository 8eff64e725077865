-- What follows from the definitions alone.
use Rattle.std.specs.Prelude.{◌≡◌, ℕ, List}
use Rattle.hc_base.specs.Content.{Content}
use Rattle.hc_base.specs.Layout.{IsPage}

-- words are the layout of one content only, so two contents have two layouts
abbrev pub OneContent : Type 0
OneContent = (words : List ℕ) (c d : Content) → IsPage words c → IsPage words d → c ≡ d

-- a content has one layout
abbrev pub OneLayout : Type 0
OneLayout = (words others : List ℕ) (c : Content) → IsPage words c → IsPage others c → words ≡ others
