-- A leaf without fences with four entries of 53 words each.
use Rattle.std.specs.Prelude.{◌≡◌, ◌≢◌, ℕ, List, [], length, None}
use Rattle.std.specs.List.{All}
use Rattle.hc_base.specs.Content.{Content}
use Rattle.hc_base.specs.Layout.{IsPage, all_words}

pub record HasFour (words : List ℕ) (key : List ℕ) (c : Content) : Type 0 where
  pub page : IsPage words c
  pub leaf : c.level ≡ 0
  pub low : c.low ≡ []
  pub high : c.high ≡ None
  pub four : length c.entries ≡ 4
  pub size : length (all_words c.entries) ≡ 212
  pub new : All (λ entry. entry.key ≢ key) c.entries
