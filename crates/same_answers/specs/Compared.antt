-- Two configurations that are compared, and the ground under which names are told apart for it.
use Rattle.std.specs.Prelude.{ℕ, [], ◌∷◌}
use Rattle.net_model.specs.declared.config.Config.{Config}
use Rattle.net_model.specs.Reading.{Ground, joined_ground}

-- two configurations, how many rewrites a query may use in each, and how many pairs of state and type it may reach in each
pub record Compared : Type 0 where
  pub first : Config
  pub second : Config
  pub rewrites : ℕ
  pub states : ℕ

-- the ground of both: the names and the redirections of the one and of the other
abbrev pub joint : Compared → Ground
joint two = joined_ground (two.first ∷ two.second ∷ []) []
