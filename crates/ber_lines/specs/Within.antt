-- What holds of a walk between two lines.
use Rattle.std.specs.Prelude.{ℕ, ◌<◌, ◌≤◌, List}
use Rattle.std.specs.List.{All}
use Rattle.ber_lines.specs.declared.walk.Open.{Open}
use Rattle.ber_lines.specs.declared.walk.Step.{Step}

-- A walk over n bytes is at a place in them or at their end, as are the ends of the contents that are open, and each
-- index of its path is below the place.
pub record IsWithin (n at : ℕ) (opened : List Open) (path : List Step) : Type 0 where
  pub at_fits : at ≤ n
  pub ends_fit : All (λ o. o.end ≤ n) opened
  pub path_fits : All (λ s. s.index < at) path
