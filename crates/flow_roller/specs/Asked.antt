-- What may be asked of a roller.
use Rattle.std.specs.Prelude.{ℕ, Option}

pub data Asked : Type 0 where
  -- so many of the newest sealed segments are left as they are
  to_keep : ℕ → Asked
  -- so many of the newest rolled files are, and older ones are merged once that is worth it; or none is merged
  to_merge : Option ℕ → Asked
