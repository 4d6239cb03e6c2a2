-- What a test tells.
--
--   Decides A b    the test b holds exactly if A does
use Rattle.std.specs.Prelude.{◌≡◌, Bool, true, false}

pub record Decides (A : Type 0) (b : Bool) : Type 0 where
  pub holds : b ≡ true → A
  pub fails : b ≡ false → A → ⊥
