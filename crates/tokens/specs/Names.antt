-- What a name is: "name (1 to 64 bytes)", and by request M-101 none "with any byte outside 33 to 126".
use Rattle.std.specs.Prelude.{ℕ, ◌≤◌, List, Bool, ◌&&◌, length}
use Rattle.costs.specs.Net.{All}
use Rattle.costs.specs.Tests.{between, every}
use Rattle.tokens.specs.TextLimits.{name_most, name_byte_least, name_byte_most}

unfoldable pub is_name : List ℕ → Bool
is_name w = between 1 name_most (length w) && every (between name_byte_least name_byte_most) w

-- the same as facts
pub record IsName (w : List ℕ) : Type 0 where
  pub some : 1 ≤ length w
  pub short : length w ≤ name_most
  pub plain : All (λ b. (name_byte_least ≤ b) × (b ≤ name_byte_most)) w
