-- The state of a hash whose message arrives in parts: the open chunk, and BLAKE3's chaining-value stack for, for private functions.
use Rattle.std.specs.Prelude.{ℕ, zero, suc}
use Rattle.xet_hash.specs.Blake3.{root_node}

-- the root flag if no chunk is left, and else 0
unfoldable pub last_flag : ℕ → ℕ
last_flag zero = root_node
last_flag (suc rest) = 0
