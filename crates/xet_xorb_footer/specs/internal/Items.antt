-- List items in the bytes that encode them, for private functions.
use Rattle.std.specs.Prelude.{ℕ, List}
use Rattle.std.specs.Int.{w32, from_le_bytes}
use Rattle.xet_xorb_footer.specs.Items.{items_in}

abbrev pub numbers_in : ℕ → List ℕ → List ℕ
numbers_in n bytes = items_in (from_le_bytes w32) 4 n bytes

abbrev pub hashes_in : ℕ → List ℕ → List (List ℕ)
hashes_in n bytes = items_in (λ b. b) 32 n bytes
