-- What is seen of a reader after further reads.
use Rattle.std.proofs.Common.{◌≡◌, ◌∙◌, Bool, List, ℕ}
use Rattle.xet_codec.specs.declared.block.Block.{Block}
use Rattle.xet_codec.specs.Blocks.{IsPart, Sees}

pub sees_on : {b c : Bool} {seen now bytes : List ℕ} {end : ℕ} {old new : Block} → Sees b seen bytes end old → c ≡ b → now ≡ seen → IsPart new bytes → Sees c now bytes end new
sees_on t tells same part = record { told = tells ∙ t.told; same = same ∙ t.same; all = t.all; part = part }
