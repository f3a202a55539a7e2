use Rattle.std.proofs.Common.{◌≡◌, ◌++◌, take}
use Rattle.std.specs.Int.{to_le_bytes, w64}
use Rattle.std.specs.List.{flat_map}
use Rattle.xet_shard_format.proofs.encoding.push_words.Given as goal

abbrev pub invariant-loop-word : goal.invariant-loop-word
invariant-loop-word l = record { encoding : l.encoding.items ≡ l.fn.encoding.items ++ flat_map (to_le_bytes w64) (take l.word-index l.words) }
