use Rattle.std.proofs.Common.{◌≡◌, ◌++◌, take}
use Rattle.std.specs.List.{flat_map}
use Rattle.xet_xorb_chunk.specs.ChunkEncoding.{encoded_chunk}
use Rattle.xet_xorb.proofs.building.write_parts.Given as goal

abbrev pub invariant-loop-part : goal.invariant-loop-part
invariant-loop-part l = l.sink ≡ l.initial.sink ++ flat_map encoded_chunk (take l.part-index l.parts)
