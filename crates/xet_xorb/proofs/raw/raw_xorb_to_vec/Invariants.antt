use Rattle.std.proofs.Common.{◌≡◌, take}
use Rattle.std.specs.List.{flat_map}
use Rattle.xet_xorb.proofs.raw.raw_xorb_to_vec.Given as goal

abbrev pub invariant-loop-part : goal.invariant-loop-part
invariant-loop-part l = l.bytes.items ≡ flat_map (λ p. p) (take l.part-index l.part-items)
