use Rattle.std.proofs.lemmas.Slice.Eq.{slice_eq-Decides}
use Rattle.xet_shard_format.proofs.Alike.{segments_alike}
use Rattle.xet_shard_format.proofs.section.same_segments.Goals as goal

pub returns : goal.returns
returns c = slice_eq-Decides segments_alike _ _ _ c.eq.ensures
