use Rattle.std.proofs.lemmas.Slice.Eq.{slice_eq-Decides}
use Rattle.xet_shard_format.proofs.Alike.{verifications_alike}
use Rattle.xet_shard_format.proofs.section.same_verifications.Goals as goal

pub returns : goal.returns
returns c = slice_eq-Decides verifications_alike _ _ _ c.eq.ensures
