use Rattle.std.proofs.Common.{length, refl}
use Rattle.std.proofs.lemmas.Option.{slice_get_read}
use Rattle.xet_store_disk.proofs.store.asking.shard_at.Goals as goal

pub returns : goal.returns
returns c = slice_get_read c.args.shards.now (length c.args.shards.now) c.args.number c.index-shards-number.result refl c.requires c.index-shards-number.is
