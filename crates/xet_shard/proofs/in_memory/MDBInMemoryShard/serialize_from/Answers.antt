use Rattle.xet_shard.proofs.Lengths.{held_length}
use Rattle.xet_shard.proofs.in_memory.MDBInMemoryShard.serialize_from.Goals as goal

pub returns-clause-size : goal.returns-clause-size
returns-clause-size g c = held_length c.args.self.now c.args.creation c.args.expiry c.in_ok-encoding.ensures.fits
