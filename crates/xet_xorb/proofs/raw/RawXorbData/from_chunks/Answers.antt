use Rattle.std.proofs.Common.{rules}
use Rattle.xet_xorb.proofs.RawXorbs.{leaves_listed, raw_from}
use Rattle.xet_xorb.proofs.raw.RawXorbData.from_chunks.Goals as goal

pub returns-clause-leaves : goal.returns-clause-leaves
returns-clause-leaves c = leaves_listed _ _ (search rules)

pub returns-clause-raw : goal.returns-clause-raw
returns-clause-raw c = raw_from c.args.chunks.now _ c.requires (search rules) (search rules)
