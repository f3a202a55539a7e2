use Rattle.std.proofs.Common.{map, rules}
use Rattle.xet_shard_format.specs.Records.{chunk_row, xorb_head}
use Rattle.xet_shard_format.specs.theorems.Bytes.{head_and_one}
use Rattle.xet_shard_format.proofs.encoding.push_xorb.Goals as goal

pub returns-clause-encoding : goal.returns-clause-encoding
returns-clause-encoding c =
    head_and_one c.args.encoding.now.items c.push_row.new.encoding.items c.push_entries.new.encoding.items (xorb_head c.args.block.now) (map chunk_row c.args.block.now.chunks) (search rules) (search rules)
