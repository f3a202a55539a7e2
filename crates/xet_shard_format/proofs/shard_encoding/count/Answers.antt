use Rattle.std.proofs.Common.{◌<◌, ◌^◌, arith, length, map, rules}
use Rattle.std.proofs.lemmas.List.{length-map}
use Rattle.xet_shard_format.specs.theorems.Counts.{chunk_count, file_count, xorb_count}
use Rattle.xet_shard_format.proofs.shard_encoding.count.Goals as goal

pub overflow_cast-xorbs : goal.overflow_cast-xorbs
overflow_cast-xorbs g c =
    let few : length c.args.blocks.now < 2 ^ 32 = omega (arith, (xorb_count (map g.B.Lends.lent c.args.blocks.now) c.requires.few_blocks).1, length-map c.args.blocks.now g.B.Lends.lent) in
    search rules

pub overflow_cast-result : goal.overflow_cast-result
overflow_cast-result g c =
    let few : length c.args.files.now < 2 ^ 32 = omega (arith, (file_count (map g.F.Lends.lent c.args.files.now) c.requires.few_files).1, length-map c.args.files.now g.F.Lends.lent) in
    search rules

pub overflow_sub-result-2 : goal.overflow_sub-result-2
overflow_sub-result-2 g c =
    omega (arith, c.section_rows-xorb_rows.ensures, chunk_count (map g.B.Lends.lent c.args.blocks.now), length-map c.args.blocks.now g.B.Lends.lent)

pub returns-clause-files : goal.returns-clause-files
returns-clause-files g c = omega (arith, (file_count (map g.F.Lends.lent c.args.files.now) c.requires.few_files).0, length-map c.args.files.now g.F.Lends.lent)

pub returns-clause-xorbs : goal.returns-clause-xorbs
returns-clause-xorbs g c = omega (arith, (xorb_count (map g.B.Lends.lent c.args.blocks.now) c.requires.few_blocks).0, length-map c.args.blocks.now g.B.Lends.lent)

pub returns-clause-chunks : goal.returns-clause-chunks
returns-clause-chunks g c =
    omega (arith, c.section_rows-xorb_rows.ensures, chunk_count (map g.B.Lends.lent c.args.blocks.now), length-map c.args.blocks.now g.B.Lends.lent)
