use Rattle.std.proofs.Common.{◌≡◌, ◌∙◌, option_map, subst}
use Rattle.xet_shard.specs.Held.{Held, record_of}
use Rattle.xet_shard_format.specs.Records.{file_record_hash}
use Rattle.xet_shard.proofs.Holding.{record_found}
use Rattle.xet_shard.proofs.in_memory.MDBInMemoryShard.file_info.Goals as goal

pub returns : goal.returns
returns c =
    subst (λ (h : Held). option_map (λ x. x.now) c.get.result ≡ record_of file_record_hash c.args.hash.now h.files) c.self.view_is
    (c.get.ensures.value ∙ record_found file_record_hash c.args.hash.now c.self.inside.files.entries c.self.invariant.1)
