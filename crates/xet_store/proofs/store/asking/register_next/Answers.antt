use Rattle.std.proofs.Common.{◌∙◌, List, OnOk, ap, length, slice_get, subst}
use Rattle.xet_shard_directory.specs.declared.shard_file.MDBShardFile.{MDBShardFile}
use Rattle.xet_store_disk.specs.Asking.{RegistersShard}
use Rattle.xet_store.proofs.Answering.{has_next, unseen_again}
use Rattle.xet_store.proofs.store.asking.register_next.Goals as goal

pub returns-then-has_shard-clause-refused : goal.returns-then-has_shard-clause-refused
returns-then-has_shard-clause-refused g c =
    unseen_again c.args.store.now c.args.registry.now c.requires.registry c.requires.differ c.shards.result.now c.shards.ensures c.requires.rest c.has_shard.result
    (λ h at. c.has_shard.ensures h (ap (λ (l : List MDBShardFile). slice_get c.shards.result.now (length l)) c.files-number.ensures ∙ at)) c.if-has_shard.true

pub returns-else-has_shard-clause-registry : goal.returns-else-has_shard-clause-registry
returns-else-has_shard-clause-registry g c =
    has_next c.register_shard.result _ _ _ _ c.requires.registry
    (subst (λ (l : List MDBShardFile). OnOk c.register_shard.result (RegistersShard c.args.store.now (length l) c.args.registry.now c.register_shard.new.registry)) c.files-number.ensures c.register_shard.ensures.registered)
    c.register_shard.ensures.kept c.register_shard.ensures.unchanged
