use Rattle.std.proofs.Common.{◌≡◌, List, ap, arith, length}
use Rattle.xet_base.specs.theorems.Exits.{exit_with}
use Rattle.xet_shard_directory.specs.declared.shard_file.MDBShardFile.{MDBShardFile}
use Rattle.xet_store.proofs.Answering.{within_shards}
use Rattle.xet_store.proofs.Querying.{differ_still, fails_before, few_still, same_count, unchanged_same, unchanged_then}
use Rattle.xet_store.proofs.store.asking.register_rest.Goals as goal

pub loop-store-init : goal.loop-store-init
loop-store-init g c = record { unchanged = unchanged_same c.args.store.now; registry = c.requires.registry }

pub loop-store-preserved : goal.loop-store-preserved
loop-store-preserved g c = record { unchanged = unchanged_then _ _ _ c.loop-store.invariant.unchanged c.in_ok-register_next.ensures.unchanged; registry = c.in_ok-register_next.ensures.registry }

pub register_next-requires-clause-rest : goal.register_next-requires-clause-rest
register_next-requires-clause-rest g c =
    let seen : length c.files.result.now ≡ length c.loop-store.registry.files = ap (λ (l : List MDBShardFile). length l) c.files.ensures in
    omega (arith, same_count _ _ c.loop-store.invariant.unchanged)

pub register_next-requires-clause-differ : goal.register_next-requires-clause-differ
register_next-requires-clause-differ g c = differ_still _ _ c.loop-store.invariant.unchanged c.requires.differ

pub register_next-requires-clause-few : goal.register_next-requires-clause-few
register_next-requires-clause-few g c = few_still _ _ c.loop-store.invariant.unchanged c.requires.few

pub loop-store-smaller : goal.loop-store-smaller
loop-store-smaller g c =
    let seen : length c.files.result.now ≡ length c.loop-store.registry.files = ap (λ (l : List MDBShardFile). length l) c.files.ensures in
    omega (arith, c.in_ok-register_next.ensures.more)

pub returns-in_err-register_next-clause-refused : goal.returns-in_err-register_next-clause-refused
returns-in_err-register_next-clause-refused g c = exit_with _ _ _ c.from_residual.ensures.1 (fails_before _ _ c.loop-store.invariant.unchanged _ _ c.in_err-register_next.ensures.refused)

pub returns-in_err-register_next-clause-unchanged : goal.returns-in_err-register_next-clause-unchanged
returns-in_err-register_next-clause-unchanged g c = unchanged_then _ _ _ c.loop-store.invariant.unchanged c.in_err-register_next.ensures.unchanged

pub returns-clause-all : goal.returns-clause-all
returns-clause-all g c =
    let seen : length c.files.result.now ≡ length c.loop-store.registry.files = ap (λ (l : List MDBShardFile). length l) c.files.ensures in
    omega (arith, within_shards _ _ c.loop-store.invariant.registry, same_count _ _ c.loop-store.invariant.unchanged)
