use Rattle.xet_hash.specs.declared.error.StoreError.{StoreError}
use Rattle.std.proofs.Common.{◌≡◌}
use Rattle.xet_xorb_chunk.specs.Stream.{Fails, prefix_of}
use Rattle.xet_base.specs.theorems.Exits.{exit_with}
use Rattle.xet_xorb_chunk.specs.theorems.Prefixes.{prefix_refused}
use Rattle.xet_xorb_chunk.proofs.chunk_prefix.body_end.Goals as goal

pub returns-in_err-header-clause-refused : goal.returns-in_err-header-clause-refused
returns-in_err-header-clause-refused c =
    exit_with (λ (e : StoreError). prefix_of c.args.max_chunk c.args.bytes.now ≡ Fails e) _ _ c.from_residual.ensures.1
    (prefix_refused c.args.max_chunk c.args.bytes.now _ c.in_err-header.ensures.refused_whole c.in_err-header.ensures.refused)
