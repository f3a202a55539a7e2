-- The kinds of refusals that are handed on.
use Rattle.std.proofs.Common.{ℕ, sym, subst}
use Rattle.xet_hash.specs.declared.error.Place.{Place}
use Rattle.xet_hash.specs.declared.error.Place.TheVariants.{Input, Output}
use Rattle.xet_hash.specs.declared.error.StoreError.{StoreError}
use Rattle.xet_hash.specs.declared.error.StoreError.TheVariants as errors
use Rattle.xet_shard.specs.Export.{IsExportError}
use Rattle.xet_shard.specs.WriteErrors.{IsWriteError}
use Rattle.xet_shard.specs.internal.Merging.{IsNoText}
use Rattle.xet_shard_format.specs.Reading.{IsShardError}
use Rattle.xet_shard.specs.Union.{IsUnionError, ShardRecords}

pub reading_export : (e : StoreError) → IsShardError e → IsExportError e
reading_export errors.OutOfMemory of = tt
reading_export (errors.Io place) of = subst (λ (p : Place). IsExportError (errors.Io p)) (sym of) tt
reading_export errors.UnexpectedEof of = tt
reading_export (errors.MalformedData reason) of = tt
reading_export _ of = absurd of

pub writing_export : (e : StoreError) → IsWriteError e → IsExportError e
writing_export errors.OutOfMemory of = tt
writing_export (errors.Io place) of = subst (λ (p : Place). IsExportError (errors.Io p)) (sym of) tt
writing_export _ of = absurd of

pub export_union : (e : StoreError) → IsExportError e → IsUnionError e
export_union errors.OutOfMemory of = tt
export_union (errors.Io Input) of = tt
export_union (errors.Io Output) of = tt
export_union errors.UnexpectedEof of = tt
export_union (errors.MalformedData reason) of = tt
export_union _ of = absurd of

pub encoding_union : (p : ShardRecords × ShardRecords) (creation other : ℕ) (e : StoreError) → IsNoText p creation other e → IsUnionError e
encoding_union p creation other errors.OutOfMemory of = tt
encoding_union p creation other errors.InvalidArguments of = tt
encoding_union p creation other (errors.MalformedData reason) of = tt
encoding_union p creation other _ of = absurd of
