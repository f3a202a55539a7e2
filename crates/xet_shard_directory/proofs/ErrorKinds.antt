-- Which errors the bytes of a shard have.
use Rattle.std.proofs.Common.{◌≡◌, ℕ, Some, Result, Ok, Err, subst}
use Rattle.std.specs.Prelude.{IfErr}
use Rattle.std.specs.Result.{result_err}
use Rattle.xet_codec.specs.Parsing.{Fails, Gives}
use Rattle.xet_hash.specs.declared.error.Reason.TheVariants as reason
use Rattle.xet_hash.specs.declared.error.StoreError.{StoreError}
use Rattle.xet_hash.specs.declared.error.StoreError.TheVariants as error
use Rattle.xet_shard_directory.specs.Answers.{IsReadError}
use Rattle.xet_shard_directory.specs.Integrity.{failed_by}
use Rattle.xet_shard_format.specs.theorems.Refusing.{IsAnswer}

pub checks : {X : Type 0} (before now : ℕ) (e : StoreError) (read : Result X StoreError) → IsAnswer read → Fails e read → IfErr (failed_by e) (IsReadError before now)
checks before now error.OutOfMemory read answers fails = tt
checks before now error.UnexpectedEof read answers fails = tt
checks before now (error.MalformedData reason.Totals) read answers fails = tt
checks before now (error.MalformedData r) read answers fails = tt
checks before now e read answers fails = absurd (answers.refusal e fails)

-- the error of a call that reads
pub fails_of : {X Y : Type 0} (view : X → Y) (result : Result X StoreError) (read : Result Y StoreError) (e : StoreError) → Some e ≡ result_err result → Gives view result read → Fails e read
fails_of view (Ok x) read e is gives = absurd (cc is)
fails_of view (Err d) read e is gives =
    let same : d ≡ e = cc is in subst (λ (x : StoreError). Fails x read) same gives
