-- The errors of the calls below, as errors of cleaning.
use Rattle.std.specs.Prelude.{◌≡◌, ◌⊎◌, ◌<◌, ◌+◌, ℕ, List, length}
use Rattle.xet_dedup_queries.specs.declared.places.DedupError.{DedupError}
use Rattle.xet_dedup_queries.specs.declared.places.DedupError.TheVariants.{Interface, OutOfMemory}
use Rattle.xet_hash.specs.declared.error.StoreError.{StoreError}
use Rattle.xet_hash.specs.declared.error.StoreError.TheVariants as store
use Rattle.xet_hash.specs.declared.error.What.TheVariants.{Source}
use Rattle.xet_store.specs.Interface.{IsErrorSince}
use Rattle.xet_store.specs.Holders.{Holder}

-- the error of a store, for one of the deduplication of a file
abbrev pub store_error : DedupError StoreError → StoreError
store_error (Interface e) = e
store_error OutOfMemory = store.OutOfMemory

-- The error of adding a piece to a file of which `count` bytes came before: the file is longer than the limits allow, and the
-- error names its source; or a step failed, or memory is out.
abbrev pub IsCleanerError : ℕ → ℕ → List ℕ → Holder → Holder → StoreError → Type 0
IsCleanerError number count bytes old new e =
    ((e ≡ store.TooLarge (Source number)) × (old.limits.max_source_bytes < count + length bytes) × (new ≡ old)) ⊎ IsErrorSince old new e
