-- What is read of a disk in several calls.
use Rattle.std.proofs.Common.{◌≡◌, ℕ, Bool, true, false, List, None, Option, IfErr, Result, Ok, Err, refl, subst, sym}
use Rattle.xet_codec.specs.Parsing.{◌>>=◌}
use Rattle.xet_hash.specs.declared.error.Place.TheVariants as place
use Rattle.xet_hash.specs.declared.error.StoreError.{StoreError}
use Rattle.xet_hash.specs.declared.error.StoreError.TheVariants as error
use Rattle.xet_shard.specs.Sections.{blocks_in, files_in}
use Rattle.xet_shard.specs.Union.{ShardRecords, records_in}
use Rattle.xet_shard_directory.specs.Answers.{GivesUnlessDisk, IsQueryError}
use Rattle.xet_shard_format.specs.declared.header_footer.MDBShardFileFooter.{MDBShardFileFooter}
use Rattle.xet_shard_format.specs.declared.record.MDBFileInfo.{MDBFileInfo}
use Rattle.xet_shard_format.specs.declared.record.MDBXorbInfo.{MDBXorbInfo}
use Rattle.xet_shard_merge.specs.internal.Keeping.{IsUnreadable}
use Rattle.xet_shard_merge.specs.internal.Reading.{IsUnlessSkipped}

-- an error of the first call is one of both
pub error_on : {A X B Y : Type 0} (first : A → X) (then : B → Y) (e : StoreError) (read : Result X StoreError) (f : X → Result Y StoreError) → GivesUnlessDisk first (Err e) read
    → GivesUnlessDisk then (Err e) (read >>= f)
error_on first then error.OutOfMemory read f gives = tt
error_on first then (error.Io place.Disk) read f gives = tt
error_on first then e read f gives = rw gives refl

module _ (f : MDBShardFileFooter) (bytes : List ℕ) where
  pub records_fail : {A B : Type 0} (view : A → List MDBFileInfo) (then : B → ShardRecords) (e : StoreError) → GivesUnlessDisk view (Err e) (files_in f bytes) → GivesUnlessDisk then (Err e) (records_in f bytes)
  unfolding records_in
  records_fail view then e gives = error_on view then e (files_in f bytes) _ gives

  pub records_end : {A B : Type 0} (view : A → List MDBXorbInfo) (then : B → ShardRecords) (e : StoreError) (files : List MDBFileInfo) → files_in f bytes ≡ Ok files
      → GivesUnlessDisk view (Err e) (blocks_in f bytes) → GivesUnlessDisk then (Err e) (records_in f bytes)
  unfolding records_in
  records_end view then e files is gives = rw is (error_on view then e (blocks_in f bytes) _ gives)

  pub records_are : (files : List MDBFileInfo) (blocks : List MDBXorbInfo) → files_in f bytes ≡ Ok files → blocks_in f bytes ≡ Ok blocks → records_in f bytes ≡ Ok (blocks, files)
  unfolding records_in
  records_are files blocks e1 e2 = rw (e1, e2) refl

-- why a shard is not read, unless its error is skipped
module _ {A : Type 0} where
  ok_no_error : (result : Result A StoreError) (x : A) (P : StoreError → Type 0) → result ≡ Ok x → IfErr result P
  ok_no_error result x P is = subst (λ (r : Result A StoreError). IfErr r P) (sym is) tt

  error_is : (result : Result A StoreError) (e : StoreError) (P : StoreError → Type 0) → result ≡ Err e → P e → IfErr result P
  error_is result e P is here = subst (λ (r : Result A StoreError). IfErr r P) (sym is) here

pub unreadable : {A B : Type 0} (skip : Bool) (view : B → ShardRecords) (before now : ℕ) (e : StoreError) (result : Result (Option A) StoreError) (read : Result ShardRecords StoreError)
    → IsUnlessSkipped skip e result → GivesUnlessDisk view (Err e) read → IsQueryError before now e → IfErr result (IsUnreadable skip read)
unreadable true view before now error.UnexpectedEof result read is gives kind = ok_no_error result None (IsUnreadable true read) is
unreadable true view before now (error.MalformedData reason) result read is gives kind = ok_no_error result None (IsUnreadable true read) is
unreadable false view before now error.UnexpectedEof result read is gives kind = error_is result error.UnexpectedEof (IsUnreadable false read) is (refl, gives)
unreadable false view before now (error.MalformedData reason) result read is gives kind = error_is result (error.MalformedData reason) (IsUnreadable false read) is (refl, gives)
unreadable true view before now error.OutOfMemory result read is gives kind = error_is result error.OutOfMemory (IsUnreadable true read) is tt
unreadable false view before now error.OutOfMemory result read is gives kind = error_is result error.OutOfMemory (IsUnreadable false read) is tt
unreadable true view before now (error.Io place.Disk) result read is gives kind = error_is result (error.Io place.Disk) (IsUnreadable true read) is tt
unreadable false view before now (error.Io place.Disk) result read is gives kind = error_is result (error.Io place.Disk) (IsUnreadable false read) is tt
unreadable skip view before now e result read is gives kind = absurd kind
