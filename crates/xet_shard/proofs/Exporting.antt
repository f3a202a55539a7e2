-- The shard that is exported, by what was read of it.
use Rattle.std.proofs.Common.{◌≡◌, ℕ, ◌+◌, Bool, List, map, min, Ok, Err, sym, ap}
use Rattle.xet_hash.specs.declared.error.StoreError.{StoreError}
use Rattle.xet_shard_format.specs.declared.header_footer.MDBShardFileFooter.{MDBShardFileFooter}
use Rattle.xet_shard_format.specs.declared.record.MDBFileInfo.{MDBFileInfo}
use Rattle.xet_shard_format.specs.declared.record.MDBXorbInfo.{MDBXorbInfo}
use Rattle.xet_shard.specs.Export.{exported, files_wanted, keyed_block}
use Rattle.xet_shard.specs.Held.{never}
use Rattle.xet_codec.specs.Parsing.{GivesUnlessFault}
use Rattle.xet_shard.specs.Sections.{blocks_in}
use Rattle.xet_shard_format.specs.Encoding.{Shard, shard}
use Rattle.xet_shard.proofs.Faulting.{fault_on, gives_on}

module _ (wanted : Bool) (key : List ℕ) (valid now : ℕ) (f : MDBShardFileFooter) (bytes : List ℕ) where
  -- the files are refused
  pub export_fails : {A B : Type 0} (view : A → List MDBFileInfo) (then : B → Shard) (e : StoreError) → GivesUnlessFault view (Err e) (files_wanted wanted f bytes) → GivesUnlessFault then (Err e) (exported wanted key valid now f bytes)
  unfolding exported
  export_fails view then e gives = fault_on view then e (files_wanted wanted f bytes) _ gives

  -- the xorbs are refused
  pub export_ends : {A B : Type 0} (view : A → List MDBXorbInfo) (then : B → Shard) (e : StoreError) (files : List MDBFileInfo) → files_wanted wanted f bytes ≡ Ok files → GivesUnlessFault view (Err e) (blocks_in f bytes)
      → GivesUnlessFault then (Err e) (exported wanted key valid now f bytes)
  unfolding exported
  export_ends view then e files is gives = gives_on (λ (x : List MDBFileInfo). x) then files (files_wanted wanted f bytes) _ (Err e) is (fault_on view then e (blocks_in f bytes) _ gives)

  pub export_is : (files : List MDBFileInfo) (blocks keyed : List MDBXorbInfo) → files_wanted wanted f bytes ≡ Ok files → blocks_in f bytes ≡ Ok blocks → keyed ≡ map (keyed_block key) blocks
      → exported wanted key valid now f bytes ≡ Ok (shard keyed files key now (min (now + valid) never))
  unfolding exported
  export_is files blocks keyed e1 e2 made = rw (e1, e2) (ap (λ (xs : List MDBXorbInfo). Ok (shard xs files key now (min (now + valid) never))) (sym made))
