-- The value of a shard file that was written.
use Rattle.std.proofs.Common.{◌≡◌, ◌⊎◌, ℕ, List, Option, Some, None, Result, Ok, Err, IfOk, OnErr, inl, inr, ◌∙◌, option_map, refl, ap, subst, sym}
use Rattle.xet_hash.specs.Merkle.{chunk_hash}
use Rattle.xet_hash.specs.declared.error.StoreError.{StoreError}
use Rattle.xet_io.specs.Disk.{File, Files, bytes_at, file_at, synced}
use Rattle.xet_codec.specs.Parsing.{◌>>=◌}
use Rattle.xet_shard.specs.Sections.{info_at}
use Rattle.xet_shard.specs.declared.info.MDBShardInfo.{MDBShardInfo}
use Rattle.xet_shard_directory.specs.Answers.{in_file}
use Rattle.xet_shard_directory.specs.Values.{shard_value}
use Rattle.xet_shard_directory.specs.theorems.Syncing.{synced_file}
use Rattle.xet_shard_directory.specs.Writing.{KeepsFileAt, OthersStay, Stood, Wrote, path_of}
use Rattle.xet_shard_directory.specs.declared.shard_file.MDBShardFile.{MDBShardFile}
use Rattle.xet_shard_file.specs.Puts.{IsDone}

abbrev IsAbsent : Option (List ℕ) → Type 0
IsAbsent None = Unit {0}
IsAbsent (Some b) = ⊥

abbrev or_else : List ℕ → Option (List ℕ) → List ℕ
or_else other None = other
or_else other (Some b) = b

-- the file of a name whose bytes are known
file_with : (found : Option File) (bytes : List ℕ) → option_map (λ f. f.bytes) found ≡ Some bytes → (f : File) × (found ≡ Some f) × (f.bytes ≡ bytes)
file_with None bytes e = absurd (subst IsAbsent e tt)
file_with (Some f) bytes e = (f, refl, ap (or_else bytes) e)

-- the value that is loaded of a file
value_of_file : (found : Option File) (bytes hash path : List ℕ) (shard : MDBShardInfo) (m : ℕ) → option_map (λ f. f.bytes) found ≡ Some bytes
    → ((f : File) → found ≡ Some f → m ≡ f.modified) → Ok shard ≡ info_at bytes
    → in_file found (λ f. info_at f.bytes >>= λ s. Ok (shard_value hash path s f.modified)) ≡ Ok (shard_value hash path shard m)
value_of_file found bytes hash path shard m there times info =
    let f = file_with found bytes there in
    rw (f.1, f.2, ← info, times f.0 f.1) refl

-- The bytes were put under the path of their digest.
pub wrote : (old new : Files) (folder bytes hash path : List ℕ) (shard : MDBShardInfo) (m : ℕ)
    → hash ≡ chunk_hash bytes → path ≡ path_of folder bytes → IsDone new path bytes → OthersStay old new path
    → ((f : File) → file_at new path ≡ Some f → m ≡ f.modified) → info_at bytes ≡ Ok shard
    → Wrote old new folder bytes (shard_value hash path shard m)
wrote old new folder bytes hash path shard m eh ep done others times info =
    record {
      hash = eh;
      path = ep;
      done = done;
      others = others;
      value = value_of_file (file_at new path) bytes hash path shard m done.there times (sym info);
    }

-- The same for the result of a call that returns the value.
pub wrote_value : (old new : Files) (folder bytes hash path : List ℕ) (shard : MDBShardInfo) (r : Result MDBShardFile StoreError)
    → hash ≡ chunk_hash bytes → path ≡ path_of folder bytes → IsDone new path bytes → OthersStay old new path
    → ((f : File) → file_at new path ≡ Some f → IfOk r (λ s. s.last_modified_time ≡ f.modified)) → IfOk r (λ s. s ≡ shard_value hash path shard s.last_modified_time)
    → info_at bytes ≡ Ok shard → IfOk r (Wrote old new folder bytes)
wrote_value old new folder bytes hash path shard (Ok s) eh ep done others times is info =
    subst (Wrote old new folder bytes) (sym is) (wrote old new folder bytes hash path shard s.last_modified_time eh ep done others times info)
wrote_value old new folder bytes hash path shard (Err e) eh ep done others times is info = tt

-- The same where the bytes were there already.
pub stood_value : (old new : Files) (folder bytes hash path : List ℕ) (shard : MDBShardInfo) (r : Result MDBShardFile StoreError)
    → hash ≡ chunk_hash bytes → path ≡ path_of folder bytes → bytes_at old path ≡ Some bytes → new ≡ synced old path
    → ((f : File) → file_at new path ≡ Some f → IfOk r (λ s. s.last_modified_time ≡ f.modified)) → IfOk r (λ s. s ≡ shard_value hash path shard s.last_modified_time)
    → info_at bytes ≡ Ok shard → IfOk r (Stood old new folder bytes)
stood_value old new folder bytes hash path shard (Ok s) eh ep there same times is info =
    let now : bytes_at new path ≡ Some bytes = subst (λ (fs : Files). bytes_at fs path ≡ Some bytes) (sym same) (ap (λ (f : Option File). option_map (λ g. g.bytes) f) (synced_file old path bytes there path) ∙ there) in
    subst (Stood old new folder bytes) (sym is) (record {
      hash = eh;
      path = ep;
      there = there;
      same = same;
      value = value_of_file (file_at new path) bytes hash path shard s.last_modified_time now times (sym info);
    })
stood_value old new folder bytes hash path shard (Err e) eh ep there same times is info = tt

-- A file whose bytes were there keeps its bytes and its modification time, whether it was made durable or not.
pub stood_keeps : (old new : Files) (folder bytes : List ℕ) (r : Result MDBShardFile StoreError) → bytes_at old (path_of folder bytes) ≡ Some bytes
    → IfOk r (Stood old new folder bytes) → OnErr r ((new ≡ old) ⊎ (new ≡ synced old (path_of folder bytes))) → KeepsFileAt old new (path_of folder bytes)
stood_keeps old new folder bytes (Ok s) there stood e f was =
    let same : new ≡ synced old (path_of folder bytes) = subst (λ (p : List ℕ). new ≡ synced old p) stood.path stood.same in
    subst (λ (fs : Files). file_at fs (path_of folder bytes) ≡ Some f) (sym same) (synced_file old (path_of folder bytes) bytes there (path_of folder bytes) ∙ was)
stood_keeps old new folder bytes (Err e) there stood (inl same) f was = subst (λ (fs : Files). file_at fs (path_of folder bytes) ≡ Some f) (sym same) was
stood_keeps old new folder bytes (Err e) there stood (inr same) f was =
    subst (λ (fs : Files). file_at fs (path_of folder bytes) ≡ Some f) (sym same) (synced_file old (path_of folder bytes) bytes there (path_of folder bytes) ∙ was)
