-- A shard file that was written is registered.
use Rattle.std.proofs.Common.{◌≡◌, ◌∙◌, ℕ, Bool, true, false, cond, List, nat_eq, Result, Ok, Err, refl, sym, ap, subst}
use Rattle.std.proofs.lemmas.Bool.{true≢false}
use Rattle.std.specs.Cmp.Lexicographic.{pointwise}
use Rattle.std.specs.List.{list_any}
use Rattle.xet_hash.specs.Merkle.{chunk_hash}
use Rattle.xet_hash.specs.declared.error.StoreError.{StoreError}
use Rattle.xet_io.specs.Disk.{Files}
use Rattle.xet_shard.specs.Sections.{chunk_lookup_in, info_at}
use Rattle.xet_shard.specs.declared.info.MDBShardInfo.{MDBShardInfo}
use Rattle.xet_shard_directory.specs.Writing.{AddsShard, path_of}
use Rattle.xet_shard_directory.specs.declared.shard_file.MDBShardFile.{MDBShardFile}
use Rattle.xet_shard_flush.specs.Importing.{Imports, flush_check}
use Rattle.xet_shard_flush.specs.internal.Steps.{Adds, IsWritten, SameShards}
use Rattle.xet_shard_registry.specs.Collections.{IsRegistryOf, Tables}
use Rattle.xet_shard_registry.specs.Registered.{Registered, is_registered}

-- the table of hashes tells whether a shard file with these bytes is registered
registered_in : (t : Tables) (shards : List Registered) (hash bytes : List ℕ) (b : Bool) → IsRegistryOf shards t → hash ≡ chunk_hash bytes
    → list_any (pointwise nat_eq (chunk_hash bytes)) t.hashes ≡ b → is_registered hash shards ≡ b
registered_in t shards hash bytes b r eh is =
    ap (λ (h : List ℕ). is_registered h shards) eh ∙ ap (list_any (pointwise nat_eq (chunk_hash bytes))) (sym r.hashes) ∙ is

-- the disk was only read before
pub written_over : (tells then : Bool) (old read new : Files) (folder bytes : List ℕ) (file : MDBShardFile) → then ≡ tells → read ≡ old
    → IsWritten then read new folder bytes file → IsWritten tells old new folder bytes file
written_over tells then old read new folder bytes file et ef w =
    record { hash = w.hash; path = w.path; info = w.info; written = λ told. subst (λ (fs : Files). AddsShard fs new folder bytes file) ef (w.written (et ∙ told)) }

module _ (tells : Bool) (cap : ℕ) (old new : Files) (folder bytes path : List ℕ) (name : path ≡ path_of folder bytes) where
  -- its hash was not registered: the items are those that are read of the bytes
  pub imports_new : (t after : Tables) (items : List (ℕ × ℕ × ℕ)) (info : MDBShardInfo) → list_any (pointwise nat_eq (chunk_hash bytes)) t.hashes ≡ false
      → info_at bytes ≡ Ok info → chunk_lookup_in info.metadata bytes ≡ Ok items
      → (file : MDBShardFile) → IsWritten tells old new folder bytes file → Adds cap items file t after → Imports tells cap old new folder bytes t after path
  imports_new t after items info absent is read file w adds =
      let one : info ≡ file.shard = cc (is, w.info) in
      record {
        file = file;
        hash = w.hash;
        path = w.path ∙ sym name;
        name = name;
        info = w.info;
        written = w.written;
        known = λ shards r there. absurd (true≢false (sym there ∙ registered_in t shards file.shard_hash bytes false r w.hash absent));
        fresh = λ shards r _. record {
          items = items;
          read = subst (λ (i : MDBShardInfo). chunk_lookup_in i.metadata bytes ≡ Ok items) one read;
          tables = λ records. adds shards records r;
        };
      }

-- the tables were replaced before by those of the same shards
pub imports_over : (tells : Bool) (cap : ℕ) (old new : Files) (folder bytes path : List ℕ) (t same after : Tables) → SameShards t same
    → Imports tells cap old new folder bytes same after path → Imports tells cap old new folder bytes t after path
imports_over tells cap old new folder bytes path t same after kept i = record {
  file = i.file;
  hash = i.hash;
  path = i.path;
  name = i.name;
  info = i.info;
  written = i.written;
  known = λ shards r there. i.known shards (kept shards r) there;
  fresh = λ shards r absent. i.fresh shards (kept shards r) absent;
}

-- its hash was registered: the tables stay
pub imports_known : (tells : Bool) (cap : ℕ) (old new : Files) (folder bytes path : List ℕ) (t : Tables) → path ≡ path_of folder bytes
    → list_any (pointwise nat_eq (chunk_hash bytes)) t.hashes ≡ true → (file : MDBShardFile) × IsWritten tells old new folder bytes file
    → Imports tells cap old new folder bytes t t path
imports_known tells cap old new folder bytes path t name there (file, w) = record {
  file = file;
  hash = w.hash;
  path = w.path ∙ sym name;
  name = name;
  info = w.info;
  written = w.written;
  known = λ shards r _. r;
  fresh = λ shards r absent. absurd (true≢false (sym (registered_in t shards file.shard_hash bytes true r w.hash there) ∙ absent));
}

-- the check reads only the hashes, and the number of files
pub same_check : (bytes : List ℕ) (t same : Tables) → same.files ≡ t.files → same.hashes ≡ t.hashes → flush_check bytes same ≡ flush_check bytes t
same_check bytes t same files hashes = rw (files, hashes) refl

-- what is read once the test of the limit has passed
pub read_of : {X : Type 0} (e : StoreError) (many : Bool) (read : Result X StoreError) (x : X) → cond many (Err e) read ≡ Ok x → read ≡ Ok x
read_of e true read x is = absurd (cc is)
read_of e false read x is = is
