-- What is read at a path: one shard file, or those of a folder.
use Rattle.std.proofs.Common.{◌≡◌, ◌≢◌, ℕ, Bool, List, [], None, Result, Ok, Err, IsSome, inl, inr, refl, sym, ap, ◌∙◌, subst}
use Rattle.std.proofs.lemmas.List.Elements.{All-cons, All-nil}
use Rattle.std.specs.List.{All}
use Rattle.std.specs.Prelude.{IsOk}
use Rattle.xet_hash.specs.declared.error.StoreError.{StoreError}
use Rattle.xet_hash.specs.declared.error.StoreError.TheVariants as error
use Rattle.xet_io.specs.Disk.{Files, file_at}
use Rattle.xet_shard_directory.specs.Directories.{AllRead, IsReadAt, IsUnloaded, ReadsFile, ReadsFolder, ReadsPath}
use Rattle.xet_shard_directory.specs.Values.{last_part, loaded}
use Rattle.xet_shard_directory.specs.declared.shard_file.MDBShardFile.{MDBShardFile}
use Rattle.xet_shard_directory.specs.internal.Folders.{IsUnread, IsUnreadIn}
use Rattle.xet_shard_directory.proofs.FolderShards.{loaded_in}
use Rattle.xet_shard_file.specs.Names.{IsHash, shard_path}
use Rattle.xet_shard_file.specs.theorems.Names.{name_determines}
use Rattle.xet_shard_format.specs.Names.{shard_name}

module _ (files : Files) (path : List ℕ) where
  module _ (h : List ℕ) (is : IsHash h) (name : last_part path ≡ shard_name h) where
    same_hash : (g : List ℕ) → IsHash g → last_part path ≡ shard_name g → h ≡ g
    same_hash g is_g name_g = name_determines h g is is_g (sym name ∙ name_g)

    pub file_reads : (shards : List MDBShardFile) → ReadsFile (loaded files h path) shards → ReadsPath files path shards
    file_reads shards reads = record {
      named = λ g is_g name_g. subst (λ (k : List ℕ). ReadsFile (loaded files k path) shards) (same_hash g is_g name_g) reads;
      unnamed = λ other. absurd (other h is name);
    }

    pub file_each : (shards : List MDBShardFile) → ReadsFile (loaded files h path) shards → All (IsReadAt files path) shards
    file_each shards reads = by is (loaded files h path) refl reads
      where
        by : IsHash h → (read : Result MDBShardFile StoreError) → loaded files h path ≡ read → ReadsFile read shards → All (IsReadAt files path) shards
        by is_hash (Ok s) is list =
            let value = loaded_in (file_at files path) h path s is in
            let at : IsReadAt files path s = (
              (subst IsHash (sym value.1) is_hash, inl (name ∙ ap shard_name (sym value.1), value.2)),
              ap (λ (k : List ℕ). loaded files k s.path) value.1 ∙ ap (loaded files h) value.2 ∙ is,
            ) in
            rw list (All-cons (IsReadAt files path) s [] at (All-nil (IsReadAt files path)))
        by is_hash (Err error.FileNotFound) is list = absurd list
        by is_hash (Err e) is list = rw list (All-nil (IsReadAt files path))

    pub file_all : IsOk (loaded files h path) → AllRead files path
    file_all ok g p (is_g, inl (name_g, at)) there = subst (λ (q : List ℕ). IsOk (loaded files g q)) (sym at) (subst (λ (k : List ℕ). IsOk (loaded files k path)) (same_hash g is_g name_g) ok)
    file_all ok g p (is_g, inr (other, at)) there = absurd (other h is name)

    pub file_unread : (skip : Bool) (e : StoreError) → IsUnread skip (loaded files h path) e → (e ≡ error.FileNotFound → file_at files path ≡ None) → IsUnloaded files path skip e
    file_unread skip error.FileNotFound unread absent = (h, is, name, absent refl)
    file_unread skip error.UnexpectedEof (skips, fails) absent = (skips, (h, path, (is, inl (name, refl)), fails))
    file_unread skip (error.MalformedData reason) (skips, fails) absent = (skips, (h, path, (is, inl (name, refl)), fails))
    file_unread skip d unread absent = tt

  module _ (other : (h : List ℕ) → IsHash h → last_part path ≢ shard_name h) where
    pub folder_reads : (shards : List MDBShardFile) → ReadsFolder files path shards → ReadsPath files path shards
    folder_reads shards reads = record { named = λ g is_g name_g. absurd (other g is_g name_g); unnamed = λ _. reads }

    pub folder_each : (shards : List MDBShardFile) → ReadsFolder files path shards → All (IsReadAt files path) shards
    folder_each shards reads i d lt =
        let at = reads.each i d lt in
        ((at.0, inr (other, at.1)), at.2)

    pub folder_is_read : ((h : List ℕ) → IsHash h → IsSome (file_at files (shard_path path h)) → IsOk (loaded files h (shard_path path h))) → AllRead files path
    folder_is_read reads g p (is_g, inl (name_g, at)) there = absurd (other g is_g name_g)
    folder_is_read reads g p (is_g, inr (_, at)) there =
        subst (λ (q : List ℕ). IsSome (file_at files q) → IsOk (loaded files g q)) (sym at) (reads g is_g) there

    pub folder_unloaded : (skip : Bool) (e : StoreError) → IsUnreadIn files path skip e → IsUnloaded files path skip e
    folder_unloaded skip error.FileNotFound unread = absurd unread
    folder_unloaded skip error.UnexpectedEof (skips, (h, is, fails)) = (skips, (h, shard_path path h, (is, inr (other, refl)), fails))
    folder_unloaded skip (error.MalformedData reason) (skips, (h, is, fails)) = (skips, (h, shard_path path h, (is, inr (other, refl)), fails))
    folder_unloaded skip d unread = tt
