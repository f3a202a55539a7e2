-- Shards as they are offered, and why one of them is not taken.
use Rattle.std.proofs.Common.{◌≡◌, ◌∙◌, ℕ, suc, Bool, List, [], ◌∷◌, length, None, OnOk, Option, Some, option_map, Result, Ok, Err, refl, sym, ap, arith}
use Rattle.std.specs.List.{Any}
use Rattle.xet_codec.specs.Stops.{HasDiskReason}
use Rattle.xet_hash.specs.declared.error.Place.TheVariants as place
use Rattle.xet_hash.specs.declared.error.StoreError.{StoreError}
use Rattle.xet_hash.specs.declared.error.StoreError.TheVariants as error
use Rattle.xet_io.specs.Disk.{File, Files, file_at}
use Rattle.xet_shard.specs.Union.{ShardRecords, records_in}
use Rattle.xet_shard_directory.specs.declared.shard_file.MDBShardFile.{MDBShardFile}
use Rattle.xet_shard_merge.specs.Groups.{Offered}
use Rattle.xet_shard_merge.specs.declared.progress.Progress.{Progress}
use Rattle.xet_shard_merge.specs.internal.Keeping.{IsIntact, IsUnreadable, Preserves}
use Rattle.xet_shard_merge.specs.internal.Progressing.{Closes, Ended, IsUnmergedOf, Went, offer, offered_in, offered_of}
use Rattle.xet_shard_merge.proofs.Preserved.{same_bytes}
use Rattle.xet_shard_merge.proofs.Stepping.{went_all}

file_in : (found : Option File) (b : List ℕ) → option_map (λ (f : File). f.bytes) found ≡ Some b → (f : File) × (found ≡ Some f) × (f.bytes ≡ b)
file_in None b is = absurd (cc is)
file_in (Some f) b is = let same : f.bytes ≡ b = cc is in (f, refl, same)

-- ---- what is there of a shard that was offered

module _ (start now : Files) (s : MDBShardFile) (is : IsIntact start s) (keeps : Preserves start now) where
  pub file_now : (f : File) × (file_at now s.path ≡ Some f) × (f.bytes ≡ is.bytes)
  file_now = file_in (file_at now s.path) is.bytes (same_bytes start now keeps.files s.path is.bytes is.name is.there)

  as_there : offered_of start s ≡ offered_in s (Some file_now.0.bytes)
  as_there = ap (offered_in s) (is.there ∙ ap (λ (b : List ℕ). Some b) (sym file_now.2))

  pub records_now : (offered_of start s).records ≡ records_in s.shard.metadata file_now.0.bytes
  records_now = ap (λ (o : Offered). o.records) as_there

  pub offer_now : (n : ℕ) (records : ShardRecords) → n ≡ length file_now.0.bytes → records_in s.shard.metadata file_now.0.bytes ≡ Ok records → offered_of start s ≡ offer s n records
  offer_now n records long read =
      let made : offered_in s (Some file_now.0.bytes) ≡ offer s n records = λ j. record { file = s; length = sym long j; records = read j } in as_there ∙ made

  pub unread_now : (e : StoreError) → records_in s.shard.metadata file_now.0.bytes ≡ Err e → offered_of start s ≡ record { file = s; length = length file_now.0.bytes; records = Err e }
  unread_now e read =
      let made : offered_in s (Some file_now.0.bytes) ≡ record { file = s; length = length file_now.0.bytes; records = Err e } = λ j. record { file = s; length = length file_now.0.bytes; records = read j } in
      as_there ∙ made

-- ---- errors

pub disk_unreadable : (skip : Bool) (read : Result ShardRecords StoreError) (before now : ℕ) (e : StoreError) → HasDiskReason before now e → IsUnreadable skip read e
disk_unreadable skip read before now (error.Io place.Disk) h = tt
disk_unreadable skip read before now error.OutOfMemory h = tt
disk_unreadable skip read before now e h = absurd h

pub disk_unmerged : (skip : Bool) (os : List Offered) (before now : ℕ) (e : StoreError) → HasDiskReason before now e → IsUnmergedOf skip os e
disk_unmerged skip os before now (error.Io place.Disk) h = tt
disk_unmerged skip os before now error.OutOfMemory h = tt
disk_unmerged skip os before now e h = absurd h

any_first : (P : Offered → Type 0) (o : Offered) (os : List Offered) → P o → Any P (o ∷ os)
any_first P o os here = (0, o, omega arith, refl, here)

pub any_later : (P : Offered → Type 0) (o : Offered) (os : List Offered) → Any P os → Any P (o ∷ os)
any_later P o os (k, x, lt, at, here) = (suc k, x, omega (arith, lt), at, here)

pub one_unmerged : (skip : Bool) (o : Offered) (rest os : List Offered) (e : StoreError) → ((d : StoreError) → Any (λ x. x.records ≡ Err d) (o ∷ rest) → Any (λ x. x.records ≡ Err d) os) → IsUnreadable skip o.records e → IsUnmergedOf skip os e
one_unmerged skip o rest os (error.Io place.Disk) among h = tt
one_unmerged skip o rest os error.OutOfMemory among h = tt
one_unmerged skip o rest os error.UnexpectedEof among h =
    let P : Offered → Type 0 = λ x. x.records ≡ Err error.UnexpectedEof in (h.0, among error.UnexpectedEof (any_first P o rest h.1))
one_unmerged skip o rest os (error.MalformedData reason) among h =
    let P : Offered → Type 0 = λ x. x.records ≡ Err (error.MalformedData reason) in (h.0, among (error.MalformedData reason) (any_first P o rest h.1))
one_unmerged skip o rest os e among h = absurd h

-- ---- the end

pub ended : (start now after : Files) (folder : List ℕ) (limit : ℕ) (skip : Bool) (all : List Offered) (p q : Progress) (result : Result (Unit {0}) StoreError) → OnOk result (Closes now after folder p q)
    → Preserves now after → Went start now folder limit skip all [] p → OnOk result (Ended start after folder limit skip all q)
ended start now after folder limit skip all p q (Ok _) closes keeps w = went_all start now after folder limit skip all p q closes keeps w
ended start now after folder limit skip all p q (Err e) closes keeps w = tt
