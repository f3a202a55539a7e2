-- The SHA-256 of a file: where it comes from.
use Rattle.std.specs.Prelude.{ℕ, List, Option, None, Some, length}
use Rattle.sha2.specs.Hashers.{Holds256}
use Rattle.sha2.specs.Sha256.{sha256}
use Rattle.xet_cut.specs.Chunking.{chunking}
use Rattle.xet_cut.specs.declared.limits.LimitSettings.{LimitSettings}
use Rattle.xet_hash.specs.Merkle.{file_hash, leaves_of}
use Rattle.xet_store_disk.specs.declared.info.XetFileInfo.{XetFileInfo}
use Rattle.xet_clean.specs.declared.policy.Sha256Generator.{Sha256Generator}
use Rattle.xet_clean.specs.declared.policy.Sha256Policy.{Sha256Policy}
use Rattle.xet_clean.specs.declared.policy.Sha256Policy.TheVariants.{Compute, Provided, Skip}

-- The generator was given these bytes.
abbrev pub HasBytes : Sha256Generator → List ℕ → Type 0
HasBytes g bytes = Holds256 g.hasher bytes

-- the SHA-256 that a file of these bytes gets
abbrev pub sha256_by : Sha256Policy → List ℕ → Option (List ℕ)
sha256_by Compute bytes = Some (sha256 bytes)
sha256_by (Provided digest) bytes = Some digest
sha256_by Skip bytes = None

-- `Provided` with the digest if there is one, else `Compute`
abbrev pub policy_of : Option (List ℕ) → Sha256Policy
policy_of None = Compute
policy_of (Some digest) = Provided digest

-- the pointer record of a file with this SHA-256, or without one: its hash, its length, and it
abbrev pub info_with : Option (List ℕ) → LimitSettings → List ℕ → XetFileInfo
info_with sha256 s bytes = record { hash = file_hash (leaves_of (chunking s bytes)); file_size = length bytes; sha256 = sha256 }

-- the pointer record of a file whose SHA-256 comes by the policy
abbrev pub info_by : Sha256Policy → LimitSettings → List ℕ → XetFileInfo
info_by policy s bytes = info_with (sha256_by policy bytes) s bytes

-- the fact, if the SHA-256 is computed
abbrev pub IfComputed : Sha256Policy → Type 0 → Type 0
IfComputed Compute fact = fact
IfComputed (Provided digest) fact = Unit {0}
IfComputed Skip fact = Unit {0}

-- The generator was given these bytes, if the SHA-256 is computed.
abbrev pub HasBytesBy : Sha256Policy → Sha256Generator → List ℕ → Type 0
HasBytesBy policy g bytes = IfComputed policy (HasBytes g bytes)
