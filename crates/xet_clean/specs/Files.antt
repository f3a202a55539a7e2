-- Files that were cleaned, and why each of their chunks was stored or found.
use Rattle.std.specs.Prelude.{◌≡◌, ℕ, List, length}
use Rattle.xet_choices.specs.Calls.{Call}
use Rattle.xet_choices.specs.Choices.{AllTrue}
use Rattle.xet_choices.specs.Ranges.{total}
use Rattle.xet_choices.specs.declared.choice.Choice.{Choice}
use Rattle.xet_cut.specs.Chunking.{chunking}
use Rattle.xet_cut.specs.declared.limits.LimitSettings.{LimitSettings}
use Rattle.xet_dedup.specs.Records.{file_record}
use Rattle.xet_file_plan.specs.Moves.{counts_of}
use Rattle.xet_hash.specs.Merkle.{leaves_of}
use Rattle.xet_shard_format.specs.declared.record.FileDataSequenceEntry.{FileDataSequenceEntry as Segment}
use Rattle.xet_shard_format.specs.declared.record.MDBFileInfo.{MDBFileInfo}
use Rattle.xet_clean.specs.Policies.{sha256_by}
use Rattle.xet_clean.specs.declared.policy.Sha256Policy.{Sha256Policy}

-- the chunks of a file
abbrev pub leaves_in : LimitSettings → List ℕ → List (List ℕ × ℕ)
leaves_in s bytes = leaves_of (chunking s bytes)

-- ---- choices

-- The record is that of a file of these bytes, with a plan by which its choices are true over these calls. The segments of the
-- plan have as many chunks as the file.
pub record HasChoices (policy : Sha256Policy) (s : LimitSettings) (calls : List Call) (bytes : List ℕ) (choices : List Choice) (file : MDBFileInfo) : Type 0 where
  pub segments : List Segment
  pub is : file ≡ file_record (leaves_in s bytes) segments (sha256_by policy bytes)
  pub covers : total (counts_of segments) ≡ length (leaves_in s bytes)
  pub one_each : length choices ≡ length (leaves_in s bytes)
  pub true_choices : AllTrue (record { settings = s; leaves = leaves_in s bytes; calls = calls; counts = counts_of segments; choices = choices })
