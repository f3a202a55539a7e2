-- Files that may be recorded, and the bytes of plans.
use Rattle.std.proofs.Common.{◌≡◌, ℕ, ◌*◌, ◌<◌, ◌≤◌, ◌^◌, List, [], ◌∷◌, ◌++◌, length, ap, refl, arith}
use Rattle.std.proofs.lemmas.List.Sums.{sum_by-append, sum_by-cons}
use Rattle.std.specs.List.{AllByRecursion}
use Rattle.xet_hash.specs.Merkle.{total_len}
use Rattle.xet_shard_format.specs.declared.record.FileDataSequenceEntry.{FileDataSequenceEntry as Segment}
use Rattle.xet_shard_format.specs.declared.record.MDBFileInfo.{MDBFileInfo}
use Rattle.xet_shard_format.specs.Records.{file_record_hash, segment_bytes}
use Rattle.xet_folder.specs.Contents.{IsRecord}
use Rattle.xet_folder.specs.Plan.{Resolves, part}
use Rattle.xet_folder.specs.Xorbs.{IsListed, Xorbs}
use Rattle.xet_folder.specs.theorems.Tables.{found_kept}
use Rattle.xet_completion.specs.Completing.{Completes}

-- segments of fewer than 2^32 bytes each
pub bytes_at_most : (segments : List Segment) → AllByRecursion (λ s. s.unpacked_segment_bytes < 2 ^ 32) segments → segment_bytes segments ≤ 2 ^ 32 * length segments
bytes_at_most [] all = omega arith
bytes_at_most (s ∷ ss) all = omega (arith, sum_by-cons (λ (t : Segment). t.unpacked_segment_bytes) s ss, all.0, bytes_at_most ss all.1)

-- the chunks to which a plan resolves have the bytes of its segments
pub total_resolved : (Has : List ℕ → List (List ℕ × ℕ) → Type 0) (segments : List Segment) (out : List (List ℕ × ℕ)) → Resolves Has (λ m. m.1) segments out → total_len out ≡ segment_bytes segments
total_resolved Has [] out none = ap total_len none
total_resolved Has (s ∷ ss) out (xs, rest, has, lies, parts, more) =
    omega
    (arith, ap total_len parts, sum_by-append (λ (m : List ℕ × ℕ). m.1) (part s xs) rest, lies.bytes, total_resolved Has ss rest more, sum_by-cons (λ (t : Segment). t.unpacked_segment_bytes) s ss)

-- a plan resolves to the same chunks where its xorbs have the same chunks
pub resolves_where : {X : Type 0} (Has Later : List ℕ → List X → Type 0) (len : X → ℕ) → ((h : List ℕ) (xs : List X) → Has h xs → Later h xs) → (segments : List Segment) (out : List X)
    → Resolves Has len segments out → Resolves Later len segments out
resolves_where Has Later len kept [] out none = none
resolves_where Has Later len kept (s ∷ ss) out (xs, rest, has, lies, parts, more) = (xs, rest, kept s.xorb_hash xs has, lies, parts, resolves_where Has Later len kept ss rest more)

pub completes_where : (xorbs later : Xorbs) (f : MDBFileInfo) → ((h : List ℕ) (leaves : List (List ℕ × ℕ)) → IsListed xorbs h leaves → IsListed later h leaves) → Completes xorbs f → Completes later f
completes_where xorbs later f kept c = record {
  leaves = c.leaves;
  resolves = resolves_where (IsListed xorbs) (IsListed later) (λ m. m.1) kept f.segments c.leaves c.resolves;
  some = c.some;
  hash = c.hash;
  ranges = c.ranges;
  named = c.named;
}

pub completes_appended : (xorbs added : Xorbs) (f : MDBFileInfo) → Completes xorbs f → Completes (xorbs ++ added) f
completes_appended xorbs added f = completes_where xorbs (xorbs ++ added) f (λ h leaves. found_kept xorbs added h leaves)

-- a file that may be recorded has a record, if its segments have few bytes
pub completes_record : (xorbs : Xorbs) (f : MDBFileInfo) → segment_bytes f.segments < 2 ^ 64 → Completes xorbs f → IsRecord xorbs (file_record_hash f, f)
completes_record xorbs f few c = record {
  named = refl;
  leaves = c.leaves;
  resolves = c.resolves;
  hash = c.hash;
  some = c.some;
  bound = omega (arith, total_resolved (IsListed xorbs) f.segments c.leaves c.resolves, few);
}
