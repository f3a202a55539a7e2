-- Rows that fit in their bytes, and the bounds on files and xorbs that follow.
use Rattle.std.proofs.Common.{◌≡◌, Result, Ok, Err, ℕ, ◌+◌, ◌*◌, ◌^◌, ◌<◌, ◌≤◌, List, [], ◌∷◌, ◌++◌, length, map, ap, subst, arith, length-append}
use Rattle.std.specs.List.{AllByRecursion, sum_by}
use Rattle.std.specs.Prelude.{IfOk, OnOk}
use Rattle.xet_hash.specs.declared.error.StoreError.{StoreError}
use Rattle.std.proofs.lemmas.List.{length-map}
use Rattle.std.proofs.lemmas.List.Sums.{sum_by-cons}
use Rattle.xet_shard_format.specs.declared.record.FileDataSequenceEntry.{FileDataSequenceEntry}
use Rattle.xet_shard_format.specs.declared.record.MDBFileInfo.{MDBFileInfo}
use Rattle.xet_shard_format.specs.declared.record.MDBXorbInfo.{MDBXorbInfo}
use Rattle.xet_shard_format.specs.declared.row.Row.{Row}
use Rattle.xet_shard_format.specs.Rows.{RowFits}
use Rattle.xet_shard_format.specs.Records.{ext_rows, file_rows, file_section, section, segment_bytes, segment_row, verification_row, xorb_rows, xorb_section}
use Rattle.xet_shard_format.specs.Lookups.{all_lookups}
use Rattle.xet_shard_format.specs.Encoding.{Fits, IsShard, IsShardEncoding, Shard, full_shard_bytes, materialized, stored}
use Rattle.xet_shard_format.specs.theorems.SectionLaws.{section_cons}
use Rattle.xet_base.specs.theorems.Elements.{all_back, all_prefix}

segment_bytes_below : (segments : List FileDataSequenceEntry) → AllByRecursion RowFits (map segment_row segments) → segment_bytes segments ≤ 2 ^ 32 * length segments
segment_bytes_below [] fits = omega arith
segment_bytes_below (s ∷ segments) fits =
    omega (arith, sum_by-cons (λ (s : FileDataSequenceEntry). s.unpacked_segment_bytes) s segments, fits.0.b, segment_bytes_below segments fits.1)

file_bytes_below : (f : MDBFileInfo) → AllByRecursion RowFits (file_rows f) → segment_bytes f.segments ≤ 2 ^ 32 * length (file_rows f)
file_bytes_below f fits =
    omega (arith, segment_bytes_below f.segments (all_prefix RowFits (map segment_row f.segments) _ fits.1), length-map f.segments segment_row, length-append (map segment_row f.segments) (map verification_row f.verification ++ ext_rows f.metadata_ext))

xorb_bytes_below : (x : MDBXorbInfo) → AllByRecursion RowFits (xorb_rows x) → x.metadata.num_bytes_in_xorb ≤ 2 ^ 32 * length (xorb_rows x)
xorb_bytes_below x fits = omega (arith, fits.0.c)

-- where each record has at most 2 ^ 32 bytes for each of its rows, so have all of them
sum_below : {X : Type 0} (rows : X → List Row) (bytes : X → ℕ) → ((x : X) → AllByRecursion RowFits (rows x) → bytes x ≤ 2 ^ 32 * length (rows x))
    → (xs : List X) → AllByRecursion RowFits (section rows xs) → sum_by bytes xs + 1 ≤ 2 ^ 32 * length (section rows xs)
sum_below rows bytes each [] fits = omega arith
sum_below rows bytes each (x ∷ xs) fits =
    let all : AllByRecursion RowFits (rows x ++ section rows xs) = subst (AllByRecursion RowFits) (section_cons rows x xs) fits in
    omega (
      arith,
      sum_by-cons bytes x xs,
      each x (all_prefix RowFits (rows x) (section rows xs) all),
      sum_below rows bytes each xs (all_back RowFits (rows x) (section rows xs) all),
      ap length (section_cons rows x xs),
      length-append (rows x) (section rows xs),
    )

pub materialized_below : (files : List MDBFileInfo) → length (file_section files) < 2 ^ 32 → AllByRecursion RowFits (file_section files) → materialized files < 2 ^ 64
materialized_below files few fits = omega (arith, few, sum_below file_rows (λ (f : MDBFileInfo). segment_bytes f.segments) file_bytes_below files fits)

pub stored_below : (blocks : List MDBXorbInfo) → length (xorb_section blocks) < 2 ^ 32 → AllByRecursion RowFits (xorb_section blocks) → stored blocks < 2 ^ 64
stored_below blocks few fits = omega (arith, few, sum_below xorb_rows (λ (x : MDBXorbInfo). x.metadata.num_bytes_in_xorb) xorb_bytes_below blocks fits)

-- what is written of records that have the form and rise
pub encoding_of_shard : {X : Type 0} (encoding : X → List ℕ) (r : Result X StoreError) (s : Shard) → IsShard s → IfOk r (λ x. encoding x ≡ full_shard_bytes s) → OnOk r (Fits s) → IfOk r (λ x. IsShardEncoding (encoding x) s)
encoding_of_shard encoding (Ok x) s form is fits = record { shard = form; fits = fits; lookups = all_lookups; encoding = is }
encoding_of_shard encoding (Err e) s form is fits = tt
