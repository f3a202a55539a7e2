-- How many bytes records add to a shard.
use Rattle.std.proofs.Common.{◌≡◌, ℕ, ◌+◌, ◌*◌, ◌^◌, ◌<◌, ◌≤◌, Bool, List, [], ◌∷◌, ◌++◌, filter, length, nat_eq, option_map, unwrap_or, ap, arith}
use Rattle.std.proofs.lemmas.List.{length-append, length-map}
use Rattle.std.proofs.lemmas.List.Concat.{length-flat_map}
use Rattle.std.proofs.lemmas.List.Sums.{sum_by-append, sum_by-cons, sum_by-le-sum_by}
use Rattle.std.proofs.lemmas.Map.Entries.{sum_by-remove_entry}
use Rattle.std.specs.Cmp.Lexicographic.{pointwise}
use Rattle.std.specs.Map.{lookup, remove_entry, values_of}
use Rattle.std.specs.List.{flat_map, sum_by}
use Rattle.xet_shard_format.specs.declared.record.MDBFileInfo.{MDBFileInfo}
use Rattle.xet_shard_format.specs.declared.record.MDBXorbInfo.{MDBXorbInfo}
use Rattle.xet_shard_format.specs.declared.row.Row.{Row}
use Rattle.xet_shard.specs.Held.{DifferBy, Keyed, with_last}
use Rattle.xet_shard_format.specs.RecordSizes.{file_record_size, xorb_record_size}
use Rattle.xet_shard_format.specs.Records.{chunk_row, file_rows, file_section, section, xorb_rows, xorb_section}
use Rattle.xet_shard.specs.theorems.Holding.{is_other}
use Rattle.xet_shard.proofs.Holding.{values_removed}

-- a number times a sum
times_sum : {X : Type 0} (f : X → ℕ) (xs : List X) → sum_by (λ x. 64 * f x) xs ≡ 64 * sum_by f xs
times_sum f [] = omega arith
times_sum {X} f (x ∷ xs) =
    let rest : sum_by (λ (y : X). 64 * f y) xs ≡ 64 * sum_by f xs = times_sum f xs in
    let left : sum_by (λ (y : X). 64 * f y) (x ∷ xs) ≡ 64 * f x + sum_by (λ (y : X). 64 * f y) xs = sum_by-cons (λ (y : X). 64 * f y) x xs in
    let right : sum_by f (x ∷ xs) ≡ f x + sum_by f xs = sum_by-cons f x xs in
    omega arith

-- records that add at most 64 bytes a row
few : {X : Type 0} (rows : X → List Row) (size : X → ℕ) (xs : List X) → ((x : X) → size x ≤ 64 * length (rows x)) → length (section rows xs) < 2 ^ 32 → sum_by size xs < 2 ^ 38
few {X} rows size xs each bound =
    let counts : X → ℕ = λ x. length (rows x) in
    let count : length (section rows xs) ≡ length (flat_map rows xs) + 1 = length-append (flat_map rows xs) _ in
    let sum : length (flat_map rows xs) ≡ sum_by counts xs = length-flat_map rows xs in
    let below : sum_by size xs ≤ sum_by (λ (x : X). 64 * counts x) xs = sum_by-le-sum_by size (λ (x : X). 64 * counts x) xs each in
    let whole : sum_by (λ (x : X). 64 * counts x) xs ≡ 64 * sum_by counts xs = times_sum counts xs in
    omega arith

few_xorb_bytes : (blocks : List MDBXorbInfo) → length (xorb_section blocks) < 2 ^ 32 → sum_by xorb_record_size blocks < 2 ^ 38
few_xorb_bytes blocks = few xorb_rows xorb_record_size blocks (λ x. omega (arith, length-map x.chunks chunk_row))

few_file_bytes : (files : List MDBFileInfo) → length (file_section files) < 2 ^ 32 → sum_by file_record_size files < 2 ^ 38
few_file_bytes files = few file_rows file_record_size files (λ f. omega arith)

pub few_bytes : (blocks : List MDBXorbInfo) (files : List MDBFileInfo) → length (xorb_section blocks) < 2 ^ 32 → length (file_section files) < 2 ^ 32 → sum_by xorb_record_size blocks + sum_by file_record_size files < 2 ^ 39
few_bytes blocks files few_blocks few_files = omega (arith, few_xorb_bytes blocks few_blocks, few_file_bytes files few_files)

-- what the record of a hash adds is a part of the sum, and goes where another takes its place
pub part_le : {X : Type 0} (size : X → ℕ) (test : List ℕ → Bool) (es : List (List ℕ × X)) → unwrap_or (option_map size (lookup test es)) 0 ≤ sum_by size (values_of es)
part_le size test es = omega (arith, sum_by-remove_entry size test es)

pub sum_last : {X : Type 0} (size : X → ℕ) (hash : X → List ℕ) (es : List (List ℕ × X)) (x : X) (h : List ℕ) → h ≡ hash x → Keyed hash es → DifferBy hash (values_of es)
    → sum_by size (with_last hash (values_of es) x) + unwrap_or (option_map size (lookup (pointwise nat_eq h) es)) 0 ≡ sum_by size (values_of es) + size x
sum_last {X} size hash es x h is keyed differ =
    let stay : List X = filter (is_other hash (hash x)) (values_of es) in
    let split : sum_by size (stay ++ x ∷ []) ≡ sum_by size stay + sum_by size (x ∷ []) = sum_by-append size stay (x ∷ []) in
    let one : sum_by size (x ∷ []) ≡ size x + 0 = sum_by-cons size x [] in
    let same : sum_by size (values_of (remove_entry (pointwise nat_eq (hash x)) es)) ≡ sum_by size stay = ap (sum_by size) (values_removed hash (hash x) es keyed differ) in
    let whole = sum_by-remove_entry size (pointwise nat_eq (hash x)) es in
    rw is (omega (arith, split, one, same, whole))
