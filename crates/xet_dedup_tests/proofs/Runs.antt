-- Runs of a xorb that a store in memory knows.
use Rattle.std.proofs.Common.{◌≡◌, ◌∙◌, ℕ, ◌+◌, ◌-◌, ◌<◌, ◌≤◌, ◌^◌, List, drop, length, map, Option, Some, sum, take, refl, sym, ap, arith}
use Rattle.std.proofs.lemmas.List.{drop-map, length-map, take-map}
use Rattle.std.proofs.lemmas.List.Sums.{sum-map, sum_by-take-drop}
use Rattle.xet_dedup_queries.specs.Interface.{IsFoundRun}
use Rattle.xet_dedup_tests.specs.declared.known.KnownXorb.{KnownXorb}
use Rattle.xet_dedup_tests.specs.Listing.{lengths_of}
use Rattle.xet_hash.specs.Merkle.{total_len}

-- part of the chunks
pub part_small : (leaves : List (List ℕ × ℕ)) (start count : ℕ) → total_len leaves < 2 ^ 32 → total_len (take count (drop start leaves)) < 2 ^ 32
part_small leaves start count small =
    omega (arith, small, sum_by-take-drop (λ (m : List ℕ × ℕ). m.1) leaves start, sum_by-take-drop (λ (m : List ℕ × ℕ). m.1) (drop start leaves) count)

-- the run of some chunks of a known xorb is found
pub found : (known : List ℕ → Option (List ℕ)) (x : KnownXorb) (hashes : List (List ℕ)) (start count bytes : ℕ) → known x.hash ≡ Some (lengths_of x) → 0 < count → start + count ≤ length x.leaves → count ≤ length hashes
    → bytes ≡ sum (map (λ (m : List ℕ × ℕ). m.1) (take count (drop start x.leaves)))
    → IsFoundRun known (λ _ _. Unit {0}) hashes count (record { xorb_hash = x.hash; xorb_flags = 0; unpacked_segment_bytes = bytes; chunk_index_start = start; chunk_index_end = start + count })
found known x hashes start count bytes listed some within few counted =
    let long : start + count - start ≡ count = omega arith in
    record {
      some = some;
      within = few;
      counted = long;
      lies = record {
        lengths = lengths_of x;
        listed = listed;
        some = omega (arith, some);
        within = omega (arith, within, length-map x.leaves (λ (m : List ℕ × ℕ). m.1));
        bytes = counted
            ∙ ap sum (sym (take-map (λ (m : List ℕ × ℕ). m.1) count (drop start x.leaves)))
            ∙ ap (λ (l : List ℕ). sum (take count l)) (sym (drop-map (λ (m : List ℕ × ℕ). m.1) start x.leaves))
            ∙ ap (λ (n : ℕ). sum (take n (drop start (lengths_of x)))) (sym long);
        small = omega (arith, x.small, sum-map (λ (m : List ℕ × ℕ). m.1) x.leaves);
        plain = refl;
        named = x.named;
      };
      stands = tt;
    }
