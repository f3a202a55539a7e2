-- Reading one record after the other, as a loop does.
use Rattle.std.proofs.Common.{◌≡◌, ℕ, suc, ◌-◌, ◌+◌, ◌≤◌, ◌<◌, true, false, List, [], ◌∷◌, ◌++◌, Option, Some, None, Result, Ok, Err, refl, sym, ap, ◌∙◌, append_assoc, arith, nat_eq}
use Rattle.std.proofs.lemmas.List.{append-nil}
use Rattle.std.specs.Cmp.Lexicographic.{pointwise}
use Rattle.xet_shard_format.specs.declared.row.Row.{Row}
use Rattle.xet_hash.specs.declared.error.Reason.TheVariants.{SectionPlace}
use Rattle.xet_hash.specs.declared.error.StoreError.{StoreError}
use Rattle.xet_hash.specs.declared.error.StoreError.TheVariants.{MalformedData}
use Rattle.xet_hash.specs.Hash.{sentinel}
use Rattle.xet_codec.specs.Parsing.{◌>>=◌, Fails}
use Rattle.xet_shard_format.specs.Reading.{row_at, end_at, step_at, section_at}
use Rattle.xet_shard_format.proofs.Failures.{fails_on}

pub end_fails : {X : Type 0} (record_at : Row → List Row → Result (X × List Row) StoreError) (last : Option (List ℕ)) (rows : List Row) (r : Row) (after : List Row) (e : StoreError)
    → row_at rows ≡ Ok (r, after) → pointwise nat_eq r.hash sentinel ≡ true → Fails e (end_at r after) → Fails e (step_at record_at last rows)
unfolding step_at
end_fails record_at last rows r after e h m = fails_on e (end_at r after) (step_at record_at last rows) (λ f. rw (h, m, f) refl)

pub record_fails : {X : Type 0} (record_at : Row → List Row → Result (X × List Row) StoreError) (last : Option (List ℕ)) (rows : List Row) (r : Row) (after : List Row) (e : StoreError)
    → row_at rows ≡ Ok (r, after) → pointwise nat_eq r.hash sentinel ≡ false → Fails e (record_at r after) → Fails e (step_at record_at last rows)
unfolding step_at
record_fails record_at last rows r after e h m = fails_on e (record_at r after) (step_at record_at last rows) (λ f. rw (h, m, f) refl)

-- what was read before, and what is still read
abbrev pub records_before : {X : Type 0} → List X → Result (List X) StoreError → Result (List X) StoreError
records_before prefix read = read >>= λ xs. Ok (prefix ++ xs)

regroup : {X : Type 0} (prefix : List X) (n : X) (read : Result (List X) StoreError) → records_before prefix (read >>= λ xs. Ok (n ∷ xs)) ≡ records_before (prefix ++ n ∷ []) read
regroup prefix n (Ok xs) = ap Ok (simp append_assoc)
regroup prefix n (Err f) = refl

pub section_goes_on : {X : Type 0} (record_at : Row → List Row → Result (X × List Row) StoreError) (hash : X → List ℕ) (prefix : List X) (count i : ℕ) (last : Option (List ℕ)) (rows : List Row) (y : X) (after : List Row) (total : Result (List X) StoreError)
    → i < count → step_at record_at last rows ≡ Ok (Some y, after) → records_before prefix (section_at record_at hash (count - i) last rows) ≡ total
    → records_before (prefix ++ y ∷ []) (section_at record_at hash (count - (i + 1)) (Some (hash y)) after) ≡ total
unfolding section_at
section_goes_on record_at hash prefix count i last rows y after total lt h so_far =
    let k : count - i ≡ suc (count - (i + 1)) = omega arith in
    let one : records_before prefix (section_at record_at hash (count - i) last rows) ≡ records_before (prefix ++ y ∷ []) (section_at record_at hash (count - (i + 1)) (Some (hash y)) after) = rw (k, h) (regroup prefix y (section_at record_at hash (count - (i + 1)) (Some (hash y)) after)) in
    sym one ∙ so_far

pub section_fails : {X : Type 0} (record_at : Row → List Row → Result (X × List Row) StoreError) (hash : X → List ℕ) (prefix : List X) (count i : ℕ) (last : Option (List ℕ)) (rows : List Row) (e : StoreError) (total : Result (List X) StoreError)
    → i < count → Fails e (step_at record_at last rows) → records_before prefix (section_at record_at hash (count - i) last rows) ≡ total → Fails e total
unfolding section_at
section_fails record_at hash prefix count i last rows e total lt f so_far =
    let k : count - i ≡ suc (count - (i + 1)) = omega arith in
    fails_on e (step_at record_at last rows) total (λ h. sym so_far ∙ rw (k, h) refl) f

pub section_done : {X : Type 0} (record_at : Row → List Row → Result (X × List Row) StoreError) (hash : X → List ℕ) (prefix : List X) (count i : ℕ) (last : Option (List ℕ)) (rows after : List Row) (total : Result (List X) StoreError)
    → i < count → step_at record_at last rows ≡ Ok (None, after) → records_before prefix (section_at record_at hash (count - i) last rows) ≡ total → total ≡ Ok prefix
unfolding section_at
section_done record_at hash prefix count i last rows after total lt h so_far =
    let k : count - i ≡ suc (count - (i + 1)) = omega arith in
    let one : records_before prefix (section_at record_at hash (count - i) last rows) ≡ Ok prefix = rw (k, h) (ap Ok (append-nil prefix)) in
    sym so_far ∙ one

pub section_short : {X : Type 0} (record_at : Row → List Row → Result (X × List Row) StoreError) (hash : X → List ℕ) (prefix : List X) (count i : ℕ) (last : Option (List ℕ)) (rows : List Row) (total : Result (List X) StoreError)
    → count ≤ i → records_before prefix (section_at record_at hash (count - i) last rows) ≡ total → total ≡ Err (MalformedData SectionPlace)
unfolding section_at
section_short record_at hash prefix count i last rows total le so_far =
    let k : count - i ≡ 0 = omega arith in
    let one : records_before prefix (section_at record_at hash (count - i) last rows) ≡ Err (MalformedData SectionPlace) = rw k refl in
    sym so_far ∙ one
