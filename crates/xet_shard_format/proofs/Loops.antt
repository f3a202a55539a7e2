-- Reading one thing after the other, as a loop does.
use Rattle.std.proofs.Common.{◌≡◌, ℕ, suc, ◌-◌, ◌+◌, ◌≤◌, ◌<◌, List, [], ◌∷◌, ◌++◌, Result, Ok, Err, refl, sym, ap, ◌∙◌, append_assoc, arith}
use Rattle.std.proofs.lemmas.List.{append-nil}
use Rattle.xet_shard_format.specs.declared.row.Row.{Row}
use Rattle.xet_hash.specs.declared.error.StoreError.{StoreError}
use Rattle.xet_codec.specs.Parsing.{◌>>=◌, Fails}
use Rattle.xet_shard_format.specs.Reading.{times_rows}
use Rattle.xet_shard_format.proofs.Failures.{fails_on}

-- what was read before, and what is still read
abbrev pub with_prefix : {X Y : Type 0} → List X → Result (List X × Y) StoreError → Result (List X × Y) StoreError
with_prefix prefix read = read >>= λ x. Ok (prefix ++ x.0, x.1)

pub regroup : {X Y : Type 0} (prefix : List X) (n : X) (read : Result (List X × Y) StoreError) → with_prefix prefix (read >>= λ x. Ok (n ∷ x.0, x.1)) ≡ with_prefix (prefix ++ n ∷ []) read
regroup prefix n (Ok x) = ap (λ (ns : List _). Ok (ns, x.1)) (simp append_assoc)
regroup prefix n (Err f) = refl

pub goes_on : {X : Type 0} (read : List Row → Result (X × List Row) StoreError) (prefix : List X) (count i : ℕ) (rows : List Row) (x : X) (after : List Row) (total : Result (List X × List Row) StoreError) → i < count → read rows ≡ Ok (x, after)
    → with_prefix prefix (times_rows read (count - i) rows) ≡ total → with_prefix (prefix ++ x ∷ []) (times_rows read (count - (i + 1)) after) ≡ total
unfolding times_rows
goes_on read prefix count i rows x after total lt h so_far =
    let k : count - i ≡ suc (count - (i + 1)) = omega arith in
    let one : with_prefix prefix (times_rows read (count - i) rows) ≡ with_prefix (prefix ++ x ∷ []) (times_rows read (count - (i + 1)) after) = rw (k, h) (regroup prefix x (times_rows read (count - (i + 1)) after)) in
    sym one ∙ so_far

pub ends : {X : Type 0} (e : StoreError) (read : List Row → Result (X × List Row) StoreError) (prefix : List X) (count i : ℕ) (rows : List Row) (total : Result (List X × List Row) StoreError) → i < count → Fails e (read rows)
    → with_prefix prefix (times_rows read (count - i) rows) ≡ total → Fails e total
unfolding times_rows
ends e read prefix count i rows total lt f so_far =
    let k : count - i ≡ suc (count - (i + 1)) = omega arith in
    fails_on e (read rows) total (λ h. sym so_far ∙ rw (k, h) refl) f

pub is_done : {X : Type 0} (read : List Row → Result (X × List Row) StoreError) (prefix : List X) (count i : ℕ) (rows : List Row) (total : Result (List X × List Row) StoreError) → count ≤ i → with_prefix prefix (times_rows read (count - i) rows) ≡ total → total ≡ Ok (prefix, rows)
unfolding times_rows
is_done read prefix count i rows total le so_far =
    let k : count - i ≡ 0 = omega arith in
    let one : with_prefix prefix (times_rows read (count - i) rows) ≡ Ok (prefix, rows) = rw k (ap (λ (ns : List _). Ok (ns, rows)) (append-nil prefix)) in
    sym so_far ∙ one
