-- Reading one chunk after the other, as a loop does.
use Rattle.std.proofs.Common.{◌≡◌, ℕ, suc, ◌-◌, ◌+◌, ◌≤◌, ◌<◌, List, [], ◌∷◌, ◌++◌, Result, Ok, Err, refl, sym, ap, ◌∙◌, append_assoc, arith}
use Rattle.std.proofs.lemmas.List.{append-nil}
use Rattle.xet_shard_format.specs.declared.row.Row.{Row}
use Rattle.xet_hash.specs.declared.error.StoreError.{StoreError}
use Rattle.xet_shard_format.specs.declared.record.XorbChunkSequenceEntry.{XorbChunkSequenceEntry}
use Rattle.xet_codec.specs.Parsing.{◌>>=◌, Fails}
use Rattle.xet_shard_format.specs.Reading.{row_at, chunk_in, chunks_at}
use Rattle.xet_shard_format.proofs.Failures.{fails_on}

abbrev pub Read : Type 0
Read = Result (List XorbChunkSequenceEntry × ℕ × List Row) StoreError

-- what was read before, and what is still read
abbrev pub chunks_before : List XorbChunkSequenceEntry → Read → Read
chunks_before prefix read = read >>= λ x. Ok (prefix ++ x.0, x.1, x.2)

regroup : (prefix : List XorbChunkSequenceEntry) (n : XorbChunkSequenceEntry) (read : Read) → chunks_before prefix (read >>= λ x. Ok (n ∷ x.0, x.1, x.2)) ≡ chunks_before (prefix ++ n ∷ []) read
regroup prefix n (Ok x) = ap (λ (ns : List XorbChunkSequenceEntry). Ok (ns, x.1, x.2)) (simp append_assoc)
regroup prefix n (Err f) = refl

pub chunk_goes_on : (prefix : List XorbChunkSequenceEntry) (count i at : ℕ) (rows : List Row) (r : Row) (c : XorbChunkSequenceEntry) (after : List Row) (total : Read) → i < count → row_at rows ≡ Ok (r, after) → chunk_in r at ≡ Ok c
    → chunks_before prefix (chunks_at (count - i) at rows) ≡ total → chunks_before (prefix ++ c ∷ []) (chunks_at (count - (i + 1)) (r.a + r.b) after) ≡ total
unfolding chunks_at
chunk_goes_on prefix count i at rows r c after total lt h g so_far =
    let k : count - i ≡ suc (count - (i + 1)) = omega arith in
    let one : chunks_before prefix (chunks_at (count - i) at rows) ≡ chunks_before (prefix ++ c ∷ []) (chunks_at (count - (i + 1)) (r.a + r.b) after) = rw (k, h, g) (regroup prefix c (chunks_at (count - (i + 1)) (r.a + r.b) after)) in
    sym one ∙ so_far

pub row_ends : (e : StoreError) (prefix : List XorbChunkSequenceEntry) (count i at : ℕ) (rows : List Row) (total : Read) → i < count → Fails e (row_at rows)
    → chunks_before prefix (chunks_at (count - i) at rows) ≡ total → Fails e total
unfolding chunks_at
row_ends e prefix count i at rows total lt f so_far =
    let k : count - i ≡ suc (count - (i + 1)) = omega arith in
    fails_on e (row_at rows) total (λ h. sym so_far ∙ rw (k, h) refl) f

pub chunk_ends : (e : StoreError) (prefix : List XorbChunkSequenceEntry) (count i at : ℕ) (rows : List Row) (r : Row) (after : List Row) (total : Read) → i < count → row_at rows ≡ Ok (r, after) → Fails e (chunk_in r at)
    → chunks_before prefix (chunks_at (count - i) at rows) ≡ total → Fails e total
unfolding chunks_at
chunk_ends e prefix count i at rows r after total lt h f so_far =
    let k : count - i ≡ suc (count - (i + 1)) = omega arith in
    fails_on e (chunk_in r at) total (λ g. sym so_far ∙ rw (k, h, g) refl) f

pub chunks_done : (prefix : List XorbChunkSequenceEntry) (count i at : ℕ) (rows : List Row) (total : Read) → count ≤ i → chunks_before prefix (chunks_at (count - i) at rows) ≡ total → total ≡ Ok (prefix, at, rows)
unfolding chunks_at
chunks_done prefix count i at rows total le so_far =
    let k : count - i ≡ 0 = omega arith in
    let one : chunks_before prefix (chunks_at (count - i) at rows) ≡ Ok (prefix, at, rows) = rw k (ap (λ (ns : List XorbChunkSequenceEntry). Ok (ns, at, rows)) (append-nil prefix)) in
    sym so_far ∙ one
