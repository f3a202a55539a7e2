-- Sums over choices, those of a list before those of another, and over further leaves.
use Rattle.std.proofs.Common.{◌≡◌, ◌∙◌, ℕ, zero, suc, ◌+◌, ◌≤◌, Bool, true, false, if◌then◌else◌, List, [], ◌∷◌, ◌++◌, length, take, drop, refl, sym, ap, arith, length-append}
use Rattle.std.specs.Prelude.{replicate}
use Rattle.std.proofs.Math.Seq.{drop-append_seam}
use Rattle.std.proofs.lemmas.List.{take-append-le}
use Rattle.std.proofs.lemmas.List.Sums.{sum_by-cons}
use Rattle.xet_hash.specs.Merkle.{total_len}
use Rattle.xet_choices.specs.declared.choice.Choice.{Choice}
use Rattle.xet_choices.specs.declared.choice.Choice.TheVariants.{Reused}
use Rattle.xet_choices.specs.Choices.{is_reused, new_chunks}
use Rattle.xet_choices.specs.Sums.{RunsEnd, deduped_bytes, deduped_chunks, new_bytes, prevented_bytes, prevented_chunks, run_of}

-- ---- chunks

pub deduped_chunks-append : (xs ys : List Choice) → deduped_chunks (xs ++ ys) ≡ deduped_chunks xs + deduped_chunks ys
deduped_chunks-append [] ys = omega arith
deduped_chunks-append (c ∷ xs) ys = omega (arith, deduped_chunks-append xs ys)

pub prevented_chunks-append : (xs ys : List Choice) → prevented_chunks (xs ++ ys) ≡ prevented_chunks xs + prevented_chunks ys
prevented_chunks-append [] ys = omega arith
prevented_chunks-append (c ∷ xs) ys = omega (arith, prevented_chunks-append xs ys)

-- each chunk was stored or not
pub chunks_in_all : (cs : List Choice) → deduped_chunks cs + new_chunks cs ≡ length cs
chunks_in_all [] = refl
chunks_in_all (c ∷ cs) = by (is_reused c) (deduped_chunks cs) (new_chunks cs) (length cs) (chunks_in_all cs)
  where
    by : (b : Bool) (d n l : ℕ) → d + n ≡ l → (if b then 1 else 0) + d + ((if b then 0 else 1) + n) ≡ suc l
    by true d n l e = omega arith
    by false d n l e = omega arith

-- ---- bytes

pub deduped_bytes-append : (leaves : List (List ℕ × ℕ)) (xs ys : List Choice) → deduped_bytes leaves (xs ++ ys) ≡ deduped_bytes leaves xs + deduped_bytes (drop (length xs) leaves) ys
deduped_bytes-append leaves [] ys = omega arith
deduped_bytes-append [] (c ∷ xs) [] = refl
deduped_bytes-append [] (c ∷ xs) (d ∷ ys) = refl
deduped_bytes-append (leaf ∷ leaves) (c ∷ xs) ys = omega (arith, deduped_bytes-append leaves xs ys)

pub new_bytes-append : (leaves : List (List ℕ × ℕ)) (xs ys : List Choice) → new_bytes leaves (xs ++ ys) ≡ new_bytes leaves xs + new_bytes (drop (length xs) leaves) ys
new_bytes-append leaves [] ys = omega arith
new_bytes-append [] (c ∷ xs) [] = refl
new_bytes-append [] (c ∷ xs) (d ∷ ys) = refl
new_bytes-append (leaf ∷ leaves) (c ∷ xs) ys = omega (arith, new_bytes-append leaves xs ys)

pub prevented_bytes-append : (leaves : List (List ℕ × ℕ)) (xs ys : List Choice)
    → prevented_bytes leaves (xs ++ ys) ≡ prevented_bytes leaves xs + prevented_bytes (drop (length xs) leaves) ys
prevented_bytes-append leaves [] ys = omega arith
prevented_bytes-append [] (c ∷ xs) [] = refl
prevented_bytes-append [] (c ∷ xs) (d ∷ ys) = refl
prevented_bytes-append (leaf ∷ leaves) (c ∷ xs) ys = omega (arith, prevented_bytes-append leaves xs ys)

-- ---- over further leaves

pub deduped_bytes_more : (leaves more : List (List ℕ × ℕ)) (cs : List Choice) → length cs ≤ length leaves → deduped_bytes (leaves ++ more) cs ≡ deduped_bytes leaves cs
deduped_bytes_more leaves more [] le = refl
deduped_bytes_more [] more (c ∷ cs) le = absurd (omega arith)
deduped_bytes_more (leaf ∷ leaves) more (c ∷ cs) le = omega (arith, deduped_bytes_more leaves more cs (omega arith))

pub new_bytes_more : (leaves more : List (List ℕ × ℕ)) (cs : List Choice) → length cs ≤ length leaves → new_bytes (leaves ++ more) cs ≡ new_bytes leaves cs
new_bytes_more leaves more [] le = refl
new_bytes_more [] more (c ∷ cs) le = absurd (omega arith)
new_bytes_more (leaf ∷ leaves) more (c ∷ cs) le = omega (arith, new_bytes_more leaves more cs (omega arith))

pub prevented_bytes_more : (leaves more : List (List ℕ × ℕ)) (cs : List Choice) → length cs ≤ length leaves → RunsEnd leaves cs
    → prevented_bytes (leaves ++ more) cs ≡ prevented_bytes leaves cs
prevented_bytes_more leaves more [] le ends = refl
prevented_bytes_more [] more (c ∷ cs) le ends = absurd (omega arith)
prevented_bytes_more (leaf ∷ leaves) more (c ∷ cs) le ends =
    let here : total_len (take (run_of c) (leaf ∷ (leaves ++ more))) ≡ total_len (take (run_of c) (leaf ∷ leaves)) = ap total_len (take-append-le (run_of c) (leaf ∷ leaves) more ends.0) in
    omega (arith, here, prevented_bytes_more leaves more cs (omega arith) ends.1)

-- ---- of batches

drop_seam : (leaves more : List (List ℕ × ℕ)) (n : ℕ) → n ≡ length leaves → drop n (leaves ++ more) ≡ more
drop_seam leaves more n e = ap (λ (k : ℕ). drop k (leaves ++ more)) e ∙ drop-append_seam leaves more

-- Sums of a batch of leaves with their choices, and of the next.
pub deduped_bytes_both : (leaves more : List (List ℕ × ℕ)) (xs ys : List Choice) → length xs ≡ length leaves
    → deduped_bytes (leaves ++ more) (xs ++ ys) ≡ deduped_bytes leaves xs + deduped_bytes more ys
deduped_bytes_both leaves more xs ys all =
    let first = deduped_bytes_more leaves more xs (omega arith) in
    let rest = ap (λ (ls : List (List ℕ × ℕ)). deduped_bytes ls ys) (drop_seam leaves more (length xs) all) in
    omega (arith, deduped_bytes-append (leaves ++ more) xs ys, first, rest)

pub new_bytes_both : (leaves more : List (List ℕ × ℕ)) (xs ys : List Choice) → length xs ≡ length leaves
    → new_bytes (leaves ++ more) (xs ++ ys) ≡ new_bytes leaves xs + new_bytes more ys
new_bytes_both leaves more xs ys all =
    let first = new_bytes_more leaves more xs (omega arith) in
    let rest = ap (λ (ls : List (List ℕ × ℕ)). new_bytes ls ys) (drop_seam leaves more (length xs) all) in
    omega (arith, new_bytes-append (leaves ++ more) xs ys, first, rest)

pub prevented_bytes_both : (leaves more : List (List ℕ × ℕ)) (xs ys : List Choice) → length xs ≡ length leaves → RunsEnd leaves xs
    → prevented_bytes (leaves ++ more) (xs ++ ys) ≡ prevented_bytes leaves xs + prevented_bytes more ys
prevented_bytes_both leaves more xs ys all ends =
    let first = prevented_bytes_more leaves more xs (omega arith) ends in
    let rest = ap (λ (ls : List (List ℕ × ℕ)). prevented_bytes ls ys) (drop_seam leaves more (length xs) all) in
    omega (arith, prevented_bytes-append (leaves ++ more) xs ys, first, rest)

-- ---- all bytes, and those of a run

-- each byte was stored or not
pub bytes_in_all : (leaves : List (List ℕ × ℕ)) (cs : List Choice) → deduped_bytes leaves cs + new_bytes leaves cs ≡ total_len (take (length cs) leaves)
bytes_in_all leaves [] = refl
bytes_in_all [] (c ∷ cs) = refl
bytes_in_all (leaf ∷ leaves) (c ∷ cs) =
    by (is_reused c) leaf.1 (deduped_bytes leaves cs) (new_bytes leaves cs) (bytes_in_all leaves cs)
    ∙ sym (sum_by-cons (λ (m : List ℕ × ℕ). m.1) leaf (take (length cs) leaves))
  where
    by : (b : Bool) (l d n : ℕ) {t : ℕ} → d + n ≡ t → (if b then l else 0) + d + ((if b then 0 else l) + n) ≡ l + t
    by true l d n e = omega arith
    by false l d n e = omega arith

pub deduped_chunks_run : (k segment : ℕ) → deduped_chunks (replicate k (Reused segment)) ≡ k
deduped_chunks_run zero segment = refl
deduped_chunks_run (suc k) segment = omega (arith, deduped_chunks_run k segment)

pub prevented_chunks_run : (k segment : ℕ) → prevented_chunks (replicate k (Reused segment)) ≡ 0
prevented_chunks_run zero segment = refl
prevented_chunks_run (suc k) segment = omega (arith, prevented_chunks_run k segment)

pub deduped_bytes_run : (leaves : List (List ℕ × ℕ)) (k segment : ℕ) → deduped_bytes leaves (replicate k (Reused segment)) ≡ total_len (take k leaves)
deduped_bytes_run leaves zero segment = refl
deduped_bytes_run [] (suc k) segment = refl
deduped_bytes_run (leaf ∷ leaves) (suc k) segment = omega (arith, deduped_bytes_run leaves k segment, sum_by-cons (λ (m : List ℕ × ℕ). m.1) leaf (take k leaves))

pub new_bytes_run : (leaves : List (List ℕ × ℕ)) (k segment : ℕ) → new_bytes leaves (replicate k (Reused segment)) ≡ 0
new_bytes_run leaves zero segment = refl
new_bytes_run [] (suc k) segment = refl
new_bytes_run (leaf ∷ leaves) (suc k) segment = omega (arith, new_bytes_run leaves k segment)

pub prevented_bytes_run : (leaves : List (List ℕ × ℕ)) (k segment : ℕ) → prevented_bytes leaves (replicate k (Reused segment)) ≡ 0
prevented_bytes_run leaves zero segment = refl
prevented_bytes_run [] (suc k) segment = refl
prevented_bytes_run (leaf ∷ leaves) (suc k) segment = omega (arith, prevented_bytes_run leaves k segment)

-- ---- ends of runs

pub runs_end_more : (leaves more : List (List ℕ × ℕ)) (cs : List Choice) → length cs ≤ length leaves → RunsEnd leaves cs → RunsEnd (leaves ++ more) cs
runs_end_more leaves more [] le ends = tt
runs_end_more [] more (c ∷ cs) le ends = absurd (omega arith)
runs_end_more (leaf ∷ leaves) more (c ∷ cs) le ends = (omega (arith, ends.0, length-append leaves more), runs_end_more leaves more cs (omega arith) ends.1)

pub runs_end-append : (leaves : List (List ℕ × ℕ)) (xs ys : List Choice) → RunsEnd leaves xs → RunsEnd (drop (length xs) leaves) ys → RunsEnd leaves (xs ++ ys)
runs_end-append leaves [] ys ends rest = rest
runs_end-append [] (c ∷ xs) ys ends rest = (ends.0, runs_end-append [] xs ys ends.1 (none (length xs) rest))
  where
    none : (n : ℕ) → RunsEnd [] ys → RunsEnd (drop n []) ys
    none zero r = r
    none (suc n) r = r
runs_end-append (leaf ∷ leaves) (c ∷ xs) ys ends rest = (ends.0, runs_end-append leaves xs ys ends.1 rest)

pub runs_end_run : (leaves : List (List ℕ × ℕ)) (k segment : ℕ) → RunsEnd leaves (replicate k (Reused segment))
runs_end_run leaves zero segment = tt
runs_end_run [] (suc k) segment = (omega arith, runs_end_run [] k segment)
runs_end_run (leaf ∷ leaves) (suc k) segment = (omega arith, runs_end_run leaves k segment)
