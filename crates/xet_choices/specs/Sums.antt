-- Sums over the choices for the chunks of a file, in chunks and in bytes. The leaves begin with that of the first
-- choice's chunk.
use Rattle.std.specs.Prelude.{ℕ, ◌+◌, ◌≤◌, List, [], ◌∷◌, length, take, if◌then◌else◌}
use Rattle.xet_hash.specs.Merkle.{total_len}
use Rattle.xet_choices.specs.declared.choice.Choice.{Choice}
use Rattle.xet_choices.specs.declared.choice.Choice.TheVariants.{Reused, NoPlace, Refused, Inside}
use Rattle.xet_choices.specs.Choices.{is_reused}

-- the length of the run that was rejected, if any
abbrev pub run_of : Choice → ℕ
run_of (Reused segment) = 0
run_of (NoPlace entry) = 0
run_of (Refused run) = run
run_of (Inside start) = 0

-- the number of chunks that were not stored
abbrev pub deduped_chunks : List Choice → ℕ
deduped_chunks [] = 0
deduped_chunks (c ∷ cs) = (if is_reused c then 1 else 0) + deduped_chunks cs

-- the number of bytes of the chunks that were not stored
abbrev pub deduped_bytes : List (List ℕ × ℕ) → List Choice → ℕ
deduped_bytes leaves [] = 0
deduped_bytes [] (c ∷ cs) = 0
deduped_bytes (leaf ∷ leaves) (c ∷ cs) = (if is_reused c then leaf.1 else 0) + deduped_bytes leaves cs

-- the number of bytes of the chunks that were stored
abbrev pub new_bytes : List (List ℕ × ℕ) → List Choice → ℕ
new_bytes leaves [] = 0
new_bytes [] (c ∷ cs) = 0
new_bytes (leaf ∷ leaves) (c ∷ cs) = (if is_reused c then 0 else leaf.1) + new_bytes leaves cs

-- the number of chunks of the runs that were rejected; a chunk counts once for each of them
abbrev pub prevented_chunks : List Choice → ℕ
prevented_chunks [] = 0
prevented_chunks (c ∷ cs) = run_of c + prevented_chunks cs

-- the number of bytes of the runs that were rejected, each from its choice's chunk on
abbrev pub prevented_bytes : List (List ℕ × ℕ) → List Choice → ℕ
prevented_bytes leaves [] = 0
prevented_bytes [] (c ∷ cs) = 0
prevented_bytes (leaf ∷ leaves) (c ∷ cs) = total_len (take (run_of c) (leaf ∷ leaves)) + prevented_bytes leaves cs

-- Each run that was rejected ends within the leaves.
abbrev pub RunsEnd : List (List ℕ × ℕ) → List Choice → Type 0
RunsEnd leaves [] = Unit {0}
RunsEnd [] (c ∷ cs) = (run_of c ≤ 0) × RunsEnd [] cs
RunsEnd (leaf ∷ leaves) (c ∷ cs) = (run_of c ≤ length (leaf ∷ leaves)) × RunsEnd leaves cs
