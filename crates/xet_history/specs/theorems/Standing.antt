-- In a sound core the hashes of a run that is found are those asked, under the key by which it was found.
use Rattle.std.proofs.Common.{◌≡◌, ◌∙◌, inl, inr, ℕ, suc, ◌+◌, ◌-◌, Bool, true, false, nat_eq, List, [], ◌∷◌, map, take, drop, Some, refl, sym, ap, subst, arith}
use Rattle.std.specs.Prelude.{Any, if◌then◌else◌}
use Rattle.std.specs.Cmp.Lexicographic.{bytes_decides, pointwise}
use Rattle.std.specs.List.{AllByRecursion}
use Rattle.std.proofs.lemmas.List.{drop-map, take-map}
use Rattle.std.proofs.lemmas.Simd.{map-map}
use Rattle.xet_base.specs.theorems.Elements.{all_more}
use Rattle.xet_io.specs.Disk.{Files}
use Rattle.xet_hash.specs.Hash.{zero_hash}
use Rattle.xet_shard.specs.Queries.{kept_hash}
use Rattle.xet_shard.specs.Runs.{agreeing, digests}
use Rattle.xet_shard_format.specs.declared.record.FileDataSequenceEntry.{FileDataSequenceEntry as Segment}
use Rattle.xet_shard_format.specs.declared.record.MDBXorbInfo.{MDBXorbInfo}
use Rattle.xet_shard_format.specs.declared.record.XorbChunkSequenceEntry.{XorbChunkSequenceEntry}
use Rattle.xet_folder.specs.Admission.{entry_leaf}
use Rattle.xet_history.specs.Core.{Core, RegisteredShard}
use Rattle.xet_history.specs.Found.{found_run, key_of}
use Rattle.xet_history.specs.Sound.{IsBlock, IsKey, IsSound, IsStanding}
use Rattle.xet_history.specs.theorems.Finding.{FoundRun, Hashes}
use Rattle.xet_history.specs.theorems.FoundRuns.{AllAt, AllIn, core_runs, run_is}
use Rattle.xet_history.specs.theorems.Staying.{Leaves}

-- ---- hashes that agree

agreeing_same : (hs ds : Hashes) → take (agreeing hs ds) hs ≡ take (agreeing hs ds) ds
unfolding agreeing
agreeing_same [] ds = refl
agreeing_same (h ∷ hs) [] = refl
agreeing_same (h ∷ hs) (d ∷ ds) = go (pointwise nat_eq h d) refl (agreeing_same hs ds)
  where
    go : (b : Bool) → pointwise nat_eq h d ≡ b → take (agreeing hs ds) hs ≡ take (agreeing hs ds) ds
        → take (if b then suc (agreeing hs ds) else 0) (h ∷ hs) ≡ take (if b then suc (agreeing hs ds) else 0) (d ∷ ds)
    go true is rest = let first : h ≡ d = (bytes_decides h d).0 is in λ i. first i ∷ rest i
    go false is rest = refl

unkeyed : (hs : Hashes) → map (kept_hash zero_hash) hs ≡ hs
unfolding kept_hash
unkeyed [] = refl
unkeyed (h ∷ hs) = ap (λ (l : Hashes). h ∷ l) (unkeyed hs)

-- ---- a run of a block

module _ (c : Core) (key : List ℕ) (is_key : IsKey c key) (b : MDBXorbInfo) (is : IsBlock c.xorbs key b) where
  block_hashes : map (λ (m : List ℕ × ℕ). kept_hash key m.0) is.leaves ≡ digests b.chunks
  block_hashes =
      sym (map-map (λ (m : List ℕ × ℕ). m.0) (λ (m : List ℕ × ℕ). (kept_hash key m.0, m.1)) is.leaves)
      ∙ ap (λ (l : Leaves). map (λ (m : List ℕ × ℕ). m.0) l) (sym is.keyed)
      ∙ map-map (λ (m : List ℕ × ℕ). m.0) entry_leaf b.chunks

  part_hashes : (place count : ℕ) → map (λ (m : List ℕ × ℕ). kept_hash key m.0) (take count (drop place is.leaves)) ≡ take count (digests (drop place b.chunks))
  part_hashes place count =
      sym (take-map (λ (m : List ℕ × ℕ). kept_hash key m.0) count (drop place is.leaves))
      ∙ ap (λ (l : Hashes). take count l) (sym (drop-map (λ (m : List ℕ × ℕ). kept_hash key m.0) place is.leaves) ∙ ap (λ (l : Hashes). drop place l) block_hashes ∙ drop-map (λ (e : XorbChunkSequenceEntry). e.chunk_hash) place b.chunks)

  block_stands : (hashes kept : Hashes) → kept ≡ map (kept_hash key) hashes → AllAt (λ run. IsStanding c (take run.0 hashes) run.1) kept b
  block_stands hashes kept same place run e =
      let at = run_is kept b place run e in
      let count : place + run.0 - place ≡ run.0 = omega arith in
      let asked : take run.0 (digests (drop place b.chunks)) ≡ map (kept_hash key) (take run.0 hashes) =
      ap (λ (n : ℕ). take n (digests (drop place b.chunks))) at.count
      ∙ sym (agreeing_same kept (digests (drop place b.chunks)))
      ∙ ap (λ (n : ℕ). take n kept) (sym at.count)
      ∙ ap (λ (l : Hashes). take run.0 l) same
      ∙ take-map (kept_hash key) run.0 hashes in
      subst (λ (s : Segment). IsStanding c (take run.0 hashes) s) (sym at.segment)
      (record {
        leaves = is.leaves;
        listed = is.listed;
        key = key;
        is_key = is_key;
        same = ap (λ (n : ℕ). map (λ (m : List ℕ × ℕ). kept_hash key m.0) (take n (drop place is.leaves))) count ∙ part_hashes place run.0 ∙ asked;
      })

-- ---- queries of a core

-- what holds of each shard, and of its key, holds of each
module _ (P Q : RegisteredShard → Type 0) where
  all_keyed : (all xs : List RegisteredShard) → ((k : List ℕ) → Any (λ s. key_of s ≡ k) xs → Any (λ s. key_of s ≡ k) all) → ((s : RegisteredShard) → Any (λ t. key_of t ≡ key_of s) all → P s → Q s) → AllByRecursion P xs → AllByRecursion Q xs
  all_keyed all [] among more holds = tt
  all_keyed all (x ∷ xs) among more holds = (
    more x (among (key_of x) (any_first x xs)) holds.0,
    all_keyed all xs (λ k any. among k (any_later x xs k any)) more holds.1,
  )
    where
      any_first : (x : RegisteredShard) (xs : List RegisteredShard) → Any (λ s. key_of s ≡ key_of x) (x ∷ xs)
      any_first x xs = (0, x, omega arith, refl, refl)

      any_later : (x : RegisteredShard) (xs : List RegisteredShard) (k : List ℕ) → Any (λ s. key_of s ≡ k) xs → Any (λ s. key_of s ≡ k) (x ∷ xs)
      any_later x xs k (i, y, below, at, holds) = (suc i, y, omega (arith, below), at, holds)

-- A run that a query finds in a sound core has the hashes that it was found by.
pub found_stands : (files : Files) (folder : List ℕ) (c : Core) → IsSound files folder c → (hashes : Hashes) (run : FoundRun) → found_run c hashes ≡ Some run → IsStanding c (take run.0 hashes) run.1
found_stands files folder c sound hashes =
    let Stands : FoundRun → Type 0 = λ run. IsStanding c (take run.0 hashes) run.1 in
    core_runs Stands c hashes
    (all_more (IsBlock c.xorbs zero_hash) (AllAt Stands hashes) c.pending.blocks (λ b is. block_stands c zero_hash (inl refl) b is hashes hashes (sym (unkeyed hashes))) sound.pending_blocks)
    (all_keyed (λ s. AllByRecursion (IsBlock c.xorbs s.contents.key) s.contents.blocks) (AllIn Stands c hashes) c.shards c.shards (λ k any. any)
    (λ s known all. all_more (IsBlock c.xorbs s.contents.key) (AllAt Stands (map (kept_hash s.contents.key) hashes)) s.contents.blocks
    (λ b is. block_stands c s.contents.key (inr known) b is hashes (map (kept_hash s.contents.key) hashes) refl) all) sound.shard_blocks)
