-- In a sound core each run that is found lies in a listed xorb, with its number of bytes.
use Rattle.std.proofs.Common.{◌≡◌, ◌≢◌, ◌∙◌, ℕ, suc, ◌+◌, ◌-◌, ◌≤◌, ◌<◌, Bool, true, false, nat_eq, List, [], ◌∷◌, ◌++◌, length, map, take, drop, Option, Some, None, refl, sym, ap, subst, arith}
use Rattle.std.specs.Prelude.{◌==◌, nat_lt, if◌then◌else◌, option_and_then, option_map}
use Rattle.std.specs.Cmp.Lexicographic.{pointwise}
use Rattle.std.specs.List.{AllByRecursion, sum_by}
use Rattle.std.proofs.lemmas.Bool.{eqb-false}
use Rattle.std.proofs.lemmas.List.{drop-map, length-drop, length-map, take-map}
use Rattle.std.proofs.lemmas.List.Sums.{sum_by-cons}
use Rattle.xet_base.specs.theorems.Elements.{all_filtered, all_more, all_push}
use Rattle.xet_io.specs.Disk.{Files}
use Rattle.xet_hash.specs.Hash.{zero_hash}
use Rattle.xet_shard.specs.Queries.{block_at, kept_hash, last_of, shard_run_at}
use Rattle.xet_shard.specs.Runs.{agreeing, digests, held_run, last_chunk, last_place, run_at, run_segment}
use Rattle.xet_shard_format.specs.Encoding.{Shard}
use Rattle.xet_shard_format.specs.Records.{chunk_bytes, first_word, xorb_rows}
use Rattle.xet_shard_format.specs.declared.record.FileDataSequenceEntry.{FileDataSequenceEntry as Segment}
use Rattle.xet_shard_format.specs.declared.record.MDBXorbInfo.{MDBXorbInfo}
use Rattle.xet_shard_format.specs.declared.record.XorbChunkSequenceEntry.{XorbChunkSequenceEntry}
use Rattle.xet_folder.specs.Admission.{entry_leaf}
use Rattle.xet_folder.specs.Xorbs.{Xorbs}
use Rattle.xet_history.specs.Core.{Core, RegisteredShard}
use Rattle.xet_history.specs.Found.{first_some, found_run, indexed, indexed_after, items_of, key_of, keyed_run, keys_of, of_key, place_of, word_count}
use Rattle.xet_history.specs.Sound.{IsBlock, IsListedRun, IsSound}
use Rattle.xet_history.specs.theorems.Finding.{FoundRun, Hashes}
use Rattle.xet_history.specs.theorems.Staying.{Leaves}

-- each run that is found has a property
abbrev pub AllRuns : (FoundRun → Type 0) → Option FoundRun → Type 0
AllRuns P o = (run : FoundRun) → o ≡ Some run → P run

-- each run of a query in a block has it, whichever index it starts at
abbrev pub AllAt : (FoundRun → Type 0) → Hashes → MDBXorbInfo → Type 0
AllAt P query b = (place : ℕ) → AllRuns P (run_at query b place)

-- ---- a run of a block

agreeing_within : (hs ds : Hashes) → agreeing hs ds ≤ length ds
unfolding agreeing
agreeing_within [] ds = omega arith
agreeing_within (h ∷ hs) [] = omega arith
agreeing_within (h ∷ hs) (d ∷ ds) = go (pointwise nat_eq h d) (agreeing_within hs ds)
  where
    go : (b : Bool) → agreeing hs ds ≤ length ds → (if b then suc (agreeing hs ds) else 0) ≤ suc (length ds)
    go true le = omega (arith, le)
    go false le = omega arith

agreeing_below : (hs ds : Hashes) → agreeing hs ds ≤ length hs
unfolding agreeing
agreeing_below [] ds = omega arith
agreeing_below (h ∷ hs) [] = omega arith
agreeing_below (h ∷ hs) (d ∷ ds) = go (pointwise nat_eq h d) (agreeing_below hs ds)
  where
    go : (b : Bool) → agreeing hs ds ≤ length hs → (if b then suc (agreeing hs ds) else 0) ≤ suc (length hs)
    go true le = omega (arith, le)
    go false le = omega arith

-- The run of a query at an index of a block has the chunks whose hashes agree.
pub record IsRunAt (query : Hashes) (b : MDBXorbInfo) (place : ℕ) (run : FoundRun) : Type 0 where
  pub count : run.0 ≡ agreeing query (digests (drop place b.chunks))
  pub some : 0 < run.0
  pub within : run.0 ≤ length query
  pub segment : run.1 ≡ run_segment b place run.0

pub run_is : (query : Hashes) (b : MDBXorbInfo) (place : ℕ) (run : FoundRun) → run_at query b place ≡ Some run → IsRunAt query b place run
unfolding run_at
run_is query b place run e = go (agreeing query there) refl (agreeing query there == 0) refl e
  where
    there : Hashes
    there = digests (drop place b.chunks)

    go : (count : ℕ) → count ≡ agreeing query (digests (drop place b.chunks)) → (none : Bool) → (count == 0) ≡ none
        → (let o : Option FoundRun = if none then None else Some (count, run_segment b place count) in o) ≡ Some run → IsRunAt query b place run
    go count agree true is e = absurd (cc e)
    go count agree false is e =
        let some : count ≢ 0 = eqb-false count 0 is in
        let found : Some (count, run_segment b place count) ≡ Some run = e in
        let same : (count, run_segment b place count) ≡ run = cc found in
        subst (λ (r : FoundRun). IsRunAt query b place r) same
        (record { count = agree; some = omega arith; within = omega (arith, agree, agreeing_below query (digests (drop place b.chunks))); segment = refl })

sum_of_map : {X Y : Type 0} (f : X → Y) (len : Y → ℕ) (xs : List X) → sum_by len (map f xs) ≡ sum_by (λ x. len (f x)) xs
sum_of_map f len [] = refl
sum_of_map f len (x ∷ xs) = sum_by-cons len (f x) (map f xs) ∙ ap (λ (n : ℕ). len (f x) + n) (sum_of_map f len xs) ∙ sym (sum_by-cons (λ x. len (f x)) x xs)

part_sum : {X Y : Type 0} (f : X → Y) (len : Y → ℕ) (n from : ℕ) (xs : List X) → sum_by len (take n (drop from (map f xs))) ≡ sum_by (λ x. len (f x)) (take n (drop from xs))
part_sum f len n from xs =
    ap (λ (l : List _). sum_by len (take n l)) (drop-map f from xs) ∙ ap (λ (l : List _). sum_by len l) (take-map f n (drop from xs)) ∙ sum_of_map f len (take n (drop from xs))

-- the hash and the length of a chunk as a shard with this key stores them
abbrev keyed_leaf : List ℕ → List ℕ × ℕ → List ℕ × ℕ
keyed_leaf key m = (kept_hash key m.0, m.1)

abbrev bytes_of : List ℕ × ℕ → ℕ
bytes_of m = m.1

module _ (xorbs : Xorbs) (key : List ℕ) (b : MDBXorbInfo) (is : IsBlock xorbs key b) where
  same_bytes : (n from : ℕ) → chunk_bytes (take n (drop from b.chunks)) ≡ sum_by bytes_of (take n (drop from is.leaves))
  same_bytes n from =
      sym (part_sum entry_leaf bytes_of n from b.chunks)
      ∙ ap (λ (l : Leaves). sum_by bytes_of (take n (drop from l))) is.keyed
      ∙ part_sum (keyed_leaf key) bytes_of n from is.leaves

  same_count : length b.chunks ≡ length is.leaves
  same_count = sym (length-map b.chunks entry_leaf) ∙ ap (λ (l : Leaves). length l) is.keyed ∙ length-map is.leaves (keyed_leaf key)

  segment_lies : (place count : ℕ) → 0 < count → place + count ≤ length b.chunks → IsListedRun xorbs (count, run_segment b place count)
  segment_lies place count some within = record {
    leaves = is.leaves;
    listed = is.listed;
    count = refl;
    lies = record {
      some = omega (arith, some);
      within = omega (arith, within, same_count);
      bytes =
          let n : place + count - place ≡ count = omega arith in
          same_bytes count place ∙ ap (λ (k : ℕ). sum_by bytes_of (take k (drop place is.leaves))) (sym n);
    };
  }

  pub run_lies : (query : Hashes) → AllAt (IsListedRun xorbs) query b
  run_lies query place run e =
      let at = run_is query b place run e in
      let within : place + run.0 ≤ length b.chunks =
      omega (arith, at.count, at.some, agreeing_within query (digests (drop place b.chunks)), length-map (drop place b.chunks) (λ (c : XorbChunkSequenceEntry). c.chunk_hash), length-drop place b.chunks) in
      subst (λ (s : Segment). IsListedRun xorbs (run.0, s)) (sym at.segment) (segment_lies place run.0 at.some within)

-- ---- queries that are made of others

module _ (P : FoundRun → Type 0) where
  pub runs_then : {X : Type 0} (f : X → Option FoundRun) (o : Option X) → ((x : X) → o ≡ Some x → AllRuns P (f x)) → AllRuns P (option_and_then f o)
  runs_then f None all run e = absurd (cc e)
  runs_then f (Some x) all run e = all x refl run e

  runs_in : {X : Type 0} (f : X → Option FoundRun) (o : Option X) → ((x : X) → o ≡ Some x → AllRuns P (f x)) → AllRuns P (elim o as (λ _. Option FoundRun) [ None ↦ None | Some x ↦ f x ])
  runs_in f None all run e = absurd (cc e)
  runs_in f (Some x) all run e = all x refl run e

  runs_first : (o : Option FoundRun) (os : List (Option FoundRun)) → AllRuns P o → AllRuns P (first_some os) → AllRuns P (first_some (o ∷ os))
  unfolding first_some
  runs_first None os first others = others
  runs_first (Some x) os first others = first

  runs_all : {X : Type 0} (f : X → Option FoundRun) (xs : List X) → ((x : X) → AllRuns P (f x)) → AllRuns P (first_some (map f xs))
  unfolding first_some
  runs_all f [] all run e = absurd (cc e)
  runs_all f (x ∷ xs) all run e = runs_first (f x) (map f xs) (all x) (runs_all f xs all) run e

-- ---- where a chunk is found

last_chunk_in : (P : MDBXorbInfo → Type 0) (h : List ℕ) (bs : List MDBXorbInfo) → AllByRecursion P bs → (at : MDBXorbInfo × ℕ) → last_chunk h bs ≡ Some at → P at.0
unfolding last_chunk
last_chunk_in P h [] all at e = absurd (cc e)
last_chunk_in P h (b ∷ bs) all at e = go (last_chunk h bs) (last_place h (digests b.chunks)) (last_chunk_in P h bs all.1 at) e
  where
    go : (o : Option (MDBXorbInfo × ℕ)) (i : Option ℕ) → (o ≡ Some at → P at.0) → (elim o as (λ _. Option (MDBXorbInfo × ℕ)) [ Some found ↦ Some found | None ↦ option_map (λ i. (b, i)) i ]) ≡ Some at → P at.0
    go (Some found) i later e = later e
    go None (Some i) later e = let same : (b, i) ≡ at = cc e in subst (λ (x : MDBXorbInfo × ℕ). P x.0) same all.0
    go None None later e = absurd (cc e)

block_in : (P : MDBXorbInfo → Type 0) (row at : ℕ) (bs : List MDBXorbInfo) → AllByRecursion P bs → (b : MDBXorbInfo) → block_at row at bs ≡ Some b → P b
unfolding block_at
block_in P row at [] all b e = absurd (cc e)
block_in P row at (x ∷ xs) all b e = go (row == at) (block_at row (at + length (xorb_rows x)) xs) (block_in P row (at + length (xorb_rows x)) xs all.1 b) e
  where
    go : (here : Bool) (o : Option MDBXorbInfo) → (o ≡ Some b → P b) → (if here then Some x else o) ≡ Some b → P b
    go true o later e = let same : x ≡ b = cc e in subst P same all.0
    go false o later e = later e

abbrev Place : Type 0
Place = RegisteredShard × ℕ × ℕ

place_in : (P : RegisteredShard → Type 0) (word : ℕ) (shards : List RegisteredShard) → AllByRecursion P shards → (at : Place) → place_of word shards ≡ Some at → P at.0
unfolding place_of
place_in P word [] all at e = absurd (cc e)
place_in P word (s ∷ ss) all at e = go (place_of word ss) (last_of word (items_of s)) (place_in P word ss all.1 at) e
  where
    go : (o : Option Place) (i : Option (ℕ × ℕ)) → (o ≡ Some at → P at.0) → (elim o as (λ _. Option Place) [ Some place ↦ Some place | None ↦ option_map (λ at. (s, at.0, at.1)) i ]) ≡ Some at → P at.0
    go (Some place) i later e = later e
    go None (Some i) later e = let same : (s, i.0, i.1) ≡ at = cc e in subst (λ (x : Place). P x.0) same all.0
    go None None later e = absurd (cc e)

indexed_all : (P : RegisteredShard → Type 0) (cap : ℕ) (before shards : List RegisteredShard) → AllByRecursion P before → AllByRecursion P shards → AllByRecursion P (indexed_after cap before shards)
unfolding indexed_after
indexed_all P cap before [] here all = here
indexed_all P cap before (s ∷ ss) here all =
    indexed_all P cap (if nat_lt (word_count before) cap then before ++ s ∷ [] else before) ss (go (nat_lt (word_count before) cap)) all.1
  where
    go : (b : Bool) → AllByRecursion P (if b then before ++ s ∷ [] else before)
    go true = all_push P before s here all.0
    go false = here

-- ---- queries of a core

module _ (P : FoundRun → Type 0) where
  pub held_runs : (blocks : List MDBXorbInfo) (h : List ℕ) (hs : Hashes) → AllByRecursion (AllAt P (h ∷ hs)) blocks → AllRuns P (held_run blocks (h ∷ hs))
  unfolding held_run
  held_runs blocks h hs all =
      runs_then P (λ (at : MDBXorbInfo × ℕ). run_at (h ∷ hs) at.0 at.1) (last_chunk h blocks) (λ at e. last_chunk_in (AllAt P (h ∷ hs)) h blocks all at e at.1)

  pub shard_runs : (s : Shard) (query : Hashes) → AllByRecursion (AllAt P (map (kept_hash s.key) query)) s.blocks → (row place : ℕ) → AllRuns P (shard_run_at s query row place)
  shard_runs s query all row place =
      runs_in P (λ (b : MDBXorbInfo). run_at (map (kept_hash s.key) query) b place) (block_at row 0 s.blocks)
      (λ b e. block_in (AllAt P (map (kept_hash s.key) query)) row 0 s.blocks all b e place)

  module _ (c : Core) (query : Hashes) where
    abbrev pub AllIn : RegisteredShard → Type 0
    AllIn s = AllByRecursion (AllAt P (map (kept_hash s.contents.key) query)) s.contents.blocks

    keyed_runs : AllByRecursion AllIn c.shards → (h key : List ℕ) → AllRuns P (keyed_run c h query key)
    keyed_runs all h key =
        let some : AllByRecursion AllIn (of_key key (indexed c)) =
        all_filtered AllIn (λ s. pointwise nat_eq key (key_of s)) (indexed c) (indexed_all AllIn c.index_cap [] c.shards tt all) in
        runs_then P (λ (at : Place). shard_run_at at.0.contents query at.1 at.2) (place_of (first_word (kept_hash key h)) (of_key key (indexed c)))
        (λ at e. shard_runs at.0.contents query (place_in AllIn (first_word (kept_hash key h)) (of_key key (indexed c)) some at e) at.1 at.2)

  -- Each run that a query of a core can find has the property, if those of each block have it.
  pub core_runs : (c : Core) (query : Hashes) → AllByRecursion (AllAt P query) c.pending.blocks → AllByRecursion (AllIn c query) c.shards → AllRuns P (found_run c query)
  unfolding found_run
  core_runs c [] held shards = λ run e. absurd (cc e)
  core_runs c (h ∷ hs) held shards =
      runs_first P (held_run c.pending.blocks (h ∷ hs)) (map (keyed_run c h (h ∷ hs)) (keys_of c.shards)) (held_runs c.pending.blocks h hs held)
      (runs_all P (keyed_run c h (h ∷ hs)) (keys_of c.shards) (keyed_runs c (h ∷ hs) shards h))

pub found_lies : (files : Files) (folder : List ℕ) (c : Core) → IsSound files folder c → (hashes : Hashes) (run : FoundRun) → found_run c hashes ≡ Some run → IsListedRun c.xorbs run
found_lies files folder c sound hashes =
    core_runs (IsListedRun c.xorbs) c hashes
    (all_more (IsBlock c.xorbs zero_hash) (AllAt (IsListedRun c.xorbs) hashes) c.pending.blocks (λ b is. run_lies c.xorbs zero_hash b is hashes) sound.pending_blocks)
    (all_more (λ s. AllByRecursion (IsBlock c.xorbs s.contents.key) s.contents.blocks) (AllIn (IsListedRun c.xorbs) c hashes) c.shards
    (λ s all. all_more (IsBlock c.xorbs s.contents.key) (AllAt (IsListedRun c.xorbs) (map (kept_hash s.contents.key) hashes)) s.contents.blocks
    (λ b is. run_lies c.xorbs s.contents.key b is (map (kept_hash s.contents.key) hashes)) all) sound.shard_blocks)
