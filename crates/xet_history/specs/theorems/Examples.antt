-- Small examples: what the definitions say of few things.
use Rattle.std.proofs.Common.{◌≡◌, ◌∙◌, ℕ, ◌+◌, Bool, true, false, List, [], ◌∷◌, length, Some, None, refl, sym, ap}
use Rattle.std.specs.Prelude.{nat_lt}
use Rattle.xet_io.specs.Disk.{Files}
use Rattle.xet_hash.specs.Hash.{zero_hash}
use Rattle.xet_hash.specs.Merkle.{xorb_hash}
use Rattle.xet_shard.specs.Held.{Held, held, nothing}
use Rattle.xet_shard.specs.Runs.{agreeing, held_run, last_chunk, last_place, run_at}
use Rattle.xet_shard_index.specs.Different.{different}
use Rattle.xet_xorb.specs.Raw.{xorb_record}
use Rattle.xet_folder.specs.Xorbs.{IsListed}
use Rattle.xet_history.specs.Core.{Core, flushed, has_pending, is_new, registered}
use Rattle.xet_history.specs.Found.{first_some, found_run, indexed_after, place_of}
use Rattle.xet_history.specs.History.{Legal, reply_of}
use Rattle.xet_history.specs.Interleaving.{Run, entries_of}
use Rattle.xet_history.specs.Interleaving.Step.{query}
use Rattle.xet_history.specs.Sound.{IsSound}
use Rattle.xet_history.specs.declared.entry.Entry.{Entry}
use Rattle.xet_history.specs.declared.entry.Entry.TheVariants.{Flush, Query}
use Rattle.xet_history.specs.theorems.Staying.{Leaves, registered_listed, registered_new}

-- the core of an empty folder
abbrev pub empty : ℕ → ℕ → Core
empty opened index_cap = record { xorbs = []; records = []; pending = nothing; shards = []; opened = opened; index_cap = index_cap }

pub empty_sound : (files : Files) (folder : List ℕ) (opened index_cap : ℕ) → IsSound files folder (empty opened index_cap)
empty_sound files folder opened index_cap =
    record { backed = λ h leaves listed. absurd (cc listed); recorded = tt; pending_files = tt; pending_blocks = tt; shard_files = tt; shard_blocks = tt; stored = tt }

-- ---- queries

-- nothing is found where nothing is pending and no shard is registered
pub found_nowhere : (opened index_cap : ℕ) (hashes : List (List ℕ)) → found_run (empty opened index_cap) hashes ≡ None
unfolding found_run first_some held_run last_chunk different indexed_after place_of
found_nowhere opened index_cap [] = refl
found_nowhere opened index_cap (h ∷ hs) = refl

-- the only chunk of a pending xorb, of five bytes, is found
pub found_pending : (h : List ℕ) (opened index_cap : ℕ)
    → found_run (record (empty opened index_cap) { pending = held (xorb_record h ((zero_hash, 5) ∷ []) ∷ []) [] }) (zero_hash ∷ [])
    ≡ Some (1, record { xorb_hash = h; xorb_flags = 0; unpacked_segment_bytes = 5; chunk_index_start = 0; chunk_index_end = 1 })
unfolding found_run first_some held_run last_chunk last_place run_at agreeing
found_pending h opened index_cap = refl

-- ---- steps

-- a xorb that was new is listed once it is registered
pub registered_is_listed : (c : Core) (leaves : Leaves) → is_new c.xorbs (xorb_hash leaves) ≡ true → IsListed (registered c leaves).xorbs (xorb_hash leaves) leaves
registered_is_listed c leaves new = rw (registered_new c leaves new) (registered_listed c leaves new)

pub registered_in_empty : (opened index_cap : ℕ) (leaves : Leaves) → (registered (empty opened index_cap) leaves).xorbs ≡ (xorb_hash leaves, leaves) ∷ []
registered_in_empty opened index_cap leaves = refl

-- ---- legal entries

-- no flush is legal where nothing is pending
pub no_flush : (tells : Bool) (c : Core) (pass : ℕ) (shard : List ℕ) (entries : List Entry) → c.pending ≡ nothing → Legal tells c (Flush pass shard ∷ entries) → ⊥
no_flush tells c pass shard entries none legal =
    let idle : has_pending c ≡ false = ap (λ (p : Held). nat_lt 0 (length p.blocks + length p.files)) none in
    let bad : false ≡ true = sym idle ∙ legal.0.0 in absurd (cc bad)

-- and so none after a flush
pub no_second_flush : (tells : Bool) (c : Core) (pass : ℕ) (shard : List ℕ) (entries : List Entry) → Legal tells (flushed c) (Flush pass shard ∷ entries) → ⊥
no_second_flush tells c pass shard entries legal = no_flush tells (flushed c) pass shard entries refl legal

-- a query is a run by itself, and its entry is the only one
pub query_runs : (folder : List ℕ) (c : Core) (files : Files) (pass : ℕ) (hashes : List (List ℕ)) → Run folder [] c files (record { pass = pass; step = query hashes; files = files } ∷ [])
query_runs folder c files pass hashes = (tt, refl, tt)

pub query_entries_of : (c : Core) (files : Files) (pass : ℕ) (hashes : List (List ℕ))
    → entries_of c (record { pass = pass; step = query hashes; files = files } ∷ []) ≡ Query pass hashes (reply_of (found_run c hashes)) ∷ []
query_entries_of c files pass hashes = refl
