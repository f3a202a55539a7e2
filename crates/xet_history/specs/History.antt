-- The history of a store: what each entry says, and what it makes of the core.
use Rattle.std.specs.Prelude.{◌≡◌, ℕ, ◌+◌, Bool, true, false, List, [], ◌∷◌, ◌++◌, take, Option, Some, None, if◌then◌else◌}
use Rattle.std.specs.Option.{option_map}
use Rattle.xet_hash.specs.Merkle.{xorb_hash}
use Rattle.xet_shard_format.specs.RecordSizes.{file_record_size, xorb_record_size}
use Rattle.xet_shard_format.specs.Records.{file_record_hash}
use Rattle.xet_shard_format.specs.declared.record.FileDataSequenceEntry.{FileDataSequenceEntry as Segment}
use Rattle.xet_shard_format.specs.declared.record.MDBFileInfo.{MDBFileInfo}
use Rattle.xet_xorb.specs.Raw.{xorb_record}
use Rattle.xet_history.specs.Core.{Core, completed, flushed, has_pending, is_cut_due, is_new, pending_hash, registered}
use Rattle.xet_history.specs.Found.{found_run}
use Rattle.xet_history.specs.declared.entry.Entry.{Entry}
use Rattle.xet_history.specs.declared.entry.Entry.TheVariants.{Query, Register, Complete, Flush, Fault}
use Rattle.xet_history.specs.declared.entry.Run.{Run}

-- ---- queries

-- the run that a segment names
abbrev pub run_of : Segment → Run
run_of s = record { xorb = s.xorb_hash; from = s.chunk_index_start; to = s.chunk_index_end; bytes = s.unpacked_segment_bytes }

abbrev pub reply_of : Option (ℕ × Segment) → Option Run
reply_of found = option_map (λ run. run_of run.1) found

-- the hashes of a query that its entry states: those of the run that was found and the next one, or the first alone
abbrev pub stated : List (List ℕ) → Option (ℕ × Segment) → List (List ℕ)
stated hashes None = take 1 hashes
stated hashes (Some run) = take (run.0 + 1) hashes

-- ---- entries

abbrev pub pass_of : Entry → ℕ
pass_of (Query pass hashes reply) = pass
pass_of (Register pass chunks next added) = pass
pass_of (Complete pass file added) = pass
pass_of (Flush pass shard) = pass
pass_of (Fault pass kind) = pass

-- the core after an entry
abbrev pub after : Core → Entry → Core
after c (Query pass hashes reply) = c
after c (Register pass chunks next added) = registered c chunks
after c (Complete pass file added) = completed c file
after c (Flush pass shard) = flushed c
after c (Fault pass kind) = c

-- An entry says what its step replies in a core. What a query reads is known only of an observable disk.
abbrev pub IsRight : Bool → Core → Entry → Type 0
IsRight tells c (Query pass hashes reply) = tells ≡ true → reply ≡ reply_of (found_run c hashes)
IsRight tells c (Register pass chunks next added) = added ≡ is_new c.xorbs (xorb_hash chunks)
IsRight tells c (Complete pass file added) = added ≡ is_new c.records (file_record_hash file)
IsRight tells c (Flush pass shard) = (has_pending c ≡ true) × (shard ≡ pending_hash c)
IsRight tells c (Fault pass kind) = Unit {0}

-- ---- histories

abbrev pub after_all : Core → List Entry → Core
after_all c [] = c
after_all c (e ∷ es) = after_all (after c e) es

-- The entries, from a core on, say what their steps reply.
abbrev pub Legal : Bool → Core → List Entry → Type 0
Legal tells c [] = Unit {0}
Legal tells c (e ∷ es) = IsRight tells c e × Legal tells (after c e) es

-- These entries were added to a history, and lead from one core to another.
pub record Moves (tells : Bool) (c d : Core) (old new added : List Entry) : Type 0 where
  pub history : new ≡ old ++ added
  pub legal : Legal tells c added
  pub leads : d ≡ after_all c added

-- The history leads to a core from the one at its start.
pub record Replays (tells : Bool) (core : Core) (history : List Entry) : Type 0 where
  pub start : Core
  pub legal : Legal tells start history
  pub leads : core ≡ after_all start history

-- ---- the entries that each step adds, over a target length of shards

-- the entry of a cut before a record of this many bytes, if one is due
abbrev pub cut_entries : ℕ → Core → ℕ → ℕ → List Entry
cut_entries pass c target bytes = if is_cut_due c target bytes then Flush pass (pending_hash c) ∷ [] else []

-- the entry of the cut before a registration: none if a xorb of the hash is listed
abbrev pub register_cut : ℕ → Core → ℕ → List (List ℕ × ℕ) → List Entry
register_cut pass c target leaves =
    let h = xorb_hash leaves in
    if is_new c.xorbs h then cut_entries pass c target (xorb_record_size (xorb_record h leaves)) else []

-- the entry of the cut before a file is recorded: none if its hash is recorded
abbrev pub complete_cut : ℕ → Core → ℕ → MDBFileInfo → List Entry
complete_cut pass c target file = if is_new c.records (file_record_hash file) then cut_entries pass c target (file_record_size file) else []

abbrev pub query_entries : ℕ → List (List ℕ) → Option (ℕ × Segment) → List Entry
query_entries pass [] reply = []
query_entries pass (h ∷ hs) reply = Query pass (stated (h ∷ hs) reply) (reply_of reply) ∷ []

abbrev pub register_entries : ℕ → Core → ℕ → List (List ℕ × ℕ) → List (List ℕ × ℕ) → List Entry
register_entries pass c target leaves next =
    let h = xorb_hash leaves in
    if is_new c.xorbs h then cut_entries pass c target (xorb_record_size (xorb_record h leaves)) ++ Register pass leaves next true ∷ []
    else Register pass leaves next false ∷ []

abbrev pub complete_entries : ℕ → Core → ℕ → MDBFileInfo → List Entry
complete_entries pass c target file =
    if is_new c.records (file_record_hash file) then cut_entries pass c target (file_record_size file) ++ Complete pass file true ∷ []
    else Complete pass file false ∷ []

abbrev pub flush_entries : ℕ → Core → List Entry
flush_entries pass c = if has_pending c then Flush pass (pending_hash c) ∷ [] else []
