-- No waiting record is refused, if disk and sources are observable and there are no collisions.
use Rattle.std.proofs.Common.{◌≡◌, ◌∙◌, ◌⊎◌, inl, inr, ℕ, ◌<◌, Bool, true, false, List, [], ◌∷◌, ◌++◌, length, map, Some, sym, ap, subst, append-nil, arith}
use Rattle.std.proofs.lemmas.Bool.{false≢true}
use Rattle.std.proofs.lemmas.List.{length-map, map-append}
use Rattle.std.proofs.lemmas.Simd.{map-map}
use Rattle.std.specs.List.{AllByRecursion, IsAmong}
use Rattle.xet_aggregate.specs.Aggregate.{Pending, filled, filled_segment}
use Rattle.xet_base.specs.Pieces.{pieces_after}
use Rattle.xet_base.specs.theorems.Elements.{all_prefix}
use Rattle.xet_choices.specs.Choices.{hashes_of}
use Rattle.xet_completion.specs.Completing.{Completes}
use Rattle.xet_cut.specs.Chunking.{chunking}
use Rattle.xet_cut.specs.declared.limits.LimitSettings.{LimitSettings}
use Rattle.xet_dedup.specs.Records.{range_hashes}
use Rattle.xet_file_plan.specs.Placed.{ArePlaced}
use Rattle.xet_folder.specs.Plan.{Resolves}
use Rattle.xet_folder.specs.Xorbs.{IsListed}
use Rattle.xet_hash.specs.Merkle.{chunk_hash, file_hash, leaf_of, leaves_of, xorb_hash}
use Rattle.xet_hash.specs.declared.error.Reason.TheVariants.{OtherFileHash}
use Rattle.xet_hash.specs.declared.error.StoreError.TheVariants.{MalformedData}
use Rattle.xet_history.specs.Core.{Core}
use Rattle.xet_history.specs.History.{after_all}
use Rattle.xet_history.specs.Sound.{IsStanding}
use Rattle.xet_history.specs.declared.entry.Entry.{Entry}
use Rattle.xet_shard_format.specs.Records.{file_record_hash}
use Rattle.xet_shard_format.specs.declared.record.FileDataSequenceEntry.{FileDataSequenceEntry as Segment}
use Rattle.xet_shard_format.specs.declared.record.MDBFileInfo.{MDBFileInfo}
use Rattle.xet_store.specs.Recorded.{RecordedState, core_of}
use Rattle.xet_store_disk.specs.Cleaning.{EachTold, chunkings}
use Rattle.xet_store_disk.specs.Separate.{Among, MetChunk}
use Rattle.xet_store_disk.specs.Store.{Sound}
use Rattle.xet_store_disk.specs.theorems.Rows.{among_more, to_among}
use Rattle.xet_store_disk.specs.theorems.Staying.{all_among}
use Rattle.xet_store.specs.Alone.{IsAlone, alone_of}
use Rattle.xet_store.specs.Interface.{IsErrorSince, Stands}
use Rattle.xet_store.specs.Holders.{Follows, Holder, core_at, core_found, lengths_in}
use Rattle.xet_store.specs.Stepping.{SawOther}
use Rattle.xet_store.specs.theorems.Following.{follows_then}
use Rattle.xet_xorb_chunk.specs.Chunks.{chunk_leaf}
use Rattle.xet_clean.specs.Cleaning.{AreApartUnder, NoneEnds}
use Rattle.xet_clean.specs.Closing.{IsClosingError, RegistersChunks, filled_files}
use Rattle.xet_clean.specs.Sources.{IsUnclosedFor}
use Rattle.xet_clean.specs.Working.{IsRecordOf, Planned, Waits, WasPlanned}
use Rattle.xet_clean.specs.theorems.Counting.{other_at_most}
use Rattle.xet_clean.specs.theorems.Ending.{made_of}
use Rattle.xet_clean.specs.theorems.Hashes.{planned_hash, planned_leaves}
use Rattle.xet_clean.specs.theorems.Keeping.{lengths_seen, listed_seen, seen_follows, standing_seen}
use Rattle.xet_clean.specs.theorems.Records.{filled_of}
use Rattle.xet_clean.specs.theorems.Resolving.{few_bytes, placed_filled, placed_none, resolves_placed}
use Rattle.xet_clean.specs.theorems.Session.{core_is}

-- bytes have a chunk
some_chunks : (s : LimitSettings) (bytes : List ℕ) → 0 < length bytes → 0 < length (chunking s bytes)
unfolding pieces_after
some_chunks s [] some = absurd (omega (arith, some))
some_chunks s (b ∷ bs) some = omega arith

-- the chunks of a file are those of its source
among_told : {S : Type 0} (tells : S → Bool) (left : S → List ℕ) (limits : LimitSettings) (ss : List S) (fs : List Planned) → EachTold tells left (λ bytes f. f.bytes ≡ bytes) ss fs
    → AllByRecursion (λ s. tells s ≡ true) ss → (f : Planned) → Among fs f → Among (chunkings left limits ss) (chunking limits f.bytes)
among_told tells left limits [] [] told all f a = absurd a
among_told tells left limits [] (g ∷ fs) told all f a = absurd told
among_told tells left limits (s ∷ ss) [] told all f a = absurd told
among_told tells left limits (s ∷ ss) (g ∷ fs) told all f (inl same) = inl (ap (chunking limits) (sym (told.0 all.0) ∙ ap (λ (h : Planned). h.bytes) same))
among_told tells left limits (s ∷ ss) (g ∷ fs) told all f (inr a) = inr (among_told tells left limits ss fs told.1 all.1 f a)

module _ {S : Type 0} (tells : S → Bool) (left : S → List ℕ) (sources : List S) (old new : RecordedState) (stopped : Bool) (is : IsAlone old new stopped) (sound : Sound new.store)
    (told : old.store.tells ≡ true) (all : AllByRecursion (λ s. tells s ≡ true) sources) (none : NoneEnds (chunkings left old.store.limits sources))
    (under : AreApartUnder new (chunkings left old.store.limits sources))
    (u : IsUnclosedFor tells left sources (alone_of old old false) (alone_of old new stopped) (MalformedData OtherFileHash)) where
  abbrev now : Holder
  now = alone_of old new stopped

  abbrev met_files : List (List (List ℕ))
  met_files = chunkings left old.store.limits sources

  abbrev c : Core
  c = core_of new

  abbrev hash : List ℕ
  hash = xorb_hash (map chunk_leaf u.aggregate.chunks)

  -- the disk is observable
  not_unread : now.tells ≡ false → ⊥
  not_unread unread = false≢true (sym unread ∙ told)

  goes_on : Follows u.before (alone_of old new stopped)
  goes_on = u.refused.0.1.follows

  to_core : core_at (alone_of old new stopped) ≡ core_of new
  to_core = sym (core_is old new stopped is)

  lists : (h lengths : List ℕ) → lengths_in (core_at u.before) h ≡ Some lengths → lengths_in (core_of new) h ≡ Some lengths
  lists h lengths listed = subst (λ (d : Core). lengths_in d h ≡ Some lengths) to_core (lengths_seen u.before now (seen_follows u.before now goes_on) h lengths listed)

  stands : (hashes : List (List ℕ)) (run : Segment) → Stands u.before hashes run → IsStanding (core_of new) hashes run
  stands hashes run st =
      let there : u.before.tells ≡ true = sym (ap (λ (h : Holder). h.tells) goes_on.is) ∙ told in
      subst (λ (d : Core). IsStanding d hashes run) to_core (standing_seen u.before now (seen_follows u.before now goes_on) hashes run (st there))

  -- the record of a file with these chunks, whose segments have its hashes, may be recorded
  module _ (f : Planned) (was : WasPlanned (alone_of old old false) u.before f) (among : Among u.files f) where
    abbrev chunks : List (List ℕ)
    chunks = chunking old.store.limits f.bytes

    among_sources : Among (chunkings left old.store.limits sources) (chunking old.store.limits f.bytes)
    among_sources =
        subst (λ (ss : List S). Among (chunkings left old.store.limits ss) (chunking old.store.limits f.bytes)) (sym u.order)
        (subst (λ (l : List (List (List ℕ))). Among l (chunking old.store.limits f.bytes)) (sym (map-append (λ (s : S). chunking old.store.limits (left s)) u.done u.rest))
        (among_more (chunkings left old.store.limits u.done) (chunkings left old.store.limits u.rest) (chunking old.store.limits f.bytes)
        (among_told tells left old.store.limits u.done u.files u.told (all_prefix (λ s. tells s ≡ true) u.done u.rest (subst (AllByRecursion (λ s. tells s ≡ true)) u.order all)) f among)))

    leaves_are : f.plan.leaves ≡ leaves_of (chunking old.store.limits f.bytes)
    leaves_are = planned_leaves (alone_of old old false) u.before u.follows f was

    hashes_are : hashes_of f.plan.leaves ≡ map chunk_hash (chunking old.store.limits f.bytes)
    hashes_are = ap hashes_of leaves_are ∙ map-map (λ (m : List ℕ × ℕ). m.0) leaf_of (chunking old.store.limits f.bytes)

    resolves : (ss : List Segment) → ArePlaced (lengths_in (core_of new)) (λ hashes run. IsStanding (core_of new) hashes run) [] ss (hashes_of f.plan.leaves)
        → Resolves (IsListed new.store.xorbs) (λ m. m.1) ss (leaves_of (chunking old.store.limits f.bytes))
    resolves ss placed =
        resolves_placed (core_of new) new.store.files new.store.folder (sound.backed (is.steps.keeps.tells ∙ told)) (MetChunk new.store met_files) (λ h cs some stored b a. inl (h, cs, (some, stored), a)) under ss
        (chunking old.store.limits f.bytes) (λ b a. inr (chunking old.store.limits f.bytes, among_sources, a))
        (subst (ArePlaced (lengths_in (core_of new)) (λ hashes run. IsStanding (core_of new) hashes run) [] ss) hashes_are placed)

    may_complete : (file : MDBFileInfo) → IsRecordOf f file → ArePlaced (lengths_in (core_of new)) (λ hashes run. IsStanding (core_of new) hashes run) [] file.segments (hashes_of f.plan.leaves)
        → Completes new.store.xorbs file
    may_complete file rec placed =
        let some : 0 < length chunks = some_chunks old.store.limits f.bytes rec.some in
        let named : file_record_hash file ≡ file_hash (leaves_of (chunking old.store.limits f.bytes)) = planned_hash (alone_of old old false) u.before u.follows f was file rec in
        let segments : rec.segments ≡ file.segments = sym (ap (λ (x : MDBFileInfo). x.segments) rec.is) in
        record {
          leaves = leaves_of (chunking old.store.limits f.bytes);
          resolves = resolves file.segments placed;
          some = omega (arith, some, length-map (chunking old.store.limits f.bytes) leaf_of);
          hash = sym named;
          ranges = inr (ap (λ (x : MDBFileInfo). x.verification) rec.is ∙ (λ i. range_hashes (segments i) (leaves_are i)));
          named = λ e. none (chunking old.store.limits f.bytes) among_sources some (sym named ∙ e);
        }

  -- a record of the aggregate, with the hash of its xorb
  placed_now : (mid : Holder) → RegistersChunks u.aggregate u.next u.before mid → Follows mid now → (ss : List Segment) (hashes : List (List ℕ))
      → ArePlaced (lengths_in (core_at u.before)) (Stands u.before) u.aggregate.chunks ss hashes
      → ArePlaced (lengths_in (core_of new)) (λ hashes run. IsStanding (core_of new) hashes run) [] (map (filled_segment (xorb_hash (map chunk_leaf u.aggregate.chunks))) ss) hashes
  placed_now mid (inl r) later ss hashes placed = placed_none (lengths_in (core_at u.before)) (Stands u.before) (core_of new) lists stands u.aggregate.chunks hash r.0 ss hashes placed
  placed_now mid (inr r) later ss hashes placed =
      let listed : IsListed new.store.xorbs hash (map chunk_leaf u.aggregate.chunks) =
      subst (λ (d : Core). IsListed d.xorbs hash (map chunk_leaf u.aggregate.chunks)) to_core (listed_seen mid now (seen_follows mid now later) hash (map chunk_leaf u.aggregate.chunks) r.2.listed) in
      placed_filled (lengths_in (core_at u.before)) (Stands u.before) (core_of new) lists stands u.aggregate.chunks listed r.2.named (few_bytes u.aggregate.chunks u.parts.parts.total) ss hashes placed

  not_refused : (mid : Holder) → RegistersChunks u.aggregate u.next u.before mid → (file : MDBFileInfo) → IsAmong (filled_files u.aggregate) file → (at : Holder) → Follows mid at
      → SawOther file at now (MalformedData OtherFileHash) → ⊥
  not_refused mid registered file among at later saw =
      let from = made_of (λ (p : Pending). filled (xorb_hash (map chunk_leaf u.aggregate.chunks)) p.0) u.aggregate.files file (to_among (filled_files u.aggregate) file among) in
      let p : Pending = from.0 in
      let waiting : Waits u.before u.aggregate.chunks u.files p.0 = all_among (λ (q : Pending). Waits u.before u.aggregate.chunks u.files q.0) u.aggregate.files p u.waits from.1 in
      let f : Planned = waiting.1 in
      let there : Among u.files f = to_among u.files f (waiting.0, (waiting.2, sym waiting.3)) in
      let was : WasPlanned (alone_of old old false) u.before f = all_among (WasPlanned (alone_of old old false) u.before) u.files f u.planned there in
      let last : Follows at now = (other_at_most file at now (MalformedData OtherFileHash) saw).follows in
      let placed = placed_now mid registered (follows_then mid at now later last) p.0.segments (hashes_of f.plan.leaves) waiting.4.1 in
      let completes : Completes new.store.xorbs (filled hash p.0) = may_complete f was there (filled hash p.0) (filled_of hash f p.0 waiting.4.0) placed in
      let core : core_of new ≡ core_found at saw.others =
      core_is old new stopped is ∙ ap core_at saw.is ∙ ap (λ (o : List Entry). after_all at.base (at.since ++ o)) (append-nil saw.others) in
      saw.not (subst (λ (g : MDBFileInfo). Completes (core_found at saw.others).xorbs g) from.2 (subst (λ (d : Core). Completes d.xorbs (filled hash p.0)) core completes))

  -- so the error has no reason
  pub none_refused : ⊥
  none_refused = either u.refused.1
    where
      closing : (mid : Holder) → RegistersChunks u.aggregate u.next u.before mid → IsClosingError (filled_files u.aggregate) mid now (MalformedData OtherFileHash) → ⊥
      closing mid registered (inl r) = not_refused mid registered r.0 r.1 r.2 r.3 r.4
      closing mid registered (inr unread) = not_unread unread

      either : ((mid : Holder) × RegistersChunks u.aggregate u.next u.before mid × IsClosingError (filled_files u.aggregate) mid now (MalformedData OtherFileHash)) ⊎ IsErrorSince u.before now (MalformedData OtherFileHash) → ⊥
      either (inl r) = closing r.0 r.1 r.2
      either (inr unread) = not_unread unread
