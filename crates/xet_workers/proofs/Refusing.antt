-- No record that waits is refused, if disk and sources are observable and there are no collisions.
use Rattle.std.proofs.Common.{◌≡◌, ◌∙◌, ◌⊎◌, inl, inr, ℕ, ◌<◌, Bool, true, false, List, [], ◌∷◌, ◌++◌, length, map, Option, Some, None, IsSome, refl, sym, ap, subst, append-nil, arith}
use Rattle.std.proofs.lemmas.Bool.{false≢true}
use Rattle.std.proofs.lemmas.List.{length-map}
use Rattle.std.proofs.lemmas.List.Elements.{Contains-append_left}
use Rattle.std.proofs.lemmas.Simd.{map-map}
use Rattle.std.specs.Prelude.{Any}
use Rattle.std.specs.List.{AllByRecursion, IsAmong}
use Rattle.xet_aggregate.specs.Aggregate.{Aggregate, IsAggregate, Pending, filled, filled_segment}
use Rattle.xet_base.specs.Pieces.{pieces_after}
use Rattle.xet_choices.specs.Choices.{hashes_of}
use Rattle.xet_completion.specs.Completing.{Completes}
use Rattle.xet_cut.specs.Chunking.{chunking}
use Rattle.xet_cut.specs.declared.limits.LimitSettings.{LimitSettings}
use Rattle.xet_dedup.specs.Records.{range_hashes}
use Rattle.xet_file_plan.specs.Placed.{ArePlaced}
use Rattle.xet_folder.specs.Plan.{Resolves}
use Rattle.xet_folder.specs.Xorbs.{AreBacked, IsListed, found}
use Rattle.xet_hash.specs.Merkle.{file_hash, leaf_of, leaves_of, xorb_hash}
use Rattle.xet_hash.specs.declared.error.Reason.TheVariants.{OtherFileHash}
use Rattle.xet_hash.specs.declared.error.StoreError.TheVariants.{MalformedData}
use Rattle.xet_history.specs.Core.{Core, RegisteredShard}
use Rattle.xet_history.specs.Found.{key_of}
use Rattle.xet_history.specs.History.{after_all}
use Rattle.xet_history.specs.Sound.{IsKey, IsStanding}
use Rattle.xet_history.specs.declared.entry.Entry.{Entry}
use Rattle.xet_history.specs.theorems.Staying.{listed_after_all, shards_after_all}
use Rattle.xet_shard_format.specs.Records.{file_record_hash}
use Rattle.xet_shard_format.specs.declared.record.FileDataSequenceEntry.{FileDataSequenceEntry as Segment}
use Rattle.xet_shard_format.specs.declared.record.MDBFileInfo.{MDBFileInfo}
use Rattle.xet_store.specs.Recorded.{RecordedState, core_of}
use Rattle.xet_store_disk.specs.Cleaning.{EachTold, chunkings}
use Rattle.xet_store_disk.specs.Separate.{Among, MetChunk}
use Rattle.xet_store_disk.specs.Store.{Sound}
use Rattle.xet_store_disk.specs.theorems.Rows.{to_among}
use Rattle.xet_store_disk.specs.theorems.Staying.{all_among}
use Rattle.xet_store.specs.Interface.{IsErrorSince, Stands}
use Rattle.xet_store.specs.Holders.{Follows, Holder, core_at, core_found, lengths_in}
use Rattle.xet_store.specs.Stepping.{SawOther}
use Rattle.xet_store.specs.theorems.Following.{follows_then}
use Rattle.xet_xorb_chunk.specs.Chunks.{chunk_leaf}
use Rattle.xet_clean.specs.Cleaning.{AreApartUnder, NoneEnds}
use Rattle.xet_clean.specs.Closing.{AnyCalls, IsClosingError, IsUnclosed, RegistersChunks, filled_files}
use Rattle.xet_clean.specs.Files.{leaves_in}
use Rattle.xet_clean.specs.Merging.{HasSeen}
use Rattle.xet_clean.specs.Working.{IsRecordOf, Planned, Waits}
use Rattle.xet_clean.specs.theorems.Counting.{other_at_most}
use Rattle.xet_clean.specs.theorems.Ending.{made_of}
use Rattle.xet_clean.specs.theorems.Keeping.{lengths_seen, listed_seen, seen_follows, standing_seen}
use Rattle.xet_clean.specs.theorems.Records.{filled_of}
use Rattle.xet_clean.specs.theorems.Resolving.{few_bytes, placed_filled, placed_none, resolves_placed}

-- ---- the files of sources

-- the chunks of a file are those of its source
pub among_told : {S : Type 0} (tells : S → Bool) (left : S → List ℕ) (limits : LimitSettings) (ss : List S) (fs : List Planned) → EachTold tells left (λ bytes f. f.bytes ≡ bytes) ss fs
    → AllByRecursion (λ s. tells s ≡ true) ss → (f : Planned) → Among fs f → Among (chunkings left limits ss) (chunking limits f.bytes)
among_told tells left limits [] [] told all f a = absurd a
among_told tells left limits [] (g ∷ fs) told all f a = absurd told
among_told tells left limits (s ∷ ss) [] told all f a = absurd told
among_told tells left limits (s ∷ ss) (g ∷ fs) told all f (inl same) = inl (ap (chunking limits) (sym (told.0 all.0) ∙ ap (λ (h : Planned). h.bytes) same))
among_told tells left limits (s ∷ ss) (g ∷ fs) told all f (inr a) = inr (among_told tells left limits ss fs told.1 all.1 f a)

module _ {X Y : Type 0} (f : X → Y) where
  -- what is made of one of the first is made of one of all
  pub among_first : (xs ys : List X) (y : Y) → Among (map f xs) y → Among (map f (xs ++ ys)) y
  among_first [] ys y a = absurd a
  among_first (x ∷ xs) ys y (inl e) = inl e
  among_first (x ∷ xs) ys y (inr a) = inr (among_first xs ys y a)

  pub among_after : (xs ys : List X) (y : Y) → Among (map f ys) y → Among (map f (xs ++ ys)) y
  among_after [] ys y a = a
  among_after (x ∷ xs) ys y a = inr (among_after xs ys y a)

-- The leaves are those of the bytes, whose chunks are met.
pub record IsMetFile (limits : LimitSettings) (met_files : List (List (List ℕ))) (f : Planned) : Type 0 where
  pub leaves : f.plan.leaves ≡ leaves_of (chunking limits f.bytes)
  pub met : Among met_files (chunking limits f.bytes)

pub met_each : (limits : LimitSettings) (met_files : List (List (List ℕ))) (fs : List Planned) → AllByRecursion (λ f. f.plan.leaves ≡ leaves_in limits f.bytes) fs
    → ((f : Planned) → Among fs f → Among met_files (chunking limits f.bytes)) → AllByRecursion (IsMetFile limits met_files) fs
met_each limits met_files [] leaves among = tt
met_each limits met_files (f ∷ fs) leaves among = (record { leaves = leaves.0; met = among f (inl refl) }, met_each limits met_files fs leaves.1 (λ g a. among g (inr a)))

-- ---- a key stays

pub key_after_all : (c : Core) (es : List Entry) (key : List ℕ) → IsKey c key → IsKey (after_all c es) key
key_after_all c es key (inl zero) = inl zero
key_after_all c es key (inr any) =
    let more = shards_after_all c es in
    let at = Contains-append_left c.shards more.0 any.1 (any.0, any.2, any.3) in
    inr (subst (λ (ss : List RegisteredShard). Any (λ s. key_of s ≡ key) ss) more.1 (at.0, any.1, at.1, at.2, any.4))

-- bytes have a chunk
some_chunks : (s : LimitSettings) (bytes : List ℕ) → 0 < length bytes → 0 < length (chunking s bytes)
unfolding pieces_after
some_chunks s [] some = absurd (omega (arith, some))
some_chunks s (b ∷ bs) some = omega arith

-- ---- a record that waits may be recorded, at the core of whoever closes its aggregate

module _ (limits : LimitSettings) (met_files : List (List (List ℕ))) (new : RecordedState) (sound : Sound new.store) (observable : new.store.tells ≡ true) (none : NoneEnds met_files) (under : AreApartUnder new met_files)
    (before now : Holder) (goes_on : Follows before now) (told : before.tells ≡ true) (more : List Entry) (later : core_of new ≡ after_all (core_at now) more)
    (files : List Planned) (each : AllByRecursion (IsMetFile limits met_files) files)
    (a : Aggregate) (parts : IsAggregate a) (waits : AllByRecursion (λ p. Waits before a.chunks files p.0) a.files) (next : List (List ℕ × ℕ)) (u : IsUnclosed AnyCalls a next before now (MalformedData OtherFileHash)) where
  abbrev hash : List ℕ
  hash = xorb_hash (map chunk_leaf a.chunks)

  not_unread : now.tells ≡ false → ⊥
  not_unread unread = false≢true (sym unread ∙ ap (λ (h : Holder). h.tells) goes_on.is ∙ told)

  -- what is listed at that core is listed in the store
  listed_new : (h : List ℕ) (leaves : List (List ℕ × ℕ)) → IsListed (core_at now).xorbs h leaves → IsListed new.store.xorbs h leaves
  listed_new h leaves is = subst (λ (d : Core). IsListed d.xorbs h leaves) (sym later) (listed_after_all (core_at now) more h leaves is)

  some_new : (h : List ℕ) → IsSome (found (core_at now).xorbs h) → IsSome (found new.store.xorbs h)
  some_new h is = go (found (core_at now).xorbs h) refl is
    where
      go : (o : Option (List (List ℕ × ℕ))) → found (core_at now).xorbs h ≡ o → IsSome o → IsSome (found new.store.xorbs h)
      go None at bad = absurd (cc bad)
      go (Some leaves) at some = subst (λ (o : Option (List (List ℕ × ℕ))). IsSome o) (sym (listed_new h leaves at)) refl

  backed : AreBacked new.store.files new.store.folder (core_at now).xorbs
  backed h leaves listed = sound.backed observable h leaves (listed_new h leaves listed)

  key_new : (key : List ℕ) → IsKey (core_at now) key → IsKey (core_of new) key
  key_new key is = subst (λ (d : Core). IsKey d key) (sym later) (key_after_all (core_at now) more key is)

  resolves : (f : Planned) → IsMetFile limits met_files f → (ss : List Segment)
      → ArePlaced (lengths_in (core_at now)) (λ hashes run. IsStanding (core_at now) hashes run) [] ss (hashes_of f.plan.leaves) → Resolves (IsListed (core_at now).xorbs) (λ m. m.1) ss (leaves_of (chunking limits f.bytes))
  resolves f is ss placed =
      resolves_placed (core_at now) new.store.files new.store.folder backed (MetChunk new.store met_files) (λ h cs some stored b among. inl (h, cs, (some_new h some, stored), among))
      (λ key x y k. under key x y (key_new key k)) ss (chunking limits f.bytes) (λ b among. inr (chunking limits f.bytes, is.met, among))
      (subst (ArePlaced (lengths_in (core_at now)) (λ hashes run. IsStanding (core_at now) hashes run) [] ss) (ap hashes_of is.leaves ∙ map-map (λ (m : List ℕ × ℕ). m.0) leaf_of (chunking limits f.bytes)) placed)

  may_complete : (f : Planned) → IsMetFile limits met_files f → (file : MDBFileInfo) → IsRecordOf f file
      → ArePlaced (lengths_in (core_at now)) (λ hashes run. IsStanding (core_at now) hashes run) [] file.segments (hashes_of f.plan.leaves) → Completes (core_at now).xorbs file
  may_complete f is file rec placed =
      let some : 0 < length (chunking limits f.bytes) = some_chunks limits f.bytes rec.some in
      let named : file_record_hash file ≡ file_hash (leaves_of (chunking limits f.bytes)) = ap file_record_hash rec.is ∙ ap file_hash is.leaves in
      let segments : rec.segments ≡ file.segments = sym (ap (λ (x : MDBFileInfo). x.segments) rec.is) in
      record {
        leaves = leaves_of (chunking limits f.bytes);
        resolves = resolves f is file.segments placed;
        some = omega (arith, some, length-map (chunking limits f.bytes) leaf_of);
        hash = sym named;
        ranges = inr (ap (λ (x : MDBFileInfo). x.verification) rec.is ∙ (λ i. range_hashes (segments i) (is.leaves i)));
        named = λ e. none (chunking limits f.bytes) is.met some (sym named ∙ e);
      }

  seen : HasSeen before now
  seen = seen_follows before now goes_on

  lists : (h lengths : List ℕ) → lengths_in (core_at before) h ≡ Some lengths → lengths_in (core_at now) h ≡ Some lengths
  lists = lengths_seen before now seen

  stands : (hashes : List (List ℕ)) (run : Segment) → Stands before hashes run → IsStanding (core_at now) hashes run
  stands hashes run st = standing_seen before now seen hashes run (st told)

  placed_now : (mid : Holder) → RegistersChunks a next before mid → Follows mid now → (ss : List Segment) (hashes : List (List ℕ)) → ArePlaced (lengths_in (core_at before)) (Stands before) a.chunks ss hashes
      → ArePlaced (lengths_in (core_at now)) (λ hashes run. IsStanding (core_at now) hashes run) [] (map (filled_segment (xorb_hash (map chunk_leaf a.chunks))) ss) hashes
  placed_now mid (inl r) after ss hashes placed = placed_none (lengths_in (core_at before)) (Stands before) (core_at now) lists stands a.chunks hash r.0 ss hashes placed
  placed_now mid (inr r) after ss hashes placed =
      placed_filled (lengths_in (core_at before)) (Stands before) (core_at now) lists stands a.chunks (listed_seen mid now (seen_follows mid now after) hash (map chunk_leaf a.chunks) r.2.listed) r.2.named (few_bytes a.chunks parts.parts.total) ss
      hashes placed

  not_refused : (mid : Holder) → RegistersChunks a next before mid → (file : MDBFileInfo) → IsAmong (filled_files a) file → (at : Holder) → Follows mid at → SawOther file at now (MalformedData OtherFileHash) → ⊥
  not_refused mid registered file among at after saw =
      let from = made_of (λ (p : Pending). filled (xorb_hash (map chunk_leaf a.chunks)) p.0) a.files file (to_among (filled_files a) file among) in
      let p : Pending = from.0 in
      let waiting : Waits before a.chunks files p.0 = all_among (λ (q : Pending). Waits before a.chunks files q.0) a.files p waits from.1 in
      let f : Planned = waiting.1 in
      let there : Among files f = to_among files f (waiting.0, (waiting.2, sym waiting.3)) in
      let is = all_among (IsMetFile limits met_files) files f each there in
      let last : Follows at now = (other_at_most file at now (MalformedData OtherFileHash) saw).follows in
      let placed = placed_now mid registered (follows_then mid at now after last) p.0.segments (hashes_of f.plan.leaves) waiting.4.1 in
      let completes : Completes (core_at now).xorbs (filled hash p.0) = may_complete f is (filled hash p.0) (filled_of hash f p.0 waiting.4.0) placed in
      let core : core_at now ≡ core_found at saw.others = ap core_at saw.is ∙ ap (λ (o : List Entry). after_all at.base (at.since ++ o)) (append-nil saw.others) in
      saw.not (subst (λ (g : MDBFileInfo). Completes (core_found at saw.others).xorbs g) from.2 (subst (λ (d : Core). Completes d.xorbs (filled hash p.0)) core completes))

  -- so the error has no reason
  pub none_unclosed : ⊥
  none_unclosed = either u.1
    where
      closing : (mid : Holder) → RegistersChunks a next before mid → IsClosingError (filled_files a) mid now (MalformedData OtherFileHash) → ⊥
      closing mid registered (inl r) = not_refused mid registered r.0 r.1 r.2 r.3 r.4
      closing mid registered (inr unread) = not_unread unread

      either : ((mid : Holder) × RegistersChunks a next before mid × IsClosingError (filled_files a) mid now (MalformedData OtherFileHash)) ⊎ IsErrorSince before now (MalformedData OtherFileHash) → ⊥
      either (inl r) = closing r.0 r.1 r.2
      either (inr unread) = not_unread unread
