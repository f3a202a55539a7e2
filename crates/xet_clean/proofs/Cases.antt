-- The last chunks of a file join the aggregate, which may be closed first; and a file of no bytes.
use Rattle.std.proofs.Common.{◌≡◌, ◌≢◌, ◌∙◌, inr, ℕ, ◌+◌, ◌*◌, ◌<◌, ◌≤◌, true, false, List, [], ◌∷◌, ◌++◌, length, map, refl, sym, ap, subst, append_assoc, length-append, arith}
use Rattle.std.proofs.lemmas.List.{append-nil, length-map, map-append, nil_from_length}
use Rattle.std.proofs.lemmas.List.Sums.{sum_by-append}
use Rattle.std.proofs.lemmas.Bool.{and_parts, leb-true}
use Rattle.std.specs.List.{AllByRecursion, flat_map}
use Rattle.xet_aggregate.specs.Aggregate.{Aggregate, IsAggregate, Pending, fits, merged, shifted, single}
use Rattle.xet_aggregate.specs.theorems.Merging.{IsAggregate-fits}
use Rattle.xet_aggregate.specs.declared.metrics.DeduplicationMetrics.{DeduplicationMetrics}
use Rattle.xet_base.specs.theorems.Elements.{all_back, all_both, all_more, all_prefix, all_push}
use Rattle.xet_choices.specs.Calls.{Call, registered_chunks}
use Rattle.xet_choices.specs.Calls.Call.{Registered}
use Rattle.xet_choices.specs.Choices.{hashes_of, new_chunks}
use Rattle.xet_choices.specs.declared.choice.Choice.{Choice}
use Rattle.xet_choices.specs.theorems.Calls.{registered_chunks-append}
use Rattle.xet_choices.specs.theorems.Sums.{chunks_in_all}
use Rattle.xet_cut.specs.Limits.{AreInRange}
use Rattle.xet_cut.specs.declared.limits.LimitSettings.{LimitSettings}
use Rattle.xet_dedup.specs.Records.{file_record}
use Rattle.xet_dedup.specs.theorems.Forms.{finalized_are_files, merged_are_files}
use Rattle.xet_file_plan.specs.Placed.{ArePlaced}
use Rattle.xet_file_plan.specs.theorems.Since.{calls_since}
use Rattle.xet_dedup_queries.specs.Counting.{registered_leaves}
use Rattle.xet_dedup_queries.specs.Registering.{max_chunk_len}
use Rattle.xet_hash.specs.Merkle.{chunk_hash, xorb_hash}
use Rattle.xet_shard_format.specs.declared.record.MDBFileInfo.{MDBFileInfo}
use Rattle.xet_store_disk.specs.Separate.{Among}
use Rattle.xet_store_disk.specs.declared.info.XetFileInfo.{XetFileInfo}
use Rattle.xet_xorb_chunk.specs.Chunks.{chunk_leaf, total}
use Rattle.xet_xorb_chunk.specs.declared.chunk.Chunk.{Chunk}
use Rattle.xet_store.specs.Interface.{Stands}
use Rattle.xet_store.specs.Holders.{Follows, Holder, calls_in, calls_of, core_at, lengths_in, xorb_limits}
use Rattle.xet_clean.specs.Cleaning.{Lands}
use Rattle.xet_clean.specs.Planning.{IsPlanned, IsWithin}
use Rattle.xet_clean.specs.Closing.{Closes, HaveForm, filled_files}
use Rattle.xet_clean.specs.Working.{AreRecorded, IsRecordOf, IsWorking, Planned, Waits}
use Rattle.xet_clean.specs.theorems.Adding.{Adds, adds_asking, asking_calls, adds_closed, adds_then}
use Rattle.xet_clean.proofs.Completing.{both_some}
use Rattle.xet_clean.specs.theorems.InOrder.{recorded_none, recorded_one, recorded_then}
use Rattle.xet_clean.proofs.Joining.{IsKept}
use Rattle.xet_clean.specs.theorems.Keeping.{any_last, limits_follow, seen_follows, waits_seen}
use Rattle.xet_clean.proofs.Landing.{lands_last, lands_of, lands_then, later_last, part_itself, part_left, part_right, part_then}
use Rattle.xet_clean.specs.theorems.Owning.{in_after, in_more, registers_then}
use Rattle.xet_clean.specs.theorems.Rising.{flat_push}
use Rattle.xet_clean.specs.theorems.Records.{records_filled, shifted_of, waits_among_more, waits_earlier, waits_later}
use Rattle.xet_clean.specs.theorems.Sums.{no_leaves}
use Rattle.xet_clean.specs.Policies.{sha256_by}

-- ---- chunks of both

pub within_both : (s : LimitSettings) (xs ys : List Chunk) → IsWithin s xs → IsWithin s ys → total xs + total ys ≤ s.cut_bytes → length xs + length ys ≤ s.cut_chunks → IsWithin s (xs ++ ys)
within_both s xs ys first second bytes count = record {
  within = record {
    bytes = omega (arith, bytes, sum_by-append (λ (c : Chunk). length c.bytes) xs ys);
    count = omega (arith, count, length-append xs ys);
    small = all_both (λ c. length c.bytes ≤ max_chunk_len) xs ys first.within.small second.within.small;
  };
  hashed = all_both (λ c. c.hash ≡ chunk_hash c.bytes) xs ys first.hashed second.hashed;
}

module _ (start first now : Holder) (files : List Planned) (infos : List XetFileInfo) (choices : List (List Choice)) (metrics : DeduplicationMetrics) (a : Aggregate)
    (w : IsWorking start first files infos choices metrics a) (f : Planned) (planned : IsPlanned first now f.bytes f.plan) where
  abbrev asked : Adds planned.follows.calls [] (length planned.follows.follows.own) first now
  asked = adds_asking first now planned.follows planned.passed

  first_now : first.limits ≡ now.limits
  first_now = sym (limits_follow first now planned.follows.follows)

  -- as many chunks were registered, or are left, as are new
  file_new : registered_chunks planned.follows.calls + length f.plan.block ≡ new_chunks f.plan.choices
  file_new =
      let since = planned.deduped.plan in
      omega (
        arith,
        since.plan.registered,
        ap registered_chunks (calls_since (lengths_in (core_at now)) (Stands now) (calls_of first) (calls_of now) planned.follows.calls f.plan.leaves f.plan since planned.follows.added),
      )

  waits_here : AllByRecursion (λ p. Waits now a.chunks (files ++ f ∷ []) p.0) a.files
  waits_here =
      all_more (λ p. Waits first a.chunks files p.0) (λ p. Waits now a.chunks (files ++ f ∷ []) p.0) a.files
      (λ p is. waits_among_more now a.chunks files (f ∷ []) p.0 (waits_seen first now (seen_follows first now planned.follows.follows) a.chunks files p.0 is)) w.waits

  within_here : IsWithin now.limits a.chunks
  within_here = subst (λ (s : LimitSettings). IsWithin s a.chunks) first_now w.within

  -- ---- which chunks were registered

  abbrev Of : List ℕ × ℕ → Type 0
  Of = Among (flat_map (λ (g : Planned). g.plan.leaves) (files ++ f ∷ []))

  abbrev all_old : List (List ℕ × ℕ)
  all_old = flat_map (λ (g : Planned). g.plan.leaves) files

  leaves_are : flat_map (λ (g : Planned). g.plan.leaves) (files ++ f ∷ []) ≡ flat_map (λ (g : Planned). g.plan.leaves) files ++ f.plan.leaves
  leaves_are = flat_push (λ (g : Planned). g.plan.leaves) files f

  old_own : AllByRecursion Of (registered_leaves (calls_in w.follows.own) ++ map chunk_leaf a.chunks)
  old_own =
      subst (λ (l : List (List ℕ × ℕ)). AllByRecursion (Among l) (registered_leaves (calls_in w.follows.own) ++ map chunk_leaf a.chunks)) (sym leaves_are)
      (in_more all_old f.plan.leaves (registered_leaves (calls_in w.follows.own) ++ map chunk_leaf a.chunks) w.own)

  its_own : AllByRecursion Of (registered_leaves planned.follows.calls ++ map chunk_leaf f.plan.block)
  its_own =
      subst (λ (l : List (List ℕ × ℕ)). AllByRecursion (Among l) (registered_leaves planned.follows.calls ++ map chunk_leaf f.plan.block)) (sym leaves_are)
      (in_after all_old f.plan.leaves (registered_leaves planned.follows.calls ++ map chunk_leaf f.plan.block) planned.own)

  old_calls : AllByRecursion Of (registered_leaves (calls_in w.follows.own))
  old_calls = all_prefix Of (registered_leaves (calls_in w.follows.own)) (map chunk_leaf a.chunks) old_own

  old_block : AllByRecursion Of (map chunk_leaf a.chunks)
  old_block = all_back Of (registered_leaves (calls_in w.follows.own)) (map chunk_leaf a.chunks) old_own

  its_calls : AllByRecursion Of (registered_leaves planned.follows.calls)
  its_calls = all_prefix Of (registered_leaves planned.follows.calls) (map chunk_leaf f.plan.block) its_own

  its_block : AllByRecursion Of (map chunk_leaf f.plan.block)
  its_block = all_back Of (registered_leaves planned.follows.calls) (map chunk_leaf f.plan.block) its_own

  -- ---- a file of no bytes

  module _ (none : length f.bytes ≡ 0) where
    no_chunks : length f.plan.leaves ≡ 0
    no_chunks = omega (arith, ap length planned.leaves, no_leaves now.limits f.bytes none)

    no_calls : planned.follows.calls ≡ []
    no_calls =
        let own_none : length planned.follows.follows.own ≡ 0 = omega (arith, planned.few, no_chunks) in
        sym (asking_calls first now planned.follows) ∙ ap calls_in (nil_from_length planned.follows.follows.own own_none)

    no_new : new_chunks f.plan.choices ≡ 0
    no_new = omega (arith, chunks_in_all f.plan.choices, planned.deduped.plan.plan.one_each, no_chunks)

    pub kept_nothing : IsKept first now files a f a (calls_in w.follows.own)
    kept_nothing = record {
      calls = planned.follows.calls;
      recorded = [];
      most = length planned.follows.follows.own;
      adds = asked;
      records = λ earlier all.
          subst (AreRecorded (files ++ f ∷ [])) (append-nil (earlier ++ map (λ p. p.0) a.files)) (recorded_then files (f ∷ []) (earlier ++ map (λ p. p.0) a.files) [] all (recorded_none f none));
      waits = waits_here;
      aggregate = w.aggregate;
      within = within_here;
      forms = w.forms;
      nothing = w.nothing;
      lands = subst (λ (cs : List Call). Lands (map chunk_leaf a.chunks) (calls_in w.follows.own ++ cs)) (sym no_calls)
          (subst (Lands (map chunk_leaf a.chunks)) (sym (append-nil (calls_in w.follows.own))) w.lands);
      own = registers_then Of (calls_in w.follows.own) planned.follows.calls (map chunk_leaf a.chunks) old_calls
          (all_both Of (registered_leaves planned.follows.calls) (map chunk_leaf a.chunks) its_calls old_block);
      counted = omega (arith, ap registered_chunks no_calls, no_new);
      bound = omega (arith, planned.few, no_chunks);
    }

  -- ---- another file

  module _ (some : 0 < length f.bytes) (indices : List ℕ) (id : ℕ) (range : AreInRange now.limits) where
    abbrev file : MDBFileInfo
    file = file_record f.plan.leaves f.plan.segments (sha256_by f.policy f.bytes)

    abbrev rest : Aggregate
    rest = single f.plan.block (file_record f.plan.leaves f.plan.segments (sha256_by f.policy f.bytes)) indices id

    its_record : IsRecordOf f file
    its_record = record { some = some; segments = f.plan.segments; counts = refl; is = refl }

    its_form : HaveForm rest.files
    its_form = finalized_are_files (lengths_in (core_at now)) (Stands now) (calls_of first) (calls_of now) (xorb_limits now.limits) f.plan planned.deduped f.plan.block (sha256_by f.policy f.bytes) indices id

    its_wait : Waits now f.plan.block (files ++ f ∷ []) file
    its_wait =
        any_last (λ (g : Planned). IsRecordOf g file × ArePlaced (lengths_in (core_at now)) (Stands now) f.plan.block f.plan.segments (hashes_of g.plan.leaves)) files f
        (its_record, planned.deduped.plan.plan.placed)

    its_lands : Lands (map chunk_leaf f.plan.block) planned.follows.calls
    its_lands = lands_of planned.follows.calls (map chunk_leaf f.plan.block) planned.nexts planned.lands

    -- its chunks fit
    module _ (fit : fits now.limits a rest ≡ true) (is_rest : IsAggregate rest) where
      abbrev joined : Aggregate
      joined = merged a rest

      within_joined : IsWithin now.limits (a.chunks ++ f.plan.block)
      within_joined =
          let both = and_parts _ _ fit in
          within_both now.limits a.chunks f.plan.block within_here planned.block (leb-true _ _ both.0) (leb-true _ _ both.1)

      leaves_joined : map chunk_leaf (a.chunks ++ f.plan.block) ≡ map chunk_leaf a.chunks ++ map chunk_leaf f.plan.block
      leaves_joined = map-append chunk_leaf a.chunks f.plan.block

      lands_joined : Lands (map chunk_leaf a.chunks ++ map chunk_leaf f.plan.block) (calls_in w.follows.own ++ planned.follows.calls)
      lands_joined =
          let last : List (List ℕ × ℕ) = map chunk_leaf a.chunks ++ map chunk_leaf f.plan.block in
          lands_then (calls_in w.follows.own) planned.follows.calls (map chunk_leaf a.chunks) last w.lands
          (lands_last planned.follows.calls (map chunk_leaf f.plan.block) last (part_right (map chunk_leaf a.chunks) (map chunk_leaf f.plan.block)) its_lands)
          (λ part is. inr (part_then part (map chunk_leaf a.chunks) last is (part_left (map chunk_leaf a.chunks) (map chunk_leaf f.plan.block))))

      abbrev its_pending : Pending
      its_pending = (shifted (length a.chunks) file, indices, id)

      records_joined : map (λ p. p.0) (a.files ++ its_pending ∷ []) ≡ map (λ p. p.0) a.files ++ shifted (length a.chunks) file ∷ []
      records_joined = map-append (λ (p : Pending). p.0) a.files ((shifted (length a.chunks) file, indices, id) ∷ [])

      waits_joined : AllByRecursion (λ p. Waits now (a.chunks ++ f.plan.block) (files ++ f ∷ []) p.0) (a.files ++ its_pending ∷ [])
      waits_joined =
          all_push (λ (p : Pending). Waits now (a.chunks ++ f.plan.block) (files ++ f ∷ []) p.0) a.files (shifted (length a.chunks) file, indices, id)
          (all_more (λ (p : Pending). Waits now a.chunks (files ++ f ∷ []) p.0) (λ (p : Pending). Waits now (a.chunks ++ f.plan.block) (files ++ f ∷ []) p.0) a.files
          (λ p. waits_earlier now a.chunks f.plan.block (files ++ f ∷ []) p.0) waits_here)
          (waits_later now a.chunks f.plan.block (files ++ f ∷ []) file its_wait)

      records_joined_all : (earlier : List MDBFileInfo) → AreRecorded files (earlier ++ map (λ p. p.0) a.files) → AreRecorded (files ++ f ∷ []) (earlier ++ map (λ p. p.0) (a.files ++ its_pending ∷ []))
      records_joined_all earlier all =
          subst (AreRecorded (files ++ f ∷ [])) (append_assoc earlier (map (λ p. p.0) a.files) (shifted (length a.chunks) file ∷ []) ∙ ap (λ (l : List MDBFileInfo). earlier ++ l) (sym records_joined))
          (recorded_then files (f ∷ []) (earlier ++ map (λ p. p.0) a.files) (shifted (length a.chunks) file ∷ []) all
          (recorded_one f (shifted (length a.chunks) file) (shifted_of (length a.chunks) f file its_record)))

      pub kept_merged : IsKept first now files a f (merged a rest) (calls_in w.follows.own)
      kept_merged =
          let count : length (a.files ++ its_pending ∷ []) ≡ length a.files + 1 = omega (arith, length-append a.files ((shifted (length a.chunks) file, indices, id) ∷ [])) in
          let chunks : length (a.chunks ++ f.plan.block) ≡ length a.chunks + length f.plan.block = length-append a.chunks f.plan.block in
          let counted : registered_chunks planned.follows.calls + length (a.chunks ++ f.plan.block) ≡ length a.chunks + new_chunks f.plan.choices = omega (arith, chunks, file_new) in
          let bound : length planned.follows.follows.own + (2 * length (a.chunks ++ f.plan.block) + 2 * length (a.files ++ its_pending ∷ [])) ≤ 2 * length a.chunks + 2 * length a.files + 3 * length f.plan.leaves + 2 =
          omega (arith, chunks, count, planned.few) in
          record {
            calls = planned.follows.calls;
            recorded = [];
            most = length planned.follows.follows.own;
            adds = asked;
            records = records_joined_all;
            waits = waits_joined;
            aggregate = IsAggregate-fits now.limits a rest range fit w.aggregate is_rest;
            within = within_joined;
            forms = merged_are_files a rest w.forms its_form;
            nothing = λ no. let none : length (a.files ++ its_pending ∷ []) ≡ 0 = ap length no in absurd (omega (arith, none, count));
            lands = subst (λ (l : List (List ℕ × ℕ)). Lands l (calls_in w.follows.own ++ planned.follows.calls)) (sym leaves_joined) lands_joined;
            own = registers_then Of (calls_in w.follows.own) planned.follows.calls (map chunk_leaf (a.chunks ++ f.plan.block)) old_calls
                (all_both Of (registered_leaves planned.follows.calls) (map chunk_leaf (a.chunks ++ f.plan.block)) its_calls
                (subst (AllByRecursion Of) (sym leaves_joined) (all_both Of (map chunk_leaf a.chunks) (map chunk_leaf f.plan.block) old_block its_block)));
            counted = counted;
            bound = bound;
          }

    -- they do not fit: the aggregate was closed
    module _ (unfit : fits now.limits a rest ≡ false) (is_rest : IsAggregate rest) (new : Holder) (closes : Closes a (map chunk_leaf f.plan.block) now new) where
      chunks_have : (0 < length a.chunks) × (0 < length f.plan.block)
      chunks_have = both_some now.limits a rest unfit within_here planned.block

      some_chunks : a.chunks ≢ []
      some_chunks is = omega (arith, ap length is, chunks_have.0)

      some_next : map chunk_leaf f.plan.block ≢ []
      some_next is = omega (arith, ap length is, length-map f.plan.block chunk_leaf, chunks_have.1)

      abbrev leaves : List (List ℕ × ℕ)
      leaves = map chunk_leaf a.chunks

      abbrev next : List (List ℕ × ℕ)
      next = map chunk_leaf f.plan.block

      closed : Adds (Registered leaves next ∷ []) (filled_files a) (2 * length a.chunks + 2 * length a.files) now new
      closed = adds_closed a (map chunk_leaf f.plan.block) now new closes some_chunks

      pub goes_on : Follows now new
      goes_on = closed.follows

      abbrev calls : List Call
      calls = planned.follows.calls ++ Registered leaves next ∷ []

      both : Adds (planned.follows.calls ++ Registered leaves next ∷ []) (filled_files a) (length planned.follows.follows.own + (2 * length a.chunks + 2 * length a.files)) first new
      both =
          adds_then planned.follows.calls (Registered (map chunk_leaf a.chunks) (map chunk_leaf f.plan.block) ∷ []) [] (filled_files a) (length planned.follows.follows.own) (2 * length a.chunks + 2 * length a.files) first now new
          (adds_asking first now planned.follows planned.passed) closed

      limits_new : now.limits ≡ new.limits
      limits_new = sym (limits_follow now new closed.follows)

      abbrev hash : List ℕ
      hash = xorb_hash (map chunk_leaf a.chunks)

      records_closed : (earlier : List MDBFileInfo) → AreRecorded files (earlier ++ map (λ p. p.0) a.files) → AreRecorded (files ++ f ∷ []) (earlier ++ (filled_files a ++ map (λ p. p.0) rest.files))
      records_closed earlier all =
          subst (AreRecorded (files ++ f ∷ [])) (append_assoc earlier (filled_files a) (file ∷ []))
          (recorded_then files (f ∷ []) (earlier ++ filled_files a) (file ∷ []) (records_filled a files earlier all) (recorded_one f file its_record))

      lands_closed : Lands next (calls_in w.follows.own ++ (planned.follows.calls ++ Registered leaves next ∷ []))
      lands_closed =
          let one : Lands (map chunk_leaf f.plan.block) (Registered (map chunk_leaf a.chunks) (map chunk_leaf f.plan.block) ∷ []) = ((some_next, inr (part_itself (map chunk_leaf f.plan.block))), tt) in
          lands_then (calls_in w.follows.own) (planned.follows.calls ++ Registered (map chunk_leaf a.chunks) (map chunk_leaf f.plan.block) ∷ []) (map chunk_leaf a.chunks) (map chunk_leaf f.plan.block) w.lands
          (lands_then planned.follows.calls (Registered (map chunk_leaf a.chunks) (map chunk_leaf f.plan.block) ∷ []) (map chunk_leaf f.plan.block) (map chunk_leaf f.plan.block) its_lands one (λ part is. inr is))
          (λ part is. later_last planned.follows.calls (map chunk_leaf a.chunks) (map chunk_leaf f.plan.block) (map chunk_leaf f.plan.block) part is)

      counted_closed : registered_chunks (planned.follows.calls ++ Registered leaves next ∷ []) + length f.plan.block ≡ length a.chunks + new_chunks f.plan.choices
      counted_closed =
          let one : registered_chunks (Registered (map chunk_leaf a.chunks) (map chunk_leaf f.plan.block) ∷ []) ≡ length a.chunks = omega (arith, length-map a.chunks chunk_leaf) in
          omega (arith, registered_chunks-append planned.follows.calls (Registered (map chunk_leaf a.chunks) (map chunk_leaf f.plan.block) ∷ []), one, file_new)

      bound_closed : length planned.follows.follows.own + (2 * length a.chunks + 2 * length a.files) + (2 * length f.plan.block + 2 * 1) ≤ 2 * length a.chunks + 2 * length a.files + 3 * length f.plan.leaves + 2
      bound_closed = omega (arith, planned.few)

      pub kept_closed : IsKept first new files a f rest (calls_in w.follows.own)
      kept_closed = record {
        calls = planned.follows.calls ++ Registered leaves next ∷ [];
        recorded = filled_files a;
        most = length planned.follows.follows.own + (2 * length a.chunks + 2 * length a.files);
        adds = both;
        records = records_closed;
        waits = (waits_seen now new (seen_follows now new closed.follows) f.plan.block (files ++ f ∷ []) file its_wait, tt);
        aggregate = is_rest;
        within = subst (λ (s : LimitSettings). IsWithin s f.plan.block) limits_new planned.block;
        forms = its_form;
        nothing = λ no. absurd (omega (arith, ap length no));
        lands = lands_closed;
        own = registers_then Of (calls_in w.follows.own) (planned.follows.calls ++ Registered leaves next ∷ []) next old_calls
            (registers_then Of planned.follows.calls (Registered leaves next ∷ []) next its_calls (all_both Of (leaves ++ []) next (all_both Of leaves [] old_block tt) its_block));
        counted = counted_closed;
        bound = bound_closed;
      }
