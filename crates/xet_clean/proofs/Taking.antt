-- What is left of one more part joins the aggregate, which may be closed first.
use Rattle.std.proofs.Common.{◌≡◌, ◌≢◌, ◌∙◌, inl, inr, ℕ, ◌+◌, ◌*◌, ◌<◌, ◌≤◌, true, false, List, [], ◌∷◌, ◌++◌, length, map, refl, sym, ap, subst, append_assoc, length-append, arith}
use Rattle.std.proofs.lemmas.Bool.{and_parts, leb-true}
use Rattle.std.proofs.lemmas.List.{append-nil, length-map, map-append}
use Rattle.std.proofs.lemmas.List.Sums.{sum_by_push}
use Rattle.std.proofs.lemmas.List.Concat.{flat_map-append}
use Rattle.std.specs.List.{AllByRecursion, flat_map}
use Rattle.xet_aggregate.specs.Aggregate.{Aggregate, IsAggregate, Pending, fits, merged, shifted_file}
use Rattle.xet_aggregate.specs.declared.metrics.DeduplicationMetrics.{DeduplicationMetrics}
use Rattle.xet_aggregate.specs.theorems.Merging.{IsAggregate-fits, empty-merged}
use Rattle.xet_base.specs.theorems.Elements.{all_back, all_both, all_more, all_prefix, all_push}
use Rattle.xet_choices.specs.Calls.{Call, queries_of, registered_chunks}
use Rattle.xet_choices.specs.Calls.Call.{Registered}
use Rattle.xet_choices.specs.declared.choice.Choice.{Choice}
use Rattle.xet_choices.specs.theorems.Calls.{queries_of-append, registered_chunks-append}
use Rattle.xet_cut.specs.Limits.{AreInRange}
use Rattle.xet_cut.specs.declared.limits.LimitSettings.{LimitSettings}
use Rattle.xet_dedup.specs.Deduping.{metrics_of_both}
use Rattle.xet_dedup.specs.theorems.Forms.{merged_are_files}
use Rattle.xet_dedup_queries.specs.Counting.{registered_leaves}
use Rattle.xet_shard_format.specs.declared.record.MDBFileInfo.{MDBFileInfo}
use Rattle.xet_store.specs.Holders.{Holder, calls_in}
use Rattle.xet_store.specs.theorems.Following.{calls_in-append, follows_then}
use Rattle.xet_store_disk.specs.Separate.{Among}
use Rattle.xet_store_disk.specs.declared.info.XetFileInfo.{XetFileInfo}
use Rattle.xet_xorb_chunk.specs.Chunks.{chunk_leaf}
use Rattle.xet_clean.specs.Cleaning.{Lands, metrics_sum}
use Rattle.xet_clean.specs.Closing.{Closes, HaveForm, Joins, filled_files, recorded_in}
use Rattle.xet_clean.specs.Merging.{EachRecorded, MayMerge, Part, files_of}
use Rattle.xet_clean.specs.Planning.{IsWithin}
use Rattle.xet_clean.specs.Working.{Planned, Waits}
use Rattle.xet_clean.specs.internal.Merging.{IsLater, IsMerged}
use Rattle.xet_clean.specs.internal.Sums.{AreSmall}
use Rattle.xet_clean.specs.theorems.Adding.{Adds, adds_closed, adds_nothing, recorded_in-append}
use Rattle.xet_clean.proofs.Cases.{within_both}
use Rattle.xet_clean.proofs.Completing.{both_some}
use Rattle.xet_clean.specs.theorems.Keeping.{limits_follow, seen_follows, seen_then}
use Rattle.xet_clean.proofs.Landing.{lands_last, lands_then, later_last, later_then, part_itself, part_left, part_right, part_then}
use Rattle.xet_clean.proofs.Parting.{each_filled, each_push, files_push, part_records, part_shifted, part_waits, shifted_waits}
use Rattle.xet_clean.specs.theorems.Owning.{in_after, in_more, registers_then}
use Rattle.xet_clean.specs.theorems.Records.{waits_among_more, waits_earlier}
use Rattle.xet_clean.specs.theorems.Rising.{flat_push}
use Rattle.xet_clean.specs.theorems.Sums.{small_both, small_sum, sum_append}

abbrev Leaves : Type 0
Leaves = List (List ℕ × ℕ)

-- the leaves of the chunks that wait
abbrev pub leaves_of : Aggregate → List (List ℕ × ℕ)
leaves_of a = map chunk_leaf a.chunks

-- What was added, and what the aggregate is then: the records that waited were made or wait still, and after them those of the
-- part wait.
pub record IsTaken (ps : List Part) (p : Part) (now new : Holder) (a joined : Aggregate) (before : List Call) : Type 0 where
  pub calls : List Call
  pub recorded : List MDBFileInfo
  pub most : ℕ
  pub adds : Adds calls recorded most now new
  pub records : (earlier : List MDBFileInfo) → EachRecorded ps (earlier ++ map (λ f. f.0) a.files) → EachRecorded (ps ++ p ∷ []) (earlier ++ (recorded ++ map (λ f. f.0) joined.files))
  pub waits : AllByRecursion (λ f. Waits new joined.chunks (files_of ps ++ p.files) f.0) joined.files
  pub aggregate : IsAggregate joined
  pub within : IsWithin new.limits joined.chunks
  pub forms : HaveForm joined.files
  pub lands : Lands (leaves_of joined) (before ++ calls)
  pub held : (part : List (List ℕ × ℕ)) → IsLater (leaves_of a) before part → IsLater (leaves_of joined) (before ++ calls) part
  pub its : IsLater (leaves_of joined) (before ++ calls) (leaves_of p.left)
  pub own : AllByRecursion (Among (flat_map (λ f. f.plan.leaves) (files_of ps ++ p.files))) (registered_leaves (before ++ calls) ++ map chunk_leaf joined.chunks)
  pub counted : registered_chunks calls + length joined.chunks ≡ length a.chunks + length p.left.chunks
  pub asked : queries_of calls ≡ 0
  pub bound : most + (2 * length joined.chunks + 2 * length joined.files) ≤ (2 * length a.chunks + 2 * length a.files) + (2 * length p.left.chunks + 2 * length p.left.files)

module _ (ps : List Part) (old now : Holder) (infos : List XetFileInfo) (choices : List (List Choice)) (metrics : DeduplicationMetrics) (a : Aggregate)
    (m : IsMerged ps old now infos choices metrics a) (p : Part) (may : MayMerge now p) (range : AreInRange now.limits) where
  limits_now : p.end.limits ≡ now.limits
  limits_now = sym may.seen.limits

  pub part_within : IsWithin now.limits p.left.chunks
  part_within = subst (λ (s : LimitSettings). IsWithin s p.left.chunks) limits_now may.working.within

  pub part_small : AreSmall p.metrics (length p.files)
  part_small =
      subst (λ (k : DeduplicationMetrics). AreSmall k (length p.files)) (sym (may.working.sums ∙ ap (metrics_sum p.end.limits (map (λ f. f.bytes) p.files)) may.working.chosen))
      (small_sum p.start p.end p.files (subst AreInRange (sym limits_now) range) may.working.planned)

  -- ---- which chunks were registered

  abbrev Of : List ℕ × ℕ → Type 0
  Of = Among (flat_map (λ (f : Planned). f.plan.leaves) (files_of ps ++ p.files))

  abbrev planned_leaves : List Planned → List (List ℕ × ℕ)
  planned_leaves fs = flat_map (λ (f : Planned). f.plan.leaves) fs

  parts_leaves : flat_map (λ (f : Planned). f.plan.leaves) (files_of ps ++ p.files) ≡ flat_map (λ (f : Planned). f.plan.leaves) (files_of ps) ++ flat_map (λ (f : Planned). f.plan.leaves) p.files
  parts_leaves = flat_map-append (λ (f : Planned). f.plan.leaves) (files_of ps) p.files

  old_own : AllByRecursion Of (registered_leaves (calls_in m.follows.own) ++ map chunk_leaf a.chunks)
  old_own =
      subst (λ (l : Leaves). AllByRecursion (Among l) (registered_leaves (calls_in m.follows.own) ++ map chunk_leaf a.chunks)) (sym parts_leaves)
      (in_more (planned_leaves (files_of ps)) (planned_leaves p.files) (registered_leaves (calls_in m.follows.own) ++ map chunk_leaf a.chunks) m.own)

  old_calls : AllByRecursion Of (registered_leaves (calls_in m.follows.own))
  old_calls = all_prefix Of (registered_leaves (calls_in m.follows.own)) (map chunk_leaf a.chunks) old_own

  old_block : AllByRecursion Of (map chunk_leaf a.chunks)
  old_block = all_back Of (registered_leaves (calls_in m.follows.own)) (map chunk_leaf a.chunks) old_own

  its_block : AllByRecursion Of (map chunk_leaf p.left.chunks)
  its_block =
      subst (λ (l : Leaves). AllByRecursion (Among l) (map chunk_leaf p.left.chunks)) (sym parts_leaves)
      (in_after (planned_leaves (files_of ps)) (planned_leaves p.files) (map chunk_leaf p.left.chunks)
      (all_back (Among (planned_leaves p.files)) (registered_leaves (calls_in may.working.follows.own)) (map chunk_leaf p.left.chunks) may.working.own))

  -- ---- it fits

  module _ (fit : fits now.limits a p.left ≡ true) where
    both_are : map chunk_leaf (a.chunks ++ p.left.chunks) ≡ map chunk_leaf a.chunks ++ map chunk_leaf p.left.chunks
    both_are = map-append chunk_leaf a.chunks p.left.chunks

    fit_waits : AllByRecursion (λ f. Waits now (a.chunks ++ p.left.chunks) (files_of ps ++ p.files) f.0) (a.files ++ map (shifted_file (length a.chunks)) p.left.files)
    fit_waits =
        all_both (λ (f : Pending). Waits now (a.chunks ++ p.left.chunks) (files_of ps ++ p.files) f.0) a.files (map (shifted_file (length a.chunks)) p.left.files)
        (all_more (λ (f : Pending). Waits now a.chunks (files_of ps) f.0) (λ (f : Pending). Waits now (a.chunks ++ p.left.chunks) (files_of ps ++ p.files) f.0) a.files
        (λ f is. waits_earlier now a.chunks p.left.chunks (files_of ps ++ p.files) f.0 (waits_among_more now a.chunks (files_of ps) p.files f.0 is)) m.waits)
        (shifted_waits now a.chunks p.left.chunks (files_of ps ++ p.files) p.left.files (part_waits p may.working now (files_of ps) may.seen))

    fit_records : (earlier : List MDBFileInfo) → EachRecorded ps (earlier ++ map (λ f. f.0) a.files)
        → EachRecorded (ps ++ p ∷ []) (earlier ++ map (λ f. f.0) (a.files ++ map (shifted_file (length a.chunks)) p.left.files))
    fit_records earlier all =
        let old_ones : List MDBFileInfo = map (λ f. f.0) a.files in
        let its_ones : List MDBFileInfo = map (λ f. f.0) (map (shifted_file (length a.chunks)) p.left.files) in
        subst (EachRecorded (ps ++ p ∷ []))
        (append_assoc earlier old_ones its_ones ∙ ap (λ (l : List MDBFileInfo). earlier ++ l) (sym (map-append (λ (f : Pending). f.0) a.files (map (shifted_file (length a.chunks)) p.left.files))))
        (each_push ps p (earlier ++ old_ones) its_ones all (part_shifted p may.working (length a.chunks)))

    fit_within : IsWithin now.limits (a.chunks ++ p.left.chunks)
    fit_within =
        let parts = and_parts _ _ fit in
        within_both now.limits a.chunks p.left.chunks m.within part_within (leb-true _ _ parts.0) (leb-true _ _ parts.1)

    fit_lands : Lands (map chunk_leaf a.chunks ++ map chunk_leaf p.left.chunks) (calls_in m.follows.own ++ [])
    fit_lands =
        subst (Lands (map chunk_leaf a.chunks ++ map chunk_leaf p.left.chunks)) (sym (append-nil (calls_in m.follows.own)))
        (lands_last (calls_in m.follows.own) (map chunk_leaf a.chunks) (map chunk_leaf a.chunks ++ map chunk_leaf p.left.chunks) (part_left (map chunk_leaf a.chunks) (map chunk_leaf p.left.chunks)) m.lands)

    fit_held : (part : Leaves) → IsLater (map chunk_leaf a.chunks) (calls_in m.follows.own) part → IsLater (map chunk_leaf a.chunks ++ map chunk_leaf p.left.chunks) (calls_in m.follows.own ++ []) part
    fit_held part =
        let mid : Leaves = map chunk_leaf a.chunks in
        let last : Leaves = map chunk_leaf a.chunks ++ map chunk_leaf p.left.chunks in
        λ is. later_then (calls_in m.follows.own) [] mid last part is (λ left. inr (part_then part mid last left (part_left mid (map chunk_leaf p.left.chunks))))

    pub taken_merged : IsTaken ps p now now a (merged a p.left) (calls_in m.follows.own)
    taken_merged =
        let files : length (a.files ++ map (shifted_file (length a.chunks)) p.left.files) ≡ length a.files + length p.left.files =
        omega (arith, length-append a.files (map (shifted_file (length a.chunks)) p.left.files), length-map p.left.files (shifted_file (length a.chunks))) in
        let chunks : length (a.chunks ++ p.left.chunks) ≡ length a.chunks + length p.left.chunks = length-append a.chunks p.left.chunks in
        record {
          calls = [];
          recorded = [];
          most = 0;
          adds = adds_nothing now;
          records = fit_records;
          waits = fit_waits;
          aggregate = IsAggregate-fits now.limits a p.left range fit m.aggregate may.working.aggregate;
          within = fit_within;
          forms = merged_are_files a p.left m.forms may.working.forms;
          lands = subst (λ (l : Leaves). Lands l (calls_in m.follows.own ++ [])) (sym both_are) fit_lands;
          held = λ part is. subst (λ (l : Leaves). IsLater l (calls_in m.follows.own ++ []) part) (sym both_are) (fit_held part is);
          its = subst (λ (l : Leaves). IsLater l (calls_in m.follows.own ++ []) (map chunk_leaf p.left.chunks)) (sym both_are) (inr (part_right (map chunk_leaf a.chunks) (map chunk_leaf p.left.chunks)));
          own = registers_then Of (calls_in m.follows.own) [] (map chunk_leaf (a.chunks ++ p.left.chunks)) old_calls
              (subst (AllByRecursion Of) (sym both_are) (all_both Of (map chunk_leaf a.chunks) (map chunk_leaf p.left.chunks) old_block its_block));
          counted = omega (arith, chunks);
          asked = refl;
          bound = omega (arith, files, chunks);
        }

  -- ---- it does not fit: the aggregate was closed

  module _ (unfit : fits now.limits a p.left ≡ false) (new : Holder) (closes : Closes a (map chunk_leaf p.left.chunks) now new) where
    chunks_have : (0 < length a.chunks) × (0 < length p.left.chunks)
    chunks_have = both_some now.limits a p.left unfit m.within part_within

    some_chunks : a.chunks ≢ []
    some_chunks is = omega (arith, ap length is, chunks_have.0)

    some_next : map chunk_leaf p.left.chunks ≢ []
    some_next is = omega (arith, ap length is, length-map p.left.chunks chunk_leaf, chunks_have.1)

    closed : Adds (Registered (map chunk_leaf a.chunks) (map chunk_leaf p.left.chunks) ∷ []) (filled_files a) (2 * length a.chunks + 2 * length a.files) now new
    closed = adds_closed a (map chunk_leaf p.left.chunks) now new closes some_chunks

    limits_new : now.limits ≡ new.limits
    limits_new = sym (limits_follow now new closed.follows)

    closed_records : (earlier : List MDBFileInfo) → EachRecorded ps (earlier ++ map (λ f. f.0) a.files)
        → EachRecorded (ps ++ p ∷ []) (earlier ++ (filled_files a ++ map (λ f. f.0) p.left.files))
    closed_records earlier all =
        subst (EachRecorded (ps ++ p ∷ [])) (append_assoc earlier (filled_files a) (map (λ f. f.0) p.left.files))
        (each_push ps p (earlier ++ filled_files a) (map (λ f. f.0) p.left.files) (each_filled a ps earlier all) (part_records p may.working))

    closed_lands : Lands (map chunk_leaf p.left.chunks) (calls_in m.follows.own ++ Registered (map chunk_leaf a.chunks) (map chunk_leaf p.left.chunks) ∷ [])
    closed_lands =
        let leaves : Leaves = map chunk_leaf a.chunks in
        let next : Leaves = map chunk_leaf p.left.chunks in
        lands_then (calls_in m.follows.own) (Registered leaves next ∷ []) leaves next m.lands ((some_next, inr (part_itself next)), tt) (λ part is. later_last [] leaves next next part is)

    closed_held : (part : Leaves) → IsLater (map chunk_leaf a.chunks) (calls_in m.follows.own) part
        → IsLater (map chunk_leaf p.left.chunks) (calls_in m.follows.own ++ Registered (map chunk_leaf a.chunks) (map chunk_leaf p.left.chunks) ∷ []) part
    closed_held part is =
        let leaves : Leaves = map chunk_leaf a.chunks in
        let next : Leaves = map chunk_leaf p.left.chunks in
        later_then (calls_in m.follows.own) (Registered leaves next ∷ []) leaves next part is (λ left. later_last [] leaves next next part left)

    pub taken_closed : IsTaken ps p now new a p.left (calls_in m.follows.own)
    taken_closed = record {
      calls = Registered (map chunk_leaf a.chunks) (map chunk_leaf p.left.chunks) ∷ [];
      recorded = filled_files a;
      most = 2 * length a.chunks + 2 * length a.files;
      adds = closed;
      records = closed_records;
      waits = part_waits p may.working new (files_of ps) (seen_then p.end now new may.seen (seen_follows now new closed.follows));
      aggregate = may.working.aggregate;
      within = subst (λ (s : LimitSettings). IsWithin s p.left.chunks) limits_new part_within;
      forms = may.working.forms;
      lands = closed_lands;
      held = closed_held;
      its = inr (part_itself (map chunk_leaf p.left.chunks));
      own = registers_then Of (calls_in m.follows.own) (Registered (map chunk_leaf a.chunks) (map chunk_leaf p.left.chunks) ∷ []) (map chunk_leaf p.left.chunks) old_calls
          (all_both Of (map chunk_leaf a.chunks ++ []) (map chunk_leaf p.left.chunks) (all_both Of (map chunk_leaf a.chunks) [] old_block tt) its_block);
      counted = omega (arith, length-map a.chunks chunk_leaf);
      asked = refl;
      bound = omega arith;
    }

  pub taken_of : (new : Holder) (joined : Aggregate) → Joins now new a p.left joined → IsTaken ps p now new a joined (calls_in m.follows.own)
  taken_of new joined (inl x) =
      subst (λ (h : Holder). IsTaken ps p now h a joined (calls_in m.follows.own)) (sym x.1)
      (subst (λ (j : Aggregate). IsTaken ps p now now a j (calls_in m.follows.own)) (sym x.2) (taken_merged x.0))
  taken_of new joined (inr x) =
      let is : joined ≡ p.left = x.2 ∙ empty-merged p.left in
      subst (λ (j : Aggregate). IsTaken ps p now new a j (calls_in m.follows.own)) (sym is) (taken_closed x.0 new x.1)

  -- ---- then it was merged

  module _ (new : Holder) (joined : Aggregate) (k : IsTaken ps p now new a joined (calls_in m.follows.own)) where
    files_are : files_of ps ++ p.files ≡ files_of (ps ++ p ∷ [])
    files_are = sym (files_push ps p)

    count_is : length (files_of (ps ++ p ∷ [])) ≡ length (files_of ps) + length p.files
    count_is = ap length (files_push ps p) ∙ length-append (files_of ps) p.files

    calls_are : calls_in (m.follows.own ++ k.adds.follows.own) ≡ calls_in m.follows.own ++ k.calls
    calls_are = calls_in-append m.follows.own k.adds.follows.own ∙ ap (λ (l : List Call). calls_in m.follows.own ++ l) k.adds.are

    each : length p.choices ≡ length p.files
    each = ap length may.working.chosen ∙ length-map p.files (λ (f : Planned). f.plan.choices)

    sums_all : metrics_of_both metrics p.metrics ≡ metrics_sum old.limits (map (λ f. f.bytes) (files_of (ps ++ p ∷ []))) (choices ++ p.choices)
    sums_all =
        let same : p.end.limits ≡ old.limits = limits_now ∙ limits_follow old now m.follows in
        let first : List (List ℕ) = map (λ f. f.bytes) (files_of ps) in
        let its : List (List ℕ) = map (λ f. f.bytes) p.files in
        let its_sum : p.metrics ≡ metrics_sum old.limits its p.choices = may.working.sums ∙ ap (λ (s : LimitSettings). metrics_sum s its p.choices) same in
        let len : length choices ≡ length first = m.one_each ∙ sym (length-map (files_of ps) (λ (f : Planned). f.bytes)) in
        let bytes : map (λ f. f.bytes) (files_of (ps ++ p ∷ [])) ≡ first ++ its = ap (map (λ (f : Planned). f.bytes)) (files_push ps p) ∙ map-append (λ (f : Planned). f.bytes) (files_of ps) p.files in
        (λ i. metrics_of_both (m.sums i) (its_sum i))
        ∙ sym (sum_append old.limits first its choices p.choices len)
        ∙ ap (λ (l : List (List ℕ)). metrics_sum old.limits l (choices ++ p.choices)) (sym bytes)

    records_all : EachRecorded (ps ++ p ∷ []) (recorded_in (m.follows.own ++ k.adds.follows.own) ++ map (λ f. f.0) joined.files)
    records_all =
        let waiting : List MDBFileInfo = map (λ f. f.0) joined.files in
        let parts : recorded_in (m.follows.own ++ k.adds.follows.own) ≡ recorded_in m.follows.own ++ k.recorded =
        recorded_in-append m.follows.own k.adds.follows.own ∙ ap (λ (l : List MDBFileInfo). recorded_in m.follows.own ++ l) k.adds.records in
        subst (EachRecorded (ps ++ p ∷ [])) (sym (ap (λ (l : List MDBFileInfo). l ++ waiting) parts ∙ append_assoc (recorded_in m.follows.own) k.recorded waiting))
        (k.records (recorded_in m.follows.own) m.records)

    held_all : AllByRecursion (λ q. IsLater (map chunk_leaf joined.chunks) (calls_in (m.follows.own ++ k.adds.follows.own)) (map chunk_leaf q.left.chunks)) (ps ++ p ∷ [])
    held_all =
        let last : Leaves = map chunk_leaf joined.chunks in
        subst (λ (cs : List Call). AllByRecursion (λ (q : Part). IsLater (map chunk_leaf joined.chunks) cs (map chunk_leaf q.left.chunks)) (ps ++ p ∷ [])) (sym calls_are)
        (all_push (λ (q : Part). IsLater last (calls_in m.follows.own ++ k.calls) (map chunk_leaf q.left.chunks)) ps p
        (all_more (λ (q : Part). IsLater (map chunk_leaf a.chunks) (calls_in m.follows.own) (map chunk_leaf q.left.chunks)) (λ (q : Part). IsLater last (calls_in m.follows.own ++ k.calls) (map chunk_leaf q.left.chunks)) ps
        (λ q is. k.held (map chunk_leaf q.left.chunks) is) m.held) k.its)

    pub merged_more : IsMerged (ps ++ p ∷ []) old new (infos ++ p.infos) (choices ++ p.choices) (metrics_of_both metrics p.metrics) joined
    unfolding follows_then
    merged_more =
        let regs : registered_chunks (calls_in (m.follows.own ++ k.adds.follows.own)) ≡ registered_chunks (calls_in m.follows.own) + registered_chunks k.calls =
        ap registered_chunks calls_are ∙ registered_chunks-append (calls_in m.follows.own) k.calls in
        let queries : queries_of (calls_in (m.follows.own ++ k.adds.follows.own)) ≡ queries_of (calls_in m.follows.own) + queries_of k.calls =
        ap queries_of calls_are ∙ queries_of-append (calls_in m.follows.own) k.calls in
        record {
          follows = follows_then old now new m.follows k.adds.follows;
          going = k.adds.going ∙ m.going;
          pointers = ap (λ (l : List XetFileInfo). l ++ p.infos) m.pointers ∙ sym (flat_push (λ (q : Part). q.infos) ps p);
          chosen = ap (λ (l : List (List Choice)). l ++ p.choices) m.chosen ∙ sym (flat_push (λ (q : Part). q.choices) ps p);
          one_each = omega (arith, length-append choices p.choices, m.one_each, each, count_is);
          sums = sums_all;
          small = subst (AreSmall (metrics_of_both metrics p.metrics)) (sym count_is) (small_both metrics p.metrics (length (files_of ps)) (length p.files) m.small part_small);
          records = records_all;
          waits = subst (λ (fs : List Planned). AllByRecursion (λ (f : Pending). Waits new joined.chunks fs f.0) joined.files) files_are k.waits;
          aggregate = k.aggregate;
          within = k.within;
          forms = k.forms;
          registered = omega (arith, regs, m.registered, k.counted, sum_by_push (λ (q : Part). length q.left.chunks) ps p);
          lands = subst (Lands (map chunk_leaf joined.chunks)) (sym calls_are) k.lands;
          held = held_all;
          asked = omega (arith, queries, m.asked, k.asked);
          few = omega (
            arith,
            length-append m.follows.own k.adds.follows.own,
            k.adds.few,
            m.few,
            k.bound,
            sum_by_push (λ (q : Part). 2 * length q.left.chunks + 2 * length q.left.files) ps p,
          );
          own = subst (λ (cs : List Call). AllByRecursion (Among (flat_map (λ (f : Planned). f.plan.leaves) (files_of (ps ++ p ∷ [])))) (registered_leaves cs ++ map chunk_leaf joined.chunks)) (sym calls_are)
              (subst (λ (fs : List Planned). AllByRecursion (Among (flat_map (λ (f : Planned). f.plan.leaves) fs)) (registered_leaves (calls_in m.follows.own ++ k.calls) ++ map chunk_leaf joined.chunks)) files_are k.own);
        }
