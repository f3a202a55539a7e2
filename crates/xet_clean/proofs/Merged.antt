-- Parts are merged in turn, and what is left is closed.
use Rattle.std.proofs.Common.{◌≡◌, ◌∙◌, inl, inr, ℕ, ◌+◌, ◌*◌, ◌^◌, ◌<◌, ◌≤◌, true, ◌&&◌, List, [], ◌∷◌, ◌++◌, drop, length, map, take, nat_le, refl, sym, ap, subst, append_assoc, length-append, arith}
use Rattle.std.proofs.lemmas.Bool.Decides.{nat_tests}
use Rattle.std.proofs.lemmas.List.{append-nil, length-map, take-append-drop}
use Rattle.std.proofs.lemmas.List.Sums.{sum_by-append, sum_by-cons}
use Rattle.std.proofs.lemmas.List.Concat.{flat_map-append}
use Rattle.std.specs.List.{AllByRecursion, flat_map, sum_by}
use Rattle.std.specs.Prelude.{Any, slice_index_or}
use Rattle.xet_aggregate.specs.Aggregate.{Aggregate, IsAggregate, Pending, empty, fits}
use Rattle.xet_aggregate.specs.Metrics.{zeros}
use Rattle.xet_aggregate.specs.declared.metrics.DeduplicationMetrics.{DeduplicationMetrics}
use Rattle.xet_aggregate.specs.theorems.Merging.{empty-merged}
use Rattle.xet_base.specs.theorems.Elements.{all_back, all_both, all_more, all_prefix}
use Rattle.xet_choices.specs.Calls.{Call, queries_of, registered_chunks}
use Rattle.xet_choices.specs.declared.choice.Choice.{Choice}
use Rattle.xet_choices.specs.theorems.Calls.{queries_of-append, registered_chunks-append}
use Rattle.xet_cut.specs.Limits.{AreInRange}
use Rattle.xet_cut.specs.declared.limits.LimitSettings.{LimitSettings}
use Rattle.xet_dedup.specs.Deduping.{metrics_of_both}
use Rattle.xet_dedup_queries.specs.Counting.{HasNext, registered_leaves}
use Rattle.xet_hash.specs.declared.error.StoreError.{StoreError}
use Rattle.xet_shard_format.specs.declared.record.MDBFileInfo.{MDBFileInfo}
use Rattle.xet_store.specs.Holders.{Follows, Holder, calls_in}
use Rattle.xet_store.specs.theorems.Following.{calls_in-append, follows_nothing, follows_then}
use Rattle.xet_store_disk.specs.Separate.{Among}
use Rattle.xet_store_disk.specs.declared.info.XetFileInfo.{XetFileInfo}
use Rattle.xet_xorb_chunk.specs.Chunks.{chunk_leaf, total}
use Rattle.xet_clean.specs.Cleaning.{ClosesLast, RegistersPart, close_of}
use Rattle.xet_clean.specs.Closing.{AnyCalls, Closes, HaveForm, IsAtMost, IsUnclosed, Joins, RegistersAtMost, filled_files, recorded_in}
use Rattle.xet_clean.specs.Merging.{AreHeld, EachRecorded, IsPartOf, IsUnmerged, MayMerge, MayMergeAll, MergesAll, Part, files_of}
use Rattle.xet_clean.specs.Planning.{IsWithin}
use Rattle.xet_clean.specs.Policies.{info_by}
use Rattle.xet_clean.specs.Working.{IsRecordOf, Planned, Waits}
use Rattle.xet_clean.specs.declared.working.Working.{Working}
use Rattle.xet_clean.specs.internal.Merging.{IsLater, IsMerged, IsMerging}
use Rattle.xet_clean.specs.internal.Sums.{HasRoom}
use Rattle.xet_clean.specs.theorems.Adding.{Adds, adds_closed_last, calls_both, first_weaker, recorded_in-append}
use Rattle.xet_clean.specs.theorems.Ending.{last_chunks}
use Rattle.xet_clean.specs.theorems.Keeping.{any_last, any_left, limits_follow, own_then}
use Rattle.xet_clean.specs.theorems.Nexts.{closes_then, lands_nexts}
use Rattle.xet_clean.specs.theorems.Owning.{in_more, registers_at_most, registers_both}
use Rattle.xet_clean.proofs.Taking.{IsTaken, merged_more, part_small, part_within, taken_of}
use Rattle.xet_clean.proofs.Parting.{IsNext, each_filled, each_one, files_append, files_push, may_follows, may_next, may_none, most_of}
use Rattle.xet_clean.specs.theorems.Records.{waits_among_more}
use Rattle.xet_clean.specs.theorems.Sums.{small_room, small_zeros, sum_again}

-- ---- the first part

merged_nothing : (h : Holder) → IsMerged [] h h [] [] zeros empty
unfolding follows_nothing
merged_nothing h = record {
  follows = follows_nothing h;
  going = refl;
  pointers = refl;
  chosen = refl;
  one_each = refl;
  sums = refl;
  small = small_zeros;
  records = refl;
  waits = tt;
  aggregate = record { parts = record { count = omega arith; small = tt; total = omega arith }; boundaries = tt; runs = tt };
  within = record { within = record { bytes = omega arith; count = omega arith; small = tt }; hashed = tt };
  forms = tt;
  registered = refl;
  lands = tt;
  held = tt;
  asked = refl;
  few = omega arith;
  own = tt;
}

le_true : (m n : ℕ) → m ≤ n → nat_le m n ≡ true
le_true m n le = grind (arith, nat_tests)

fits_alone : (s : LimitSettings) (b : Aggregate) → IsWithin s b.chunks → fits s empty b ≡ true
fits_alone s b within =
    let none : total [] ≡ 0 = refl in
    let bytes : nat_le (total [] + total b.chunks) s.cut_bytes ≡ true = le_true (total [] + total b.chunks) s.cut_bytes (omega (arith, none, within.within.bytes)) in
    let count : nat_le (0 + length b.chunks) s.cut_chunks ≡ true = le_true (0 + length b.chunks) s.cut_chunks (omega (arith, within.within.count)) in
    λ i. bytes i && count i

module _ (h : Holder) (range : AreInRange h.limits) where
  first_merged : (p : Part) → MayMerge h p → IsMerged (p ∷ []) h h p.infos p.choices p.metrics p.left
  first_merged p may =
      let none : IsMerged [] h h [] [] zeros empty = merged_nothing h in
      let joins : Joins h h empty p.left p.left = inl (fits_alone h.limits p.left (part_within [] h h [] [] zeros empty none p may range), refl, sym (empty-merged p.left)) in
      let one : IsMerged (p ∷ []) h h p.infos p.choices (metrics_of_both zeros p.metrics) p.left =
      merged_more [] h h [] [] zeros empty none p may range h p.left (taken_of [] h h [] [] zeros empty none p may range h p.left joins) in
      let sums = may.working.sums in
      let same : metrics_of_both zeros p.metrics ≡ p.metrics = ap (metrics_of_both zeros) sums ∙ sum_again p.end.limits (map (λ f. f.bytes) p.files) p.choices ∙ sym sums in
      subst (λ (k : DeduplicationMetrics). IsMerged (p ∷ []) h h p.infos p.choices k p.left) same one

  abbrev At : List Part → List Working → Working → Type 0
  At ps rest w = IsMerging ps rest h h w.cleaned.infos.items w.cleaned.choices.items w.cleaned.metrics w.aggregate

  its_results : (p : Part) (w : Working) → IsPartOf p w → IsMerged (p ∷ []) h h p.infos p.choices p.metrics p.left
      → IsMerged (p ∷ []) h h w.cleaned.infos.items w.cleaned.choices.items w.cleaned.metrics w.aggregate
  its_results p w is one =
      subst (λ (l : List XetFileInfo). IsMerged (p ∷ []) h h l w.cleaned.choices.items w.cleaned.metrics w.aggregate) is.0
      (subst (λ (l : List (List Choice)). IsMerged (p ∷ []) h h p.infos l w.cleaned.metrics w.aggregate) is.1
      (subst (λ (k : DeduplicationMetrics). IsMerged (p ∷ []) h h p.infos p.choices k w.aggregate) is.2
      (subst (λ (b : Aggregate). IsMerged (p ∷ []) h h p.infos p.choices p.metrics b) is.3 one)))

  one_merged : (p : Part) (ps : List Part) (w : Working) (ws : List Working) → sum_by (λ v. length v.cleaned.infos.items) (w ∷ ws) ≤ 2 ^ 20 → MayMergeAll h (p ∷ ps) (w ∷ ws) → At (p ∷ ps) ws w
  one_merged p ps w ws room may =
      let working = may.1.working in
      let count : length (files_of (p ∷ [])) ≡ length w.cleaned.infos.items =
      ap length (append-nil p.files) ∙ sym (length-map p.files (λ (f : Planned). info_by f.policy p.end.limits f.bytes)) ∙ ap length (sym working.pointers) ∙ ap length may.0.0 in
      record {
        done = p ∷ [];
        later = ps;
        order = refl;
        may = may.2;
        room = omega (arith, room, count, sum_by-cons (λ (v : Working). length v.cleaned.infos.items) w ws);
        range = range;
        merged = its_results p w may.0 (first_merged p may.1);
      }

  pub merging_begins : (ps : List Part) (all : List Working) (first : Working) (rest : List Working) → 0 < length all → first ≡ slice_index_or all 0 first → rest ≡ drop 1 all
      → sum_by (λ w. length w.cleaned.infos.items) all ≤ 2 ^ 20 → MayMergeAll h ps all
      → IsMerging ps rest h h first.cleaned.infos.items first.cleaned.choices.items first.cleaned.metrics first.aggregate
  merging_begins [] [] first rest some is_first is_rest room may = absurd (omega (arith, some))
  merging_begins [] (w ∷ ws) first rest some is_first is_rest room may = absurd may
  merging_begins (p ∷ ps) [] first rest some is_first is_rest room may = absurd may
  merging_begins (p ∷ ps) (w ∷ ws) first rest some is_first is_rest room may =
      subst (λ (v : Working). At (p ∷ ps) rest v) (sym is_first) (subst (λ (r : List Working). At (p ∷ ps) r w) (sym is_rest) (one_merged p ps w ws room may))

-- ---- what is left is not closed

module _ (ps : List Part) (rest : List Working) (start now : Holder) (infos : List XetFileInfo) (choices : List (List Choice)) (metrics : DeduplicationMetrics) (a : Aggregate)
    (is : IsMerging ps rest start now infos choices metrics a) where
  pub merging_here : IsAggregate a × IsWithin now.limits a.chunks × HaveForm a.files
  merging_here = (is.merged.aggregate, is.merged.within, is.merged.forms)

  -- each record was made of a file of one of the parts
  unmerged_records : (k : ℕ) → AllByRecursion (λ r. Any (λ f. IsRecordOf f r) (files_of ps)) (recorded_in is.merged.follows.own ++ take k (filled_files a))
  unmerged_records k =
      let own : List MDBFileInfo = recorded_in is.merged.follows.own in
      let one : MDBFileInfo → Type 0 = λ r. Any (λ f. IsRecordOf f r) (files_of ps) in
      let order : files_of ps ≡ files_of is.done ++ files_of is.later = ap files_of is.order ∙ files_append is.done is.later in
      let each : AllByRecursion (λ r. Any (λ f. IsRecordOf f r) (files_of is.done)) (own ++ filled_files a) = each_one is.done (own ++ filled_files a) (each_filled a is.done own is.merged.records) in
      let all : AllByRecursion one (own ++ filled_files a) =
      all_more (λ (r : MDBFileInfo). Any (λ f. IsRecordOf f r) (files_of is.done)) one (own ++ filled_files a)
      (λ r any. subst (λ (fs : List Planned). Any (λ f. IsRecordOf f r) fs) (sym order) (any_left (λ f. IsRecordOf f r) (files_of is.done) (files_of is.later) any)) each in
      all_both one own (take k (filled_files a)) (all_prefix one own (filled_files a) all)
      (all_prefix one (take k (filled_files a)) (drop k (filled_files a)) (subst (AllByRecursion one) (sym (take-append-drop k (filled_files a))) (all_back one own (filled_files a) all)))

  -- each registration had further chunks
  merging_nexts : AllByRecursion HasNext (calls_in is.merged.follows.own)
  merging_nexts = lands_nexts (map chunk_leaf a.chunks) (calls_in is.merged.follows.own) is.merged.lands

  -- which chunks were registered, and which are left
  abbrev Of : List ℕ × ℕ → Type 0
  Of = Among (flat_map (λ (f : Planned). f.plan.leaves) (files_of ps))

  merging_own : AllByRecursion Of (registered_leaves (calls_in is.merged.follows.own) ++ map chunk_leaf a.chunks)
  merging_own =
      let leaves : List (List ℕ × ℕ) = registered_leaves (calls_in is.merged.follows.own) ++ map chunk_leaf a.chunks in
      let first : List (List ℕ × ℕ) = flat_map (λ (f : Planned). f.plan.leaves) (files_of is.done) in
      let rest : List (List ℕ × ℕ) = flat_map (λ (f : Planned). f.plan.leaves) (files_of is.later) in
      let all : flat_map (λ (f : Planned). f.plan.leaves) (files_of ps) ≡ first ++ rest =
      ap (flat_map (λ (f : Planned). f.plan.leaves)) (ap files_of is.order ∙ files_append is.done is.later) ∙ flat_map-append (λ (f : Planned). f.plan.leaves) (files_of is.done) (files_of is.later) in
      subst (λ (l : List (List ℕ × ℕ)). AllByRecursion (Among l) (registered_leaves (calls_in is.merged.follows.own) ++ map chunk_leaf a.chunks)) (sym all) (in_more first rest leaves is.merged.own)

  pub unmerged : (Are : List Call → Type 0) (next : List (List ℕ × ℕ)) → ((calls : List Call) → Are calls → ((last : List (List ℕ × ℕ)) × ClosesLast last calls) × RegistersAtMost a next calls) → (new : Holder) (e : StoreError) → IsUnclosed Are a next now new e
      → IsUnmerged ps start new e
  unmerged Are next closing new e unclosed =
      let all : files_of ps ≡ files_of is.done ++ files_of is.later = ap files_of is.order ∙ files_append is.done is.later in
      let f : Follows start now = is.merged.follows in
      let g : Follows now new = unclosed.0.1.follows in
      let whole : Follows start new = follows_then start now new f g in
      let closes = closing (calls_in g.own) unclosed.0.2 in
      let last = closes.0 in
      let records : recorded_in whole.own ≡ recorded_in f.own ++ take unclosed.0.0 (filled_files a) =
      ap recorded_in (own_then start now new f g whole) ∙ recorded_in-append f.own g.own ∙ ap (λ (l : List MDBFileInfo). recorded_in f.own ++ l) unclosed.0.1.are in
      record {
        before = now;
        follows = is.merged.follows;
        aggregate = a;
        parts = is.merged.aggregate;
        within = is.merged.within;
        waits = all_more (λ (f : Pending). Waits now a.chunks (files_of is.done) f.0) (λ (f : Pending). Waits now a.chunks (files_of ps) f.0) a.files
            (λ f waits. subst (λ (fs : List Planned). Waits now a.chunks fs f.0) (sym all) (waits_among_more now a.chunks (files_of is.done) (files_of is.later) f.0 waits)) is.merged.waits;
        next = next;
        refused = (first_weaker Are AnyCalls (filled_files a) now new (λ calls are. tt) unclosed.0, unclosed.1);
        all = whole;
        records = subst (AllByRecursion (λ r. Any (λ f. IsRecordOf f r) (files_of ps))) (sym records) (unmerged_records unclosed.0.0);
        last = last.0;
        registers = subst (ClosesLast last.0) (sym (calls_both start now new f g whole)) (closes_then last.0 (calls_in f.own) (calls_in g.own) merging_nexts last.1);
        own = subst (λ (cs : List Call). AllByRecursion Of (registered_leaves cs)) (sym (calls_both start now new f g whole))
            (registers_both Of (calls_in f.own) (calls_in g.own) (all_prefix Of (registered_leaves (calls_in is.merged.follows.own)) (map chunk_leaf a.chunks) merging_own)
            (registers_at_most Of a next (calls_in g.own) closes.1 (all_back Of (registered_leaves (calls_in is.merged.follows.own)) (map chunk_leaf a.chunks) merging_own)));
      }

  -- few entries in all, if those since are few
  pub merging_few : (new : Holder) → IsAtMost (most_of a) now new → IsAtMost (sum_by (λ p. most_of p.left) ps) start new
  unfolding follows_then
  merging_few new more =
      let most : Part → ℕ = λ p. most_of p.left in
      record {
        follows = follows_then start now new is.merged.follows more.follows;
        few = omega (arith, length-append is.merged.follows.own more.follows.own, more.few, is.merged.few, ap (sum_by most) is.order, sum_by-append most is.done is.later);
      }

-- ---- one more part

module _ (ps : List Part) (w : Working) (ws : List Working) (start now : Holder) (infos : List XetFileInfo) (choices : List (List Choice)) (metrics : DeduplicationMetrics) (a : Aggregate)
    (is : IsMerging ps (w ∷ ws) start now infos choices metrics a) where
  next : IsNext now is.later w ws
  next = may_next now is.later w ws is.may

  abbrev p : Part
  p = next.part

  its_count : length p.files ≡ length w.cleaned.infos.items
  its_count = sym (length-map p.files (λ (f : Planned). info_by f.policy p.end.limits f.bytes)) ∙ ap length (sym next.may.working.pointers) ∙ ap length next.same.0

  room_now : length (files_of is.done) + length p.files + sum_by (λ (v : Working). length v.cleaned.infos.items) ws ≤ 2 ^ 20
  room_now = omega (arith, is.room, its_count, sum_by-cons (λ (v : Working). length v.cleaned.infos.items) w ws)

  -- what merging requires
  pub merging_rest : IsAggregate w.aggregate × IsWithin now.limits w.aggregate.chunks × HaveForm w.aggregate.files
  merging_rest =
      subst (λ (b : Aggregate). IsAggregate b × IsWithin now.limits b.chunks × HaveForm b.files) next.same.3
      (next.may.working.aggregate, part_within is.done start now infos choices metrics a is.merged p next.may is.range, next.may.working.forms)

  pub merging_room : HasRoom metrics w.cleaned.metrics
  merging_room =
      subst (HasRoom metrics) next.same.2
      (small_room metrics p.metrics (length (files_of is.done)) (length p.files) (omega (arith, room_now)) is.merged.small
      (part_small is.done start now infos choices metrics a is.merged p next.may is.range))

  module _ (new : Holder) (joined : Aggregate) (joins : Joins now new a w.aggregate joined) where
    taken : IsTaken is.done p now new a joined (calls_in is.merged.follows.own)
    taken =
        taken_of is.done start now infos choices metrics a is.merged p next.may is.range new joined (subst (λ (b : Aggregate). Joins now new a b joined) (sym next.same.3) joins)

    its_merged : IsMerged (is.done ++ p ∷ []) start new (infos ++ w.cleaned.infos.items) (choices ++ w.cleaned.choices.items) (metrics_of_both metrics w.cleaned.metrics) joined
    its_merged =
        let ps' : List Part = is.done ++ p ∷ [] in
        subst (λ (l : List XetFileInfo). IsMerged ps' start new (infos ++ l) (choices ++ w.cleaned.choices.items) (metrics_of_both metrics w.cleaned.metrics) joined) next.same.0
        (subst (λ (l : List (List Choice)). IsMerged ps' start new (infos ++ p.infos) (choices ++ l) (metrics_of_both metrics w.cleaned.metrics) joined) next.same.1
        (subst (λ (k : DeduplicationMetrics). IsMerged ps' start new (infos ++ p.infos) (choices ++ p.choices) (metrics_of_both metrics k) joined) next.same.2
        (merged_more is.done start now infos choices metrics a is.merged p next.may is.range new joined taken)))

    went_on : IsMerging ps ws start new (infos ++ w.cleaned.infos.items) (choices ++ w.cleaned.choices.items) (metrics_of_both metrics w.cleaned.metrics) joined
    went_on =
        let count : length (files_of (is.done ++ p ∷ [])) ≡ length (files_of is.done) + length p.files = ap length (files_push is.done p) ∙ length-append (files_of is.done) p.files in
        record {
          done = is.done ++ p ∷ [];
          later = next.others;
          order = is.order ∙ ap (λ (qs : List Part). is.done ++ qs) next.is ∙ sym (append_assoc is.done (p ∷ []) next.others);
          may = may_follows now new taken.adds.follows next.others ws next.later;
          room = omega (arith, room_now, count);
          range = subst AreInRange (sym (limits_follow now new taken.adds.follows)) is.range;
          merged = its_merged;
        }

    pub merging_more : (infos' : List XetFileInfo) (choices' : List (List Choice)) (metrics' : DeduplicationMetrics) → infos' ≡ infos ++ w.cleaned.infos.items → choices' ≡ choices ++ w.cleaned.choices.items
        → metrics' ≡ metrics_of_both metrics w.cleaned.metrics → IsMerging ps ws start new infos' choices' metrics' joined
    merging_more infos' choices' metrics' x y z =
        subst (λ (l : List XetFileInfo). IsMerging ps ws start new l choices' metrics' joined) (sym x)
        (subst (λ (l : List (List Choice)). IsMerging ps ws start new (infos ++ w.cleaned.infos.items) l metrics' joined) (sym y)
        (subst (λ (k : DeduplicationMetrics). IsMerging ps ws start new (infos ++ w.cleaned.infos.items) (choices ++ w.cleaned.choices.items) k joined) (sym z) went_on))

-- ---- the end

no_part : {X : Type 0} (xs before after : List X) → [] ≡ before ++ (xs ++ after) → xs ≡ []
no_part [] before after e = refl
no_part (x ∷ xs) [] after e = absurd (cc e)
no_part (x ∷ xs) (b ∷ before) after e = absurd (cc e)

held_last : (last : List (List ℕ × ℕ)) (calls : List Call) (part : List (List ℕ × ℕ)) → IsLater last calls part → AreHeld part (calls ++ close_of last)
held_last last calls part (inl any) = inr (any_left (RegistersPart part) calls (close_of last) any)
held_last [] calls part (inr is) = inl (no_part part is.0 is.1 is.2)
held_last (m ∷ ms) calls part (inr is) = inr (any_last (RegistersPart part) calls _ is)

no_queries : (last : List (List ℕ × ℕ)) → queries_of (close_of last) ≡ 0
no_queries [] = refl
no_queries (m ∷ ms) = refl

module _ (ps : List Part) (start now : Holder) (infos : List XetFileInfo) (choices : List (List Choice)) (metrics : DeduplicationMetrics) (a : Aggregate)
    (m : IsMerged ps start now infos choices metrics a) (new : Holder) (closes : Closes a [] now new) where
  abbrev last : List (List ℕ × ℕ)
  last = map chunk_leaf a.chunks

  closed : Adds (close_of (map chunk_leaf a.chunks)) (filled_files a) (2 * length a.chunks + 2 * length a.files) now new
  closed = adds_closed_last a now new closes

  records_all : EachRecorded ps (recorded_in (m.follows.own ++ closed.follows.own))
  records_all =
      subst (EachRecorded ps)
      (sym (recorded_in-append m.follows.own closed.follows.own ∙ ap (λ (l : List MDBFileInfo). recorded_in m.follows.own ++ l) closed.records))
      (each_filled a ps (recorded_in m.follows.own) m.records)

  merges : MergesAll ps start new infos choices metrics
  unfolding follows_then
  merges =
      let own = m.follows.own in
      let more = closed.follows.own in
      let calls : calls_in (own ++ more) ≡ calls_in own ++ close_of last = calls_in-append own more ∙ ap (λ (l : List Call). calls_in own ++ l) closed.are in
      record {
        follows = follows_then start now new m.follows closed.follows;
        going = closed.going ∙ m.going;
        pointers = m.pointers;
        chosen = m.chosen;
        sums = m.sums;
        records = records_all;
        registered = omega (arith, ap registered_chunks calls, registered_chunks-append (calls_in own) (close_of last), last_chunks last, length-map a.chunks chunk_leaf, m.registered);
        registers = record { before = calls_in own; last = last; is = calls; lands = m.lands };
        held = subst (λ (cs : List Call). AllByRecursion (λ (p : Part). AreHeld (map chunk_leaf p.left.chunks) cs) ps) (sym calls)
            (all_more (λ (p : Part). IsLater last (calls_in own) (map chunk_leaf p.left.chunks)) (λ (p : Part). AreHeld (map chunk_leaf p.left.chunks) (calls_in own ++ close_of last)) ps
            (λ p is. held_last last (calls_in own) (map chunk_leaf p.left.chunks) is) m.held);
        asked = omega (arith, ap queries_of calls, queries_of-append (calls_in own) (close_of last), no_queries last, m.asked);
        few = omega (arith, length-append own more, closed.few, m.few);
      }

pub merges_all : (ps : List Part) (start now : Holder) (infos : List XetFileInfo) (choices : List (List Choice)) (metrics : DeduplicationMetrics) (a : Aggregate)
    → IsMerging ps [] start now infos choices metrics a → (new : Holder) → Closes a [] now new → MergesAll ps start new infos choices metrics
merges_all ps start now infos choices metrics a is new closes =
    let all : ps ≡ is.done = is.order ∙ ap (λ (qs : List Part). is.done ++ qs) (may_none now is.later is.may) ∙ append-nil is.done in
    subst (λ (qs : List Part). MergesAll qs start new infos choices metrics) (sym all) (merges is.done start now infos choices metrics a is.merged new closes)
