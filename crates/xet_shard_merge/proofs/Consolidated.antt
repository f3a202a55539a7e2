-- A consolidation leaves what the valid shards of a folder list.
use Rattle.std.proofs.Common.{◌≡◌, ◌≢◌, ◌∙◌, ◌⊎◌, inl, inr, ℕ, ◌<◌, ◌≤◌, ◌^◌, Bool, not, nat_eq, List, [], ◌∷◌, Any, None, Option, Some, option_map, Ok, flat_map, refl, sym, ap, subst, arith}
use Rattle.std.proofs.lemmas.Bool.{true≢false}
use Rattle.std.specs.Cmp.Lexicographic.{bytes_decides, pointwise}
use Rattle.xet_io.specs.Disk.{entry_at as get}
use Rattle.std.specs.List.{IsAmong, list_any}
use Rattle.xet_hash.specs.Hash.{zero_hash}
use Rattle.xet_io.specs.Disk.{File, Files, bytes_at, file_at, file_of}
use Rattle.xet_io.specs.theorems.Names.{either_name}
use Rattle.xet_shard.specs.Union.{ShardRecords, records_in}
use Rattle.xet_shard_directory.specs.Directories.{all_removed, paths}
use Rattle.xet_shard_directory.specs.Writing.{path_of}
use Rattle.xet_shard_directory.specs.declared.shard_file.MDBShardFile.{MDBShardFile}
use Rattle.xet_shard_merge.specs.Contents.{IsValidShard, ListSame, ListsMore}
use Rattle.xet_shard_merge.specs.Groups.{Group, IsPlain, Offered}
use Rattle.xet_shard_merge.specs.Merging.{AreResults, IsDue, IsHome, IsMerged, IsMergedEncoding, IsPlaced, IsResult, KeepsFiles, KeptOrMerged, MayMerge, Merges, MergesWithin, Offers, obsolete_of, target_of}
use Rattle.xet_shard_merge.specs.Records.{HasRecordsOf, IsTakenInto}
use Rattle.xet_shard_merge.specs.declared.merge.ShardMergeResult.{ShardMergeResult}
use Rattle.xet_shard_merge.specs.internal.Grouping.{IsOnly}
use Rattle.xet_shard_merge.proofs.Among.{among_cons, among_first, among_later, among_left, among_none, among_one, any_among, filter_among, flat_among, map_among}
use Rattle.xet_shard_merge.proofs.Grouped.{groups_have}
use Rattle.xet_shard_merge.proofs.Homes.{IsEither, IsFolder, either_of, offered_at, offered_home, offered_valid, several_in_folder}
use Rattle.xet_shard_merge.proofs.Listing.{AreListed, PartsAreRead, StaysListed, file_is_merged, file_of_merged, list_same, lists_for, lists_more, lists_own, merged_key, merged_lists, merged_records, records_there, result_valid, same_records, shard_key, valid_earlier, valid_same, xorb_is_merged, xorb_of_merged}
use Rattle.xet_shard_merge.proofs.Loading.{no_temp}
use Rattle.xet_shard_merge.proofs.Preserved.{still_there}
use Rattle.xet_shard_merge.proofs.Removed.{among_or_not, gone, spared}

-- ---- groups whose shards are all home

module _ (folder : List ℕ) where
  abbrev AreHome : List MDBShardFile → Type 0
  AreHome taken = (s : MDBShardFile) → IsAmong taken s → IsHome folder s

  form_of : (g : Group) (taken : List MDBShardFile) (bytes : List ℕ) → IsMergedEncoding (record g { taken = taken }) bytes → IsMergedEncoding g bytes
  form_of g taken bytes form = record { shard = form.shard; fits = form.fits; encoding = form.encoding }

  -- only the results of several are due
  due_merged : (files : Files) (g : Group) (bytes : List ℕ) → AreHome g.taken → IsDue files folder g bytes → IsOnly g.taken None × IsMergedEncoding g bytes
  due_merged files g bytes = by g.taken
    where
      by : (taken : List MDBShardFile) → AreHome taken → IsDue files folder (record g { taken = taken }) bytes → IsOnly taken None × IsMergedEncoding g bytes
      by [] home due = absurd due
      by (s ∷ []) home due = absurd (due.0 (home s (among_first s [])))
      by (s ∷ t ∷ more) home due = ((s, t, more, refl), form_of g (s ∷ t ∷ more) bytes due)

  -- a shard whose path is not that of the group's result is one of several
  replaced : (old new : Files) (g : Group) (r t : MDBShardFile) → r.path ≢ t.path → AreHome g.taken → IsAmong g.taken t → IsResult old new folder g r → IsOnly g.taken None × IsMerged new folder g r
  replaced old new g r t apart = by g.taken
    where
      by : (taken : List MDBShardFile) → AreHome taken → IsAmong taken t → IsResult old new folder (record g { taken = taken }) r → IsOnly taken None × IsMerged new folder g r
      by [] home a is = absurd is
      by (s ∷ []) home a (inl (at, same)) = absurd (apart (ap (λ (x : MDBShardFile). x.path) (same ∙ sym (among_one s t a))))
      by (s ∷ []) home a (inr (away, bytes, there, stands)) = absurd (away (home s (among_first s [])))
      by (s ∷ u ∷ more) home a is = ((s, u, more, refl), record { bytes = is.bytes; form = form_of g (s ∷ u ∷ more) is.bytes is.form; stands = is.stands })

  -- the shards of a group are
  all_home : (files : Files) (now : ℕ) (offered : List Offered) → Offers files folder now offered → IsEither folder → (g : Group) → HasRecordsOf offered g → AreHome g.taken
  all_home files now offered offers either g has s a =
      let h = has.taken s a in subst (IsHome folder) (sym h.3) (offered_home files folder now offered offers either h.0 h.2)

  -- each group has a result
  result_among : (old new : Files) (groups : List Group) (results : List MDBShardFile) → AreResults old new folder groups results → (g : Group) → IsAmong groups g
      → (r : MDBShardFile) × IsAmong results r × IsResult old new folder g r
  unfolding AreResults
  result_among old new [] results are g a = absurd (among_none g a)
  result_among old new (h ∷ gs) [] are g a = absurd are
  result_among old new (h ∷ gs) (r ∷ rs) are g a = by (among_cons h gs g a) (λ later. result_among old new gs rs are.1 g later)
    where
      Found : List MDBShardFile → Type 0
      Found rows = (x : MDBShardFile) × IsAmong rows x × IsResult old new folder g x

      by : (g ≡ h) ⊎ IsAmong gs g → (IsAmong gs g → Found rs) → Found (r ∷ rs)
      by (inl same) rest = (r, among_first r rs, subst (λ (x : Group). IsResult old new folder x r) (sym same) are.0)
      by (inr later) rest = let found = rest later in (found.0, among_later r rs found.0 found.1, found.2)

-- a shard whose chunk hashes are not keyed
plain_key : (o : Offered) (records : ShardRecords) → IsPlain o records → shard_key o.file ≡ zero_hash
plain_key o records plain = by (either_name (shard_key o.file) zero_hash)
  where
    by : (shard_key o.file ≡ zero_hash) ⊎ (shard_key o.file ≢ zero_hash) → shard_key o.file ≡ zero_hash
    by (inl same) = same
    by (inr keyed) = absurd (plain.1 keyed)

obsolete_among : (groups : List Group) (results : List MDBShardFile) (t : MDBShardFile) → IsAmong (obsolete_of groups results) t
    → ((g : Group) × IsAmong groups g × IsAmong g.taken t) × ((r : MDBShardFile) → IsAmong results r → r.path ≢ t.path)
obsolete_among groups results t a =
    let found = filter_among (λ (s : MDBShardFile). not (list_any (λ (r : MDBShardFile). pointwise nat_eq r.path s.path) results)) (flat_map (λ (g : Group). g.taken) groups) t a in (
      flat_among (λ (g : Group). g.taken) groups t found.0,
      λ r among same.
          let any = any_among (λ (x : MDBShardFile). pointwise nat_eq x.path t.path) results r among ((bytes_decides r.path t.path).1 same) in
          true≢false (sym found.1 ∙ ap not any),
    )

module _ (parts : PartsAreRead) (folder : List ℕ) (max_size now : ℕ) where
  -- ---- nothing is listed that was not

  module _ (old new : Files) (s : MDBShardFile) (records : ShardRecords) (v : IsValidShard new folder now s records) where
    either : IsEither folder
    either = either_of folder s.shard_hash s.path v.read.0

    module _ (skip : Bool) (may : MayMerge old new folder folder max_size skip now) where
      -- its file has the records of several shards that were offered
      module _ (bytes : List ℕ) (there : bytes_at new s.path ≡ Some bytes) (g : Group) (one : IsAmong may.writes.written g) (due : IsDue old folder g bytes) where
        a : IsAmong may.groups g
        a = subst (λ (gs : List Group). IsAmong gs g) (sym may.writes.first) (among_left may.writes.written may.writes.more g one)

        has : HasRecordsOf may.offered g
        has = groups_have (target_of max_size) may.offered may.groups may.skipped may.grouped g a

        merged : IsOnly g.taken None × IsMergedEncoding g bytes
        merged = due_merged folder old g bytes (all_home folder old now may.offered may.offers either g has) due

        is_folder : IsFolder folder
        is_folder = several_in_folder (target_of max_size) old folder now may.offered may.offers either may.groups may.skipped may.grouped g a merged.0

        their_records : records ≡ merged_records g
        their_records =
            let own : records_in s.shard.metadata bytes ≡ Ok records = records_there folder now s new records bytes v there in
            let lists : records_in s.shard.metadata bytes ≡ Ok (merged_records g) = merged_lists parts g bytes merged.1 new s v.read.1 there in
            cc

        was_valid : (o : Offered) (read : ShardRecords) → IsAmong may.offered o → IsTakenInto o read g → IsValidShard old folder now o.file read
        was_valid o read among is = offered_valid old folder now may.offered may.offers is_folder o read among is.plain.0

        same_key : (o : Offered) (read : ShardRecords) → IsTakenInto o read g → shard_key o.file ≡ shard_key s
        same_key o read is =
            let key : shard_key s ≡ zero_hash = merged_key parts g bytes merged.1 new s v.read.1 there in plain_key o read is.plain ∙ sym key

        of_due : AreListed old folder now (shard_key s) records
        of_due = record {
          xorbs = λ x b.
              let h = has.xorbs x (xorb_of_merged g x (subst (λ (q : ShardRecords). IsAmong q.0 x) their_records b)) in
              record { shard = h.0.file; records = h.1; valid = was_valid h.0 h.1 h.2 h.3; key_is = same_key h.0 h.1 h.3; listed = h.4 };
          files = λ f b.
              let h = has.files f (file_of_merged g f (subst (λ (q : ShardRecords). IsAmong q.1 f) their_records b)) in
              record { shard = h.0.file; records = h.1; valid = was_valid h.0 h.1 h.2 h.3; key_is = same_key h.0 h.1 h.3; listed = h.4 };
        }

      of_entry : (get new s.path ≡ get old s.path) ⊎ ((bytes : List ℕ) × Any (λ g. IsDue old folder g bytes) may.writes.written × IsPlaced new folder bytes s.path) → AreListed old folder now (shard_key s) records
      of_entry (inl same) = lists_own folder now old s records (valid_same folder now s new old records (sym (ap file_of same)) v)
      of_entry (inr (bytes, (k, g, below, at, due), inl (path, there, durable))) = of_due bytes there g (k, (below, sym at)) due
      of_entry (inr (bytes, due, inr temp)) = absurd (no_temp folder s.shard_hash s.path v.read.0 (path_of folder bytes) temp)

    was_listed : (skip : Bool) → KeptOrMerged old new folder folder max_size skip now → AreListed old folder now (shard_key s) records
    was_listed skip (inl same) = lists_own folder now old s records (valid_same folder now s new old records (sym (ap (λ (fs : Files). file_at fs s.path) same)) v)
    was_listed skip (inr may) = of_entry skip may (may.writes.writes s.path)

  -- ---- after an error, where nothing was removed

  kept_listed : (old new : Files) → KeepsFiles old new → (time : ℕ) → StaysListed old new folder time
  kept_listed old new keeps time s records v =
      lists_own folder time new s records (valid_same folder time s old new records (still_there old new keeps s.path v.bytes (no_temp folder s.shard_hash s.path v.read.0) v.there) v)

  pub kept_same : (old new : Files) (skip : Bool) → KeepsFiles old new → KeptOrMerged old new folder folder max_size skip now → ListSame old new folder now
  kept_same old new skip keeps may = list_same folder now old new (kept_listed old new keeps now) (λ s records v. was_listed old new s records v skip may)

  pub kept_more : (old new : Files) → KeepsFiles old new → (time : ℕ) → ListsMore old new folder time
  kept_more old new keeps time = lists_more folder time old new (kept_listed old new keeps time)

  -- ---- where some of the obsolete shards were removed

  module _ (old between : Files) (skip : Bool) (m : ShardMergeResult) (within : MergesWithin old between folder max_size skip now m) (ns : List (List ℕ))
      (some : (name : List ℕ) → IsAmong ns name → IsAmong (paths m.obsolete_shards.items) name) where
    abbrev after : Files
    after = all_removed between ns

    -- a file that was removed is one of a group, and no result's
    record IsGone (name : List ℕ) : Type 0 where
      shard : MDBShardFile
      path : name ≡ shard.path
      group : Group
      among : IsAmong within.merges.groups group
      taken : IsAmong group.taken shard
      apart : (r : MDBShardFile) → IsAmong m.merged_shards.items r → r.path ≢ shard.path

    gone_is : (name : List ℕ) → IsAmong ns name → IsGone name
    gone_is name a =
        let found = map_among (λ (s : MDBShardFile). s.path) m.obsolete_shards.items name (some name a) in
        let obsolete = obsolete_among within.merges.groups m.merged_shards.items found.0 (subst (λ (l : List MDBShardFile). IsAmong l found.0) within.merges.obsolete found.1) in
        record { shard = found.0; path = found.2; group = obsolete.0.0; among = obsolete.0.1; taken = obsolete.0.2; apart = obsolete.1 }

    result_stays : (r : MDBShardFile) → IsAmong m.merged_shards.items r → file_at after r.path ≡ file_at between r.path
    result_stays r among = ap file_of (spared between ns r.path (λ a. let g = gone_is r.path a in g.apart r among g.path))

    -- what a valid shard lists then is listed after too; it was valid at the time of the merge
    module _ (time : ℕ) (later : now ≤ time) (below : time < 2 ^ 64) (s : MDBShardFile) (records : ShardRecords) (v : IsValidShard old folder time s records) where
      -- the result of the group that took it lists its records
      module _ (x : IsGone s.path) where
        abbrev whole : Merges old between folder folder max_size skip now m
        whole = within.merges

        either_one : IsEither folder
        either_one = either_of folder s.shard_hash s.path v.read.0

        has_records : HasRecordsOf whole.offered x.group
        has_records = groups_have (target_of max_size) whole.offered whole.groups m.skipped_shards.items whole.grouped x.group x.among

        result : (r : MDBShardFile) × IsAmong m.merged_shards.items r × IsResult old between folder x.group r
        result = result_among folder old between whole.groups m.merged_shards.items whole.results x.group x.among

        of_several : IsOnly x.group.taken None × IsMerged between folder x.group result.0
        of_several = replaced folder old between x.group result.0 x.shard (x.apart result.0 result.1) (all_home folder old now whole.offered whole.offers either_one x.group has_records) x.taken result.2

        in_folder : IsFolder folder
        in_folder = several_in_folder (target_of max_size) old folder now whole.offered whole.offers either_one whole.groups m.skipped_shards.items whole.grouped x.group x.among of_several.0

        instead : AreListed after folder time (shard_key s) records
        instead =
            let h = has_records.taken x.shard x.taken in
            let same : s ≡ h.0.file = offered_at old folder now whole.offered whole.offers in_folder s v.read h.0 h.2 (x.path ∙ ap (λ (t : MDBShardFile). t.path) h.3) in
            let own : IsValidShard old folder now h.0.file h.1 = offered_valid old folder now whole.offered whole.offers in_folder h.0 h.1 h.2 h.4.plain.0 in
            let read : records ≡ h.1 = same_records folder now s old records h.1 (valid_earlier folder now s time later old records v) (subst (λ (t : MDBShardFile). IsValidShard old folder now t h.1) (sym same) own) in
            let key : shard_key s ≡ zero_hash = ap shard_key same ∙ plain_key h.0 h.1 h.4.plain in
            let made = of_several.1 in
            let valid : IsValidShard between folder time result.0 (merged_records x.group) = result_valid parts x.group made.bytes made.form between folder time below in_folder result.0 made.stands in
            let its_key : shard_key result.0 ≡ zero_hash = merged_key parts x.group made.bytes made.form between result.0 made.stands.value made.stands.there in
            lists_for folder time after result.0 (merged_records x.group) records (shard_key s) (valid_same folder time result.0 between after (merged_records x.group) (result_stays result.0 result.1) valid)
            (its_key ∙ sym key)
            (λ y b. xorb_is_merged x.group y (h.4.xorbs y (subst (λ (q : ShardRecords). IsAmong q.0 y) read b)))
            (λ f b. file_is_merged x.group f (h.4.files f (subst (λ (q : ShardRecords). IsAmong q.1 f) read b)))

      now_listed : IsAmong ns s.path ⊎ (IsAmong ns s.path → ⊥) → AreListed after folder time (shard_key s) records
      now_listed (inl a) = instead (gone_is s.path a)
      now_listed (inr kept) =
          let here : file_at between s.path ≡ file_at old s.path = still_there old between within.keeps s.path v.bytes (no_temp folder s.shard_hash s.path v.read.0) v.there in
          lists_own folder time after s records (valid_same folder time s old after records (ap file_of (spared between ns s.path kept) ∙ here) v)

    stays_listed : (time : ℕ) → now ≤ time → time < 2 ^ 64 → StaysListed old after folder time
    stays_listed time later below s records v = now_listed time later below s records v (among_or_not ns s.path)

    pub removed_more : (time : ℕ) → now ≤ time → time < 2 ^ 64 → ListsMore old after folder time
    removed_more time later below = lists_more folder time old after (stays_listed time later below)

    -- what is there after was there before
    came_from : StaysListed after old folder now
    came_from s records v = by (among_or_not ns s.path)
      where
        by : IsAmong ns s.path ⊎ (IsAmong ns s.path → ⊥) → AreListed old folder now (shard_key s) records
        by (inl a) =
            let absent : file_at after s.path ≡ None = gone between ns s.path a in
            let bad : ◌≡◌ {A = Option (List ℕ)} None (Some v.bytes) = sym (ap (option_map (λ (f : File). f.bytes)) absent) ∙ v.there in
            absurd (cc bad)
        by (inr kept) = was_listed old between s records (valid_same folder now s after between records (sym (ap file_of (spared between ns s.path kept))) v) skip within.writes

    pub removed_same : now < 2 ^ 64 → ListSame old after folder now
    removed_same below = list_same folder now old after (stays_listed now (omega arith) below) came_from
