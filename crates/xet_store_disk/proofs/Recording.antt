-- A file more.
use Rattle.std.proofs.Common.{◌≡◌, ◌≢◌, ◌⊎◌, inl, inr, ◌∙◌, ℕ, ◌<◌, ◌^◌, length, map, append_assoc, Option, IsSome, Bool, true, false, not, List, [], ◌∷◌, ◌++◌, Some, None, is_some, if◌then◌else◌, refl, sym, ap, subst, nat_eq}
use Rattle.std.specs.Cmp.Lexicographic.{bytes_decides, pointwise}
use Rattle.std.specs.List.{AllByRecursion, IsAmong}
use Rattle.std.proofs.lemmas.List.{append-nil, map-append}
use Rattle.xet_shard_format.specs.declared.record.FileDataSequenceEntry.{FileDataSequenceEntry as Segment}
use Rattle.xet_shard_format.specs.declared.record.MDBFileInfo.{MDBFileInfo}
use Rattle.xet_shard.specs.Held.{Held, IsHeld, held as the_held, with_last}
use Rattle.xet_shard_format.specs.Records.{file_record_hash}
use Rattle.xet_shard.specs.theorems.Holding.{all_last}
use Rattle.xet_base.specs.theorems.Elements.{all_both, all_push, all_more}
use Rattle.xet_hash.specs.Merkle.{total_len}
use Rattle.xet_folder.specs.Contents.{IsRecord}
use Rattle.xet_folder.specs.Plan.{Resolves}
use Rattle.xet_folder.specs.Xorbs.{IsListed, FileRecords, Xorbs, found}
use Rattle.xet_folder.specs.theorems.Tables.{found_either, found_here, found_kept}
use Rattle.xet_store_disk.specs.Cleaning.{Adds, Keeps}
use Rattle.xet_dedup.specs.Records.{file_record, range_hashes}
use Rattle.xet_store_disk.proofs.Pending.{file_form, record_form}
use Rattle.xet_store_disk.specs.Store.{State, IsKept, IsNewFile, IsPendingFile, Sound}
use Rattle.xet_store_disk.specs.Tables.{tables, tables_of, with_record}
use Rattle.xet_store_disk.specs.theorems.Rows.{among_filter, among_last, among_more, apart_found, from_among, is_some_found, to_among}
use Rattle.xet_store_disk.proofs.Rows.{Lacks, absent_first, absent_rest, differ_more, differ_none, differ_then, found_later, found_more}
use Rattle.xet_store_disk.specs.theorems.Staying.{changed, keeps_at, keeps_changed, found_nowhere, same_change, stays_same}
use Rattle.xet_store_disk.specs.theorems.Whole.{found_has}

differ : (a b : List ℕ) → a ≢ b → not (pointwise nat_eq a b) ≡ true
differ a b unequal = go (pointwise nat_eq a b) refl
  where
    go : (t : Bool) → pointwise nat_eq a b ≡ t → not t ≡ true
    go true e = absurd (unequal ((bytes_decides a b).0 e))
    go false e = refl

module _ (s : State) (f : MDBFileInfo) where
  abbrev recorded_too : FileRecords
  recorded_too = s.records ++ (file_record_hash f, f) ∷ []

  abbrev pending_too : Held
  pending_too = record { blocks = s.pending.blocks; files = with_last file_record_hash s.pending.files f }

  abbrev pub with_file : State
  with_file = changed s s.tells s.files s.faults s.xorbs recorded_too s.shards pending_too

  pub keeps_recorded : Keeps s with_file
  keeps_recorded =
      keeps_changed s s.tells s.files s.faults (stays_same s) s.xorbs recorded_too ((file_record_hash f, f) ∷ []) s.shards [] pending_too (λ h ms l. l) (λ told h none is. found_nowhere (found s.xorbs h) none is) (λ told. tt) refl (sym (append-nil s.shards))

  module _ (none : found s.records (file_record_hash f) ≡ None) where
    -- a record of another file that is pending stays pending
    still : (g : MDBFileInfo) → file_record_hash g ≢ file_record_hash f → IsAmong s.pending.files g → IsAmong pending_too.files g
    still g apart is =
        from_among (with_last file_record_hash s.pending.files f) g (among_more _ (f ∷ []) g
        (among_filter _ s.pending.files g (differ (file_record_hash g) (file_record_hash f) apart) (to_among s.pending.files g is)))

    kept_recorded : Sound s → (h : List ℕ) (g : MDBFileInfo) → (found s.records h ≡ Some g) ⊎ ((file_record_hash f ≡ h) × (f ≡ g))
        → IsAmong pending_too.files g ⊎ (s.tells ≡ true → IsKept s.files s.folder s.opened s.shards g)
    kept_recorded sound h g (inl e) = go (sound.kept h g e)
      where
        named : file_record_hash g ≡ h
        named = (found_has (IsRecord s.xorbs) s.records h g sound.recorded e).named

        other : file_record_hash g ≢ file_record_hash f
        other same = apart_found s.records (file_record_hash f) h none (is_some_found s.records h g e) (sym named ∙ same)

        go : IsAmong s.pending.files g ⊎ (s.tells ≡ true → IsKept s.files s.folder s.opened s.shards g) → IsAmong pending_too.files g ⊎ (s.tells ≡ true → IsKept s.files s.folder s.opened s.shards g)
        go (inl is) = inl (still g other is)
        go (inr k) = inr k
    kept_recorded sound h g (inr p) = inl (subst (λ (x : MDBFileInfo). IsAmong pending_too.files x) p.1 (from_among (with_last file_record_hash s.pending.files f) f (among_last _ f)))

    pub sound_recorded : Sound s → IsNewFile s.xorbs f → IsHeld pending_too → Sound with_file
    sound_recorded sound new held = record {
      backed = sound.backed;
      recorded = all_push _ s.records (file_record_hash f, f) sound.recorded
          (record { named = refl; leaves = new.leaves; resolves = new.resolves; hash = new.hash; some = new.some; bound = new.bound });
      kept = λ h g e. kept_recorded sound h g (found_either s.records (file_record_hash f) h f g e);
      held = held;
      blocks = sound.blocks;
      pending_files = all_last (IsPendingFile s.xorbs recorded_too) file_record_hash s.pending.files f
          (all_more (IsPendingFile s.xorbs s.records) (IsPendingFile s.xorbs recorded_too) s.pending.files
          (λ g is. record { recorded = found_kept s.records ((file_record_hash f, f) ∷ []) (file_record_hash g) g is.recorded; leaves = is.leaves; resolves = is.resolves; form = is.form }) sound.pending_files)
          (record { recorded = found_here s.records (file_record_hash f) f none; leaves = new.leaves; resolves = new.resolves; form = record_form new.leaves f new.form new.hash new.ranges });
      admitted = sound.admitted;
      hashes = sound.hashes;
      shards_hashes = sound.shards_hashes;
      xorbs_differ = sound.xorbs_differ;
      records_differ = differ_more s.records (file_record_hash f) f none sound.records_differ;
    }

    pub adds_one : Adds s.records recorded_too (file_record_hash f ∷ [])
    adds_one =
        ((file_record_hash f, f) ∷ [], refl, differ_more [] (file_record_hash f) f refl differ_none, ((none, is_some_found ((file_record_hash f, f) ∷ []) (file_record_hash f) f (found_here [] (file_record_hash f) f refl)), tt))

-- the same of lists by other names
module _ (s : State) (f : MDBFileInfo) (sound : Sound s) (none : found s.records (file_record_hash f) ≡ None) {records : FileRecords} {pending : Held}
    (recorded : records ≡ s.records ++ (file_record_hash f, f) ∷ []) (held : pending ≡ record { blocks = s.pending.blocks; files = with_last file_record_hash s.pending.files f }) where
  same_recorded : with_file s f ≡ changed s s.tells s.files s.faults s.xorbs records s.shards pending
  same_recorded = same_change s s.tells s.files s.faults refl recorded refl held

  pub keeps_recorded_at : (t : State) → s ≡ t → Keeps t (changed s s.tells s.files s.faults s.xorbs records s.shards pending)
  keeps_recorded_at t e = keeps_at s t (changed s s.tells s.files s.faults s.xorbs records s.shards pending) e (subst (λ (n : State). Keeps s n) same_recorded (keeps_recorded s f))

  pub sound_recorded_at : IsNewFile s.xorbs f → IsHeld pending → Sound (changed s s.tells s.files s.faults s.xorbs records s.shards pending)
  sound_recorded_at new held_form = subst Sound same_recorded (sound_recorded s f none sound new (subst IsHeld held held_form))

  pub adds_at : (t : State) → s ≡ t → Adds t.records records (file_record_hash f ∷ [])
  adds_at t e = subst (λ (o : State). Adds o.records records (file_record_hash f ∷ [])) e (subst (λ (r : FileRecords). Adds s.records r (file_record_hash f ∷ [])) (sym recorded) (adds_one s f none))

  -- the tables
  pub recorded_tables : (t : State) → s ≡ t → tables s.xorbs records pending ≡ with_record (tables_of t) f
  recorded_tables t e =
      (λ i. tables s.xorbs (recorded i) (held i)) ∙ sym (ap (λ (o : Option MDBFileInfo). if is_some o then tables_of s else tables s.xorbs (s.records ++ (file_record_hash f, f) ∷ []) (the_held s.pending.blocks (with_last file_record_hash s.pending.files f))) none)
      ∙ ap (λ (x : State). with_record (tables_of x) f) e

-- where it is recorded
pub record_kept : (s t : State) → Sound s → s ≡ t → (f : MDBFileInfo) (h : List ℕ) → h ≡ file_record_hash f → is_some (found s.records h) ≡ true → tables_of t ≡ with_record (tables_of t) f
record_kept s t sound e f h same there =
    let is : is_some (found t.records (file_record_hash f)) ≡ true = ap (λ (x : State). is_some (found x.records (file_record_hash f))) (sym e) ∙ ap (λ (k : List ℕ). is_some (found s.records k)) (sym same) ∙ there in
    sym (ap (λ (b : Bool). if b then tables_of t else tables t.xorbs (t.records ++ (file_record_hash f, f) ∷ []) (the_held t.pending.blocks (with_last file_record_hash t.pending.files f))) is)

-- a record as it is made of a plan that resolves to its leaves
pub new_file : (xorbs : Xorbs) (ms : List (List ℕ × ℕ)) (plan : List Segment) (sha256 : Option (List ℕ)) (f : MDBFileInfo) → f ≡ file_record ms plan sha256 → Resolves (IsListed xorbs) (λ m. m.1) plan ms
    → AllByRecursion (λ s. s.xorb_flags ≡ 0) plan → 0 < length ms → total_len ms < 2 ^ 64 → IsNewFile xorbs f
new_file xorbs ms plan sha256 f exact resolves plain some bound =
    let same : plan ≡ f.segments = sym (ap (λ (g : MDBFileInfo). g.segments) exact) in record {
      leaves = ms;
      resolves = subst (λ (p : List Segment). Resolves (IsListed xorbs) (λ m. m.1) p ms) same resolves;
      form = file_form ms f (record { sha256 = sha256; is = exact ∙ ap (λ (p : List Segment). file_record ms p sha256) same }) (subst (AllByRecursion (λ (s : Segment). s.xorb_flags ≡ 0)) same plain);
      hash = sym (ap (λ (g : MDBFileInfo). file_record_hash g) exact);
      ranges = inr (ap (λ (g : MDBFileInfo). g.verification) exact ∙ ap (λ (p : List Segment). range_hashes p ms) same);
      some = some;
      bound = bound;
    }

-- no record more
pub adds_nothing : (rs : FileRecords) (h : List ℕ) → Adds rs rs (h ∷ [])
adds_nothing rs h = ([], sym (append-nil rs), differ_none, tt)

-- ---- records added in two steps

abbrev IsNew : FileRecords → List (List ℕ) → List ℕ × MDBFileInfo → Type 0
IsNew old hashes r = (found old r.0 ≡ None) × IsSome (found (map (λ h. (h, r.1)) hashes) r.0)

new_first : (old : FileRecords) (hashes more : List (List ℕ)) (added : FileRecords) → AllByRecursion (IsNew old hashes) added → AllByRecursion (IsNew old (hashes ++ more)) added
new_first old hashes more [] all = tt
new_first old hashes more (r ∷ added) all =
    let there : IsSome (found (map (λ h. (h, r.1)) (hashes ++ more)) r.0) =
    subst (λ (l : FileRecords). IsSome (found l r.0)) (sym (map-append (λ (h : List ℕ). (h, r.1)) hashes more)) (found_more (map (λ h. (h, r.1)) hashes) (map (λ h. (h, r.1)) more) r.0 all.0.1) in
    ((all.0.0, there), new_first old hashes more added all.1)

new_then : (old first : FileRecords) (hashes more : List (List ℕ)) (added : FileRecords) → AllByRecursion (IsNew (old ++ first) more) added → AllByRecursion (IsNew old (hashes ++ more)) added
new_then old first hashes more [] all = tt
new_then old first hashes more (r ∷ added) all =
    let there : IsSome (found (map (λ h. (h, r.1)) (hashes ++ more)) r.0) =
    subst (λ (l : FileRecords). IsSome (found l r.0)) (sym (map-append (λ (h : List ℕ). (h, r.1)) hashes more)) (found_later (map (λ h. (h, r.1)) hashes) (map (λ h. (h, r.1)) more) r.0 all.0.1) in
    ((absent_first old first r.0 all.0.0, there), new_then old first hashes more added all.1)

lacks_first : (old first : FileRecords) (more : List (List ℕ)) (added : FileRecords) → AllByRecursion (IsNew (old ++ first) more) added → AllByRecursion (Lacks first) added
lacks_first old first more [] all = tt
lacks_first old first more (r ∷ added) all = (absent_rest old first r.0 all.0.0, lacks_first old first more added all.1)

pub adds_then : (old mid new : FileRecords) (hashes more : List (List ℕ)) → Adds old mid hashes → Adds mid new more → Adds old new (hashes ++ more)
adds_then old mid new hashes more (first, is_first, differ_first, new_rows) (rest, is_rest, differ_rest, next_rows) =
    let next : AllByRecursion (IsNew (old ++ first) more) rest = subst (λ (m : FileRecords). AllByRecursion (IsNew m more) rest) is_first next_rows in (
      first ++ rest,
      is_rest ∙ ap (λ (l : FileRecords). l ++ rest) is_first ∙ append_assoc old first rest,
      differ_then first rest differ_first differ_rest (lacks_first old first more rest next),
      all_both (IsNew old (hashes ++ more)) first rest (new_first old hashes more first new_rows) (new_then old first hashes more rest next),
    )
