-- What was made of parts of the sources: their records, in order, and which of them may be merged.
use Rattle.std.proofs.Common.{◌≡◌, ◌∙◌, ◌⊎◌, inl, inr, ℕ, suc, ◌+◌, ◌*◌, List, [], ◌∷◌, ◌++◌, drop, length, map, refl, sym, ap, subst, append_assoc, arith}
use Rattle.std.proofs.lemmas.List.{append-nil, drop_at, map-append}
use Rattle.std.proofs.lemmas.List.Concat.{flat_map-append}
use Rattle.std.proofs.lemmas.List.Sums.{sum_by-cons}
use Rattle.std.proofs.lemmas.Simd.{map-map}
use Rattle.std.specs.List.{AllByRecursion, sum_by}
use Rattle.std.specs.Prelude.{Any}
use Rattle.xet_aggregate.specs.Aggregate.{Aggregate, Pending, filled, shifted, shifted_file}
use Rattle.xet_base.specs.theorems.Elements.{all_back, all_both, all_more}
use Rattle.xet_hash.specs.Merkle.{xorb_hash}
use Rattle.xet_history.specs.declared.entry.Entry.{Entry}
use Rattle.xet_shard_format.specs.declared.record.MDBFileInfo.{MDBFileInfo}
use Rattle.xet_store.specs.Holders.{Follows, Holder}
use Rattle.xet_xorb_chunk.specs.Chunks.{chunk_leaf}
use Rattle.xet_xorb_chunk.specs.declared.chunk.Chunk.{Chunk}
use Rattle.xet_clean.specs.Closing.{filled_files, recorded_in}
use Rattle.xet_clean.specs.Merging.{EachRecorded, HasSeen, IsPartOf, MayMerge, MayMergeAll, Part, files_of, own_of}
use Rattle.xet_clean.specs.Working.{AreRecorded, BeginsWithRecord, IsRecordOf, IsWorking, Planned, Waits}
use Rattle.xet_clean.specs.declared.working.Working.{Working}
use Rattle.xet_clean.specs.theorems.InOrder.{recorded_changed_after}
use Rattle.xet_clean.specs.theorems.Keeping.{any_left, any_right, own_follows, seen_follows, seen_then, waits_seen}
use Rattle.xet_clean.specs.theorems.Records.{filled_of, shifted_of, waits_among_earlier, waits_later}
use Rattle.xet_clean.specs.theorems.Rising.{flat_push}

-- ---- the files of one more part, and of more parts

pub files_push : (ps : List Part) (p : Part) → files_of (ps ++ p ∷ []) ≡ files_of ps ++ p.files
files_push ps p = flat_push (λ (q : Part). q.files) ps p

pub files_append : (ps qs : List Part) → files_of (ps ++ qs) ≡ files_of ps ++ files_of qs
files_append ps qs = flat_map-append (λ (q : Part). q.files) ps qs

-- ---- the records of each part

pub each_push : (ps : List Part) (p : Part) (rs ss : List MDBFileInfo) → EachRecorded ps rs → AreRecorded p.files (recorded_in (own_of p) ++ ss) → EachRecorded (ps ++ p ∷ []) (rs ++ ss)
each_push [] p rs ss none here = subst (λ (l : List MDBFileInfo). EachRecorded (p ∷ []) (l ++ ss)) (sym none) (ss, [], sym (append-nil ss), here, refl)
each_push (q ∷ ps) p rs ss all here =
    (all.0, all.1 ++ ss, ap (λ (l : List MDBFileInfo). l ++ ss) all.2 ∙ append_assoc all.0 all.1 ss, all.3, each_push ps p all.1 ss all.4 here)

-- two ways to cut one list
abbrev Cuts : {X : Type 0} → List X → List X → List X → List X → Type 0
Cuts {X} xs rs ys ss = ((mid : List X) × (xs ≡ ys ++ mid) × (ss ≡ mid ++ rs)) ⊎ ((mid : List X) × (ys ≡ xs ++ mid) × (rs ≡ mid ++ ss))

cuts_more : {X : Type 0} (x y : X) (xs rs ys ss : List X) → x ≡ y → Cuts xs rs ys ss → Cuts (x ∷ xs) rs (y ∷ ys) ss
cuts_more x y xs rs ys ss same (inl c) = inl (c.0, (λ i. same i ∷ c.1 i), c.2)
cuts_more x y xs rs ys ss same (inr c) = inr (c.0, (λ i. sym same i ∷ c.1 i), c.2)

cuts : {X : Type 0} (xs rs ys ss : List X) → xs ++ rs ≡ ys ++ ss → Cuts xs rs ys ss
cuts [] rs ys ss e = inr (ys, refl, e)
cuts (x ∷ xs) rs [] ss e = inl (x ∷ xs, refl, sym e)
cuts (x ∷ xs) rs (y ∷ ys) ss e =
    let first : x ≡ y = cc in
    let rest : xs ++ rs ≡ ys ++ ss = cc in
    cuts_more x y xs rs ys ss first (cuts xs rs ys ss rest)

-- the last records change, but stay those of their files
module _ (h : MDBFileInfo → MDBFileInfo) (stays : (f : Planned) (r : MDBFileInfo) → IsRecordOf f r → IsRecordOf f (h r)) where
  none_changed : (xs rs : List MDBFileInfo) → xs ++ rs ≡ [] → xs ++ map h rs ≡ []
  none_changed [] [] e = refl
  none_changed [] (r ∷ rs) e = absurd (cc e)
  none_changed (x ∷ xs) rs e = absurd (cc e)

  -- of one part, and then of those after it
  one_changed : (p : Part) (ps : List Part) (xs rs first rest : List MDBFileInfo) → AreRecorded p.files (recorded_in (own_of p) ++ first) → EachRecorded ps rest
      → ((ys ss : List MDBFileInfo) → EachRecorded ps (ys ++ ss) → EachRecorded ps (ys ++ map h ss)) → Cuts xs rs first rest → EachRecorded (p ∷ ps) (xs ++ map h rs)
  one_changed p ps xs rs first rest here later more (inl c) = (
    first,
    c.0 ++ map h rs,
    ap (λ (l : List MDBFileInfo). l ++ map h rs) c.1 ∙ append_assoc first c.0 (map h rs),
    here,
    more c.0 rs (subst (EachRecorded ps) c.2 later),
  )
  one_changed p ps xs rs first rest here later more (inr c) =
      let own : List MDBFileInfo = recorded_in (own_of p) in (
        xs ++ map h c.0,
        map h rest,
        ap (λ (l : List MDBFileInfo). xs ++ map h l) c.2 ∙ ap (λ (l : List MDBFileInfo). xs ++ l) (map-append h c.0 rest) ∙ sym (append_assoc xs (map h c.0) (map h rest)),
        subst (AreRecorded p.files) (append_assoc own xs (map h c.0))
            (recorded_changed_after h stays p.files (own ++ xs) c.0
            (subst (AreRecorded p.files) (ap (λ (l : List MDBFileInfo). own ++ l) c.1 ∙ sym (append_assoc own xs c.0)) here)),
        more [] rest later,
      )

  each_changed_after : (ps : List Part) (xs rs : List MDBFileInfo) → EachRecorded ps (xs ++ rs) → EachRecorded ps (xs ++ map h rs)
  each_changed_after [] xs rs none = none_changed xs rs none
  each_changed_after (p ∷ ps) xs rs all = one_changed p ps xs rs all.0 all.1 all.3 all.4 (λ ys ss a. each_changed_after ps ys ss a) (cuts xs rs all.0 all.1 all.2)

-- the records that waited, with the hash of their xorb
pub each_filled : (a : Aggregate) (ps : List Part) (earlier : List MDBFileInfo) → EachRecorded ps (earlier ++ map (λ f. f.0) a.files) → EachRecorded ps (earlier ++ filled_files a)
each_filled a ps earlier all =
    let hash : List ℕ = xorb_hash (map chunk_leaf a.chunks) in
    subst (λ (l : List MDBFileInfo). EachRecorded ps (earlier ++ l)) (map-map (filled hash) (λ (f : Pending). f.0) a.files)
    (each_changed_after (filled hash) (filled_of hash) ps earlier (map (λ (f : Pending). f.0) a.files) all)

-- ---- each record is that of a file of one of the parts

begins_each : (f : Planned) (fs : List Planned) → ((rs : List MDBFileInfo) → AreRecorded fs rs → AllByRecursion (λ r. Any (λ g. IsRecordOf g r) fs) rs) → (bytes : List ℕ) (rs : List MDBFileInfo)
    → BeginsWithRecord bytes (IsRecordOf f) (λ l. AreRecorded fs l) rs → AllByRecursion (λ r. Any (λ g. IsRecordOf g r) (f ∷ fs)) rs
begins_each f fs each bytes rs all = go bytes rs all
  where
    later : (rs : List MDBFileInfo) → AllByRecursion (λ r. Any (λ g. IsRecordOf g r) fs) rs → AllByRecursion (λ r. Any (λ g. IsRecordOf g r) (f ∷ fs)) rs
    later rs = all_more (λ r. Any (λ g. IsRecordOf g r) fs) (λ r. Any (λ g. IsRecordOf g r) (f ∷ fs)) rs (λ r any. (suc any.0, any.1, omega (arith, any.2), any.3, any.4))

    go : (bytes : List ℕ) (rs : List MDBFileInfo) → BeginsWithRecord bytes (IsRecordOf f) (λ l. AreRecorded fs l) rs → AllByRecursion (λ r. Any (λ g. IsRecordOf g r) (f ∷ fs)) rs
    go [] rs a = later rs (each rs a)
    go (b ∷ bs) [] a = absurd a
    go (b ∷ bs) (r ∷ rs) a = ((0, f, omega arith, refl, a.0), later rs (each rs a.1))

each_of : (fs : List Planned) (rs : List MDBFileInfo) → AreRecorded fs rs → AllByRecursion (λ r. Any (λ g. IsRecordOf g r) fs) rs
each_of [] rs none = subst (AllByRecursion (λ r. Any (λ g. IsRecordOf g r) [])) (sym none) tt
each_of (f ∷ fs) rs all = begins_each f fs (λ l a. each_of fs l a) f.bytes rs all

pub each_one : (ps : List Part) (rs : List MDBFileInfo) → EachRecorded ps rs → AllByRecursion (λ r. Any (λ f. IsRecordOf f r) (files_of ps)) rs
each_one [] rs none = subst (AllByRecursion (λ r. Any (λ f. IsRecordOf f r) (files_of []))) (sym none) tt
each_one (p ∷ ps) rs (first, rest, is, here, more) =
    let all : MDBFileInfo → Type 0 = λ r. Any (λ f. IsRecordOf f r) (p.files ++ files_of ps) in
    let own : List MDBFileInfo = recorded_in (own_of p) in
    subst (AllByRecursion all) (sym is)
    (all_both all first rest
    (all_more (λ r. Any (λ f. IsRecordOf f r) p.files) all first (λ r any. any_left (λ f. IsRecordOf f r) p.files (files_of ps) any)
    (all_back (λ r. Any (λ f. IsRecordOf f r) p.files) own first (each_of p.files (own ++ first) here)))
    (all_more (λ r. Any (λ f. IsRecordOf f r) (files_of ps)) all rest (λ r any. any_right (λ f. IsRecordOf f r) p.files (files_of ps) any) (each_one ps rest more)))

-- ---- records that wait after other chunks

pub shifted_records : (n : ℕ) (files : List Pending) → map (shifted n) (map (λ f. f.0) files) ≡ map (λ f. f.0) (map (shifted_file n) files)
shifted_records n [] = refl
shifted_records n (f ∷ files) = ap (λ (l : List MDBFileInfo). shifted n f.0 ∷ l) (shifted_records n files)

pub shifted_waits : (now : Holder) (first block : List Chunk) (planned : List Planned) (files : List Pending) → AllByRecursion (λ f. Waits now block planned f.0) files
    → AllByRecursion (λ f. Waits now (first ++ block) planned f.0) (map (shifted_file (length first)) files)
shifted_waits now first block planned [] all = tt
shifted_waits now first block planned (f ∷ files) all = (waits_later now first block planned f.0 all.0, shifted_waits now first block planned files all.1)

-- ---- one part

module _ (p : Part) (w : IsWorking p.start p.end p.files p.infos p.choices p.metrics p.left) where
  own_is : own_of p ≡ w.follows.own
  own_is = ap (drop (length p.start.own)) (own_follows p.start p.end w.follows) ∙ drop_at p.start.own w.follows.own (length p.start.own) refl

  -- its records were made or wait
  pub part_records : AreRecorded p.files (recorded_in (own_of p) ++ map (λ f. f.0) p.left.files)
  part_records = subst (λ (own : List (ℕ × Entry)). AreRecorded p.files (recorded_in own ++ map (λ f. f.0) p.left.files)) (sym own_is) w.records

  -- or wait after other chunks
  pub part_shifted : (n : ℕ) → AreRecorded p.files (recorded_in (own_of p) ++ map (λ f. f.0) (map (shifted_file n) p.left.files))
  part_shifted n =
      subst (λ (l : List MDBFileInfo). AreRecorded p.files (recorded_in (own_of p) ++ l)) (shifted_records n p.left.files)
      (recorded_changed_after (shifted n) (shifted_of n) p.files (recorded_in (own_of p)) (map (λ f. f.0) p.left.files) part_records)

  -- another maker of steps, which has seen as much
  pub part_waits : (h : Holder) (before : List Planned) → HasSeen p.end h → AllByRecursion (λ f. Waits h p.left.chunks (before ++ p.files) f.0) p.left.files
  part_waits h before seen = go p.left.files w.waits
    where
      go : (files : List Pending) → AllByRecursion (λ f. Waits p.end p.left.chunks p.files f.0) files → AllByRecursion (λ f. Waits h p.left.chunks (before ++ p.files) f.0) files
      go [] all = tt
      go (f ∷ files) all = (waits_among_earlier h p.left.chunks before p.files f.0 (waits_seen p.end h seen p.left.chunks p.files f.0 all.0), go files all.1)

-- ---- those that may be merged

pub may_follows : (now new : Holder) → Follows now new → (ps : List Part) (ws : List Working) → MayMergeAll now ps ws → MayMergeAll new ps ws
may_follows now new f [] [] all = tt
may_follows now new f [] (w ∷ ws) all = absurd all
may_follows now new f (p ∷ ps) [] all = absurd all
may_follows now new f (p ∷ ps) (w ∷ ws) all = (all.0, record { working = all.1.working; seen = seen_then p.end now new all.1.seen (seen_follows now new f) }, may_follows now new f ps ws all.2)

pub may_none : (now : Holder) (ps : List Part) → MayMergeAll now ps [] → ps ≡ []
may_none now [] all = refl
may_none now (p ∷ ps) all = absurd all

-- at most so many entries are added when it is closed
abbrev pub most_of : Aggregate → ℕ
most_of a = 2 * length a.chunks + 2 * length a.files

-- as many for the parts as for what workers have
pub may_count : (now : Holder) (ps : List Part) (ws : List Working) → MayMergeAll now ps ws → sum_by (λ p. most_of p.left) ps ≡ sum_by (λ w. most_of w.aggregate) ws
may_count now [] [] all = refl
may_count now [] (w ∷ ws) all = absurd all
may_count now (p ∷ ps) [] all = absurd all
may_count now (p ∷ ps) (w ∷ ws) all =
    omega (arith, ap most_of all.0.3, may_count now ps ws all.2, sum_by-cons (λ (q : Part). most_of q.left) p ps, sum_by-cons (λ (v : Working). most_of v.aggregate) w ws)

-- the next of them
pub record IsNext (now : Holder) (ps : List Part) (w : Working) (ws : List Working) : Type 0 where
  pub part : Part
  pub others : List Part
  pub is : ps ≡ part ∷ others
  pub same : IsPartOf part w
  pub may : MayMerge now part
  pub later : MayMergeAll now others ws

pub may_next : (now : Holder) (ps : List Part) (w : Working) (ws : List Working) → MayMergeAll now ps (w ∷ ws) → IsNext now ps w ws
may_next now [] w ws all = absurd all
may_next now (p ∷ ps) w ws all = record { part = p; others = ps; is = refl; same = all.0; may = all.1; later = all.2 }
