-- Files in a sound session without collisions: each that has a plan is stored by it.
use Rattle.std.proofs.Common.{◌≡◌, ◌≢◌, inl, inr, ◌∙◌, ℕ, ◌<◌, Bool, true, false, List, [], ◌∷◌, length, Option, Some, None, IsSome, option_map, refl, sym, subst, arith, nat_eq}
use Rattle.std.specs.List.{AllByRecursion}
use Rattle.std.specs.Cmp.Lexicographic.{pointwise}
use Rattle.xet_hash.specs.Hash.{zero_hash}
use Rattle.xet_hash.specs.Merkle.{file_hash, leaves_of}
use Rattle.xet_cut.specs.declared.limits.LimitSettings.{LimitSettings}
use Rattle.xet_store_disk.specs.declared.info.XetFileInfo.{XetFileInfo}
use Rattle.xet_cut.specs.Chunking.{chunking}
use Rattle.xet_shard_format.specs.declared.record.FileDataSequenceEntry.{FileDataSequenceEntry as Segment}
use Rattle.xet_shard_format.specs.declared.record.MDBFileInfo.{MDBFileInfo}
use Rattle.xet_folder.specs.Plan.{Resolves}
use Rattle.xet_folder.specs.Stored.{IsStored}
use Rattle.xet_folder.specs.Xorbs.{FileRecords, found}
use Rattle.xet_store_disk.specs.Store.{State, Sound, plan_of}
use Rattle.xet_store_disk.specs.Separate.{Among, Separate}
use Rattle.xet_store_disk.specs.Cleaning.{HasFile, EachTold, info_of, chunkings}
use Rattle.xet_store_disk.specs.theorems.Whole.{has_file, mapped, same_key}

-- no other file than the empty one has a plan that is not recorded
plan_found : (records : FileRecords) (h : List ℕ) → h ≢ zero_hash → plan_of records h ≡ option_map (λ f. f.segments) (found records h)
unfolding plan_of
plan_found records h d = by_cases (pointwise nat_eq h zero_hash) refl
  where
    by_cases : (b : Bool) → pointwise nat_eq h zero_hash ≡ b → plan_of records h ≡ option_map (λ f. f.segments) (found records h)
    by_cases true t = absurd (d (same_key h zero_hash t))
    by_cases false t = rw (t, plan_of) refl

-- what is recorded has a plan
pub plan_some : (records : FileRecords) (h : List ℕ) → IsSome (found records h) → IsSome (plan_of records h)
unfolding plan_of
plan_some records h is = by_cases (pointwise nat_eq h zero_hash) refl
  where
    some : (o : Option MDBFileInfo) → IsSome o → IsSome (option_map (λ f. f.segments) o)
    some None bad = absurd (cc bad)
    some (Some f) ok = refl

    by_cases : (b : Bool) → pointwise nat_eq h zero_hash ≡ b → IsSome (plan_of records h)
    by_cases true t = rw (t, plan_of) refl
    by_cases false t = rw (t, plan_of) (some (found records h) is)

-- and so has the empty file
pub plan_empty : (records : FileRecords) → IsSome (plan_of records zero_hash)
unfolding plan_of
plan_empty records = refl

taken : {X : Type 0} (o : Option X) → IsSome o → (x : X) × (o ≡ Some x)
taken None h = absurd (cc h)
taken (Some x) h = (x, refl)

-- a file that is recorded
pub recorded_file : (s : State) (files : List (List (List ℕ))) (chunks : List (List ℕ)) → Sound s → s.tells ≡ true → Separate s files → Among files chunks
    → IsSome (plan_of s.records (file_hash (leaves_of chunks))) → HasFile s chunks
unfolding plan_of
recorded_file s files [] sound tells apart given there = ([], refl, refl)
recorded_file s files (b ∷ bs) sound tells apart given there =
    let some : 0 < length (b ∷ bs) = omega arith in
    let h = file_hash (leaves_of (b ∷ bs)) in
    let d : h ≢ zero_hash = apart.lists.not_zero (leaves_of (b ∷ bs)) (inr (b ∷ bs, given, some, refl)) in
    let p = taken (plan_of s.records h) there in
    let r = mapped (λ (f : MDBFileInfo). f.segments) (found s.records h) p.0 (sym (plan_found s.records h d) ∙ p.1) in
    (p.0, p.1, subst (λ (plan : List Segment). Resolves (IsStored s.files s.folder) length plan (b ∷ bs)) r.2 (has_file s files (b ∷ bs) r.0 sound tells apart given some r.1))

-- what is told of each source, weaker
pub told_more : {S X : Type 0} (tells : S → Bool) (left : S → List ℕ) (P Q : List ℕ → X → Type 0) → ((bytes : List ℕ) (x : X) → P bytes x → Q bytes x) → (sources : List S) (xs : List X) → EachTold tells left P sources xs
    → EachTold tells left Q sources xs
told_more tells left P Q weaker [] [] each = tt
told_more tells left P Q weaker [] (x ∷ xs) each = absurd each
told_more tells left P Q weaker (s ∷ ss) [] each = absurd each
told_more tells left P Q weaker (s ∷ ss) (x ∷ xs) each = ((λ told. weaker (left s) x (each.0 told)), told_more tells left P Q weaker ss xs each.1)

-- each source's file
pub files_all : {S : Type 0} (tells : S → Bool) (left : S → List ℕ) (limits : LimitSettings) (s : State) (files : List (List (List ℕ))) → Sound s → s.tells ≡ true → Separate s files
    → (sources : List S) (infos : List XetFileInfo) → AllByRecursion (λ source. tells source ≡ true) sources → ((c : List (List ℕ)) → Among (chunkings left limits sources) c → Among files c)
    → EachTold tells left (λ bytes info. info.hash ≡ (info_of limits bytes).hash) sources infos → AllByRecursion (λ info. IsSome (plan_of s.records info.hash)) infos
    → AllByRecursion (HasFile s) (chunkings left limits sources)
files_all tells left limits s files sound told apart [] infos all given each there = tt
files_all tells left limits s files sound told apart (x ∷ xs) [] all given each there = absurd each
files_all tells left limits s files sound told apart (x ∷ xs) (i ∷ is) all given each there =
    let same : i.hash ≡ (info_of limits (left x)).hash = each.0 all.0 in
    let one : IsSome (plan_of s.records (file_hash (leaves_of (chunking limits (left x))))) = subst (λ (h : List ℕ). IsSome (plan_of s.records h)) same there.0 in
    (recorded_file s files (chunking limits (left x)) sound told apart (given (chunking limits (left x)) (inl refl)) one, files_all tells left limits s files sound told apart xs is all.1 (λ c a. given c (inr a)) each.1 there.1)
