-- Records of files, in order.
use Rattle.std.proofs.Common.{◌≡◌, ◌∙◌, ℕ, ◌<◌, List, [], ◌∷◌, ◌++◌, length, map, refl, sym, ap, subst, arith}
use Rattle.std.specs.List.{AllByRecursion}
use Rattle.xet_cut.specs.declared.limits.LimitSettings.{LimitSettings}
use Rattle.xet_dedup.specs.Records.{file_record}
use Rattle.xet_shard_format.specs.declared.record.MDBFileInfo.{MDBFileInfo}
use Rattle.xet_clean.specs.Cleaning.{AreRecords, IsRecordFor}
use Rattle.xet_clean.specs.Files.{leaves_in}
use Rattle.xet_clean.specs.Working.{AreRecorded, BeginsWithRecord, IsRecordOf, Planned}
use Rattle.xet_clean.specs.Policies.{sha256_by}
use Rattle.xet_clean.specs.declared.policy.Sha256Policy.{Sha256Policy}

-- ---- one file

begins_one : (bytes : List ℕ) (is : MDBFileInfo → Type 0) (r : MDBFileInfo) → 0 < length bytes → is r → BeginsWithRecord bytes is (λ rs. rs ≡ []) (r ∷ [])
begins_one [] is r some it = absurd (omega (arith, some))
begins_one (b ∷ bs) is r some it = (it, refl)

begins_none : (bytes : List ℕ) (is : MDBFileInfo → Type 0) → length bytes ≡ 0 → BeginsWithRecord bytes is (λ rs. rs ≡ []) []
begins_none [] is none = refl
begins_none (b ∷ bs) is none = absurd (omega (arith, none))

pub recorded_one : (f : Planned) (r : MDBFileInfo) → IsRecordOf f r → AreRecorded (f ∷ []) (r ∷ [])
recorded_one f r is = begins_one f.bytes (IsRecordOf f) r is.some is

pub recorded_none : (f : Planned) → length f.bytes ≡ 0 → AreRecorded (f ∷ []) []
recorded_none f none = begins_none f.bytes (IsRecordOf f) none

-- ---- more files

begins_more : (bytes : List ℕ) (is : MDBFileInfo → Type 0) (P Q : List MDBFileInfo → Type 0) (more : List MDBFileInfo) → ((rs : List MDBFileInfo) → P rs → Q (rs ++ more)) → (rs : List MDBFileInfo)
    → BeginsWithRecord bytes is P rs → BeginsWithRecord bytes is Q (rs ++ more)
begins_more [] is P Q more go rs all = go rs all
begins_more (b ∷ bs) is P Q more go [] all = absurd all
begins_more (b ∷ bs) is P Q more go (r ∷ rs) all = (all.0, go rs all.1)

pub recorded_then : (fs gs : List Planned) (rs ss : List MDBFileInfo) → AreRecorded fs rs → AreRecorded gs ss → AreRecorded (fs ++ gs) (rs ++ ss)
recorded_then [] gs rs ss none later = subst (λ (l : List MDBFileInfo). AreRecorded gs (l ++ ss)) (sym none) later
recorded_then (f ∷ fs) gs rs ss all later =
    begins_more f.bytes (IsRecordOf f) (λ l. AreRecorded fs l) (λ l. AreRecorded (fs ++ gs) l) ss (λ l a. recorded_then fs gs l ss a later) rs all

-- ---- the first records are those of the first files

pub record Splits (fs : List Planned) (xs ys : List MDBFileInfo) : Type 0 where
  pub first : List Planned
  pub later : List Planned
  pub is : fs ≡ first ++ later
  pub before : AreRecorded first xs
  pub after : AreRecorded later ys

module _ (f : Planned) (fs : List Planned) (ys : List MDBFileInfo) (split : (xs : List MDBFileInfo) → AreRecorded fs (xs ++ ys) → Splits fs xs ys) where
  begins_split : (bytes : List ℕ) → f.bytes ≡ bytes → (xs : List MDBFileInfo) → BeginsWithRecord bytes (IsRecordOf f) (λ l. AreRecorded fs l) (xs ++ ys) → Splits (f ∷ fs) xs ys
  begins_split [] e xs all =
      let s = split xs all in
      record {
        first = f ∷ s.first;
        later = s.later;
        is = ap (λ (l : List Planned). f ∷ l) s.is;
        before = subst (λ (bytes : List ℕ). BeginsWithRecord bytes (IsRecordOf f) (λ l. AreRecorded s.first l) xs) (sym e) s.before;
        after = s.after;
      }
  begins_split (b ∷ bs) e [] all = record {
    first = [];
    later = f ∷ fs;
    is = refl;
    before = refl;
    after = subst (λ (bytes : List ℕ). BeginsWithRecord bytes (IsRecordOf f) (λ l. AreRecorded fs l) ys) (sym e) all;
  }
  begins_split (b ∷ bs) e (x ∷ xs) all =
      let s = split xs all.1 in
      record {
        first = f ∷ s.first;
        later = s.later;
        is = ap (λ (l : List Planned). f ∷ l) s.is;
        before = subst (λ (bytes : List ℕ). BeginsWithRecord bytes (IsRecordOf f) (λ l. AreRecorded s.first l) (x ∷ xs)) (sym e) (all.0, s.before);
        after = s.after;
      }

pub recorded_split : (fs : List Planned) (xs ys : List MDBFileInfo) → AreRecorded fs (xs ++ ys) → Splits fs xs ys
recorded_split [] [] ys none = record { first = []; later = []; is = refl; before = refl; after = none }
recorded_split [] (x ∷ xs) ys none = absurd (cc none)
recorded_split (f ∷ fs) xs ys all = begins_split f fs ys (λ zs a. recorded_split fs zs ys a) f.bytes refl xs all

-- ---- records that change, but stay those of their files

module _ (h : MDBFileInfo → MDBFileInfo) (stays : (f : Planned) (r : MDBFileInfo) → IsRecordOf f r → IsRecordOf f (h r)) where
  begins_changed : (bytes : List ℕ) (is : MDBFileInfo → Type 0) (P : List MDBFileInfo → Type 0) → ((r : MDBFileInfo) → is r → is (h r)) → ((rs : List MDBFileInfo) → P rs → P (map h rs)) → (rs : List MDBFileInfo)
      → BeginsWithRecord bytes is P rs → BeginsWithRecord bytes is P (map h rs)
  begins_changed [] is P one go rs all = go rs all
  begins_changed (b ∷ bs) is P one go [] all = absurd all
  begins_changed (b ∷ bs) is P one go (r ∷ rs) all = (one r all.0, go rs all.1)

  recorded_changed : (fs : List Planned) (rs : List MDBFileInfo) → AreRecorded fs rs → AreRecorded fs (map h rs)
  recorded_changed [] rs none = ap (map h) none
  recorded_changed (f ∷ fs) rs all = begins_changed f.bytes (IsRecordOf f) (λ l. AreRecorded fs l) (stays f) (λ l a. recorded_changed fs l a) rs all

  -- the last ones alone
  pub recorded_changed_after : (fs : List Planned) (xs rs : List MDBFileInfo) → AreRecorded fs (xs ++ rs) → AreRecorded fs (xs ++ map h rs)
  recorded_changed_after fs xs rs all =
      let s = recorded_split fs xs rs all in
      subst (λ (gs : List Planned). AreRecorded gs (xs ++ map h rs)) (sym s.is) (recorded_then s.first s.later xs (map h rs) s.before (recorded_changed s.later rs s.after))

-- ---- the same of the bytes of the files

module _ (policy : Sha256Policy) (s : LimitSettings) where
  begins_records : (bytes : List ℕ) (others : List (List ℕ)) (is : MDBFileInfo → Type 0) (P : List MDBFileInfo → Type 0) → ((r : MDBFileInfo) → is r → IsRecordFor policy s bytes r)
      → ((rs : List MDBFileInfo) → P rs → AreRecords policy s others rs) → (rs : List MDBFileInfo) → BeginsWithRecord bytes is P rs → AreRecords policy s (bytes ∷ others) rs
  begins_records [] others is P one go rs all = go rs all
  begins_records (b ∷ bs) others is P one go [] all = absurd all
  begins_records (b ∷ bs) others is P one go (r ∷ rs) all = (one r all.0, go rs all.1)

  pub are_records : (fs : List Planned) (rs : List MDBFileInfo) → AllByRecursion (λ f. f.plan.leaves ≡ leaves_in s f.bytes) fs → AllByRecursion (λ f. f.policy ≡ policy) fs → AreRecorded fs rs → AreRecords policy s (map (λ f. f.bytes) fs) rs
  are_records [] rs leaves same none = none
  are_records (f ∷ fs) rs leaves same all =
      begins_records f.bytes (map (λ (g : Planned). g.bytes) fs) (IsRecordOf f) (λ l. AreRecorded fs l)
      (λ r is. record { some = is.some; segments = is.segments; is = is.is ∙ (λ i. file_record (leaves.0 i) is.segments (sha256_by (same.0 i) f.bytes)) })
      (λ l a. are_records fs l leaves.1 same.1 a) rs all
