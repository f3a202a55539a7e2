-- The records of the files of all parts, in the order of the parts, and in that in which they were made.
use Rattle.std.proofs.Common.{◌≡◌, ◌∙◌, List, [], ◌∷◌, ◌++◌, refl, sym, ap, subst, append_assoc}
use Rattle.std.specs.List.{AllByRecursion, flat_map}
use Rattle.std.specs.List.Sorted.{IsPermutation}
use Rattle.std.proofs.lemmas.List.Elements.{All-from_recursion, recursion_from_All}
use Rattle.std.proofs.lemmas.List.Sorted.{All-permutation, IsPermutation-append_comm, IsPermutation-append_left, IsPermutation-append_right, IsPermutation-refl, IsPermutation-trans}
use Rattle.xet_clean.specs.theorems.InOrder.{recorded_then}
use Rattle.xet_clean.specs.Closing.{recorded_in}
use Rattle.xet_clean.specs.Merging.{EachRecorded, Part, files_of, own_of}
use Rattle.xet_clean.specs.Working.{AreRecorded}
use Rattle.xet_shard_format.specs.declared.record.MDBFileInfo.{MDBFileInfo}

-- ---- lists in another order

module _ {X : Type 0} where
  -- what holds of each element holds of each in another order
  pub all_permuted : (P : X → Type 0) (xs ys : List X) → IsPermutation xs ys → AllByRecursion P xs → AllByRecursion P ys
  all_permuted P xs ys order all = recursion_from_All P ys (All-permutation P xs ys order (All-from_recursion P xs all))

  -- two lists, and two that follow
  interleaved : (xs ys zs vs : List X) → IsPermutation ((xs ++ ys) ++ (zs ++ vs)) ((xs ++ zs) ++ (ys ++ vs))
  interleaved xs ys zs vs =
      let first : xs ++ ((ys ++ zs) ++ vs) ≡ (xs ++ ys) ++ (zs ++ vs) = ap (λ (l : List X). xs ++ l) (append_assoc ys zs vs) ∙ sym (append_assoc xs ys (zs ++ vs)) in
      let last : xs ++ ((zs ++ ys) ++ vs) ≡ (xs ++ zs) ++ (ys ++ vs) = ap (λ (l : List X). xs ++ l) (append_assoc zs ys vs) ∙ sym (append_assoc xs zs (ys ++ vs)) in
      let middle : IsPermutation (xs ++ ((ys ++ zs) ++ vs)) (xs ++ ((zs ++ ys) ++ vs)) =
      IsPermutation-append_right xs ((ys ++ zs) ++ vs) ((zs ++ ys) ++ vs) (IsPermutation-append_left vs (ys ++ zs) (zs ++ ys) (IsPermutation-append_comm ys zs)) in
      subst (λ (l : List X). IsPermutation l ((xs ++ zs) ++ (ys ++ vs))) first (subst (IsPermutation (xs ++ ((ys ++ zs) ++ vs))) last middle)

-- ---- the records

-- those that the maker of each part made, and those that waited
abbrev pub all_records : (ps : List Part) (records : List MDBFileInfo) → EachRecorded ps records → List MDBFileInfo
all_records [] records each = []
all_records (p ∷ ps) records each = (recorded_in (own_of p) ++ each.0) ++ all_records ps each.1 each.4

-- They are those of the files.
pub all_recorded : (ps : List Part) (records : List MDBFileInfo) (each : EachRecorded ps records) → AreRecorded (files_of ps) (all_records ps records each)
all_recorded [] records each = refl
all_recorded (p ∷ ps) records each = recorded_then p.files (files_of ps) (recorded_in (own_of p) ++ each.0) (all_records ps each.1 each.4) each.3 (all_recorded ps each.1 each.4)

-- They were made by the makers of the parts, and then by who merged them.
pub records_order : (ps : List Part) (records : List MDBFileInfo) (each : EachRecorded ps records) → IsPermutation (all_records ps records each) (flat_map (λ p. recorded_in (own_of p)) ps ++ records)
records_order [] records each = subst (IsPermutation []) (sym each) (IsPermutation-refl [])
records_order (p ∷ ps) records each =
    let own : List MDBFileInfo = recorded_in (own_of p) in
    let more : List MDBFileInfo = flat_map (λ (q : Part). recorded_in (own_of q)) ps in
    let rest : List MDBFileInfo = all_records ps each.1 each.4 in
    let ordered : IsPermutation ((own ++ each.0) ++ rest) ((own ++ each.0) ++ (more ++ each.1)) = IsPermutation-append_right (own ++ each.0) rest (more ++ each.1) (records_order ps each.1 each.4) in
    subst (λ (l : List MDBFileInfo). IsPermutation ((own ++ each.0) ++ rest) ((own ++ more) ++ l)) (sym each.2)
    (IsPermutation-trans ((own ++ each.0) ++ rest) ((own ++ each.0) ++ (more ++ each.1)) ((own ++ more) ++ (each.0 ++ each.1)) ordered (interleaved own each.0 more each.1))
