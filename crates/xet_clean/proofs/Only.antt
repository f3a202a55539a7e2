-- The result for one source, of that for a list of it.
use Rattle.std.proofs.Common.{◌≡◌, Bool, List, [], ◌∷◌, length, Result, Ok, Err, IfOk, IfErr, OnOk, ℕ, sym, ap, subst, arith, slice_index_or}
use Rattle.std.proofs.lemmas.Result.{IfErr-at_err, IfOk-at_ok}
use Rattle.std.specs.Result.{result_err}
use Rattle.xet_aggregate.specs.declared.metrics.DeduplicationMetrics.{DeduplicationMetrics}
use Rattle.xet_hash.specs.declared.error.StoreError.{StoreError}
use Rattle.xet_store_disk.specs.Cleaning.{EachTold}
use Rattle.xet_store_disk.specs.declared.info.XetFileInfo.{XetFileInfo}
use Rattle.xet_clean.specs.declared.info.Cleaned.{Cleaned}

-- the only element of a list
pub only_item : {X : Type 0} (xs : List X) (x : X) → length xs ≡ 1 → x ≡ slice_index_or xs 0 x → xs ≡ x ∷ []
only_item [] x one is = absurd (omega (arith, one))
only_item {X} (y ∷ []) x one is = ap (λ (z : X). z ∷ []) (sym is)
only_item (y ∷ z ∷ ys) x one is = absurd (omega (arith, one))

-- what is told of one source is one
pub told_one : {S X : Type 0} (tells : S → Bool) (left : S → List ℕ) (P : List ℕ → X → Type 0) (s : S) (xs : List X) → EachTold tells left P (s ∷ []) xs → length xs ≡ 1
told_one tells left P s [] told = absurd told
told_one tells left P s (x ∷ []) told = omega arith
told_one tells left P s (x ∷ y ∷ xs) told = absurd told.1

-- The result has the pointer record of the only source, and the metrics.
pub record IsOnlyOf (r : Result Cleaned StoreError) (q : Result (XetFileInfo × DeduplicationMetrics) StoreError) : Type 0 where
  pub ok : IfOk q (λ x. (c : Cleaned) × (r ≡ Ok c) × (c.infos.items ≡ x.0 ∷ []) × (c.metrics ≡ x.1))
  pub err : IfErr q (λ e. r ≡ Err e)

pub only_ok : (r : Result Cleaned StoreError) (q : Result (XetFileInfo × DeduplicationMetrics) StoreError) → IsOnlyOf r q → (P : Cleaned → Type 0) (Q : XetFileInfo × DeduplicationMetrics → Type 0)
    → ((c : Cleaned) (x : XetFileInfo × DeduplicationMetrics) → c.infos.items ≡ x.0 ∷ [] → c.metrics ≡ x.1 → P c → Q x) → IfOk r P → IfOk q Q
only_ok r (Ok x) only P Q go all = let is = only.ok in go is.0 x is.2 is.3 (IfOk-at_ok P is.1 all)
only_ok r (Err e) only P Q go all = tt

pub only_on : (r : Result Cleaned StoreError) (q : Result (XetFileInfo × DeduplicationMetrics) StoreError) → IsOnlyOf r q → (P Q : Type 0) → (P → Q) → OnOk r P → OnOk q Q
only_on r (Ok x) only P Q go all = go (subst (λ (s : Result Cleaned StoreError). OnOk s P) only.ok.1 all)
only_on r (Err e) only P Q go all = tt

pub only_err : (r : Result Cleaned StoreError) (q : Result (XetFileInfo × DeduplicationMetrics) StoreError) → IsOnlyOf r q → (P : StoreError → Type 0) → IfErr r P → IfErr q P
only_err r (Ok x) only P all = tt
only_err r (Err e) only P all = IfErr-at_err P only.err all

pub only_error : (r : Result Cleaned StoreError) (q : Result (XetFileInfo × DeduplicationMetrics) StoreError) → IsOnlyOf r q → result_err r ≡ result_err q
only_error r (Ok x) only = ap result_err only.ok.1
only_error r (Err e) only = ap result_err only.err
