use Rattle.std.proofs.Common.{◌≡◌, ◌≤◌, true, List, [], ◌∷◌, ℕ, IfErr, IfOk, OnOk, length, refl, subst}
use Rattle.std.proofs.lemmas.Result.{IfErr-weaker, IfOk-weaker, on_ok_weaker}
use Rattle.xet_aggregate.specs.declared.metrics.DeduplicationMetrics.{DeduplicationMetrics}
use Rattle.xet_choices.specs.declared.choice.Choice.{Choice}
use Rattle.xet_cut.specs.Chunking.{chunking}
use Rattle.xet_hash.specs.declared.error.StoreError.{StoreError}
use Rattle.xet_store_disk.specs.Cleaning.{HasFile}
use Rattle.xet_store_disk.specs.Separate.{Separate}
use Rattle.xet_store_disk.specs.declared.info.XetFileInfo.{XetFileInfo}
use Rattle.xet_clean.specs.Cleaning.{HasReason, IsBounded, IsCleaned}
use Rattle.xet_clean.specs.Policies.{info_by}
use Rattle.xet_clean.proofs.single.clean_bytes.Goals as goal

pub returns : goal.returns
returns g c =
    let same = c.new-source.ensures in
    let old = c.args.session in
    let new = c.clean_file.result.0 in
    let limits = old.store.limits in
    let policy = c.args.policy in
    let r = c.clean_file.result.1 in
    let known = c.clean_file.ensures in
    let b = c.args.bytes.now in
    let rest = c.clean_file.new.source in
    record {
      info = subst (λ (x : List ℕ). IfOk r (λ y. y.0 ≡ info_by policy limits x)) same
          (IfOk-weaker r (λ (y : XetFileInfo × DeduplicationMetrics). true ≡ true → y.0 ≡ info_by policy limits c.new-source.result) (λ y. y.0 ≡ info_by policy limits c.new-source.result) (λ y is. is refl) known.info);
      short = subst (λ (x : List ℕ). OnOk r (length x ≤ limits.max_source_bytes)) same (on_ok_weaker r (λ is. is refl) known.short);
      file = λ told. subst (λ (x : List ℕ). Separate new.store (chunking limits x ∷ []) → OnOk r (HasFile new.store (chunking limits x))) same (known.file told refl);
      recorded = known.recorded;
      cleaned = subst (λ (x : List ℕ). IfOk r (λ y. (choices : List (List Choice)) × IsCleaned policy (λ (_ : List ℕ). true) (λ z. z) (x ∷ []) old new (y.0 ∷ []) choices y.1)) same known.cleaned;
      keeps = known.keeps;
      steps = known.steps;
      adds = known.adds;
      bound = subst (λ (x : List ℕ). IfErr r (λ e. (left : List ℕ) × IsBounded policy (λ (_ : List ℕ). true) (λ z. z) (x ∷ []) (left ∷ []) old new e)) same
          (IfErr-weaker r (IsBounded policy (λ (_ : List ℕ). true) (λ z. z) (c.new-source.result ∷ []) (rest ∷ []) old new)
          (λ (e : StoreError). (left : List ℕ) × IsBounded policy (λ (_ : List ℕ). true) (λ z. z) (c.new-source.result ∷ []) (left ∷ []) old new e) (λ e is. (rest, is)) known.bound);
      reason = subst (λ (x : List ℕ). IfErr r (λ e. (left : List ℕ) × HasReason (λ (_ : List ℕ). true) (λ z. z) (λ _. 0) (x ∷ []) (left ∷ []) old new e)) same
          (IfErr-weaker r (HasReason (λ (_ : List ℕ). true) (λ z. z) (λ _. 0) (c.new-source.result ∷ []) (rest ∷ []) old new)
          (λ (e : StoreError). (left : List ℕ) × HasReason (λ (_ : List ℕ). true) (λ z. z) (λ _. 0) (c.new-source.result ∷ []) (left ∷ []) old new e) (λ e is. (rest, is)) known.reason);
    }
