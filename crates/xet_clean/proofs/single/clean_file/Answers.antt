use Rattle.std.proofs.Common.{◌≡◌, ◌≤◌, true, List, [], ◌∷◌, length, map, Option, IsSome, subst}
use Rattle.std.proofs.lemmas.Result.{IfOk-weaker}
use Rattle.std.specs.List.{AllByRecursion}
use Rattle.xet_aggregate.specs.declared.metrics.DeduplicationMetrics.{DeduplicationMetrics}
use Rattle.xet_cut.specs.Chunking.{chunking}
use Rattle.xet_hash.specs.declared.error.StoreError.{StoreError}
use Rattle.xet_store_disk.specs.Cleaning.{Adds, EachTold, HasFile}
use Rattle.xet_store_disk.specs.Store.{plan_of}
use Rattle.xet_store_disk.specs.declared.info.XetFileInfo.{XetFileInfo}
use Rattle.xet_clean.specs.Cleaning.{Grows, HasReason, IsBounded, IsCleaned}
use Rattle.xet_clean.specs.Policies.{info_by}
use Rattle.xet_clean.specs.declared.info.Cleaned.{Cleaned}
use Rattle.xet_clean.proofs.Only.{IsOnlyOf, only_err, only_error, only_ok, only_on, told_one}
use Rattle.xet_clean.proofs.single.clean_file.Goals as goal

pub only-requires : goal.only-requires
only-requires g c =
    let tells = g.R.Source.tells in let left = g.R.Source.left in
    let limits = c.args.session.store.limits in
    record {
      one = IfOk-weaker c.clean_single-session.result.1 (λ (t : Cleaned). EachTold tells left (λ bytes info. info ≡ info_by c.args.policy limits bytes) (c.args.source.now ∷ []) t.infos.items)
          (λ (t : Cleaned). length t.infos.items ≡ 1) (λ t told. told_one tells left (λ bytes info. info ≡ info_by c.args.policy limits bytes) c.args.source.now t.infos.items told) c.clean_single-session.ensures.infos;
    }

pub returns : goal.returns
returns g c =
    let tells = g.R.Source.tells in let left = g.R.Source.left in let faults = g.R.Source.faults in
    let s = c.args.source.now in
    let t = c.clean_single-session.new.source in
    let old = c.args.session in
    let new = c.clean_single-session.result.0 in
    let limits = old.store.limits in
    let policy = c.args.policy in
    let r = c.clean_single-session.result.1 in
    let q = c.only.result in
    let known = c.clean_single-session.ensures in
    let only : IsOnlyOf r q = record { ok = c.only.ensures.ok; err = c.only.ensures.err } in
    record {
      info = only_ok r q only (λ (x : Cleaned). EachTold tells left (λ bytes info. info ≡ info_by policy limits bytes) (s ∷ []) x.infos.items) (λ x. tells s ≡ true → x.0 ≡ info_by policy limits (left s))
          (λ x y items metrics told. (subst (EachTold tells left (λ bytes info. info ≡ info_by policy limits bytes) (s ∷ [])) items told).0) known.infos;
      read = only_on r q only (AllByRecursion (λ x. tells x ≡ true → left x ≡ []) (t ∷ [])) (tells t ≡ true → left t ≡ []) (λ all. all.0) known.read;
      short = only_on r q only (AllByRecursion (λ x. tells x ≡ true → length (left x) ≤ limits.max_source_bytes) (s ∷ [])) (tells s ≡ true → length (left s) ≤ limits.max_source_bytes) (λ all. all.0) known.short;
      file = λ told all apart.
          only_on r q only (AllByRecursion (HasFile new.store) (chunking limits (left s) ∷ [])) (HasFile new.store (chunking limits (left s))) (λ x. x.0) (known.files told (all, tt) apart);
      recorded = only_ok r q only (λ (x : Cleaned). AllByRecursion (λ info. IsSome (plan_of new.store.records info.hash)) x.infos.items) (λ x. IsSome (plan_of new.store.records x.0.hash))
          (λ x y items metrics all. (subst (AllByRecursion (λ (info : XetFileInfo). IsSome (plan_of new.store.records info.hash))) items all).0) known.recorded;
      cleaned = only_ok r q only (λ (x : Cleaned). IsCleaned policy tells left (s ∷ []) old new x.infos.items x.choices.items x.metrics) (λ x. (choices : List (List _)) × IsCleaned policy tells left (s ∷ []) old new (x.0 ∷ []) choices x.1)
          (λ x y items metrics is. (
            x.choices.items,
            subst (λ (l : List XetFileInfo). IsCleaned policy tells left (s ∷ []) old new l x.choices.items y.1) items
                (subst (λ (m : DeduplicationMetrics). IsCleaned policy tells left (s ∷ []) old new x.infos.items x.choices.items m) metrics is),
          )) known.cleaned;
      keeps = known.keeps;
      steps = subst (λ (e : Option StoreError). Grows e old new) (only_error r q only) known.steps;
      adds = only_ok r q only (λ (x : Cleaned). Adds old.store.records new.store.records (map (λ info. info.hash) x.infos.items)) (λ x. Adds old.store.records new.store.records (x.0.hash ∷ []))
          (λ x y items metrics adds. subst (λ (l : List XetFileInfo). Adds old.store.records new.store.records (map (λ info. info.hash) l)) items adds) known.adds;
      bound = only_err r q only (IsBounded policy tells left (s ∷ []) (t ∷ []) old new) known.bound;
      frame = known.frame;
      taken = known.taken;
      reason = only_err r q only (HasReason tells left faults (s ∷ []) (t ∷ []) old new) known.reason;
    }
