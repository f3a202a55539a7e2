-- The errors of the steps that close an aggregate.
use Rattle.std.proofs.Common.{◌≡◌, ◌≢◌, ◌∙◌, ◌⊎◌, inl, inr, ℕ, suc, ◌+◌, ◌≤◌, true, false, List, [], ◌∷◌, ◌++◌, length, refl, sym, ap, subst, append-nil, length-append, arith}
use Rattle.std.specs.List.{IsAmong}
use Rattle.xet_folder.specs.Contents.{max_shards}
use Rattle.xet_hash.specs.declared.error.Place.TheVariants.{Disk}
use Rattle.xet_hash.specs.declared.error.Reason.{Reason}
use Rattle.xet_hash.specs.declared.error.StoreError.{StoreError}
use Rattle.xet_hash.specs.declared.error.StoreError.TheVariants.{Io, MalformedData, OutOfMemory, TooLarge}
use Rattle.xet_hash.specs.declared.error.What.TheVariants.{Shards}
use Rattle.xet_history.specs.Core.{Core, has_pending}
use Rattle.xet_history.specs.History.{after_all}
use Rattle.xet_history.specs.declared.entry.Entry.{Entry}
use Rattle.xet_history.specs.declared.entry.Entry.TheVariants.{Fault}
use Rattle.xet_history.specs.declared.entry.StepKind.{StepKind}
use Rattle.xet_history.specs.declared.entry.StepKind.TheVariants as step
use Rattle.xet_shard_format.specs.declared.record.MDBFileInfo.{MDBFileInfo}
use Rattle.xet_store.specs.Interface.{IsErrorSince}
use Rattle.xet_store.specs.Holders.{Follows, Holder, calls_in, core_at, core_found, numbered, seen}
use Rattle.xet_store.specs.Stepping.{SawError, SawOther, cut_to_complete}
use Rattle.xet_store.specs.theorems.Following.{follows_nothing, follows_then}
use Rattle.xet_clean.specs.Closing.{IsAtMost, IsClosingError, Records}
use Rattle.xet_clean.specs.theorems.Adding.{among_right, calls_error, calls_other, complete_cut_calls, complete_cut_none, records_error, records_other}
use Rattle.xet_clean.specs.theorems.Counting.{complete_cut_count, complete_cut_pending, error_at_most, other_at_most}

-- ---- among

pub among_cons : {X : Type 0} (x : X) (xs : List X) (v : X) → IsAmong xs v → IsAmong (x ∷ xs) v
among_cons x xs v a = (suc a.0, (omega (arith, a.1.0), a.1.1))

-- the last of numbered entries
among_numbered : (n : ℕ) (xs : List Entry) (e : Entry) → IsAmong (numbered n (xs ++ e ∷ [])) (n + length xs, e)
among_numbered n [] e = (0, (omega arith, ap (λ (k : ℕ). (k, e)) (omega arith)))
among_numbered n (x ∷ xs) e =
    let k : suc n + length xs ≡ n + suc (length xs) = omega arith in
    among_cons (n, x) (numbered (suc n) (xs ++ e ∷ [])) (n + suc (length xs), e) (subst (λ (m : ℕ). IsAmong (numbered (suc n) (xs ++ e ∷ [])) (m, e)) k (among_numbered (suc n) xs e))

-- ---- errors of steps

module _ (cut : Core → List Entry) (old new : Holder) (due : (c : Core) → cut c ≢ [] → has_pending c ≡ true) where
  disk_failed : (kind : StepKind) → SawError kind cut old new (Io Disk) → IsErrorSince old new (Io Disk)
  disk_failed kind saw =
      let n : ℕ = length (seen old) + length saw.others in
      record {
        number = n + length saw.done;
        kind = kind;
        among = subst (λ (h : Holder). IsAmong h.own (length (seen old) + length saw.others + length saw.done, Fault h.number kind)) (sym saw.is)
            (among_right old.own (numbered (length (seen old) + length saw.others) (saw.done ++ Fault old.number kind ∷ [])) (length (seen old) + length saw.others + length saw.done, Fault old.number kind)
            (among_numbered (length (seen old) + length saw.others) saw.done (Fault old.number kind)));
        since = omega arith;
      }

  no_more_shards : (kind : StepKind) → SawError kind cut old new (TooLarge Shards) → IsErrorSince old new (TooLarge Shards)
  no_more_shards kind saw =
      let same : core_at new ≡ core_found old saw.others =
      ap core_at saw.is
      ∙ ap (λ (d : List Entry). after_all old.base (old.since ++ (saw.others ++ (d ++ [])))) (saw.full refl)
      ∙ ap (λ (o : List Entry). after_all old.base (old.since ++ o)) (append-nil saw.others) in
      (subst (λ (c : Core). max_shards ≤ length c.shards) (sym same) saw.reason.0, ap has_pending same ∙ due (core_found old saw.others) saw.reason.1)

  unread : (reason : Reason) → SawError step.Query cut old new (MalformedData reason) → new.tells ≡ false
  unread reason saw = ap (λ (h : Holder). h.tells) saw.is ∙ saw.reason

  pub error_since : (kind : StepKind) (e : StoreError) → SawError kind cut old new e → IsErrorSince old new e
  error_since kind (Io Disk) saw = disk_failed kind saw
  error_since kind OutOfMemory saw = tt
  error_since kind (TooLarge Shards) saw = no_more_shards kind saw
  error_since step.Query (MalformedData reason) saw = unread reason saw
  error_since step.Query e saw = absurd saw.reason
  error_since step.Register e saw = absurd saw.reason
  error_since step.Complete e saw = absurd saw.reason
  error_since step.Flush e saw = absurd saw.reason

-- ---- the same since an earlier state

seen_grows : (old mid : Holder) → Follows old mid → length (seen old) ≤ length (seen mid)
seen_grows old mid f =
    omega (arith, ap (λ (h : Holder). length (seen h)) f.is, length-append old.before (old.since ++ f.since), length-append old.since f.since, length-append old.before old.since)

pub error_earlier : (old mid new : Holder) → Follows old mid → (e : StoreError) → IsErrorSince mid new e → IsErrorSince old new e
error_earlier old mid new f (Io Disk) is = record { number = is.number; kind = is.kind; among = is.among; since = omega (arith, is.since, seen_grows old mid f) }
error_earlier old mid new f OutOfMemory is = tt
error_earlier old mid new f (TooLarge Shards) is = is
error_earlier old mid new f (MalformedData reason) is = is
error_earlier old mid new f e is = absurd is

-- ---- closing

pub closing_earlier : (files : List MDBFileInfo) (old mid new : Holder) (e : StoreError) → Follows old mid → IsClosingError files mid new e → IsClosingError files old new e
closing_earlier files old mid new e f (inl x) = inl (x.0, x.1, x.2, follows_then old mid x.2 f x.3, x.4)
closing_earlier files old mid new e f (inr is) = inr (error_earlier old mid new f e is)

pub closing_more : (file : MDBFileInfo) (files : List MDBFileInfo) (old new : Holder) (e : StoreError) → IsClosingError files old new e → IsClosingError (file ∷ files) old new e
closing_more file files old new e (inl x) = inl (x.0, among_cons file files x.0 x.1, x.2, x.3, x.4)
closing_more file files old new e (inr is) = inr is

abbrev pub IsRefusal : MDBFileInfo → Holder → Holder → StoreError → Type 0
IsRefusal file old new e = SawOther file old new e ⊎ SawError step.Complete (cut_to_complete old file) old new e

pub closing_refused : (file : MDBFileInfo) (files : List MDBFileInfo) (old new : Holder) (e : StoreError) → IsRefusal file old new e → IsClosingError (file ∷ files) old new e
closing_refused file files old new e (inl other) = inl (file, (0, (omega arith, refl)), old, follows_nothing old, other)
closing_refused file files old new e (inr saw) =
    inr (error_since (cut_to_complete old file) old new (λ c some. complete_cut_pending old.number c old.limits.shard_target file some) step.Complete e saw)

pub refused_at_most : (file : MDBFileInfo) (old new : Holder) (e : StoreError) → IsRefusal file old new e → IsAtMost 2 old new
refused_at_most file old new e (inl other) = other_at_most file old new e other
refused_at_most file old new e (inr saw) =
    error_at_most step.Complete (cut_to_complete old file) old new e (λ c. complete_cut_count old.number c old.limits.shard_target file) saw

pub refused_records : (file : MDBFileInfo) (old new : Holder) (e : StoreError) → IsRefusal file old new e → Records [] old new
refused_records file old new e (inl other) = records_other file old new e other
refused_records file old new e (inr saw) = records_error step.Complete (cut_to_complete old file) old new e (λ c. complete_cut_none old.number c old.limits.shard_target file) saw

pub refused_calls : (file : MDBFileInfo) (old new : Holder) (e : StoreError) → IsRefusal file old new e → (f : Follows old new) → calls_in f.own ≡ []
refused_calls file old new e (inl other) f = calls_other file old new e other f
refused_calls file old new e (inr saw) f = calls_error step.Complete (cut_to_complete old file) old new e (λ n c. complete_cut_calls n old.number c old.limits.shard_target file) saw f
