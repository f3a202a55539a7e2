-- What contracts say of a file that is cleaned over a pass, from what is true of its parts.
use Rattle.std.proofs.Common.{◌≡◌, inl, inr, ℕ, ◌+◌, ◌<◌, Bool, true, false, List, ◌++◌, length, IfErr, OnErr, Option, Result, sym, ap, subst, arith}
use Rattle.std.proofs.lemmas.Result.{IfErr-weaker, on_err_weaker}
use Rattle.xet_aggregate.specs.Aggregate.{Aggregate}
use Rattle.xet_aggregate.specs.declared.metrics.DeduplicationMetrics.{DeduplicationMetrics}
use Rattle.xet_choices.specs.declared.choice.Choice.{Choice}
use Rattle.xet_clean.specs.Errors.{IsCleanerError}
use Rattle.xet_clean.specs.Planning.{IsFew, IsFinished}
use Rattle.xet_clean.specs.Policies.{sha256_by}
use Rattle.xet_clean.specs.declared.policy.Sha256Policy.{Sha256Policy}
use Rattle.xet_hash.specs.declared.error.StoreError.{StoreError}
use Rattle.xet_locked_session.specs.Passes.{IsPassOf}
use Rattle.xet_locked_session.specs.Passing.{IsPassing, PassingState, passing_of}
use Rattle.xet_store.specs.Interface.{IsErrorSince}
use Rattle.xet_store.specs.Holders.{Follows, FollowsAsking, Holder}
use Rattle.xet_store.specs.Recorded.{RecordedState}
use Rattle.xet_store_disk.specs.declared.info.XetFileInfo.{XetFileInfo}
use Rattle.xet_single_file.specs.Single.{IsSingleError, SingleFileState, single_state}
use Rattle.xet_single_file.specs.internal.Kept.{IsKept, holder_in}
use Rattle.xet_single_file.proofs.Passes.{error_after, few_after, finished_after, pass_grows}

module _ (store : RecordedState) (start old new : PassingState) (id number : ℕ) (policy : Sha256Policy) (bytes : List ℕ) (whole : Bool) (s : SingleFileState) (view : single_state start.start old.pass number policy bytes whole ≡ s)
    (kept : IsKept store start old id number) (of : IsPassOf store new.start) (passing : IsPassing new.start new.pass new.stopped) (f : FollowsAsking (holder_in old) (holder_in new)) where
  pub follows_clause : (now : Holder) → now ≡ new.pass → Follows s.pass now
  follows_clause now is = subst (Follows s.pass) (sym is) (subst (λ (x : SingleFileState). Follows x.pass new.pass) view (pass_grows store start old new id number kept of passing f.follows))

  pub few_clause : {T E : Type 0} (r : Result T E) (first : PassingState) → first ≡ start → (more : List ℕ) (now : Holder) → now ≡ new.pass → OnErr r (IsFew (holder_in first) (holder_in new) (bytes ++ more))
      → OnErr r (IsFew (passing_of s.start s.start false) (passing_of s.start now true) (s.bytes ++ more))
  few_clause r first begun more now is given =
      on_err_weaker r (λ (few : IsFew (holder_in first) (holder_in new) (bytes ++ more)).
      subst (λ (h : Holder). IsFew (passing_of s.start s.start false) (passing_of s.start h true) (s.bytes ++ more)) (sym is)
      (subst (λ (x : SingleFileState). IsFew (passing_of x.start x.start false) (passing_of x.start new.pass true) (x.bytes ++ more)) view
      (few_after store start old new id number kept of passing f.follows (bytes ++ more) (subst (λ (x : PassingState). IsFew (holder_in x) (holder_in new) (bytes ++ more)) begun few)))) given

  pub few_ended : {T E : Type 0} (r : Result T E) (now : Holder) → now ≡ new.pass → OnErr r (IsFew (holder_in start) (holder_in new) bytes)
      → OnErr r (IsFew (passing_of s.start s.start false) (passing_of s.start now true) s.bytes)
  few_ended r now is given =
      on_err_weaker r (λ (few : IsFew (holder_in start) (holder_in new) bytes).
      subst (λ (h : Holder). IsFew (passing_of s.start s.start false) (passing_of s.start h true) s.bytes) (sym is)
      (subst (λ (x : SingleFileState). IsFew (passing_of x.start x.start false) (passing_of x.start new.pass true) x.bytes) view
      (few_after store start old new id number kept of passing f.follows bytes few))) given

  error_clause : (e : StoreError) → IsErrorSince (holder_in old) (holder_in new) e → IsErrorSince (passing_of s.start s.pass false) (passing_of s.start new.pass true) e
  error_clause e is = subst (λ (x : SingleFileState). IsErrorSince (passing_of x.start x.pass false) (passing_of x.start new.pass true) e) view (error_after store start old new id number kept of passing f.follows e is)

  pub errors_clause : {T : Type 0} (r : Result T StoreError) (now : Holder) → now ≡ new.pass → IfErr r (IsErrorSince (holder_in old) (holder_in new)) → IfErr r (IsErrorSince (passing_of s.start s.pass false) (passing_of s.start now true))
  errors_clause r now is =
      IfErr-weaker r (IsErrorSince (holder_in old) (holder_in new)) (IsErrorSince (passing_of s.start s.pass false) (passing_of s.start now true))
      (λ e error. subst (λ (h : Holder). IsErrorSince (passing_of s.start s.pass false) (passing_of s.start h true) e) (sym is) (error_clause e error))

  -- bytes were not added
  single_error : (count : ℕ) (more : List ℕ) → count ≡ length bytes → (old.start.limits.max_source_bytes < count + length more → new.pass ≡ old.pass)
      → (e : StoreError) → IsCleanerError number count more (holder_in old) (holder_in new) e → IsSingleError s more new.pass e
  single_error count more counted untouched e (inl long) =
      subst (λ (x : SingleFileState). IsSingleError x more new.pass e) view
      (inl (long.0, omega (arith, long.1, counted, ap (λ (h : Holder). h.limits.max_source_bytes) kept.same), untouched long.1))
  single_error count more counted untouched e (inr is) = inr (error_clause e is)

  pub single_errors : {T : Type 0} (r : Result T StoreError) (count : ℕ) (more : List ℕ) → count ≡ length bytes → (old.start.limits.max_source_bytes < count + length more → new.pass ≡ old.pass)
      → IfErr r (IsCleanerError number count more (holder_in old) (holder_in new)) → IfErr r (IsSingleError s more new.pass)
  single_errors r count more counted untouched = IfErr-weaker r (IsCleanerError number count more (holder_in old) (holder_in new)) (IsSingleError s more new.pass) (single_error count more counted untouched)

  -- the file has ended
  pub finished_clause : (sha256 : Option (List ℕ)) → sha256 ≡ sha256_by policy bytes → (now : Holder) → now ≡ new.pass → (info : XetFileInfo) (metrics : DeduplicationMetrics) (choices : List Choice) (rest : Aggregate)
      → IsFinished (holder_in start) (holder_in new) id sha256 bytes info metrics choices rest
      → IsFinished (passing_of s.start s.start false) (passing_of s.start now false) s.source (sha256_by s.policy s.bytes) s.bytes info metrics choices rest
  finished_clause sha256 by now is info metrics choices rest ended =
      subst (λ (h : Holder). IsFinished (passing_of s.start s.start false) (passing_of s.start h false) s.source (sha256_by s.policy s.bytes) s.bytes info metrics choices rest) (sym is)
      (subst (λ (x : SingleFileState). IsFinished (passing_of x.start x.start false) (passing_of x.start new.pass false) x.source (sha256_by x.policy x.bytes) x.bytes info metrics choices rest) view
      (subst (λ (x : Option (List ℕ)). IsFinished (passing_of start.start start.start false) (passing_of start.start new.pass false) number x bytes info metrics choices rest) by
      (finished_after store start old new id number kept of passing f.follows sha256 bytes info metrics choices rest ended)))

-- Bytes are too many by what contracts see if they are by what the file counts.
pub too_long : (store : RecordedState) (start old : PassingState) (id number : ℕ) (policy : Sha256Policy) (bytes : List ℕ) (whole : Bool) (s : SingleFileState) → single_state start.start old.pass number policy bytes whole ≡ s
    → IsKept store start old id number → (count : ℕ) (more : List ℕ) → count ≡ length bytes → s.start.limits.max_source_bytes < length s.bytes + length more → old.start.limits.max_source_bytes < count + length more
too_long store start old id number policy bytes whole s view kept count more counted long =
    let here : start.start.limits.max_source_bytes < length bytes + length more =
    subst (λ (x : SingleFileState). x.start.limits.max_source_bytes < length x.bytes + length more) (sym view) long in
    omega (arith, here, counted, ap (λ (h : Holder). h.limits.max_source_bytes) kept.same)
