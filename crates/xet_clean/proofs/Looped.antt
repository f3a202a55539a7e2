-- The loop over the sources ends after the last one.
use Rattle.std.proofs.Common.{◌≡◌, ◌∙◌, ℕ, Bool, List, [], ◌++◌, length, map, sym, ap, subst, append-nil, length-append, arith}
use Rattle.std.proofs.lemmas.List.{nil_from_length}
use Rattle.xet_aggregate.specs.Aggregate.{Aggregate}
use Rattle.xet_aggregate.specs.declared.metrics.DeduplicationMetrics.{DeduplicationMetrics}
use Rattle.xet_choices.specs.declared.choice.Choice.{Choice}
use Rattle.xet_store_disk.specs.Cleaning.{AreTaken, EachTold, Later}
use Rattle.xet_store_disk.specs.declared.info.XetFileInfo.{XetFileInfo}
use Rattle.xet_store.specs.Holders.{Holder}
use Rattle.xet_clean.specs.Closing.{Closes}
use Rattle.xet_clean.specs.Sources.{AreDone, AreRead, HasCleaned}
use Rattle.xet_clean.specs.Working.{EndsWith, Planned}
use Rattle.xet_clean.specs.theorems.Turns.{done_counts, done_read, done_told, later_all, taken_all, tell_all}
use Rattle.xet_clean.specs.declared.policy.Sha256Policy.{Sha256Policy}
use Rattle.xet_clean.proofs.Looping.{IsLoop, from_end}

module _ {S : Type 0} (tells : S → Bool) (left : S → List ℕ) (faults : S → ℕ) (policy : Sha256Policy) (sources now : List S) (n : ℕ) (start h : Holder) (infos : List XetFileInfo) (choices : List (List Choice)) (metrics : DeduplicationMetrics) (a : Aggregate)
    (l : IsLoop tells left faults policy sources now n start h infos choices metrics a) where
  pub tell_end : map tells now ≡ map tells sources
  tell_end =
      tell_all tells left faults sources now (map (λ (f : Planned). f.bytes) l.files ++ map (λ (s : S). []) l.rest)
      (from_end tells left faults policy sources now n start h infos choices metrics a l)

  pub taken_end : AreTaken tells left sources now
  taken_end =
      taken_all tells left faults sources now (map (λ (f : Planned). f.bytes) l.files ++ map (λ (s : S). []) l.rest)
      (from_end tells left faults policy sources now n start h infos choices metrics a l)

  pub later_end : Later faults sources now
  later_end =
      later_all tells left faults sources now (map (λ (f : Planned). f.bytes) l.files ++ map (λ (s : S). []) l.rest)
      (from_end tells left faults policy sources now n start h infos choices metrics a l)

  done_count : length l.done ≡ n
  done_count = (done_counts tells left faults start.limits.max_source_bytes l.done l.made l.files l.are).0 ∙ l.count

  module _ (all : n ≡ length sources) where
    none_left : l.rest ≡ []
    none_left = nil_from_length l.rest (omega (arith, all, ap length l.old_is, length-append l.done l.rest, done_count))

    all_done : sources ≡ l.done
    all_done = l.old_is ∙ ap (λ (r : List S). l.done ++ r) none_left ∙ append-nil l.done

    all_made : now ≡ l.made
    all_made = l.now_is ∙ ap (λ (r : List S). l.made ++ r) none_left ∙ append-nil l.made

    pub read_end : AreRead tells left start.limits.max_source_bytes sources now
    read_end =
        subst (λ (ts : List S). AreRead tells left start.limits.max_source_bytes sources ts) (sym all_made)
        (subst (λ (ss : List S). AreRead tells left start.limits.max_source_bytes ss l.made) (sym all_done) (done_read tells left faults start.limits.max_source_bytes l.done l.made l.files l.are))

    pub has_cleaned : HasCleaned policy tells left faults sources now start h infos choices metrics a
    has_cleaned = record {
      files = l.files;
      are = subst (λ (ts : List S). AreDone tells left faults start.limits.max_source_bytes sources ts l.files) (sym all_made)
          (subst (λ (ss : List S). AreDone tells left faults start.limits.max_source_bytes ss l.made l.files) (sym all_done) l.are);
      policies = l.policies;
      working = l.working;
    }

    pub ends_with : (last : Holder) → Closes a [] h last → EndsWith policy tells left sources start last l.files infos choices metrics
    ends_with last closes = record {
      told = subst (λ (ss : List S). EachTold tells left (λ bytes f. f.bytes ≡ bytes) ss l.files) (sym all_done) (done_told tells left faults start.limits.max_source_bytes l.done l.made l.files l.are);
      policies = l.policies;
      before = h;
      aggregate = a;
      working = l.working;
      closes = closes;
    }
