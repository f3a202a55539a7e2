-- All that is promised where workers cleaned all sources.
use Rattle.std.proofs.Common.{◌≡◌, ℕ, ◌≤◌, Bool, List, Ok, length, map}
use Rattle.xet_clean.specs.Merging.{Part, files_of}
use Rattle.xet_clean.specs.Sources.{AreDone}
use Rattle.xet_clean.specs.declared.info.Cleaned.{Cleaned}
use Rattle.xet_store.specs.Recorded.{RecordedState}
use Rattle.xet_store_disk.specs.Cleaning.{AreTaken, Later}
use Rattle.xet_store_disk.specs.Store.{Sound}
use Rattle.xet_workers.specs.Workers.{Worked}
use Rattle.xet_workers.specs.internal.Ending.{HasMerged, Promises}
use Rattle.xet_workers.specs.internal.Parts.{ArePartsBy}
use Rattle.xet_workers.proofs.Ended.{ended_adds, ended_cleaned, ended_files, ended_grows, ended_infos, ended_keeps, ended_read, ended_recorded}

module _ {S : Type 0} (tells : S → Bool) (left : S → List ℕ) (faults : S → ℕ) (sources now : List S) (old new : RecordedState) (ws : List Worked) (ps : List Part) (are : ArePartsBy old 1 ws ps) (c : Cleaned)
    (m : HasMerged old new (map (λ w. w.pass) ws) ps c.infos.items c.choices.items c.metrics) (done : AreDone tells left faults old.store.limits.max_source_bytes sources now (files_of ps)) where
  pub ended_promises : (workers : ℕ) → length ws ≤ workers → Sound new.store → map tells now ≡ map tells sources → AreTaken tells left sources now → Later faults sources now
      → Promises workers tells left faults sources now old new (Ok c)
  ended_promises workers few sound tell taken later = record {
    infos = ended_infos old new ws ps are c.infos.items c.choices.items c.metrics m tells left faults sources now done;
    read = (ended_read old new ws ps are c.infos.items c.choices.items c.metrics m tells left faults sources now done).read;
    short = (ended_read old new ws ps are c.infos.items c.choices.items c.metrics m tells left faults sources now done).short;
    files = λ observable all separate. ended_files old new ws ps are c.infos.items c.choices.items c.metrics m tells left faults sources now done sound observable all separate;
    recorded = ended_recorded old new ws ps are c.infos.items c.choices.items c.metrics m;
    cleaned = ended_cleaned old new ws ps are c.infos.items c.choices.items c.metrics m tells left faults sources now done workers few;
    keeps = ended_keeps old new ws ps are c.infos.items c.choices.items c.metrics m;
    steps = ended_grows old new ws ps are c.infos.items c.choices.items c.metrics m;
    adds = ended_adds old new ws ps are c.infos.items c.choices.items c.metrics m sound;
    tell = tell;
    taken = taken;
    later = later;
    reason = tt;
    bound = tt;
  }
