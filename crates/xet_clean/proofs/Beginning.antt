-- A file of no bytes, and what was made of no files.
use Rattle.std.proofs.Common.{◌≡◌, ℕ, Bool, true, false, [], refl, sym, subst, arith}
use Rattle.xet_cut.specs.Limits.{AreInRange}
use Rattle.xet_cut.specs.Streams.{IsSplit, Splitting}
use Rattle.xet_cut.specs.declared.limits.LimitSettings.{LimitSettings}
use Rattle.xet_cut.specs.theorems.FirstBoundary.{none_in_nothing}
use Rattle.xet_dedup.specs.Deduping.{IsDeduped}
use Rattle.xet_file_plan.specs.Moves.{PlanState, empty_plan}
use Rattle.xet_store.specs.Interface.{Stands}
use Rattle.xet_store.specs.Holders.{Holder, calls_of, core_at, lengths_in, xorb_limits}
use Rattle.xet_store.specs.theorems.Following.{asking_nothing, follows_nothing}
use Rattle.xet_clean.specs.Cleaner.{IsCleaning}
use Rattle.xet_aggregate.specs.Aggregate.{empty}
use Rattle.xet_aggregate.specs.Metrics.{zeros}
use Rattle.xet_clean.specs.Working.{IsWorking}

abbrev IsDedupedAt : Holder → PlanState → Type 0
IsDedupedAt h plan = IsDeduped (lengths_in (core_at h)) (Stands h) (calls_of h) (calls_of h) (xorb_limits h.limits) plan

no_bytes_split : (s : LimitSettings) → AreInRange s → IsSplit s [] [] []
no_bytes_split s range = record { joined = λ rest. refl; none = none_in_nothing s range.minimum_from range.minimum_to }

-- the empty plan, and no bytes buffered
begins_empty : (h : Holder) → AreInRange h.limits → IsDedupedAt h (empty_plan h.limits)
    → IsCleaning h h true (empty_plan h.limits) (0, 0) (record { settings = h.limits; buffered = [] }) 0 []
unfolding asking_nothing
begins_empty h range deduped = record {
  is_whole = refl;
  none_global = refl;
  counted = refl;
  range = range;
  short = omega arith;
  settings = refl;
  same = refl;
  parts = [];
  split = no_bytes_split h.limits range;
  leaves = refl;
  long = tt;
  taken = refl;
  deduped = deduped;
  follows = asking_nothing h;
  passed = refl;
  asked = omega arith;
  nexts = tt;
  lands = tt;
  few = omega arith;
  own = tt;
}

pub cleaning_begins : (h : Holder) (whole : Bool) (plan : PlanState) (global : ℕ × ℕ) (splitting : Splitting) (count : ℕ) → whole ≡ true → plan ≡ empty_plan h.limits → global ≡ (0, 0)
    → splitting ≡ record { settings = h.limits; buffered = [] } → count ≡ 0 → AreInRange h.limits → IsDedupedAt h plan → IsCleaning h h whole plan global splitting count []
cleaning_begins h whole plan global splitting count is_whole empty none nothing zero range deduped =
    subst (λ (w : Bool). IsCleaning h h w plan global splitting count []) (sym is_whole)
    (subst (λ (p : PlanState). IsCleaning h h true p global splitting count []) (sym empty)
    (subst (λ (x : ℕ × ℕ). IsCleaning h h true (empty_plan h.limits) x splitting count []) (sym none)
    (subst (λ (s : Splitting). IsCleaning h h true (empty_plan h.limits) (0, 0) s count []) (sym nothing)
    (subst (λ (n : ℕ). IsCleaning h h true (empty_plan h.limits) (0, 0) (record { settings = h.limits; buffered = [] }) n []) (sym zero)
    (begins_empty h range (subst (IsDedupedAt h) empty deduped))))))

-- ---- nothing was cleaned yet

pub nothing_cleaned : (h : Holder) → h.stopped ≡ false → IsWorking h h [] [] [] zeros empty
unfolding follows_nothing
nothing_cleaned h going = record {
  follows = follows_nothing h;
  going = going;
  pointers = refl;
  chosen = refl;
  once = λ k below. absurd (omega (arith, below));
  sums = refl;
  planned = tt;
  records = refl;
  waits = tt;
  aggregate = record { parts = record { count = omega arith; small = tt; total = omega arith }; boundaries = tt; runs = tt };
  within = record { within = record { bytes = omega arith; count = omega arith; small = tt }; hashed = tt };
  forms = tt;
  nothing = λ none. refl;
  lands = tt;
  new = refl;
  bound = omega arith;
  own = tt;
}
