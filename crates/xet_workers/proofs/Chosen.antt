-- The choices of the files of a part are true over the calls of its pass, and name its own entries.
use Rattle.std.proofs.Common.{◌≡◌, ◌∙◌, ℕ, ◌≤◌, List, [], ◌∷◌, ◌++◌, Contains, length, map, None, Some, slice_get, refl, sym, ap, subst, arith}
use Rattle.std.specs.List.{AllByRecursion, flat_map}
use Rattle.std.proofs.lemmas.List.{length-map, nil_from_length}
use Rattle.std.proofs.lemmas.List.Elements.{Contains-append_left, Contains-append_right}
use Rattle.xet_base.specs.theorems.Elements.{all_both}
use Rattle.xet_choices.specs.Calls.{Call}
use Rattle.xet_choices.specs.Calls.Call.{Asked}
use Rattle.xet_choices.specs.Choices.{AllTrue, Setting, hashes_of, no_place_entries}
use Rattle.xet_choices.specs.Ranges.{total}
use Rattle.xet_choices.specs.declared.choice.Choice.{Choice}
use Rattle.xet_choices.specs.declared.choice.Choice.TheVariants.{NoPlace}
use Rattle.xet_choices.specs.theorems.Entries.{no_place_entries-append}
use Rattle.xet_clean.specs.theorems.Choosing.{all_true_more}
use Rattle.xet_clean.specs.theorems.Rising.{all_entries, asked_of, asked_still, calls_stay}
use Rattle.xet_clean.specs.theorems.Sums.{no_leaves}
use Rattle.xet_clean.specs.Files.{HasChoices, leaves_in}
use Rattle.xet_clean.specs.Policies.{sha256_by}
use Rattle.xet_clean.specs.Working.{AreRecorded, BeginsWithRecord, IsRecordOf, Planned, WasPlanned}
use Rattle.xet_clean.specs.declared.policy.Sha256Policy.TheVariants.{Compute}
use Rattle.xet_cut.specs.declared.limits.LimitSettings.{LimitSettings}
use Rattle.xet_dedup.specs.Records.{file_record}
use Rattle.xet_file_plan.specs.Moves.{counts_of}
use Rattle.xet_file_plan.specs.theorems.Placed.{total_placed}
use Rattle.xet_history.specs.declared.entry.Entry.{Entry}
use Rattle.xet_shard_format.specs.declared.record.MDBFileInfo.{MDBFileInfo}
use Rattle.xet_store.specs.Holders.{Follows, Holder, calls_in, calls_of}
use Rattle.xet_workers.specs.Cleaning.{AreChosenBy, HasChoicesBy}
use Rattle.xet_workers.proofs.Naming.{asked_among}
use Rattle.xet_workers.proofs.Parting.{numbers_of}

-- ---- choices over the calls of some pass

module _ (workers : ℕ) (s : LimitSettings) (calls : ℕ → List Call) where
  begins_by : (bytes : List ℕ) (choices : List Choice) (others : List (List ℕ)) (rest : List (List Choice)) (is : MDBFileInfo → Type 0) (P : List MDBFileInfo → Type 0) → (length bytes ≡ 0 → choices ≡ [])
      → ((r : MDBFileInfo) → is r → HasChoicesBy workers s calls bytes choices r) → ((rs : List MDBFileInfo) → P rs → AreChosenBy workers s calls others rest rs) → (rs : List MDBFileInfo) → BeginsWithRecord bytes is P rs
      → AreChosenBy workers s calls (bytes ∷ others) (choices ∷ rest) rs
  begins_by [] choices others rest is P none one go rs all = (none refl, go rs all)
  begins_by (b ∷ bs) choices others rest is P none one go [] all = absurd all
  begins_by (b ∷ bs) choices others rest is P none one go (r ∷ rs) all = (one r all.0, go rs all.1)

  -- of some files, and then of others
  pub chosen_both : (fs : List (List ℕ)) (cs : List (List Choice)) (rs : List MDBFileInfo) (gs : List (List ℕ)) (ds : List (List Choice)) (ss : List MDBFileInfo)
      → AreChosenBy workers s calls fs cs rs → AreChosenBy workers s calls gs ds ss → AreChosenBy workers s calls (fs ++ gs) (cs ++ ds) (rs ++ ss)
  chosen_both [] [] rs gs ds ss are more = subst (λ (l : List MDBFileInfo). AreChosenBy workers s calls gs ds (l ++ ss)) (sym are) more
  chosen_both [] (c ∷ cs) rs gs ds ss are more = absurd are
  chosen_both (f ∷ fs) [] rs gs ds ss are more = absurd are
  chosen_both ([] ∷ fs) (c ∷ cs) rs gs ds ss are more = (are.0, chosen_both fs cs rs gs ds ss are.1 more)
  chosen_both ((b ∷ bs) ∷ fs) (c ∷ cs) [] gs ds ss are more = absurd are
  chosen_both ((b ∷ bs) ∷ fs) (c ∷ cs) (r ∷ rs) gs ds ss are more = (are.0, chosen_both fs cs rs gs ds ss are.1 more)

-- ---- the files of one pass

module _ (start now : Holder) (follows : Follows start now) (fresh : start.own ≡ []) where
  -- all its calls
  pass_calls : calls_of now ≡ calls_in follows.own
  pass_calls = ap (λ (h : Holder). calls_in h.own) follows.is ∙ ap (λ (l : List (ℕ × Entry)). calls_in (l ++ follows.own)) fresh

  module _ (f : Planned) (was : WasPlanned start now f) where
    same_limits : was.last.limits ≡ start.limits
    same_limits = sym (ap (λ (h : Holder). h.limits) was.to.is) ∙ ap (λ (h : Holder). h.limits) follows.is

    same_leaves : f.plan.leaves ≡ leaves_in start.limits f.bytes
    same_leaves = was.planned.leaves ∙ ap (λ (l : LimitSettings). leaves_in l f.bytes) same_limits

    later : (c : Call) → Contains was.planned.deduped.plan.since c → Contains (calls_in follows.own) c
    later c a =
        subst (λ (cs : List Call). Contains cs c) (sym (calls_stay was.last now was.to) ∙ pass_calls)
        (Contains-append_left (calls_of was.last) (calls_in was.to.own) c
        (subst (λ (cs : List Call). Contains cs c) (sym was.planned.deduped.plan.added) (Contains-append_right (calls_of was.first) was.planned.deduped.plan.since c a)))

    one_each : length f.plan.choices ≡ length (leaves_in start.limits f.bytes)
    one_each = was.planned.deduped.plan.plan.one_each ∙ ap length same_leaves

    covers : total (counts_of f.plan.segments) ≡ length (leaves_in start.limits f.bytes)
    covers =
        total_placed _ _ _ f.plan.segments (hashes_of f.plan.leaves) was.planned.deduped.plan.plan.placed
        ∙ length-map f.plan.leaves (λ leaf. leaf.0)
        ∙ ap length same_leaves

    all_true : (counts : List ℕ) → counts ≡ counts_of f.plan.segments
        → AllTrue (record { settings = start.limits; leaves = leaves_in start.limits f.bytes; calls = calls_in follows.own; counts = counts; choices = f.plan.choices })
    all_true counts same =
        let settings : f.plan.settings ≡ start.limits = was.planned.settings ∙ same_limits in
        let before : Setting = record { settings = f.plan.settings; leaves = f.plan.leaves; calls = was.planned.deduped.plan.since; counts = counts_of f.plan.segments; choices = f.plan.choices } in
        let after : AllTrue (record { settings = f.plan.settings; leaves = f.plan.leaves; calls = calls_in follows.own; counts = counts_of f.plan.segments; choices = f.plan.choices }) =
        all_true_more before (calls_in follows.own) later was.planned.deduped.plan.plan.choices in
        subst AllTrue (λ i. record { settings = settings i; leaves = same_leaves i; calls = calls_in follows.own; counts = sym same i; choices = f.plan.choices }) after

    no_choices : length f.bytes ≡ 0 → f.plan.choices ≡ []
    no_choices none = nil_from_length f.plan.choices (omega (arith, one_each, no_leaves start.limits f.bytes none))

    choices_of : f.policy ≡ Compute → (file : MDBFileInfo) → IsRecordOf f file → HasChoices Compute start.limits (calls_in follows.own) f.bytes f.plan.choices file
    choices_of same file is = record {
      segments = is.segments;
      is = is.is ∙ (λ i. file_record (same_leaves i) is.segments (sha256_by (same i) f.bytes));
      covers = ap total is.counts ∙ covers;
      one_each = one_each;
      true_choices = all_true (counts_of is.segments) is.counts;
    }

    -- each entry that a choice of the file names is the pass's own
    asked_own : (i e : ℕ) → slice_get f.plan.choices i ≡ Some (NoPlace e) → Contains (numbers_of follows.own) e
    asked_own i e at =
        let asked = asked_of was.first was.last f was.planned i e at in
        let there = asked_still was.last now was.to e asked.0 None asked.1 in
        asked_among e (asked.0 ∷ there.0) None follows.own (subst (λ (cs : List Call). Contains cs (Asked e (asked.0 ∷ there.0) None)) pass_calls there.1)

  pub names_within : (files : List Planned) → AllByRecursion (WasPlanned start now) files
      → AllByRecursion (Contains (numbers_of follows.own)) (no_place_entries (flat_map (λ (cs : List Choice). cs) (map (λ f. f.plan.choices) files)))
  names_within [] planned = tt
  names_within (f ∷ fs) planned =
      let rest : List Choice = flat_map (λ (cs : List Choice). cs) (map (λ (g : Planned). g.plan.choices) fs) in
      subst (AllByRecursion (Contains (numbers_of follows.own))) (sym (no_place_entries-append f.plan.choices rest))
      (all_both (Contains (numbers_of follows.own)) (no_place_entries f.plan.choices) (no_place_entries rest)
      (all_entries (Contains (numbers_of follows.own)) f.plan.choices (asked_own f planned.0)) (names_within fs planned.1))

  module _ (workers pass : ℕ) (from : 1 ≤ pass) (to : pass ≤ workers) (calls : ℕ → List Call) (are : calls pass ≡ calls_in follows.own) where
    pub chosen_part : (files : List Planned) (records : List MDBFileInfo) → AllByRecursion (WasPlanned start now) files → AllByRecursion (λ f. f.policy ≡ Compute) files → AreRecorded files records
        → AreChosenBy workers start.limits calls (map (λ f. f.bytes) files) (map (λ f. f.plan.choices) files) records
    chosen_part [] records planned same none = none
    chosen_part (f ∷ fs) records planned same all =
        begins_by workers start.limits calls f.bytes f.plan.choices (map (λ (g : Planned). g.bytes) fs) (map (λ (g : Planned). g.plan.choices) fs) (IsRecordOf f) (λ l. AreRecorded fs l)
        (no_choices f planned.0)
        (λ r is. record {
          pass = pass;
          from = from;
          to = to;
          choices = subst (λ (cs : List Call). HasChoices Compute start.limits cs f.bytes f.plan.choices r) (sym are) (choices_of f planned.0 same.0 r is);
        })
        (λ l a. chosen_part fs l planned.1 same.1 a) records all
