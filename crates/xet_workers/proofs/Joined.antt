-- What the parts that workers made have in common, and what holds of all of them.
use Rattle.std.proofs.Common.{◌≡◌, ◌∙◌, ℕ, suc, ◌+◌, ◌*◌, ◌≤◌, false, List, [], ◌∷◌, ◌++◌, Contains, drop, length, map, refl, sym, ap, subst, length-append, arith}
use Rattle.std.specs.List.{AllByRecursion, flat_map, sum_by}
use Rattle.std.specs.List.Sorted.{IsStrictlyIncreasing}
use Rattle.std.proofs.lemmas.Grind.{flat_map-append}
use Rattle.std.proofs.lemmas.List.{map-append}
use Rattle.std.proofs.lemmas.List.Sums.{sum_by-append, sum_by-cons}
use Rattle.std.proofs.lemmas.Simd.{map-map}
use mathlib.Core.List.{IsPrefix}
use Rattle.xet_base.specs.theorems.Elements.{all_both}
use Rattle.xet_choices.specs.Calls.{Call, registered_chunks}
use Rattle.xet_choices.specs.Choices.{new_chunks, no_place_entries}
use Rattle.xet_choices.specs.declared.choice.Choice.{Choice}
use Rattle.xet_choices.specs.theorems.Entries.{no_place_entries-append}
use Rattle.xet_clean.specs.theorems.Choosing.{leaves_sum, new_sum}
use Rattle.xet_clean.specs.theorems.Hashes.{all_leaves}
use Rattle.xet_clean.specs.theorems.Session.{infos_by}
use Rattle.xet_clean.specs.Cleaning.{Lands}
use Rattle.xet_clean.specs.Closing.{recorded_in}
use Rattle.xet_clean.specs.Files.{leaves_in}
use Rattle.xet_clean.specs.Merging.{AreHeld, EachRecorded, Part, files_of, own_of}
use Rattle.xet_clean.specs.Policies.{info_by}
use Rattle.xet_clean.specs.Working.{AreRecorded, Planned}
use Rattle.xet_clean.specs.declared.policy.Sha256Policy.TheVariants.{Compute}
use Rattle.xet_cut.specs.declared.limits.LimitSettings.{LimitSettings}
use Rattle.xet_history.specs.declared.entry.Entry.{Entry}
use Rattle.xet_locked_session.specs.Passes.{IsSeen, NumbersDiffer}
use Rattle.xet_shard_format.specs.declared.record.MDBFileInfo.{MDBFileInfo}
use Rattle.xet_store.specs.Holders.{Holder, calls_in, seen}
use Rattle.xet_store.specs.Recorded.{RecordedState}
use Rattle.xet_store_disk.specs.declared.info.XetFileInfo.{XetFileInfo}
use Rattle.xet_workers.specs.Cleaning.{AreChosenBy, made_by}
use Rattle.xet_workers.specs.Workers.{Worked}
use Rattle.xet_workers.specs.internal.Parts.{ArePartsBy, IsPartBy}
use Rattle.xet_workers.proofs.Chosen.{chosen_both, chosen_part, names_within}
use Rattle.xet_workers.proofs.Landing.{IsKept}
use Rattle.xet_workers.proofs.Numbered.{HavePassed, passed_differ, passed_from, passed_number}
use Rattle.xet_workers.proofs.Ordered.{all_records}
use Rattle.xet_workers.proofs.Parting.{IsFrom, numbers_of}
use Rattle.xet_xorb_chunk.specs.Chunks.{chunk_leaf}

-- the passes of workers
abbrev pub passes_of : List Worked → List Holder
passes_of ws = map (λ w. w.pass) ws

-- all choices in one list
abbrev pub flat : List (List Choice) → List Choice
flat css = flat_map (λ (cs : List Choice). cs) css

-- the entries that a worker's choices name
abbrev pub named : Worked → List ℕ
named w = no_place_entries (flat_map (λ (cs : List Choice). cs) w.choices)

-- ---- one part

module _ (old : RecordedState) (number : ℕ) (w : Worked) (p : Part) (is : IsPartBy old number w p) where
  start_fresh : p.start.own ≡ []
  start_fresh = ap (λ (h : Holder). h.own) is.start ∙ ap (λ (l : List (ℕ × Entry)). drop (length l) l) is.passed.none

  end_own : p.end.own ≡ w.pass.own
  end_own = ap (λ (h : Holder). h.own) is.end ∙ ap (λ (l : List (ℕ × Entry)). drop (length l) w.pass.own) is.passed.none

  -- its own entries are those of the worker's pass
  pub own_is : is.working.follows.own ≡ w.pass.own
  own_is = sym (ap (λ (h : Holder). h.own) is.working.follows.is ∙ ap (λ (l : List (ℕ × Entry)). l ++ is.working.follows.own) start_fresh) ∙ end_own

  own_part : own_of p ≡ w.pass.own
  own_part = ap (λ (l : List (ℕ × Entry)). drop (length l) p.end.own) start_fresh ∙ end_own

  pub start_limits : p.start.limits ≡ old.store.limits
  start_limits = ap (λ (h : Holder). h.limits) is.start ∙ ap (λ (h : Holder). h.limits) is.passed.of.is

  end_limits : p.end.limits ≡ old.store.limits
  end_limits = ap (λ (h : Holder). h.limits) is.end ∙ ap (λ (h : Holder). h.limits) is.passed.of.is

  part_kept : (calls : List Call) → AreHeld (map chunk_leaf p.left.chunks) calls → IsKept calls w.pass.own
  part_kept calls held = (map chunk_leaf p.left.chunks, subst (λ (l : List (ℕ × Entry)). Lands (map chunk_leaf p.left.chunks) (calls_in l)) own_is is.working.lands, held)

  part_new : registered_chunks (calls_in w.pass.own) + length p.left.chunks ≡ sum_by new_chunks p.choices
  part_new =
      subst (λ (l : List (ℕ × Entry)). registered_chunks (calls_in l) + length p.left.chunks ≡ sum_by new_chunks p.choices) own_is
      (is.working.new ∙ new_sum p.files ∙ ap (sum_by new_chunks) (sym is.working.chosen))

  part_bound : length w.pass.own + (2 * length p.left.chunks + 2 * length p.left.files) ≤ 3 * sum_by (λ (c : List Choice). length c) p.choices + 2 * length p.files
  part_bound =
      let own : length is.working.follows.own ≡ length w.pass.own = ap (λ (l : List (ℕ × Entry)). length l) own_is in
      let leaves : sum_by (λ (f : Planned). length f.plan.leaves) p.files ≡ sum_by (λ (c : List Choice). length c) p.choices =
      leaves_sum p.start p.end p.files is.working.planned ∙ ap (sum_by (λ (c : List Choice). length c)) (sym is.working.chosen) in
      omega (arith, is.working.bound, own, leaves)

  part_once : IsStrictlyIncreasing (named w) × AllByRecursion (Contains (numbers_of w.pass.own)) (named w)
  part_once = (
    subst (λ (css : List (List Choice)). IsStrictlyIncreasing (no_place_entries (flat css))) is.choices is.working.once,
    subst (λ (css : List (List Choice)). AllByRecursion (Contains (numbers_of w.pass.own)) (no_place_entries (flat css))) (sym is.working.chosen ∙ is.choices)
        (subst (λ (l : List (ℕ × Entry)). AllByRecursion (Contains (numbers_of l)) (no_place_entries (flat (map (λ (f : Planned). f.plan.choices) p.files)))) own_is
        (names_within p.start p.end is.working.follows start_fresh p.files is.working.planned)),
  )

  pub part_leaves : AllByRecursion (λ f. f.plan.leaves ≡ leaves_in old.store.limits f.bytes) p.files
  part_leaves =
      subst (λ (s : LimitSettings). AllByRecursion (λ (f : Planned). f.plan.leaves ≡ leaves_in s f.bytes) p.files) start_limits (all_leaves p.start p.end is.working.follows p.files is.working.planned)

  part_infos : p.infos ≡ map (info_by Compute old.store.limits) (map (λ f. f.bytes) p.files)
  part_infos =
      is.working.pointers
      ∙ ap (λ (s : LimitSettings). map (λ (f : Planned). info_by f.policy s f.bytes) p.files) end_limits
      ∙ infos_by Compute old.store.limits p.files is.policies
      ∙ sym (map-map (info_by Compute old.store.limits) (λ (f : Planned). f.bytes) p.files)

  part_chosen : (workers : ℕ) (calls : ℕ → List Call) → 1 ≤ number → number ≤ workers → calls number ≡ calls_in w.pass.own → (records : List MDBFileInfo) → AreRecorded p.files records
      → AreChosenBy workers old.store.limits calls (map (λ f. f.bytes) p.files) p.choices records
  part_chosen workers calls from to are records recorded =
      let bytes : List (List ℕ) = map (λ (f : Planned). f.bytes) p.files in
      subst (λ (css : List (List Choice)). AreChosenBy workers old.store.limits calls bytes css records) (sym is.working.chosen)
      (subst (λ (s : LimitSettings). AreChosenBy workers s calls bytes (map (λ (f : Planned). f.plan.choices) p.files) records) start_limits
      (chosen_part p.start p.end is.working.follows start_fresh workers number from to calls (are ∙ ap calls_in (sym own_is)) p.files records is.working.planned is.policies recorded))

-- ---- all parts

module _ (old : RecordedState) where
  pub parts_passed : (n : ℕ) (ws : List Worked) (ps : List Part) → ArePartsBy old n ws ps → HavePassed old n (passes_of ws)
  parts_passed n [] [] are = tt
  parts_passed n (w ∷ ws) (p ∷ ps) are = ((are.0.begun, false, are.0.passed), parts_passed (suc n) ws ps are.1)
  parts_passed n ws ps are = absurd are

  pub passes_differ : (n : ℕ) (ws : List Worked) (ps : List Part) → ArePartsBy old n ws ps → NumbersDiffer (passes_of ws)
  passes_differ n ws ps are = passed_differ old n (passes_of ws) (parts_passed n ws ps are)

  pub all_from : (history : List Entry) (n : ℕ) (ws : List Worked) (ps : List Part) → ArePartsBy old n ws ps → AllByRecursion IsSeen (passes_of ws) → AllByRecursion (λ h. IsPrefix (seen h) history) (passes_of ws)
      → AllByRecursion (IsFrom history (length old.history)) (passes_of ws)
  all_from history n ws ps are = passed_from old history n (passes_of ws) (parts_passed n ws ps are)

  pub all_kept : (calls : List Call) (n : ℕ) (ws : List Worked) (ps : List Part) → ArePartsBy old n ws ps → AllByRecursion (λ p. AreHeld (map chunk_leaf p.left.chunks) calls) ps
      → AllByRecursion (λ h. IsKept calls h.own) (passes_of ws)
  all_kept calls n [] [] are held = tt
  all_kept calls n (w ∷ ws) (p ∷ ps) are held = (part_kept old n w p are.0 calls held.0, all_kept calls (suc n) ws ps are.1 held.1)
  all_kept calls n ws ps are held = absurd are

  -- the chunks that the passes registered, and those that were left
  pub all_new : (n : ℕ) (ws : List Worked) (ps : List Part) → ArePartsBy old n ws ps
      → sum_by (λ h. registered_chunks (calls_in h.own)) (passes_of ws) + sum_by (λ p. length p.left.chunks) ps ≡ sum_by new_chunks (flat_map (λ p. p.choices) ps)
  all_new n [] [] are = omega arith
  all_new n (w ∷ ws) (p ∷ ps) are =
      omega (
        arith,
        part_new old n w p are.0,
        all_new (suc n) ws ps are.1,
        sum_by-cons (λ (h : Holder). registered_chunks (calls_in h.own)) w.pass (passes_of ws),
        sum_by-cons (λ (q : Part). length q.left.chunks) p ps,
        sum_by-append new_chunks p.choices (flat_map (λ (q : Part). q.choices) ps),
      )
  all_new n ws ps are = absurd are

  pub all_bound : (n : ℕ) (ws : List Worked) (ps : List Part) → ArePartsBy old n ws ps
      → sum_by (λ h. length h.own) (passes_of ws) + sum_by (λ p. 2 * length p.left.chunks + 2 * length p.left.files) ps
      ≤ 3 * sum_by (λ (c : List Choice). length c) (flat_map (λ p. p.choices) ps) + 2 * length (files_of ps)
  all_bound n [] [] are = omega arith
  all_bound n (w ∷ ws) (p ∷ ps) are =
      omega (
        arith,
        part_bound old n w p are.0,
        all_bound (suc n) ws ps are.1,
        sum_by-cons (λ (h : Holder). length h.own) w.pass (passes_of ws),
        sum_by-cons (λ (q : Part). 2 * length q.left.chunks + 2 * length q.left.files) p ps,
        sum_by-append (λ (c : List Choice). length c) p.choices (flat_map (λ (q : Part). q.choices) ps),
        length-append p.files (files_of ps),
      )
  all_bound n ws ps are = absurd are

  pub all_once : (n : ℕ) (ws : List Worked) (ps : List Part) → ArePartsBy old n ws ps → AllByRecursion (λ w. IsStrictlyIncreasing (named w) × AllByRecursion (Contains (numbers_of w.pass.own)) (named w)) ws
  all_once n [] [] are = tt
  all_once n (w ∷ ws) (p ∷ ps) are = (part_once old n w p are.0, all_once (suc n) ws ps are.1)
  all_once n ws ps are = absurd are

  -- the entries that all choices name
  pub all_named : (n : ℕ) (ws : List Worked) (ps : List Part) → ArePartsBy old n ws ps → flat_map named ws ≡ no_place_entries (flat (flat_map (λ p. p.choices) ps))
  all_named n [] [] are = refl
  all_named n (w ∷ ws) (p ∷ ps) are =
      let rest : List (List Choice) = flat_map (λ (q : Part). q.choices) ps in
      ap (λ (css : List (List Choice)). no_place_entries (flat css) ++ flat_map named ws) (sym are.0.choices)
      ∙ ap (λ (l : List ℕ). no_place_entries (flat p.choices) ++ l) (all_named (suc n) ws ps are.1)
      ∙ sym (ap no_place_entries (flat_map-append (λ (cs : List Choice). cs) p.choices rest) ∙ no_place_entries-append (flat p.choices) (flat rest))
  all_named n ws ps are = absurd are

  -- what the passes recorded
  pub all_made : (n : ℕ) (ws : List Worked) (ps : List Part) → ArePartsBy old n ws ps → flat_map (λ p. recorded_in (own_of p)) ps ≡ flat_map (λ h. recorded_in h.own) (passes_of ws)
  all_made n [] [] are = refl
  all_made n (w ∷ ws) (p ∷ ps) are =
      ap (λ (l : List (ℕ × Entry)). recorded_in l ++ flat_map (λ (q : Part). recorded_in (own_of q)) ps) (own_part old n w p are.0)
      ∙ ap (λ (l : List MDBFileInfo). recorded_in w.pass.own ++ l) (all_made (suc n) ws ps are.1)
  all_made n ws ps are = absurd are

  pub files_leaves : (n : ℕ) (ws : List Worked) (ps : List Part) → ArePartsBy old n ws ps → AllByRecursion (λ f. f.plan.leaves ≡ leaves_in old.store.limits f.bytes) (files_of ps)
  files_leaves n [] [] are = tt
  files_leaves n (w ∷ ws) (p ∷ ps) are =
      all_both (λ (f : Planned). f.plan.leaves ≡ leaves_in old.store.limits f.bytes) p.files (files_of ps) (part_leaves old n w p are.0) (files_leaves (suc n) ws ps are.1)
  files_leaves n ws ps are = absurd are

  pub files_policies : (n : ℕ) (ws : List Worked) (ps : List Part) → ArePartsBy old n ws ps → AllByRecursion (λ f. f.policy ≡ Compute) (files_of ps)
  files_policies n [] [] are = tt
  files_policies n (w ∷ ws) (p ∷ ps) are = all_both (λ (f : Planned). f.policy ≡ Compute) p.files (files_of ps) are.0.policies (files_policies (suc n) ws ps are.1)
  files_policies n ws ps are = absurd are

  pub files_infos : (n : ℕ) (ws : List Worked) (ps : List Part) → ArePartsBy old n ws ps → flat_map (λ p. p.infos) ps ≡ map (info_by Compute old.store.limits) (map (λ f. f.bytes) (files_of ps))
  files_infos n [] [] are = refl
  files_infos n (w ∷ ws) (p ∷ ps) are =
      ap (λ (l : List XetFileInfo). l ++ flat_map (λ (q : Part). q.infos) ps) (part_infos old n w p are.0)
      ∙ ap (λ (l : List XetFileInfo). map (info_by Compute old.store.limits) (map (λ (f : Planned). f.bytes) p.files) ++ l) (files_infos (suc n) ws ps are.1)
      ∙ sym (map-append (info_by Compute old.store.limits) (map (λ (f : Planned). f.bytes) p.files) (map (λ (f : Planned). f.bytes) (files_of ps)))
      ∙ sym (ap (map (info_by Compute old.store.limits)) (map-append (λ (f : Planned). f.bytes) p.files (files_of ps)))
  files_infos n ws ps are = absurd are

  -- the choices of all files are true over the calls of their passes
  module _ (workers : ℕ) (calls : ℕ → List Call) (xs : List (ℕ × Entry)) (each : (k : ℕ) → 1 ≤ k → calls k ≡ calls_in (made_by k xs)) where
    pub all_chosen : (n : ℕ) (ws : List Worked) (ps : List Part) → ArePartsBy old n ws ps → 1 ≤ n → n + length ws ≤ suc workers → AllByRecursion (λ h. h.own ≡ made_by h.number xs) (passes_of ws)
        → (records : List MDBFileInfo) (recorded : EachRecorded ps records) → AreChosenBy workers old.store.limits calls (map (λ f. f.bytes) (files_of ps)) (flat_map (λ p. p.choices) ps) (all_records ps records recorded)
    all_chosen n [] [] are from few own records recorded = refl
    all_chosen n (w ∷ ws) (p ∷ ps) are from few own records recorded =
        let mine : calls n ≡ calls_in w.pass.own = each n from ∙ ap (λ (k : ℕ). calls_in (made_by k xs)) (sym (passed_number old n are.0.begun w.pass false are.0.passed)) ∙ ap calls_in (sym own.0) in
        let first : List MDBFileInfo = recorded_in (own_of p) ++ recorded.0 in
        let rest : List MDBFileInfo = all_records ps recorded.1 recorded.4 in
        subst (λ (l : List (List ℕ)). AreChosenBy workers old.store.limits calls l (p.choices ++ flat_map (λ (q : Part). q.choices) ps) (first ++ rest)) (sym (map-append (λ (f : Planned). f.bytes) p.files (files_of ps)))
        (chosen_both workers old.store.limits calls (map (λ (f : Planned). f.bytes) p.files) p.choices first (map (λ (f : Planned). f.bytes) (files_of ps)) (flat_map (λ (q : Part). q.choices) ps) rest
        (part_chosen old n w p are.0 workers calls from (omega (arith, few)) mine first recorded.3)
        (all_chosen (suc n) ws ps are.1 (omega (arith, from)) (omega (arith, few)) own.1 recorded.1 recorded.4))
    all_chosen n ws ps are from few own records recorded = absurd are
