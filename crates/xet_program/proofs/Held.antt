-- Files of which a session has a plan: chunks that are stored over its disk have their hashes.
use Rattle.std.proofs.Common.{◌≡◌, inl, inr, ◌∙◌, ℕ, Bool, true, false, nat_eq, List, [], ◌∷◌, length, Option, Some, None, IsSome, Result, Ok, Err, IfOk, Vec, Global, option_map, refl, sym, ap, subst}
use Rattle.std.specs.Cmp.Lexicographic.{pointwise}
use Rattle.std.specs.List.{AllByRecursion}
use Rattle.xet_cut.specs.declared.limits.LimitSettings.{LimitSettings}
use Rattle.xet_folder.specs.Contents.{IsRecord}
use Rattle.xet_folder.specs.Stored.{IsStored}
use Rattle.xet_folder.specs.Xorbs.{AreBacked, IsListed, found}
use Rattle.xet_hash.specs.Hash.{zero_hash}
use Rattle.xet_hash.specs.Merkle.{file_hash, leaf_of, leaves_of}
use Rattle.xet_io.specs.Disk.{Files}
use Rattle.xet_shard_format.specs.declared.record.MDBFileInfo.{MDBFileInfo}
use Rattle.xet_store_disk.specs.Cleaning.{Keeps}
use Rattle.xet_store_disk.specs.Opening.{IsOpened, contents_of}
use Rattle.xet_store_disk.specs.Separate.{Among, HasChunks as HasListed}
use Rattle.xet_store_disk.specs.Store.{Sound, State, plan_of}
use Rattle.xet_store_disk.specs.theorems.Plans.{resolves_among, resolves_map}
use Rattle.xet_store_disk.specs.theorems.Whole.{found_has, mapped, same_key}
use Rattle.xet_program.specs.declared.ending.Stop.{Stop}
use Rattle.xet_program.specs.Ending.{CanOpen}
use Rattle.xet_program.specs.Making.{HasChunk, HasChunks, IsMadeText, both_files}
use Rattle.xet_program.specs.Report.{hash_of_file}
use Rattle.xet_program.specs.Tasks.{default_limits, store_folder}
use Rattle.xet_program.specs.internal.Made.{HasPlan, IsMade}
use Rattle.xet_program.specs.internal.Stops.{ForValid}

-- ---- chunks

each_among : {X : Type 0} (P : X → Type 0) (xs : List X) → ((x : X) → Among xs x → P x) → AllByRecursion P xs
each_among P [] all = tt
each_among P (x ∷ xs) all = (all x (inl refl), each_among P xs (λ y a. all y (inr a)))

some_of : {X : Type 0} (o : Option X) → IsSome o → (x : X) × (o ≡ Some x)
some_of None is = absurd (cc is)
some_of (Some x) is = (x, refl)

module _ (s : State) (sound : Sound s) (told : s.tells ≡ true) (folder : s.folder ≡ store_folder) where
  -- chunks of the xorbs of a plan
  module _ (bytes : List ℕ) where
    abbrev hash : List ℕ
    hash = hash_of_file default_limits bytes

    of_chunks : (chunks : List (List ℕ)) → AllByRecursion (HasChunk s.files s.xorbs) chunks → file_hash (leaves_of chunks) ≡ hash → HasChunks s.files s.xorbs bytes
    of_chunks chunks stored is = record {
      chunks = chunks;
      stored = stored;
      hash = is;
      each = λ same. subst (AllByRecursion (HasChunk s.files s.xorbs)) (same is) stored;
    }

    of_record : (f : MDBFileInfo) → found s.records hash ≡ Some f → HasChunks s.files s.xorbs bytes
    of_record f there =
        let r = found_has (IsRecord s.xorbs) s.records hash f sound.recorded there in
        let whole = resolves_map leaf_of (IsListed s.xorbs) (HasListed s) (λ (m : List ℕ × ℕ). m.1)
        (λ h leaves listed. let b = sound.backed told h leaves listed in (b.chunks, (subst (λ (o : Option (List (List ℕ × ℕ))). IsSome o) (sym listed) refl, b.stored), b.same)) f.segments r.leaves r.resolves in
        of_chunks whole.0
        (each_among (HasChunk s.files s.xorbs) whole.0 (λ b among.
        let from = resolves_among (HasListed s) length f.segments whole.0 b whole.1 among in
        (from.0, from.1, from.2.0, subst (λ (x : List ℕ). IsStored s.files x from.0 from.1) folder from.2.1, from.3)))
        (ap file_hash whole.2 ∙ r.hash)

    of_plan : IsSome (plan_of s.records hash) → HasChunks s.files s.xorbs bytes
    unfolding plan_of
    of_plan is = by_test (pointwise nat_eq hash zero_hash) refl is
      where
        by_test : (t : Bool) → pointwise nat_eq hash zero_hash ≡ t → IsSome (elim t [ true ↦ Some [] | false ↦ option_map (λ f. f.segments) (found s.records hash) ]) → HasChunks s.files s.xorbs bytes
        by_test true empty there = of_chunks [] tt (sym (same_key hash zero_hash empty))
        by_test false other there =
            let plan = some_of (option_map (λ (f : MDBFileInfo). f.segments) (found s.records hash)) there in
            let f = mapped (λ (f : MDBFileInfo). f.segments) (found s.records hash) plan.0 plan.1 in
            of_record f.0 f.1

-- ---- over the disk that the session hands back

module _ (tells : Bool) (disk files : Files) (now : ℕ) (s t : State) (opened : IsOpened tells false disk store_folder default_limits now s) (keeps : Keeps s t) (sound : Sound t) (is : files ≡ t.files) where
  folder_then : t.folder ≡ store_folder
  folder_then = keeps.folder ∙ opened.same_folder

  planned : (bytes : List ℕ) → HasPlan t bytes → tells ≡ true → HasChunks files t.xorbs bytes
  planned bytes plan told =
      let limits : t.limits ≡ default_limits = keeps.limits ∙ opened.same_limits in
      let here : IsSome (plan_of t.records (hash_of_file default_limits bytes)) = subst (λ (l : LimitSettings). IsSome (plan_of t.records (hash_of_file l bytes))) limits plan in
      subst (λ (x : Files). HasChunks x t.xorbs bytes) (sym is) (of_plan t sound (keeps.tells ∙ opened.same_tells ∙ told) folder_then bytes here)

  all_planned : (fs : List (List ℕ)) → AllByRecursion (HasPlan t) fs → tells ≡ true → AllByRecursion (HasChunks files t.xorbs) fs
  all_planned [] plans told = tt
  all_planned (f ∷ fs) plans told = (planned f plans.0 told, all_planned fs plans.1 told)

  text_of : (bytes text : List ℕ) → IsMade bytes s t text → IsMadeText tells (contents_of s) files bytes text
  text_of bytes text m = record {
    first = m.first;
    second = m.second;
    xorbs = t.xorbs;
    is = m.is;
    few = m.few;
    listed = record {
      added = m.added.added;
      is = m.added.is;
      few = m.added.few;
      differ = sound.xorbs_differ;
      backed = λ told.
          let here : AreBacked t.files store_folder t.xorbs = subst (λ (f : List ℕ). AreBacked t.files f t.xorbs) folder_then (sound.backed (keeps.tells ∙ opened.same_tells ∙ told)) in
          subst (λ (x : Files). AreBacked x store_folder t.xorbs) (sym is) here;
    };
    stored = all_planned (both_files bytes) m.planned;
  }

  pub texts_of : (bytes : List ℕ) (valid : tells ≡ true → CanOpen disk now (contents_of s)) (r : Result (Vec ℕ Global) Stop) → IfOk r (λ text. IsMade bytes s t text.items)
      → IfOk r (λ text. ForValid tells disk now (λ contents. IsMadeText tells contents files bytes text.items))
  texts_of bytes valid (Ok text) made = (contents_of s, valid, text_of bytes text.items made)
  texts_of bytes valid (Err e) made = tt
