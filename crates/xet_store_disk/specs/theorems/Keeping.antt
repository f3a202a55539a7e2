-- What a session keeps over several calls.
use Rattle.std.proofs.Common.{◌≡◌, ◌⊎◌, inl, inr, ◌∙◌, ◌≤◌, ℕ, Bool, true, List, [], ◌∷◌, ◌++◌, Option, Some, None, IsSome, append_assoc, option_map, refl, sym, ap, subst, arith}
use Rattle.std.specs.List.{AllByRecursion}
use Rattle.xet_base.specs.theorems.Elements.{all_both}
use Rattle.xet_io.specs.Disk.{Entry, file_at}
use Rattle.xet_io.specs.Entries.{Entries}
use Rattle.xet_io.specs.theorems.Passing.{passes_more, passes_same, passes_then}
use Rattle.xet_folder.specs.Admission.{ShardHolds}
use Rattle.xet_folder.specs.Names.{IsForeign, xorb_path}
use Rattle.xet_shard_file.specs.Names.{shard_path}
use Rattle.xet_folder.specs.Xorbs.{FileRecords, found}
use Rattle.xet_store_disk.specs.Cleaning.{HasShardAt, HasWholeShard, HasXorb, IsDurable, Keeps, KeepsAt, SameEntry, files_at}
use Rattle.xet_store_disk.specs.Separate.{Among}
use Rattle.xet_store_disk.specs.Store.{State}
use Rattle.xet_store_disk.specs.theorems.Admitting.{holds_same, stored_same}
use Rattle.xet_store_disk.specs.theorems.Rows.{among_after, among_more, is_some_found}
use Rattle.xet_store_disk.specs.theorems.Staying.{Leaves, all_among, keeps_now, keeps_stays, same_bytes_at, same_file_at, stays_same}

-- no call at all
pub keeps_nothing : (s : State) → Keeps s s
keeps_nothing s = keeps_stays s s.tells s.files s.faults (stays_same s)

-- a call after which only its disk has failed more often
pub keeps_counted : (s : State) (n : ℕ) → s.faults ≤ n → Keeps s (record s { faults = n })
keeps_counted s n later = keeps_stays s s.tells s.files n (record {
  tells_same = refl;
  later = later;
  xorb_files = λ told h is. refl;
  shard_files = (stays_same s).shard_files;
  xorb_names = λ told h is. inl refl;
  shard_names = λ told h is. inl refl;
  foreign = λ told name is. refl;
  passes = λ told. passes_same (KeepsAt s) s.files s.files refl (keeps_now s);
})

-- a listed xorb is listed still
pub listed_still : (a b : State) → Keeps a b → (k : List ℕ) → IsSome (found a.xorbs k) → IsSome (found b.xorbs k)
listed_still a b keeps k is = go (found a.xorbs k) refl is
  where
    go : (o : Option Leaves) → found a.xorbs k ≡ o → IsSome o → IsSome (found b.xorbs k)
    go None e bad = absurd (cc bad)
    go (Some m) e ok = is_some_found b.xorbs k m (keeps.xorbs k m e)

abbrev stability : Option Entry → Option Bool
stability e = option_map (λ (x : Entry). x.durable) e

-- At a moment after a call there is what there was before it.
module _ (a b : State) (told : a.tells ≡ true) (x : Keeps a b) (m : Entries) (y : KeepsAt b m) where
  moved_xorb : (k : List ℕ) → SameEntry b.files (files_at m) (xorb_path b.folder k) → SameEntry b.files (files_at m) (xorb_path a.folder k)
  moved_xorb k same = subst (λ (f : List ℕ). SameEntry b.files (files_at m) (xorb_path f k)) x.folder same

  both : (hs : List (List ℕ)) → AllByRecursion (λ h. SameEntry a.files b.files (shard_path a.folder h)) hs
      → ((h : List ℕ) → Among hs h → SameEntry b.files (files_at m) (shard_path a.folder h))
      → AllByRecursion (λ h. SameEntry a.files (files_at m) (shard_path a.folder h)) hs
  both [] all next = tt
  both (h ∷ hs) all next = (next h (inl refl) ∙ all.0, both hs all.1 (λ k is. next k (inr is)))

  xorb_name : (k : List ℕ) → SameEntry a.files b.files (xorb_path a.folder k) ⊎ HasXorb b.files b.folder k
      → SameEntry b.files (files_at m) (xorb_path b.folder k) ⊎ HasXorb (files_at m) b.folder k
      → SameEntry a.files (files_at m) (xorb_path a.folder k) ⊎ HasXorb (files_at m) a.folder k
  xorb_name k one (inr there) = inr (subst (λ (f : List ℕ). HasXorb (files_at m) f k) x.folder there)
  xorb_name k (inl one) (inl two) = inl (moved_xorb k two ∙ one)
  xorb_name k (inr there) (inl two) =
      inr (subst (λ (f : List ℕ). HasXorb (files_at m) f k) x.folder (record {
        chunks = there.chunks;
        stored = stored_same b.files (files_at m) b.folder k there.chunks (same_bytes_at b.files (files_at m) (xorb_path b.folder k) two) there.stored;
        durable = ap stability two ∙ there.durable;
      }))

  -- a xorb that is listed after the call was listed before, or is durable
  newly : (k : List ℕ) → IsSome (found b.xorbs k) → IsSome (found a.xorbs k) ⊎ IsDurable (files_at m) (xorb_path a.folder k)
  newly k is = go (found a.xorbs k) refl
    where
      go : (o : Option Leaves) → found a.xorbs k ≡ o → IsSome (found a.xorbs k) ⊎ IsDurable (files_at m) (xorb_path a.folder k)
      go (Some leaves) e = inl (is_some_found a.xorbs k leaves e)
      go None e = inr (ap stability (moved_xorb k (y.xorb_files k is)) ∙ x.listed_files told k e is)

  shard_name : (k : List ℕ) → SameEntry a.files b.files (shard_path a.folder k) ⊎ HasWholeShard b k → SameEntry b.files (files_at m) (shard_path b.folder k) ⊎ HasShardAt b m k
      → SameEntry a.files (files_at m) (shard_path a.folder k) ⊎ HasShardAt a m k
  shard_name k one (inr w) = inr (record {
    shard = record {
      file = w.shard.file;
      there = subst (λ (f : List ℕ). file_at (files_at m) (shard_path f k) ≡ Some w.shard.file) x.folder w.shard.there;
      durable = subst (λ (f : List ℕ). IsDurable (files_at m) (shard_path f k)) x.folder w.shard.durable;
      holds = subst (λ (f : List ℕ). ShardHolds (files_at m) f (record { hash = k; file = w.shard.file })) x.folder w.shard.holds;
    };
    named = λ h of. by h (w.named h of);
  })
    where
      by : (h : List ℕ) → IsSome (found b.xorbs h) ⊎ IsDurable (files_at m) (xorb_path b.folder h) → IsSome (found a.xorbs h) ⊎ IsDurable (files_at m) (xorb_path a.folder h)
      by h (inl is) = newly h is
      by h (inr durable) = inr (subst (λ (f : List ℕ). IsDurable (files_at m) (xorb_path f h)) x.folder durable)
  shard_name k (inl one) (inl two) = inl (subst (λ (f : List ℕ). SameEntry b.files (files_at m) (shard_path f k)) x.folder two ∙ one)
  shard_name k (inr w) (inl two) = inr (record {
    shard = record {
      file = w.shard.file;
      there = subst (λ (f : List ℕ). file_at (files_at m) (shard_path f k) ≡ Some w.shard.file) x.folder (same_file_at b.files (files_at m) (shard_path b.folder k) two ∙ w.shard.there);
      durable = subst (λ (f : List ℕ). IsDurable (files_at m) (shard_path f k)) x.folder (ap stability two ∙ w.shard.durable);
      holds = subst (λ (f : List ℕ). ShardHolds (files_at m) f (record { hash = k; file = w.shard.file })) x.folder
          (holds_same b.files (files_at m) b.folder (record { hash = k; file = w.shard.file }) (λ h of. same_bytes_at b.files (files_at m) (xorb_path b.folder h) (y.xorb_files h (w.listed h of))) w.shard.holds);
    };
    named = λ h of. newly h (w.listed h of);
  })

  pub keeps_at_then : KeepsAt a m
  keeps_at_then = record {
    xorb_files = λ k is. moved_xorb k (y.xorb_files k (listed_still a b x k is)) ∙ x.xorb_files told k is;
    shard_files =
        let first = x.shard_files told in
        let second = subst (λ (f : List ℕ). AllByRecursion (λ h. SameEntry b.files (files_at m) (shard_path f h)) b.shards) x.folder y.shard_files in
        both a.shards first (λ h a. all_among (λ h. SameEntry b.files (files_at m) (shard_path _ h)) b.shards h second
        (subst (λ (l : List (List ℕ)). Among l h) (sym x.shards.1) (among_more _ x.shards.0 h a)));
    xorb_names = λ k is. xorb_name k (x.xorb_names told k is) (y.xorb_names k is);
    shard_names = λ k is. shard_name k (x.shard_names told k is) (y.shard_names k is);
  }

-- two calls, one after the other
pub keeps_then : (a b c : State) → Keeps a b → Keeps b c → Keeps a c
keeps_then a b c x y = record {
  tells = y.tells ∙ x.tells;
  folder = y.folder ∙ x.folder;
  limits = y.limits ∙ x.limits;
  opened = y.opened ∙ x.opened;
  later = omega (arith, x.later, y.later);
  xorbs = λ k leaves listed. y.xorbs k leaves (x.xorbs k leaves listed);
  records = (x.records.0 ++ y.records.0, y.records.1 ∙ ap (λ (l : FileRecords). l ++ y.records.0) x.records.1 ∙ append_assoc a.records x.records.0 y.records.0);
  shards = (x.shards.0 ++ y.shards.0, y.shards.1 ∙ ap (λ (l : List (List ℕ)). l ++ y.shards.0) x.shards.1 ∙ append_assoc a.shards x.shards.0 y.shards.0);
  xorb_files = λ told k is. moved_xorb k (y.xorb_files (x.tells ∙ told) k (listed_still a b x k is)) ∙ x.xorb_files told k is;
  shard_files = λ told.
      let first = x.shard_files told in
      let second = subst (λ (f : List ℕ). AllByRecursion (λ h. SameEntry b.files c.files (shard_path f h)) b.shards) x.folder (y.shard_files (x.tells ∙ told)) in
      both a.shards first (λ h a. all_among (λ h. SameEntry b.files c.files (shard_path _ h)) b.shards h second
      (subst (λ (l : List (List ℕ)). Among l h) (sym x.shards.1) (among_more _ x.shards.0 h a)));
  listed_files = λ told k none is. newly k told none (found b.xorbs k) refl is;
  registered_files = λ told. all_both (λ h. IsDurable c.files (shard_path a.folder h)) x.shards.0 y.shards.0
      (still_durable x.shards.0 (x.registered_files told) (λ h among. later told h (subst (λ (l : List (List ℕ)). Among l h) (sym x.shards.1) (among_after a.shards x.shards.0 h among))))
      (subst (λ (f : List ℕ). AllByRecursion (λ h. IsDurable c.files (shard_path f h)) y.shards.0) x.folder (y.registered_files (x.tells ∙ told)));
  xorb_names = λ told k is. xorb_name k (x.xorb_names told k is) (y.xorb_names (x.tells ∙ told) k is);
  shard_names = λ told k is. shard_name k told (x.shard_names told k is) (y.shard_names (x.tells ∙ told) k is);
  foreign = λ told name is. y.foreign (x.tells ∙ told) name (subst (λ (f : List ℕ). IsForeign f name) (sym x.folder) is) ∙ x.foreign told name is;
  passes = λ told. passes_then (KeepsAt a) a.files b.files c.files (x.passes told)
      (passes_more (KeepsAt b) (KeepsAt a) b.files c.files (λ m at. keeps_at_then a b told x m at) (y.passes (x.tells ∙ told)));
}
  where
    moved_xorb : (k : List ℕ) → SameEntry b.files c.files (xorb_path b.folder k) → SameEntry b.files c.files (xorb_path a.folder k)
    moved_xorb k same = subst (λ (f : List ℕ). SameEntry b.files c.files (xorb_path f k)) x.folder same

    newly : (k : List ℕ) → a.tells ≡ true → found a.xorbs k ≡ None → (o : Option Leaves) → found b.xorbs k ≡ o → IsSome (found c.xorbs k) → IsDurable c.files (xorb_path a.folder k)
    newly k told none None e is = subst (λ (f : List ℕ). IsDurable c.files (xorb_path f k)) x.folder (y.listed_files (x.tells ∙ told) k e is)
    newly k told none (Some m) e is =
        let there : IsSome (found b.xorbs k) = is_some_found b.xorbs k m e in
        ap stability (moved_xorb k (y.xorb_files (x.tells ∙ told) k there)) ∙ x.listed_files told k none there

    -- the file of a shard that was registered in between has not changed
    later : a.tells ≡ true → (h : List ℕ) → Among b.shards h → SameEntry b.files c.files (shard_path a.folder h)
    later told h among =
        all_among (λ h. SameEntry b.files c.files (shard_path a.folder h)) b.shards h
        (subst (λ (f : List ℕ). AllByRecursion (λ h. SameEntry b.files c.files (shard_path f h)) b.shards) x.folder (y.shard_files (x.tells ∙ told))) among

    still_durable : (hs : List (List ℕ)) → AllByRecursion (λ h. IsDurable b.files (shard_path a.folder h)) hs
        → ((h : List ℕ) → Among hs h → SameEntry b.files c.files (shard_path a.folder h)) → AllByRecursion (λ h. IsDurable c.files (shard_path a.folder h)) hs
    still_durable [] all same = tt
    still_durable (h ∷ hs) all same = (ap stability (same h (inl refl)) ∙ all.0, still_durable hs all.1 (λ k is. same k (inr is)))

    both : (hs : List (List ℕ)) → AllByRecursion (λ h. SameEntry a.files b.files (shard_path a.folder h)) hs
        → ((h : List ℕ) → Among hs h → SameEntry b.files c.files (shard_path a.folder h))
        → AllByRecursion (λ h. SameEntry a.files c.files (shard_path a.folder h)) hs
    both [] all next = tt
    both (h ∷ hs) all next = (next h (inl refl) ∙ all.0, both hs all.1 (λ k is. next k (inr is)))

    xorb_name : (k : List ℕ) → SameEntry a.files b.files (xorb_path a.folder k) ⊎ HasXorb b.files b.folder k
        → SameEntry b.files c.files (xorb_path b.folder k) ⊎ HasXorb c.files c.folder k
        → SameEntry a.files c.files (xorb_path a.folder k) ⊎ HasXorb c.files c.folder k
    xorb_name k one (inr there) = inr there
    xorb_name k (inl one) (inl two) = inl (moved_xorb k two ∙ one)
    xorb_name k (inr there) (inl two) =
        inr (subst (λ (f : List ℕ). HasXorb c.files f k) (sym y.folder) (record {
          chunks = there.chunks;
          stored = stored_same b.files c.files b.folder k there.chunks (same_bytes_at b.files c.files (xorb_path b.folder k) two) there.stored;
          durable = ap stability two ∙ there.durable;
        }))

    whole : (k : List ℕ) → a.tells ≡ true → SameEntry b.files c.files (shard_path b.folder k) → HasWholeShard b k → HasWholeShard c k
    whole k told same w = record {
      shard = record {
        file = w.shard.file;
        there = subst (λ (f : List ℕ). file_at c.files (shard_path f k) ≡ Some w.shard.file) (sym y.folder) (same_file_at b.files c.files (shard_path b.folder k) same ∙ w.shard.there);
        durable = subst (λ (f : List ℕ). IsDurable c.files (shard_path f k)) (sym y.folder) (ap stability same ∙ w.shard.durable);
        holds = subst (λ (f : List ℕ). ShardHolds c.files f (record { hash = k; file = w.shard.file })) (sym y.folder)
            (holds_same b.files c.files b.folder (record { hash = k; file = w.shard.file }) (λ h of. same_bytes_at b.files c.files (xorb_path b.folder h) (y.xorb_files (x.tells ∙ told) h (w.listed h of))) w.shard.holds);
      };
      listed = λ h of. listed_still b c y h (w.listed h of);
    }

    shard_name : (k : List ℕ) → a.tells ≡ true → SameEntry a.files b.files (shard_path a.folder k) ⊎ HasWholeShard b k → SameEntry b.files c.files (shard_path b.folder k) ⊎ HasWholeShard c k
        → SameEntry a.files c.files (shard_path a.folder k) ⊎ HasWholeShard c k
    shard_name k told one (inr w) = inr w
    shard_name k told (inl one) (inl two) = inl (subst (λ (f : List ℕ). SameEntry b.files c.files (shard_path f k)) x.folder two ∙ one)
    shard_name k told (inr w) (inl two) = inr (whole k told two w)
