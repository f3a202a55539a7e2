-- What `put_file` may not pass through: a name that was settled and has an entry now that is not durable.
use Rattle.std.proofs.Common.{◌≡◌, ◌≢◌, inl, inr, ℕ, true, false, List, Some, None, Option, Bool, refl, sym, ◌∙◌, ap}
use Rattle.std.specs.FinMap.{get, insert, remove}
use Rattle.xet_io.specs.Entries.{Entries, Entry, File, file, entry, file_of, written, renamed, IsPutOrKept}
use Rattle.xet_io.proofs.Changes.{renamed_there}
use Rattle.xet_io.specs.theorems.Names.{get_here, remove-insert}

abbrev durable_of : Option Entry → Bool
durable_of None = true
durable_of (Some e) = e.durable

module _ (old : Entries) (temp name bytes : List ℕ) (apart : name ≢ temp) (settled : durable_of (get old name) ≡ true) where
  pub refuted : (m : Entries) (f : Option File) → get m name ≡ Some (entry f false) → IsPutOrKept old temp name bytes m → false ≡ true
  refuted m f here (inl kept) = ap durable_of (sym here ∙ kept name apart) ∙ settled
  refuted m f here (inr put) = ap durable_of (sym here ∙ (ap (λ (n : Entries). get n name) put.1 ∙ get_here (remove old temp) name (entry (Some (file bytes put.0)) true)))

  module _ (modified : ℕ) where
    abbrev unsynced : Entry
    unsynced = entry (Some (file bytes modified)) false

    -- written and renamed, with no sync of the temporary name
    pub renamed_unsynced : IsPutOrKept old temp name bytes (renamed (written old temp bytes modified) temp name) → false ≡ true
    renamed_unsynced = refuted _ (Some (file bytes modified))
        (ap (λ (m : Entries). get m name)
        (renamed_there (insert old temp unsynced) temp name unsynced (file bytes modified) (get_here old temp unsynced) refl
        ∙ ap (λ (m : Entries). insert m name unsynced) (remove-insert old temp unsynced))
        ∙ get_here (remove old temp) name unsynced)

    -- written under its own name
    pub written_straight : IsPutOrKept old temp name bytes (written old name bytes modified) → false ≡ true
    written_straight = refuted _ (Some (file bytes modified)) (get_here old name unsynced)
