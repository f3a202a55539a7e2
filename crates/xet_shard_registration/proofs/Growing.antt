-- The registered shards stay, and shard files come after them.
use Rattle.std.proofs.Common.{◌≡◌, ◌∙◌, ◌+◌, ◌-◌, ◌^◌, ◌<◌, ◌≤◌, ℕ, List, [], ◌∷◌, ◌++◌, append_assoc, arith, length, map, Result, Ok, Err, ap, refl, subst, sym}
use Rattle.std.proofs.lemmas.List.{append-nil, length_push, map-append}
use Rattle.std.specs.Prelude.{IfErr, OnErr, OnOk}
use Rattle.xet_hash.specs.declared.error.StoreError.{StoreError}
use Rattle.xet_hash.specs.declared.error.StoreError.TheVariants as error
use Rattle.xet_hash.specs.declared.error.What.TheVariants.{Shards}
use Rattle.xet_shard.specs.Union.{ShardRecords}
use Rattle.xet_shard_directory.specs.Answers.{IsFindError, IsReadError}
use Rattle.xet_shard_directory.specs.declared.shard_file.MDBShardFile.{MDBShardFile}
use Rattle.xet_shard_registration.specs.Registering.{AddsDue, Grows, IsFullIfTooLarge, IsGrown, due, with_all}
use Rattle.xet_shard_registry.specs.Collections.{IsRegistryOf, Tables}
use Rattle.xet_shard_registry.specs.Registered.{Registered, with_shard}

abbrev Added : Type 0
Added = MDBShardFile × List (ℕ × ℕ × ℕ)

abbrev file_of : Added → MDBShardFile
file_of a = a.0

with_both : (cap : ℕ) (shards : List Registered) (xs ys : List Added) → with_all cap (with_all cap shards xs) ys ≡ with_all cap shards (xs ++ ys)
unfolding with_all
with_both cap shards [] ys = refl
with_both cap shards (x ∷ xs) ys = with_both cap (with_shard cap shards x.0 x.1 ([], [])) xs ys

pub grows_none : (cap : ℕ) (t : Tables) → Grows cap t t
unfolding with_all
grows_none cap t = record { added = []; files = sym (append-nil t.files); registers = λ shards held. held }

pub grows_both : (cap : ℕ) (a b c : Tables) → Grows cap a b → Grows cap b c → Grows cap a c
grows_both cap a b c first next = record {
  added = first.added ++ next.added;
  files = next.files ∙ ap (λ (l : List MDBShardFile). l ++ map file_of next.added) first.files ∙ append_assoc a.files (map file_of first.added) (map file_of next.added)
      ∙ ap (λ (l : List MDBShardFile). a.files ++ l) (sym (map-append file_of first.added next.added));
  registers = λ shards held.
      subst (λ (l : List Registered). IsRegistryOf l c) (with_both cap shards first.added next.added) (next.registers (with_all cap shards first.added) (first.registers shards held));
}

-- with none before them
pub grown : (cap : ℕ) (empty new : Tables) → IsRegistryOf [] empty → Grows cap empty new → IsGrown cap new
grown cap empty new none grows = record { added = grows.added; registers = grows.registers [] none }

-- ---- one shard file

nothing_due : (old new : Tables) → AddsDue [] old new → new.files ≡ old.files ++ []
unfolding due
nothing_due old new same = same.files

same_files : (old new : Tables) → AddsDue [] old new → new.files ≡ old.files
same_files old new same = nothing_due old new same ∙ append-nil old.files

module _ (old new : Tables) (file : MDBShardFile) (result : Result (Unit {0}) StoreError) (files : OnOk result (new.files ≡ old.files ++ file ∷ [])) (same : OnErr result (AddsDue [] old new)) where
  pub new_enters : (cap : ℕ) (Read : List (ℕ × ℕ × ℕ) → Type 0)
      → OnOk result ((items : List (ℕ × ℕ × ℕ)) × Read items × ((shards : List Registered) (records : ShardRecords) → IsRegistryOf shards old → IsRegistryOf (with_shard cap shards file items records) new))
      → OnErr result ((shards : List Registered) → IsRegistryOf shards old → IsRegistryOf shards new) → Grows cap old new
  unfolding with_all
  new_enters cap Read entered kept = by result files same entered kept
    where
      by : (r : Result (Unit {0}) StoreError) → OnOk r (new.files ≡ old.files ++ file ∷ []) → OnErr r (AddsDue [] old new)
          → OnOk r ((items : List (ℕ × ℕ × ℕ)) × Read items × ((shards : List Registered) (records : ShardRecords) → IsRegistryOf shards old → IsRegistryOf (with_shard cap shards file items records) new))
          → OnErr r ((shards : List Registered) → IsRegistryOf shards old → IsRegistryOf shards new) → Grows cap old new
      by (Ok x) files same entered kept = record { added = (file, entered.0) ∷ []; files = files; registers = λ shards held. entered.2 shards ([], []) held }
      by (Err e) files same entered kept = record { added = []; files = nothing_due old new same; registers = kept }

  pub new_few : length old.files < 4294967295 → length new.files < 4294967296
  new_few below = by result files same
    where
      by : (r : Result (Unit {0}) StoreError) → OnOk r (new.files ≡ old.files ++ file ∷ []) → OnErr r (AddsDue [] old new) → length new.files < 4294967296
      by (Ok x) files same = omega (arith, ap length files, length_push old.files file, below)
      by (Err e) files same = omega (arith, ap length (same_files old new same), below)

-- ---- errors that are not that too many are registered

pub no_large : (before now : ℕ) (t : Tables) (e : StoreError) → IsReadError before now e → IsFullIfTooLarge t e
no_large before now t e is = λ same. absurd (subst (IsReadError before now) same is)

pub no_large_read : (before now : ℕ) (t : Tables) (r : Result (Unit {0}) StoreError) → IfErr r (IsReadError before now) → IfErr r (IsFullIfTooLarge t)
no_large_read before now t (Ok x) is = tt
no_large_read before now t (Err e) is = no_large before now t e is

pub no_large_find : (before now : ℕ) (t : Tables) (e : StoreError) → IsFindError before now e → IsFullIfTooLarge t e
no_large_find before now t e is = λ same. absurd (subst (IsFindError before now) same is)

pub no_large_memory : (t : Tables) → IsFullIfTooLarge t error.OutOfMemory
no_large_memory t = λ same. absurd (cc same)
