-- What is listed, recorded and registered stays so, whatever the entries.
use Rattle.std.proofs.Common.{◌≡◌, ◌∙◌, ℕ, Bool, true, false, not, List, [], ◌∷◌, ◌++◌, Option, Some, None, is_some, refl, sym, ap, append_assoc}
use Rattle.std.specs.Prelude.{if◌then◌else◌}
use Rattle.std.proofs.lemmas.List.{append-nil}
use mathlib.Core.List.{IsPrefix}
use Rattle.xet_hash.specs.Merkle.{xorb_hash}
use Rattle.xet_shard.specs.Held.{held, with_last}
use Rattle.xet_shard_format.specs.Records.{file_record_hash, xorb_record_hash}
use Rattle.xet_shard_format.specs.declared.record.MDBFileInfo.{MDBFileInfo}
use Rattle.xet_xorb.specs.Raw.{xorb_record}
use Rattle.xet_folder.specs.Xorbs.{IsListed, found}
use Rattle.xet_folder.specs.theorems.Tables.{found_here, found_kept}
use Rattle.xet_history.specs.Core.{Core, completed, is_new, pending_hash, pending_shard, registered}
use Rattle.xet_history.specs.History.{after, after_all}
use Rattle.xet_history.specs.declared.entry.Entry.{Entry}
use Rattle.xet_history.specs.declared.entry.Entry.TheVariants.{Query, Register, Complete, Flush, Fault}

abbrev pub Leaves : Type 0
Leaves = List (List ℕ × ℕ)

-- ---- rows that are new

module _ {X : Type 0} where
  pub none_if_new : (rows : List (List ℕ × X)) (h : List ℕ) → is_new rows h ≡ true → found rows h ≡ None
  none_if_new rows h new = go (found rows h) new
    where
      go : (o : Option X) → not (is_some o) ≡ true → o ≡ None
      go None e = refl
      go (Some x) e = absurd (cc e)

  pub new_if_none : (rows : List (List ℕ × X)) (h : List ℕ) → found rows h ≡ None → is_new rows h ≡ true
  new_if_none rows h none = ap (λ (o : Option X). not (is_some o)) none

  pub not_new_if_found : (rows : List (List ℕ × X)) (h : List ℕ) (x : X) → found rows h ≡ Some x → is_new rows h ≡ false
  not_new_if_found rows h x there = ap (λ (o : Option X). not (is_some o)) there

-- ---- prefixes

module _ {X : Type 0} where
  pub prefix_same : (xs : List X) → IsPrefix xs xs
  prefix_same xs = ([], append-nil xs)

  pub prefix_more : (xs ys : List X) → IsPrefix xs (xs ++ ys)
  prefix_more xs ys = (ys, refl)

  pub prefix_both : (xs ys zs : List X) → IsPrefix xs ys → IsPrefix ys zs → IsPrefix xs zs
  prefix_both xs ys zs first second = (first.0 ++ second.0, sym (append_assoc xs first.0 second.0) ∙ ap (λ (l : List X). l ++ second.0) first.1 ∙ second.1)

-- ---- the registration of a xorb

-- the core with one xorb more
abbrev pub with_xorb : Core → Leaves → Core
with_xorb c leaves = record c {
  xorbs = c.xorbs ++ (xorb_hash leaves, leaves) ∷ [];
  pending = held (with_last xorb_record_hash c.pending.blocks (xorb_record (xorb_hash leaves) leaves)) c.pending.files;
}

module _ (c : Core) (leaves : Leaves) where
  pub registered_new : is_new c.xorbs (xorb_hash leaves) ≡ true → registered c leaves ≡ with_xorb c leaves
  registered_new new = ap (λ (b : Bool). if b then with_xorb c leaves else c) new

  pub registered_same : is_new c.xorbs (xorb_hash leaves) ≡ false → registered c leaves ≡ c
  registered_same old = ap (λ (b : Bool). if b then with_xorb c leaves else c) old

  -- by whether its hash is new
  pub registered_cases : (P : Core → Type 0) → (is_new c.xorbs (xorb_hash leaves) ≡ true → P (with_xorb c leaves)) → (is_new c.xorbs (xorb_hash leaves) ≡ false → P c) → P (registered c leaves)
  registered_cases P new old = go (is_new c.xorbs (xorb_hash leaves)) refl
    where
      go : (b : Bool) → is_new c.xorbs (xorb_hash leaves) ≡ b → P (if b then with_xorb c leaves else c)
      go true e = new e
      go false e = old e

  pub registered_listed : is_new c.xorbs (xorb_hash leaves) ≡ true → IsListed (with_xorb c leaves).xorbs (xorb_hash leaves) leaves
  registered_listed new = found_here c.xorbs (xorb_hash leaves) leaves (none_if_new c.xorbs (xorb_hash leaves) new)

pub registered_twice : (c : Core) (leaves : Leaves) → registered (registered c leaves) leaves ≡ registered c leaves
registered_twice c leaves = registered_cases c leaves (λ (d : Core). registered d leaves ≡ d)
    (λ new. registered_same (with_xorb c leaves) leaves (not_new_if_found (with_xorb c leaves).xorbs (xorb_hash leaves) leaves (registered_listed c leaves new)))
    (λ old. registered_same c leaves old)

-- ---- the recording of a file

-- the core with one record more
abbrev pub with_record : Core → MDBFileInfo → Core
with_record c file = record c {
  records = c.records ++ (file_record_hash file, file) ∷ [];
  pending = held c.pending.blocks (with_last file_record_hash c.pending.files file);
}

module _ (c : Core) (file : MDBFileInfo) where
  pub completed_new : is_new c.records (file_record_hash file) ≡ true → completed c file ≡ with_record c file
  completed_new new = ap (λ (b : Bool). if b then with_record c file else c) new

  pub completed_same : is_new c.records (file_record_hash file) ≡ false → completed c file ≡ c
  completed_same old = ap (λ (b : Bool). if b then with_record c file else c) old

  pub completed_cases : (P : Core → Type 0) → (is_new c.records (file_record_hash file) ≡ true → P (with_record c file)) → (is_new c.records (file_record_hash file) ≡ false → P c) → P (completed c file)
  completed_cases P new old = go (is_new c.records (file_record_hash file)) refl
    where
      go : (b : Bool) → is_new c.records (file_record_hash file) ≡ b → P (if b then with_record c file else c)
      go true e = new e
      go false e = old e

pub completed_twice : (c : Core) (file : MDBFileInfo) → completed (completed c file) file ≡ completed c file
completed_twice c file = completed_cases c file (λ (d : Core). completed d file ≡ d)
    (λ new. completed_same (with_record c file) file (not_new_if_found (with_record c file).records (file_record_hash file) file
    (found_here c.records (file_record_hash file) file (none_if_new c.records (file_record_hash file) new))))
    (λ old. completed_same c file old)

-- ---- each step

pub registered_keeps : (c : Core) (added : Leaves) (h : List ℕ) (leaves : Leaves) → IsListed c.xorbs h leaves → IsListed (registered c added).xorbs h leaves
registered_keeps c added h leaves listed =
    registered_cases c added (λ (d : Core). IsListed d.xorbs h leaves) (λ new. found_kept c.xorbs ((xorb_hash added, added) ∷ []) h leaves listed) (λ old. listed)

pub listed_after : (c : Core) (e : Entry) (h : List ℕ) (leaves : Leaves) → IsListed c.xorbs h leaves → IsListed (after c e).xorbs h leaves
listed_after c (Query pass hashes reply) h leaves listed = listed
listed_after c (Register pass chunks next added) h leaves listed = registered_keeps c chunks h leaves listed
listed_after c (Complete pass file added) h leaves listed = completed_cases c file (λ (d : Core). IsListed d.xorbs h leaves) (λ new. listed) (λ old. listed)
listed_after c (Flush pass shard) h leaves listed = listed
listed_after c (Fault pass kind) h leaves listed = listed

pub records_after : (c : Core) (e : Entry) → IsPrefix c.records (after c e).records
records_after c (Query pass hashes reply) = prefix_same c.records
records_after c (Register pass chunks next added) =
    registered_cases c chunks (λ (d : Core). IsPrefix c.records d.records) (λ new. prefix_same c.records) (λ old. prefix_same c.records)
records_after c (Complete pass file added) =
    completed_cases c file (λ (d : Core). IsPrefix c.records d.records) (λ new. prefix_more c.records ((file_record_hash file, file) ∷ [])) (λ old. prefix_same c.records)
records_after c (Flush pass shard) = prefix_same c.records
records_after c (Fault pass kind) = prefix_same c.records

pub shards_after : (c : Core) (e : Entry) → IsPrefix c.shards (after c e).shards
shards_after c (Query pass hashes reply) = prefix_same c.shards
shards_after c (Register pass chunks next added) =
    registered_cases c chunks (λ (d : Core). IsPrefix c.shards d.shards) (λ new. prefix_same c.shards) (λ old. prefix_same c.shards)
shards_after c (Complete pass file added) =
    completed_cases c file (λ (d : Core). IsPrefix c.shards d.shards) (λ new. prefix_same c.shards) (λ old. prefix_same c.shards)
shards_after c (Flush pass shard) = prefix_more c.shards (record { hash = pending_hash c; contents = pending_shard c } ∷ [])
shards_after c (Fault pass kind) = prefix_same c.shards

-- ---- and a history

pub listed_after_all : (c : Core) (es : List Entry) (h : List ℕ) (leaves : Leaves) → IsListed c.xorbs h leaves → IsListed (after_all c es).xorbs h leaves
listed_after_all c [] h leaves listed = listed
listed_after_all c (e ∷ es) h leaves listed = listed_after_all (after c e) es h leaves (listed_after c e h leaves listed)

pub records_after_all : (c : Core) (es : List Entry) → IsPrefix c.records (after_all c es).records
records_after_all c [] = prefix_same c.records
records_after_all c (e ∷ es) = prefix_both c.records (after c e).records (after_all (after c e) es).records (records_after c e) (records_after_all (after c e) es)

pub shards_after_all : (c : Core) (es : List Entry) → IsPrefix c.shards (after_all c es).shards
shards_after_all c [] = prefix_same c.shards
shards_after_all c (e ∷ es) = prefix_both c.shards (after c e).shards (after_all (after c e) es).shards (shards_after c e) (shards_after_all (after c e) es)
