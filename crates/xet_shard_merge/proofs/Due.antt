-- What was written when a step ended, or failed.
use Rattle.std.proofs.Common.{◌≡◌, ◌∙◌, ℕ, Bool, List, [], ◌∷◌, ◌++◌, None, OnOk, Option, Some, Result, Ok, Err, sym, ap, subst, refl, append_assoc, append-nil}
use Rattle.std.specs.List.{All}
use Rattle.xet_hash.specs.declared.error.StoreError.{StoreError}
use Rattle.xet_io.specs.Disk.{Files}
use Rattle.xet_shard.specs.Union.{ShardRecords}
use Rattle.xet_shard_directory.specs.declared.shard_file.MDBShardFile.{MDBShardFile}
use Rattle.xet_shard_merge.specs.Groups.{Begins, Ends, Group, Offered, if_open}
use Rattle.xet_shard_merge.specs.Merging.{AddsResults, IsDue, IsResult, WritesFirst, WritesOnly}
use Rattle.xet_shard_merge.specs.declared.progress.Progress.{Progress}
use Rattle.xet_shard_merge.specs.internal.Keeping.{IsIntact, WritesIfOpen}
use Rattle.xet_shard_merge.specs.internal.Progressing.{Closes, ClosesGroup, ClosesIf, HasAdded, IsIntactIfOpen, Went, WritesOfAll}
use Rattle.xet_shard_merge.proofs.Placing.{writes_more}
use Rattle.xet_shard_merge.proofs.Unique.{end_only, follow_only}
use Rattle.xet_shard_merge.proofs.Within.{closed_taken_from}

module _ (start now : Files) (folder : List ℕ) (limit : ℕ) (skip : Bool) (all rest : List Offered) (p : Progress) (w : Went start now folder limit skip all rest p) where
  pub went_writes : WritesOfAll start now folder limit skip all
  went_writes gs ss h =
      let f = w.first gs ss h in
      let passed = w.passed in
      record { before = passed.before; after = rest; parts = passed.parts; strict = passed.strict; written = w.closed; more = f.more; first = f.first; inside = passed.inside; writes = w.writes }

  pub unchanged_writes : (after : Files) → after ≡ now → WritesOfAll start after folder limit skip all
  unchanged_writes after same = subst (λ (fs : Files). WritesOfAll start fs folder limit skip all) (sym same) went_writes

  -- the open group was closed, or that failed
  one_more : (after : Files) (g : Group) → p.open ≡ Some g → WritesIfOpen now after folder p.open → (gs more : List Group) → gs ≡ (w.closed ++ g ∷ []) ++ more → WritesFirst start after folder skip all gs
  one_more after g is last gs more first =
      let intact : All (IsIntact start) g.taken = subst (IsIntactIfOpen start) is w.intact in
      let passed = w.passed in
      record {
        before = passed.before;
        after = rest;
        parts = passed.parts;
        strict = passed.strict;
        written = w.closed ++ g ∷ [];
        more = more;
        first = first;
        inside = closed_taken_from skip all rest w.closed p.open passed g is;
        writes = writes_more start now after folder w.keeps w.closed g intact w.writes (subst (WritesIfOpen now after folder) is last);
      }

module _ (start now after : Files) (folder : List ℕ) (limit : ℕ) (skip : Bool) (all : List Offered) (o : Offered) (rest : List Offered) (p : Progress)
    (w : Went start now folder limit skip all (o ∷ rest) p) (last : WritesIfOpen now after folder p.open) where
  pub follow_writes : (g : Group) (records : ShardRecords) → Ends limit p.open o g records → WritesOfAll start after folder limit skip all
  follow_writes g records is gs ss h =
      let f = w.first gs ss h in
      let left = follow_only limit p.open o rest f.more f.skipped g records is f.grouped in
      one_more start now folder limit skip all (o ∷ rest) p w after g is.is_open last gs left.0
      (f.first ∙ ap (λ (l : List Group). w.closed ++ l) left.1 ∙ sym (append_assoc w.closed (g ∷ []) left.0))

  pub start_writes : (records : ShardRecords) → Begins p.open o records → WritesOfAll start after folder limit skip all
  start_writes records is = unchanged_writes start now folder limit skip all (o ∷ rest) p w after (subst (WritesIfOpen now after folder) is.is_open last)

pub end_writes : (start now after : Files) (folder : List ℕ) (limit : ℕ) (skip : Bool) (all : List Offered) (p : Progress) → Went start now folder limit skip all [] p → WritesIfOpen now after folder p.open
    → WritesOfAll start after folder limit skip all
end_writes start now after folder limit skip all p w last = by p.open refl last
  where
    by : (c : Option Group) → p.open ≡ c → WritesIfOpen now after folder c → WritesOfAll start after folder limit skip all
    by None is same = unchanged_writes start now folder limit skip all [] p w after same
    by (Some g) is writes = λ gs ss h.
        let f = w.first gs ss h in
        let only : f.more ≡ g ∷ [] = subst (λ (c : Option Group). f.more ≡ if_open c) is (end_only limit p.open f.more f.skipped f.grouped) in
        one_more start now folder limit skip all [] p w after g is last gs []
        (f.first ∙ ap (λ (l : List Group). w.closed ++ l) only ∙ sym (append-nil (w.closed ++ g ∷ [])))

-- ---- a group that was closed

pub closed : (before after : Files) (folder : List ℕ) (p mid q : Progress) (g : Group) (r : MDBShardFile) (result : Result (Unit {0}) StoreError) → p.open ≡ Some g → IsResult before after folder g r
    → AddsResults before after (r ∷ []) → WritesOnly before after folder (IsDue before folder g) → OnOk result (HasAdded mid g r q) → mid.open ≡ None → mid.taken.items ≡ p.taken.items
    → mid.merged.items ≡ p.merged.items → mid.skipped.items ≡ p.skipped.items → OnOk result (Closes before after folder p q)
closed before after folder p mid q g r (Ok _) opened is adds writes added none taken merged skipped =
    let done : ClosesGroup before after folder p g q = record {
      result = r;
      is_result = is;
      adds = adds;
      writes = writes;
      open_is = added.open_is ∙ none;
      taken = added.taken ∙ ap (λ (l : List MDBShardFile). l ++ g.taken) taken;
      merged = added.merged ∙ ap (λ (l : List MDBShardFile). l ++ r ∷ []) merged;
      skipped = added.skipped ∙ skipped;
    } in
    subst (λ (c : Option Group). ClosesIf before after folder p c q) (sym opened) done
closed before after folder p mid q g r (Err e) opened is adds writes added none taken merged skipped = tt
