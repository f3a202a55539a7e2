-- Chunks of registered xorbs, which are among others.
use Rattle.std.proofs.Common.{◌≡◌, ◌∙◌, inl, inr, ℕ, suc, Bool, true, List, [], ◌∷◌, ◌++◌, map, refl, sym, ap, subst}
use Rattle.std.proofs.lemmas.List.{map-append}
use Rattle.std.proofs.lemmas.List.Concat.{flat_map-append}
use Rattle.std.specs.List.{AllByRecursion, flat_map}
use Rattle.xet_aggregate.specs.Aggregate.{Aggregate}
use Rattle.xet_base.specs.theorems.Elements.{all_back, all_both, all_more, all_prefix}
use Rattle.xet_choices.specs.Calls.{Call}
use Rattle.xet_cut.specs.Chunking.{chunking}
use Rattle.xet_cut.specs.declared.limits.LimitSettings.{LimitSettings}
use Rattle.xet_dedup.specs.Adding.{IsSomeOf}
use Rattle.xet_dedup_queries.specs.Counting.{registered_leaves}
use Rattle.xet_dedup_queries.specs.theorems.Counting.{registered_leaves-append}
use Rattle.xet_hash.specs.Merkle.{leaves_of}
use Rattle.xet_history.specs.declared.entry.Entry.{Entry}
use Rattle.xet_history.specs.declared.entry.Entry.TheVariants.{Complete, Fault, Flush, Query, Register}
use Rattle.xet_store.specs.Holders.{call_at, calls_in, numbered}
use Rattle.xet_store_disk.specs.Cleaning.{EachTold, chunkings}
use Rattle.xet_store_disk.specs.Separate.{Among}
use Rattle.xet_store_disk.specs.theorems.Rows.{among_after, among_more}
use Rattle.xet_store_disk.specs.theorems.Staying.{all_among}
use Rattle.xet_xorb_chunk.specs.Chunks.{chunk_leaf}
use Rattle.xet_clean.specs.Cleaning.{RegistersOf}
use Rattle.xet_clean.specs.Closing.{RegistersAtMost}
use Rattle.xet_clean.specs.Files.{leaves_in}
use Rattle.xet_clean.specs.Working.{Planned}

abbrev Leaf : Type 0
Leaf = List ℕ × ℕ

-- ---- lists whose elements are among others

module _ {X : Type 0} where
  pub in_more : (xs ys zs : List X) → AllByRecursion (Among xs) zs → AllByRecursion (Among (xs ++ ys)) zs
  in_more xs ys zs all = all_more (Among xs) (Among (xs ++ ys)) zs (λ z a. among_more xs ys z a) all

  pub in_after : (xs ys zs : List X) → AllByRecursion (Among ys) zs → AllByRecursion (Among (xs ++ ys)) zs
  in_after xs ys zs all = all_more (Among ys) (Among (xs ++ ys)) zs (λ z a. among_after xs ys z a) all

  in_next : (y : X) (ys zs : List X) → AllByRecursion (Among ys) zs → AllByRecursion (Among (y ∷ ys)) zs
  in_next y ys zs all = all_more (Among ys) (Among (y ∷ ys)) zs (λ z a. inr a) all

  pub in_itself : (xs : List X) → AllByRecursion (Among xs) xs
  in_itself [] = tt
  in_itself (x ∷ xs) = (inl refl, in_next x xs xs (in_itself xs))

  -- those that are among elements that are among others
  pub in_of : (xs ys zs : List X) → AllByRecursion (Among ys) xs → AllByRecursion (Among xs) zs → AllByRecursion (Among ys) zs
  in_of xs ys zs first all = all_more (Among xs) (Among ys) zs (λ z a. all_among (Among ys) xs z first a) all

  pub in_some : (xs ys : List X) → IsSomeOf xs ys → AllByRecursion (Among ys) xs
  in_some xs ys IsSomeOf.nothing = tt
  in_some xs ys (IsSomeOf.takes x us vs some) = (inl refl, in_next x vs us (in_some us vs some))
  in_some xs ys (IsSomeOf.skips y us vs some) = in_next y vs us (in_some us vs some)

-- ---- calls

module _ (P : Leaf → Type 0) where
  pub registers_both : (xs ys : List Call) → AllByRecursion P (registered_leaves xs) → AllByRecursion P (registered_leaves ys) → AllByRecursion P (registered_leaves (xs ++ ys))
  registers_both xs ys first second = subst (AllByRecursion P) (sym (registered_leaves-append xs ys)) (all_both P (registered_leaves xs) (registered_leaves ys) first second)

  -- with those of an open block
  pub registers_then : (xs ys : List Call) (block : List Leaf) → AllByRecursion P (registered_leaves xs) → AllByRecursion P (registered_leaves ys ++ block) → AllByRecursion P (registered_leaves (xs ++ ys) ++ block)
  registers_then xs ys block first second =
      all_both P (registered_leaves (xs ++ ys)) block (registers_both xs ys first (all_prefix P (registered_leaves ys) block second)) (all_back P (registered_leaves ys) block second)

  -- an aggregate was closed
  pub registers_at_most : (a : Aggregate) (next : List Leaf) (calls : List Call) → RegistersAtMost a next calls → AllByRecursion P (map chunk_leaf a.chunks) → AllByRecursion P (registered_leaves calls)
  registers_at_most a next calls (inl none) all = subst (λ (cs : List Call). AllByRecursion P (registered_leaves cs)) (sym none) tt
  registers_at_most a next calls (inr one) all = subst (λ (cs : List Call). AllByRecursion P (registered_leaves cs)) (sym one.1) (all_both P (map chunk_leaf a.chunks) [] all tt)

-- ---- entries

module _ (files : List (List (List ℕ))) where
  abbrev Of : Leaf → Type 0
  Of = Among (flat_map leaves_of files)

  -- the entries of such calls
  pub entries_of : (n : ℕ) (es : List Entry) → AllByRecursion (Among (flat_map leaves_of files)) (registered_leaves (calls_in (numbered n es))) → AllByRecursion (RegistersOf files) es
  entries_of n [] all = tt
  entries_of n (Query pass hashes reply ∷ es) all = (tt, entries_of (suc n) es all)
  entries_of n (Register pass chunks next added ∷ es) all =
      (all_prefix Of chunks (registered_leaves (calls_in (numbered (suc n) es))) all, entries_of (suc n) es (all_back Of chunks (registered_leaves (calls_in (numbered (suc n) es))) all))
  entries_of n (Complete pass file added ∷ es) all = (tt, entries_of (suc n) es all)
  entries_of n (Flush pass shard ∷ es) all = (tt, entries_of (suc n) es all)
  entries_of n (Fault pass kind ∷ es) all = (tt, entries_of (suc n) es all)

-- own entries that made such calls
module _ (files : List (List (List ℕ))) where
  own_one : (n : ℕ) (e : Entry) → AllByRecursion (Among (flat_map leaves_of files)) (registered_leaves (call_at n e)) → RegistersOf files e
  own_one n (Query pass hashes reply) all = tt
  own_one n (Register pass chunks next added) all = all_prefix (Among (flat_map leaves_of files)) chunks [] all
  own_one n (Complete pass file added) all = tt
  own_one n (Flush pass shard) all = tt
  own_one n (Fault pass kind) all = tt

  pub own_registers : (own : List (ℕ × Entry)) → AllByRecursion (Among (flat_map leaves_of files)) (registered_leaves (calls_in own)) → AllByRecursion (λ x. RegistersOf files x.1) own
  own_registers [] all = tt
  own_registers (x ∷ own) all =
      let is : Leaf → Type 0 = Among (flat_map leaves_of files) in
      let both : AllByRecursion (Among (flat_map leaves_of files)) (registered_leaves (call_at x.0 x.1) ++ registered_leaves (calls_in own)) =
      subst (AllByRecursion (Among (flat_map leaves_of files))) (registered_leaves-append (call_at x.0 x.1) (calls_in own)) all in (
        own_one x.0 x.1 (all_prefix is (registered_leaves (call_at x.0 x.1)) (registered_leaves (calls_in own)) both),
        own_registers own (all_back is (registered_leaves (call_at x.0 x.1)) (registered_leaves (calls_in own)) both),
      )

-- ---- sources

module _ {S : Type 0} (tells : S → Bool) (left : S → List ℕ) (limits : LimitSettings) where
  -- the chunks of what the sources have left
  abbrev pub leaves_left : List S → List (List ℕ × ℕ)
  leaves_left ss = flat_map leaves_of (chunkings left limits ss)

  left_both : (ss ts : List S) → leaves_left (ss ++ ts) ≡ leaves_left ss ++ leaves_left ts
  left_both ss ts = ap (flat_map leaves_of) (map-append (λ (s : S). chunking limits (left s)) ss ts) ∙ flat_map-append leaves_of (chunkings left limits ss) (chunkings left limits ts)

  pub left_first : (ss ts : List S) (leaves : List (List ℕ × ℕ)) → AllByRecursion (Among (leaves_left ss)) leaves → AllByRecursion (Among (leaves_left (ss ++ ts))) leaves
  left_first ss ts leaves all = subst (λ (l : List Leaf). AllByRecursion (Among l) leaves) (sym (left_both ss ts)) (in_more (leaves_left ss) (leaves_left ts) leaves all)

  pub left_after : (ss ts : List S) (leaves : List (List ℕ × ℕ)) → AllByRecursion (Among (leaves_left ts)) leaves → AllByRecursion (Among (leaves_left (ss ++ ts))) leaves
  left_after ss ts leaves all = subst (λ (l : List Leaf). AllByRecursion (Among l) leaves) (sym (left_both ss ts)) (in_after (leaves_left ss) (leaves_left ts) leaves all)

  -- files that are what observable sources had left
  pub planned_left : (ss : List S) (fs : List Planned) → EachTold tells left (λ bytes f. f.bytes ≡ bytes) ss fs → AllByRecursion (λ s. tells s ≡ true) ss → AllByRecursion (λ f. f.plan.leaves ≡ leaves_in limits f.bytes) fs
      → flat_map (λ f. f.plan.leaves) fs ≡ leaves_left ss
  planned_left [] [] told all leaves = refl
  planned_left [] (f ∷ fs) told all leaves = absurd told
  planned_left (s ∷ ss) [] told all leaves = absurd told
  planned_left (s ∷ ss) (f ∷ fs) told all leaves =
      let first : f.plan.leaves ≡ leaves_in limits (left s) = leaves.0 ∙ ap (leaves_in limits) (told.0 all.0) in
      let rest : flat_map (λ (g : Planned). g.plan.leaves) fs ≡ leaves_left ss = planned_left ss fs told.1 all.1 leaves.1 in
      λ i. first i ++ rest i
