-- What the placing of a batch adds to the calls, step by step.
use Rattle.std.proofs.Common.{◌≡◌, ◌⊎◌, inl, inr, ◌∙◌, true≢false, ℕ, zero, suc, ◌+◌, ◌*◌, ◌≤◌, ◌<◌, true, false, nat_le, ◌&&◌, List, [], ◌∷◌, ◌++◌, append_assoc, length, length-append, map, take, Option, Some, refl, sym, ap, subst, arith}
use Rattle.std.specs.Prelude.{option_map, slice_get}
use Rattle.std.specs.List.{AllByRecursion}
use Rattle.std.proofs.lemmas.Bool.Decides.{nat_tests}
use Rattle.std.proofs.lemmas.List.{append-nil, length-map, map-append}
use Rattle.std.proofs.lemmas.Option.{slice_get-map}
use Rattle.xet_base.specs.theorems.Elements.{all_push}
use Rattle.xet_choices.specs.Calls.{Call, queries_of}
use Rattle.xet_choices.specs.Calls.Call.{Registered}
use Rattle.xet_choices.specs.Choices.{fits, hashes_of}
use Rattle.xet_choices.specs.declared.choice.Choice.{Choice}
use Rattle.xet_choices.specs.theorems.Calls.{queries_of-append}
use Rattle.xet_cut.specs.Limits.{AreInRange}
use Rattle.xet_cut.specs.declared.limits.LimitSettings.{LimitSettings}
use Rattle.xet_dedup_queries.specs.Acts.{Act}
use Rattle.xet_dedup_queries.specs.Counting.{BeginsWith, HasChunks, HasNext, LandsIn, entries_at_most, first_registered, registered_leaves}
use Rattle.xet_dedup_queries.specs.theorems.Counting.{begins_itself, entries_at_most-append, first_registered-begins, lands_in-append, registered_leaves-append}
use Rattle.xet_dedup_queries.specs.declared.interface.FileXorbDependency.{FileXorbDependency}
use Rattle.xet_dedup_queries.specs.declared.places.Place.{Place}
use Rattle.xet_file_plan.specs.Moves.{PlanState, stored}
use Rattle.xet_file_plan.specs.theorems.Closing.{raw_leaves_of}
use Rattle.xet_shard_format.specs.declared.record.FileDataSequenceEntry.{FileDataSequenceEntry as Segment}
use Rattle.xet_xorb.specs.Raw.{raw_leaves}
use Rattle.xet_xorb_chunk.specs.declared.chunk.Chunk.{Chunk}
use Rattle.xet_xorb_chunk.specs.Chunks.{chunk_leaf}
use Rattle.xet_dedup.specs.Adding.{IsSomeOf}
use Rattle.xet_dedup.specs.Deduping.{IsChunk}
use Rattle.xet_dedup.specs.Placing.{HasNone, PlacesTo, Rejects, Stores}
use Rattle.xet_dedup.specs.Placing.PlacesTo.{begins, joins, stores}
use Rattle.xet_dedup.specs.theorems.Parts.{some_further, some_nothing, some_push}

-- ---- chunks that fit into an empty block

-- each of these chunks fits into an empty block
abbrev pub HaveRoom : LimitSettings → List Chunk → Type 0
HaveRoom settings chunks = AllByRecursion (λ c. fits settings [] (length c.bytes) ≡ true) chunks

is_true_le : (m n : ℕ) → m ≤ n → nat_le m n ≡ true
is_true_le m n le = grind (arith, nat_tests)

-- A block of no chunks has room for each chunk.
pub empty_has_room : (settings : LimitSettings) (len : ℕ) → AreInRange settings → len ≤ settings.maximum_chunk → fits settings [] len ≡ true
empty_has_room settings len range le =
    let bytes : 0 + len ≤ settings.cut_bytes = omega (arith, range.cut_bytes_from, le) in
    λ i. is_true_le (0 + len) settings.cut_bytes bytes i && is_true_le (length {A = List ℕ × ℕ} [] + 1) settings.cut_chunks (omega (arith, range.cut_chunks_from)) i

pub chunks_have_room : (settings : LimitSettings) (chunks : List Chunk) → AreInRange settings → AllByRecursion (IsChunk settings) chunks → HaveRoom settings chunks
chunks_have_room settings [] range are = tt
chunks_have_room settings (c ∷ chunks) range are = (empty_has_room settings (length c.bytes) range are.0.small, chunks_have_room settings chunks range are.1)

-- a block into which such a chunk does not fit has chunks
pub full_has_chunks : (settings : LimitSettings) (chunks block : List Chunk) (at : ℕ) (chunk : Chunk) → HaveRoom settings chunks → slice_get chunks at ≡ Some chunk
    → fits settings (map chunk_leaf block) (length chunk.bytes) ≡ false → 0 < length block
full_has_chunks settings chunks (c ∷ block) at chunk room here full = omega arith
full_has_chunks settings chunks [] at chunk room here full = absurd (true≢false (sym (there chunks at room here) ∙ full))
  where
    there : (cs : List Chunk) (i : ℕ) → HaveRoom settings cs → slice_get cs i ≡ Some chunk → fits settings [] (length chunk.bytes) ≡ true
    there [] i all e = absurd (cc e)
    there (d ∷ cs) zero all e = let same : d ≡ chunk = cc e in subst (λ (c : Chunk). fits settings [] (length c.bytes) ≡ true) same all.0
    there (d ∷ cs) (suc i) all e = there cs i all.1 e

-- ---- steps

-- The chunks of a batch before an index are placed, and this is what it added to the calls. The entries of the registrations
-- are at most two for each chunk that was stored.
pub record Placings (p q : PlanState) (chunks : List Chunk) (at : ℕ) (old new : List Call) : Type 0 where
  pub added : List Call
  pub grown : new ≡ old ++ added
  pub none : queries_of added ≡ 0
  pub settings : q.settings ≡ p.settings
  pub nexts : AllByRecursion HasNext added
  pub stored : List (List ℕ × ℕ)
  pub some : IsSomeOf stored (take at (map chunk_leaf chunks))
  pub kept : registered_leaves added ++ map chunk_leaf q.block ≡ map chunk_leaf p.block ++ stored
  pub opens : BeginsWith (first_registered added (map chunk_leaf q.block)) (map chunk_leaf p.block)
  pub lands : LandsIn (map chunk_leaf q.block) added
  pub each : entries_at_most added ≤ 2 * length stored
  pub has_block : 0 < length stored → 0 < length q.block
  pub chunked : HaveRoom p.settings chunks → AllByRecursion HasChunks added

module _ (p : PlanState) (chunks : List Chunk) (old : List Call) where
  pub begins_places : Placings p p chunks 0 old old
  begins_places = record {
    added = [];
    grown = sym (append-nil old);
    none = refl;
    settings = refl;
    nexts = tt;
    stored = [];
    some = some_nothing [];
    kept = sym (append-nil (map chunk_leaf p.block));
    opens = begins_itself (map chunk_leaf p.block);
    lands = tt;
    each = omega arith;
    has_block = λ lt. absurd (omega (arith, lt));
    chunked = λ room. tt;
  }

  -- the open block stays
  block_stays : (q r : PlanState) (at count : ℕ) (now : List Call) → r.block ≡ q.block → r.settings ≡ q.settings → Placings p q chunks at old now → Placings p r chunks (at + count) old now
  block_stays q r at count now block settings is =
      let leaves : map chunk_leaf q.block ≡ map chunk_leaf r.block = ap (map chunk_leaf) (sym block) in
      record {
        added = is.added;
        grown = is.grown;
        none = is.none;
        settings = settings ∙ is.settings;
        nexts = is.nexts;
        stored = is.stored;
        some = some_further is.stored (map chunk_leaf chunks) at count is.some;
        kept = ap (λ (l : List (List ℕ × ℕ)). registered_leaves is.added ++ l) (sym leaves) ∙ is.kept;
        opens = subst (λ (l : List (List ℕ × ℕ)). BeginsWith (first_registered is.added l) (map chunk_leaf p.block)) leaves is.opens;
        lands = subst (λ (l : List (List ℕ × ℕ)). LandsIn l is.added) leaves is.lands;
        each = is.each;
        has_block = λ some. omega (arith, is.has_block some, ap length block);
        chunked = is.chunked;
      }

  -- a chunk is stored
  module _ (q r : PlanState) (at : ℕ) (chunk : Chunk) (now new : List Call) (here : slice_get chunks at ≡ Some chunk) (is : Placings p q chunks at old now) where
    leaf_here : slice_get (map chunk_leaf chunks) at ≡ Some (chunk_leaf chunk)
    leaf_here = slice_get-map chunk_leaf chunks at ∙ ap (option_map chunk_leaf) here

    abbrev more : List (List ℕ × ℕ)
    more = is.stored ++ chunk_leaf chunk ∷ []

    some_more : IsSomeOf more (take (at + 1) (map chunk_leaf chunks))
    some_more = some_push is.stored (map chunk_leaf chunks) at (chunk_leaf chunk) leaf_here is.some

    -- in the open block
    joins_block : r.block ≡ q.block ++ chunk ∷ [] → r.settings ≡ q.settings → new ≡ now → Placings p r chunks (at + 1) old new
    joins_block after settings uncalled =
        let leaves : map chunk_leaf r.block ≡ map chunk_leaf q.block ++ chunk_leaf chunk ∷ [] = ap (map chunk_leaf) after ∙ map-append chunk_leaf q.block (chunk ∷ []) in
        let longer : BeginsWith (map chunk_leaf r.block) (map chunk_leaf q.block) = (chunk_leaf chunk ∷ [], leaves) in
        record {
          added = is.added;
          grown = uncalled ∙ is.grown;
          none = is.none;
          settings = settings ∙ is.settings;
          nexts = is.nexts;
          stored = more;
          some = some_more;
          kept =
              ap (λ (l : List (List ℕ × ℕ)). registered_leaves is.added ++ l) leaves
              ∙ sym (append_assoc (registered_leaves is.added) (map chunk_leaf q.block) (chunk_leaf chunk ∷ []))
              ∙ ap (λ (l : List (List ℕ × ℕ)). l ++ chunk_leaf chunk ∷ []) is.kept
              ∙ append_assoc (map chunk_leaf p.block) is.stored (chunk_leaf chunk ∷ []);
          opens =
              subst (λ (cs : List Call). BeginsWith (first_registered cs (map chunk_leaf r.block)) (map chunk_leaf p.block)) (append-nil is.added)
              (first_registered-begins is.added [] (map chunk_leaf q.block) (map chunk_leaf r.block) (map chunk_leaf p.block) is.opens longer);
          lands =
              subst (LandsIn (map chunk_leaf r.block)) (append-nil is.added)
              (lands_in-append is.added [] (map chunk_leaf q.block) (map chunk_leaf r.block) is.lands tt longer);
          each = omega (arith, is.each, length-append is.stored (chunk_leaf chunk ∷ []));
          has_block = λ some. omega (arith, ap length after, length-append q.block (chunk ∷ []));
          chunked = is.chunked;
        }

    -- in a new block, after the one before was registered
    opens_block : (leaves : List (List ℕ × ℕ)) → leaves ≡ map chunk_leaf q.block → fits q.settings (map chunk_leaf q.block) (length chunk.bytes) ≡ false
        → r.block ≡ chunk ∷ [] → r.settings ≡ q.settings → new ≡ now ++ Registered leaves (chunk_leaf chunk ∷ []) ∷ [] → Placings p r chunks (at + 1) old new
    opens_block leaves are full after settings called =
        let next : List (List ℕ × ℕ) = chunk_leaf chunk ∷ [] in
        let one : List Call = Registered leaves next ∷ [] in
        let last : map chunk_leaf r.block ≡ next = ap (map chunk_leaf) after in
        let begins_there : BeginsWith leaves (map chunk_leaf q.block) = ([], are ∙ sym (append-nil (map chunk_leaf q.block))) in
        let next_begins : BeginsWith (map chunk_leaf r.block) next = ([], last ∙ sym (append-nil next)) in
        record {
          added = is.added ++ one;
          grown = called ∙ ap (λ (cs : List Call). cs ++ one) is.grown ∙ append_assoc old is.added one;
          none = omega (arith, queries_of-append is.added one, is.none);
          settings = settings ∙ is.settings;
          nexts = all_push HasNext is.added (Registered leaves next) is.nexts (λ e. absurd (cc e));
          stored = more;
          some = some_more;
          kept =
              ap (λ (l : List (List ℕ × ℕ)). registered_leaves (is.added ++ one) ++ l) last
              ∙ ap (λ (l : List (List ℕ × ℕ)). l ++ next) (registered_leaves-append is.added one ∙ ap (λ (l : List (List ℕ × ℕ)). registered_leaves is.added ++ l) (append-nil leaves ∙ are) ∙ is.kept)
              ∙ append_assoc (map chunk_leaf p.block) is.stored next;
          opens = first_registered-begins is.added one (map chunk_leaf q.block) (map chunk_leaf r.block) (map chunk_leaf p.block) is.opens begins_there;
          lands = lands_in-append is.added one (map chunk_leaf q.block) (map chunk_leaf r.block) is.lands (next_begins, tt) begins_there;
          each = omega (arith, is.each, length-append is.stored next, entries_at_most-append is.added one);
          has_block = λ some. omega (arith, ap length after);
          chunked = λ room.
              all_push HasChunks is.added (Registered leaves next) (is.chunked room)
              (omega (
                arith,
                ap length are,
                length-map q.block chunk_leaf,
                full_has_chunks p.settings chunks q.block at chunk room here (subst (λ (s : LimitSettings). fits s (map chunk_leaf q.block) (length chunk.bytes) ≡ false) is.settings full),
              ));
        }

-- ---- all steps

-- before a chunk is stored, the open block is as it was
pub block_before : (chunks : List Chunk) (places : List Place) (base : ℕ) (q m : PlanState) (at : ℕ) (choice : Choice)
    → Rejects q m (hashes_of (map chunk_leaf chunks)) places at choice ⊎ HasNone q m (hashes_of (map chunk_leaf chunks)) places base at choice → (m.block ≡ q.block) × (m.settings ≡ q.settings)
block_before chunks places base q m at choice (inl rejects) = (ap (λ (n : PlanState). n.block) rejects.plan, ap (λ (n : PlanState). n.settings) rejects.plan)
block_before chunks places base q m at choice (inr none) = (ap (λ (n : PlanState). n.block) none.plan, ap (λ (n : PlanState). n.settings) none.plan)

module _ {I : Type 0} (listing : I → List ℕ → Option (List ℕ)) (standing : I → List (List ℕ) → Segment → Type 0) (calling : I → List Call) (acting : I → List Act) (chunks : List Chunk) (places : List Place) (base file_id : ℕ) (old : I) (p : PlanState) where
  stores_places : (now new : I) (q m r : PlanState) (at : ℕ) (chunk : Chunk) (choice : Choice) → slice_get chunks at ≡ Some chunk → (m.block ≡ q.block) × (m.settings ≡ q.settings)
      → Stores listing standing calling acting now new m r chunk choice → Placings p q chunks at (calling old) (calling now) → Placings p r chunks (at + 1) (calling old) (calling new)
  stores_places now new q m r at chunk choice here same (inl fitted) is =
      joins_block p chunks (calling old) q r at chunk (calling now) (calling new) here is
      (ap (λ (n : PlanState). n.block) fitted.2 ∙ ap (λ (block : List Chunk). block ++ chunk ∷ []) same.0) (ap (λ (n : PlanState). n.settings) fitted.2 ∙ same.1) (ap calling fitted.1)
  stores_places now new q m r at chunk choice here same (inr cut) is =
      let registers = cut.1.1 in
      let leaves : raw_leaves cut.1.0 ≡ map chunk_leaf q.block = ap raw_leaves registers.made ∙ raw_leaves_of m.block (0 ∷ []) ∙ ap (map chunk_leaf) same.0 in
      opens_block p chunks (calling old) q r at chunk (calling now) (calling new) here is (raw_leaves cut.1.0) leaves
      ((λ i. fits (sym same.1 i) (map chunk_leaf (sym same.0 i)) (length chunk.bytes)) ∙ cut.0)
      (ap (λ (n : PlanState). n.block) cut.1.2) (ap (λ (n : PlanState). n.settings) cut.1.2 ∙ same.1) registers.calls

  pub placings : (now : I) (q : PlanState) (at : ℕ) (noted : List FileXorbDependency) → PlacesTo listing standing calling acting chunks places base file_id old p now q at noted
      → Placings p q chunks at (calling old) (calling now)
  placings now q at noted begins = begins_places p chunks (calling old)
  placings now q at noted (joins then before after from count before_noted done is) =
      block_stays p chunks (calling old) before after from count (calling then) (ap (λ (n : PlanState). n.block) is.plan) (ap (λ (n : PlanState). n.settings) is.plan)
      (placings then before from before_noted done)
  placings now q at noted (stores then later before m after from chunk choice before_noted done here none is) =
      stores_places then later before m after from chunk choice here (block_before chunks places base before m from choice none) is (placings then before from before_noted done)
