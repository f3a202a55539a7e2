-- A block of a stream that is split in order.
use Rattle.std.proofs.Common.{◌≡◌, ◌≢◌, ◌∙◌, ℕ, ◌+◌, ◌-◌, ◌≤◌, false, List, [], ◌∷◌, ◌++◌, append_assoc, length, take, drop, take-append-drop, Option, Some, None, option_map, refl, sym, ap, subst, arith, length-drop}
use Rattle.std.proofs.lemmas.List.{append-nil, drop-drop, length-take-le, map_push}
use Rattle.std.specs.List.{slice_range}
use Rattle.std.specs.Option.{option_to_list}
use Rattle.xet_cut.specs.declared.limits.LimitSettings.{LimitSettings}
use Rattle.xet_cut.specs.Limits.{AreInRange}
use Rattle.xet_cut.specs.Chunking.{chunking}
use Rattle.xet_cut.specs.Streams.{IsSplit, Splitting, boundary_in, if_any, step}
use Rattle.xet_cut.specs.theorems.Streams.{chunking_cut, chunking_unended}
use Rattle.xet_hash.specs.Merkle.{chunk_hash, leaf_of, leaves_of}
use Rattle.xet_xorb_chunk.specs.Chunks.{chunk_leaf, chunk_of}
use Rattle.xet_xorb_chunk.specs.declared.chunk.Chunk.{Chunk}
use Rattle.xet_hash_files.specs.internal.Splitting.{AreCut}

abbrev pub Leaf : Type 0
Leaf = List ℕ × ℕ

-- ---- one step

step_more : (s : LimitSettings) (buffered new : List ℕ) → boundary_in s (buffered ++ new) ≡ None
    → step s buffered new false ≡ record { chunk = None; taken = length new; buffered = buffered ++ new }
unfolding step
step_more s buffered new none = rw (none, step) refl

-- one that gives no chunk buffers all bytes
pub step_without : (s : LimitSettings) (buffered new : List ℕ) (first : Option Chunk) → first ≡ option_map chunk_of (step s buffered new false).chunk → ((chunk : Chunk) → first ≢ Some chunk) → IsSplit s (buffered ++ new) [] (step s buffered new false).buffered
unfolding step
step_without s buffered new first is not = by_boundary (boundary_in s (buffered ++ new)) refl
  where
    by_boundary : (o : Option ℕ) → boundary_in s (buffered ++ new) ≡ o → IsSplit s (buffered ++ new) [] (step s buffered new false).buffered
    by_boundary None found = rw (step_more s buffered new found) record { joined = λ rest. refl; none = found }
    by_boundary (Some k) found =
        let some : (step s buffered new false).chunk ≡ Some (take k (buffered ++ new)) = rw (found, step) refl in
        absurd (not (chunk_of (take k (buffered ++ new))) (is ∙ ap (option_map chunk_of) some))

-- one that gives a chunk buffers nothing
pub step_with : (s : LimitSettings) (buffered new : List ℕ) (chunk : Chunk) → Some chunk ≡ option_map chunk_of (step s buffered new false).chunk → (step s buffered new false).buffered ≡ []
unfolding step
step_with s buffered new chunk is = by_boundary (boundary_in s (buffered ++ new)) refl
  where
    by_boundary : (o : Option ℕ) → boundary_in s (buffered ++ new) ≡ o → (step s buffered new false).buffered ≡ []
    by_boundary (Some k) found = rw (found, step) refl
    by_boundary None found =
        let none : (step s buffered new false).chunk ≡ None = rw (step_more s buffered new found) refl in
        absurd (cc (is, ap (option_map chunk_of) none))

-- the chunk that it gives
pub step_chunk : (o : Option (List ℕ)) (chunk : Chunk) → Some chunk ≡ option_map chunk_of o → (part : List ℕ) × (o ≡ Some part) × (chunk_leaf chunk ≡ leaf_of part)
step_chunk None chunk is = absurd (cc is)
step_chunk (Some part) chunk is =
    let same : chunk ≡ chunk_of part = cc is in (part, refl, ap chunk_leaf same)

-- bytes with no boundary within them are buffered
pub step_buffers : (s : LimitSettings) (buffered new : List ℕ) → buffered ≡ [] → boundary_in s new ≡ None → (step s buffered new false).buffered ≡ new
step_buffers s [] new empty none = ap (λ t. t.buffered) (step_more s [] new none)
step_buffers s (b ∷ bs) new empty none = absurd (cc empty)

-- ---- the chunks of a block before which nothing is buffered

pub cut_none : (s : LimitSettings) (bytes : List ℕ) (leaves : List Leaf) → AreCut s bytes 0 leaves leaves
cut_none s bytes leaves = record { within = omega arith; parts = []; joined = λ rest. refl; made = sym (append-nil leaves) }

-- the leaf of a part
pub part_leaf : (bytes hash : List ℕ) (taken n : ℕ) → hash ≡ chunk_hash (slice_range bytes taken (taken + n)) → n ≤ length bytes - taken → ◌≡◌ {A = Leaf} (hash, n) (leaf_of (take n (drop taken bytes)))
part_leaf bytes hash taken n is within =
    let count : taken + n - taken ≡ n = omega arith in
    let len : length (take n (drop taken bytes)) ≡ n = length-take-le n (drop taken bytes) (omega (arith, within, length-drop taken bytes)) in
    let hash_is : hash ≡ chunk_hash (take n (drop taken bytes)) = is ∙ ap (λ (m : ℕ). chunk_hash (take m (drop taken bytes))) count in
    λ i. (hash_is i, sym len i)

-- one more
pub cut_more : {s : LimitSettings} {bytes : List ℕ} {taken : ℕ} {before after : List Leaf} (n : ℕ) (new : List Leaf) → AreInRange s → AreCut s bytes taken before after
    → boundary_in s (drop taken bytes) ≡ Some n → 1 ≤ n → n ≤ length bytes - taken
    → new ≡ after ++ leaf_of (take n (drop taken bytes)) ∷ [] → AreCut s bytes (taken + n) before new
cut_more {s} {bytes} {taken} {before} {after} n new range is found some within new_is =
    let part : List ℕ = take n (drop taken bytes) in
    record {
      within = omega (arith, is.within);
      parts = is.parts ++ part ∷ [];
      joined = λ more.
          is.joined more
          ∙ ap (λ (t : List (List ℕ)). is.parts ++ t)
          (chunking_cut s (drop taken bytes) more n range.minimum_from range.minimum_to found
          ∙ ap (λ (t : List ℕ). part ∷ chunking s (t ++ more)) (drop-drop n taken bytes))
          ∙ sym (append_assoc is.parts (part ∷ []) (chunking s (drop (taken + n) bytes ++ more)));
      made = new_is
          ∙ ap (λ (t : List Leaf). t ++ leaf_of part ∷ []) is.made
          ∙ append_assoc before (leaves_of is.parts) (leaf_of part ∷ [])
          ∙ ap (λ (t : List Leaf). before ++ t) (sym (map_push leaf_of is.parts part));
    }

-- a boundary after nothing
pub found_after : (s : LimitSettings) (buffered bytes : List ℕ) (n : ℕ) → buffered ≡ [] → boundary_in s (buffered ++ bytes) ≡ Some (length buffered + n) → boundary_in s bytes ≡ Some n
found_after s [] bytes n empty found = found ∙ ap Some (omega arith)
found_after s (b ∷ bs) bytes n empty found = absurd (cc empty)

pub none_after : (s : LimitSettings) (buffered bytes : List ℕ) → buffered ≡ [] → boundary_in s (buffered ++ bytes) ≡ None → boundary_in s bytes ≡ None
none_after s [] bytes empty none = none
none_after s (b ∷ bs) bytes empty none = absurd (cc empty)

-- ---- a whole block

-- its first chunk, and then the others
block_joined : (s : LimitSettings) (before after leaves : List Leaf) (buffered bytes part : List ℕ) (from taken : ℕ) (first : List ℕ) → IsSplit s (buffered ++ take from bytes) (part ∷ []) first → first ≡ []
    → leaves ≡ before ++ leaf_of part ∷ [] → AreCut s (drop from bytes) taken leaves after → boundary_in s (drop taken (drop from bytes)) ≡ None
    → (parts : List (List ℕ)) × IsSplit s (buffered ++ bytes) parts (drop taken (drop from bytes)) × (after ≡ before ++ leaves_of parts)
block_joined s before after leaves buffered bytes part from taken first split empty made is unended =
    let rest : List ℕ = drop from bytes in
    let all : buffered ++ bytes ≡ (buffered ++ take from bytes) ++ rest =
    ap (λ (t : List ℕ). buffered ++ t) (sym (take-append-drop from bytes)) ∙ sym (append_assoc buffered (take from bytes) rest) in (
      part ∷ is.parts,
      record {
        joined = λ more.
            ap (λ (t : List ℕ). chunking s (t ++ more)) all
            ∙ ap (chunking s) (append_assoc (buffered ++ take from bytes) rest more)
            ∙ split.joined (rest ++ more)
            ∙ ap (λ (t : List ℕ). part ∷ chunking s (t ++ (rest ++ more))) empty
            ∙ ap (λ (t : List (List ℕ)). part ∷ t) (is.joined more);
        none = unended;
      },
      is.made ∙ ap (λ (t : List Leaf). t ++ leaves_of is.parts) made ∙ append_assoc before (leaf_of part ∷ []) (leaves_of is.parts),
    )

-- the same by what the calls say
pub block_split : (s : LimitSettings) (before after leaves : List Leaf) (buffered bytes rest tail : List ℕ) (chunk : Chunk) (n from taken : ℕ) (one two : Splitting)
    → IsSplit s (buffered ++ take (step s buffered bytes false).taken bytes) (option_to_list (step s buffered bytes false).chunk) (step s buffered bytes false).buffered
    → Some chunk ≡ option_map chunk_of (step s buffered bytes false).chunk → from ≡ (step s buffered bytes false).taken → one ≡ record { settings = s; buffered = (step s buffered bytes false).buffered }
    → n ≡ length chunk.bytes → leaves ≡ before ++ (chunk.hash, n) ∷ [] → rest ≡ drop from bytes → AreCut one.settings rest taken leaves after → boundary_in one.settings (drop taken rest) ≡ None
    → tail ≡ drop taken rest → two ≡ record { settings = one.settings; buffered = (step one.settings one.buffered tail false).buffered }
    → (parts : List (List ℕ)) × IsSplit s (buffered ++ bytes) parts two.buffered × (after ≡ before ++ leaves_of parts)
block_split s before after leaves buffered bytes rest tail chunk n from taken one two more chunk_is from_is one_is n_is made rest_is cut unended tail_is two_is =
    let empty : (step s buffered bytes false).buffered ≡ [] = step_with s buffered bytes chunk chunk_is in
    let part = step_chunk (step s buffered bytes false).chunk chunk chunk_is in
    let first : IsSplit s (buffered ++ take from bytes) (option_to_list (step s buffered bytes false).chunk) (step s buffered bytes false).buffered =
    subst (λ (k : ℕ). IsSplit s (buffered ++ take k bytes) (option_to_list (step s buffered bytes false).chunk) (step s buffered bytes false).buffered) (sym from_is) more in
    let split : IsSplit s (buffered ++ take from bytes) (part.0 ∷ []) (step s buffered bytes false).buffered =
    subst (λ (o : Option (List ℕ)). IsSplit s (buffered ++ take from bytes) (option_to_list o) (step s buffered bytes false).buffered) part.1 first in
    let leaf : ◌≡◌ {A = Leaf} (chunk.hash, n) (leaf_of part.0) = ap (λ (m : ℕ). (chunk.hash, m)) n_is ∙ part.2 in
    let same : one.settings ≡ s = ap (λ (v : Splitting). v.settings) one_is in
    let none : one.buffered ≡ [] = ap (λ (v : Splitting). v.buffered) one_is ∙ empty in
    let are : AreCut s (drop from bytes) taken leaves after = subst (λ (l : LimitSettings). AreCut l (drop from bytes) taken leaves after) same (subst (λ (r : List ℕ). AreCut one.settings r taken leaves after) rest_is cut) in
    let ends : boundary_in s (drop taken (drop from bytes)) ≡ None =
    ap (λ (l : LimitSettings). boundary_in l (drop taken (drop from bytes))) (sym same) ∙ ap (λ (r : List ℕ). boundary_in one.settings (drop taken r)) (sym rest_is) ∙ unended in
    let left : two.buffered ≡ drop taken (drop from bytes) =
    ap (λ (v : Splitting). v.buffered) two_is
    ∙ step_buffers one.settings one.buffered tail none (ap (boundary_in one.settings) tail_is ∙ unended)
    ∙ tail_is
    ∙ ap (drop taken) rest_is in
    let all = block_joined s before after leaves buffered bytes part.0 from taken (step s buffered bytes false).buffered split empty (made ∙ ap (λ (l : Leaf). before ++ l ∷ []) leaf) are ends in
    (all.0, subst (IsSplit s (buffered ++ bytes) all.0) (sym left) all.1, all.2)

-- what is buffered at the end of a stream is its last chunk
pub rest_leaves : (s : LimitSettings) (buffered : List ℕ) (chunk : Chunk) (n : ℕ) (leaves new : List Leaf) → boundary_in s buffered ≡ None → Some chunk ≡ option_map chunk_of (if_any buffered)
    → n ≡ length chunk.bytes → new ≡ leaves ++ (chunk.hash, n) ∷ [] → new ≡ leaves ++ leaves_of (chunking s buffered)
rest_leaves s [] chunk n leaves new none is n_is made = absurd (cc is)
rest_leaves s (b ∷ bs) chunk n leaves new none is n_is made =
    let same : chunk ≡ chunk_of (b ∷ bs) = cc is in
    let leaf : ◌≡◌ {A = Leaf} (chunk.hash, n) (leaf_of (b ∷ bs)) = ap (λ (m : ℕ). (chunk.hash, m)) n_is ∙ ap chunk_leaf same in
    made ∙ ap (λ (l : Leaf). leaves ++ l ∷ []) leaf ∙ ap (λ (l : List Leaf). leaves ++ l) (sym (ap leaves_of (chunking_unended s (b ∷ bs) none)))

-- nothing is no chunk
pub rest_none : (s : LimitSettings) (buffered : List ℕ) (last : Option Chunk) (leaves : List Leaf) → boundary_in s buffered ≡ None → last ≡ option_map chunk_of (if_any buffered) → ((chunk : Chunk) → last ≢ Some chunk)
    → leaves ≡ leaves ++ leaves_of (chunking s buffered)
rest_none s [] last leaves none is not = sym (append-nil leaves) ∙ ap (λ (l : List Leaf). leaves ++ l) (sym (ap leaves_of (chunking_unended s [] none)))
rest_none s (b ∷ bs) last leaves none is not = absurd (not (chunk_of (b ∷ bs)) is)
