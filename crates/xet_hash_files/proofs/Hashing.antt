-- A file whose bytes come in pieces: the leaves of its chunks.
use Rattle.std.proofs.Common.{◌≡◌, ◌∙◌, ℕ, zero, suc, ◌+◌, ◌-◌, ◌^◌, ◌<◌, ◌≤◌, true, false, List, [], ◌∷◌, ◌++◌, append_assoc, length, map, take, refl, sym, ap, subst, append-nil, arith, length-append, length-take, None}
use Rattle.std.proofs.lemmas.List.{map-append}
use Rattle.std.proofs.lemmas.List.Sums.{sum_by-cons}
use Rattle.xet_base.specs.Pieces.{pieces_after}
use Rattle.xet_cut.specs.Chunking.{chunking, first_chunk_len}
use Rattle.xet_cut.specs.Limits.{AreInRange}
use Rattle.xet_cut.specs.Streams.{IsSplit, Splitting}
use Rattle.xet_cut.specs.declared.limits.LimitSettings.{LimitSettings}
use Rattle.xet_cut.specs.theorems.FirstBoundary.{none_in_nothing}
use Rattle.xet_cut.specs.theorems.Parts.{first_chunk_len_within}
use Rattle.xet_hash.specs.Merkle.{file_hash, leaf_of, leaves_of, total_len}
use Rattle.xet_store_disk.specs.declared.info.XetFileInfo.{XetFileInfo}
use Rattle.xet_hash_files.specs.Hashing.{hashed_info}
use Rattle.xet_hash_files.specs.internal.FileHasher.{IsHashing}

abbrev pub Leaf : Type 0
Leaf = List ℕ × ℕ

-- ---- leaves

-- those of a block after others
more_leaves : (leaves more : List Leaf) (parts new : List (List ℕ)) → leaves ≡ leaves_of parts → more ≡ leaves ++ leaves_of new → more ≡ leaves_of (parts ++ new)
more_leaves leaves more parts new are is = is ∙ ap (λ (l : List Leaf). l ++ leaves_of new) are ∙ sym (map-append leaf_of parts new)

module _ (s : LimitSettings) (some : 1 ≤ s.minimum_chunk) (order : s.minimum_chunk < s.maximum_chunk) where
  total_after : (k : ℕ) (xs : List ℕ) → total_len (leaves_of (pieces_after (first_chunk_len s) k xs)) ≡ length xs - k
  unfolding pieces_after
  total_after zero [] = omega arith
  total_after (suc k) [] = omega arith
  total_after zero (x ∷ xs) =
      let n : ℕ = first_chunk_len s (x ∷ xs) in
      let within = first_chunk_len_within s (x ∷ xs) some order (omega arith) in
      omega (
        arith,
        sum_by-cons (λ (m : Leaf). m.1) (leaf_of (take n (x ∷ xs))) (leaves_of (pieces_after (first_chunk_len s) (n - 1) xs)),
        total_after (n - 1) xs,
        length-take n (x ∷ xs),
        within.0,
      )
  total_after (suc k) (x ∷ xs) = omega (arith, total_after k xs)

  -- the chunks have all the bytes
  total_chunking : (bs : List ℕ) → total_len (leaves_of (chunking s bs)) ≡ length bs
  total_chunking bs = omega (arith, total_after 0 bs)

-- the pointer record of a file of these chunks
pub info_of_all : (s : LimitSettings) (bytes hash : List ℕ) (count : ℕ) (leaves : List Leaf) → hash ≡ file_hash leaves → leaves ≡ leaves_of (chunking s bytes) → count ≡ length bytes
    → ◌≡◌ {A = XetFileInfo} (record { hash = hash; file_size = count; sha256 = None }) (hashed_info s bytes)
info_of_all s bytes hash count leaves hash_is are counted =
    let all : hash ≡ file_hash (leaves_of (chunking s bytes)) = hash_is ∙ ap file_hash are in
    λ i. record { hash = all i; file_size = counted i; sha256 = None }

-- ---- the bytes so far

-- none
pub hashing_begins : (s : LimitSettings) (most : ℕ) → AreInRange s → most ≡ s.max_source_bytes → IsHashing (record { settings = s; buffered = [] }) [] 0 most []
hashing_begins s most range limit = record {
  range = range;
  limit = limit;
  counted = refl;
  short = omega arith;
  parts = [];
  split = record { joined = λ rest. refl; none = none_in_nothing s range.minimum_from range.minimum_to };
  made = refl;
}

module _ (old : Splitting) (leaves : List Leaf) (count most : ℕ) (bytes : List ℕ) (is : IsHashing old leaves count most bytes) where
  -- and these
  pub hashing_more : (new : Splitting) (more : List Leaf) (total : ℕ) (next : List ℕ) → (parts : List (List ℕ)) × IsSplit old.settings (old.buffered ++ next) parts new.buffered × (more ≡ leaves ++ leaves_of parts)
      → new.settings ≡ old.settings → total ≡ count + length next → count + length next ≤ most → IsHashing new more total most (bytes ++ next)
  hashing_more new more total next (parts, split, leaves_are) same total_is short =
      let both : IsSplit old.settings (bytes ++ next) (is.parts ++ parts) new.buffered = record {
        joined = λ rest.
            ap (chunking old.settings) (append_assoc bytes next rest)
            ∙ is.split.joined (next ++ rest)
            ∙ ap (λ (t : List ℕ). is.parts ++ chunking old.settings t) (sym (append_assoc old.buffered next rest))
            ∙ ap (λ (t : List (List ℕ)). is.parts ++ t) (split.joined rest)
            ∙ sym (append_assoc is.parts parts (chunking old.settings (new.buffered ++ rest)));
        none = split.none;
      } in
      record {
        range = subst AreInRange (sym same) is.range;
        limit = is.limit ∙ sym (ap (λ (s : LimitSettings). s.max_source_bytes) same);
        counted = omega (arith, is.counted, total_is, length-append bytes next);
        short = omega (arith, is.counted, short, length-append bytes next);
        parts = is.parts ++ parts;
        split = subst (λ (s : LimitSettings). IsSplit s (bytes ++ next) (is.parts ++ parts) new.buffered) (sym same) both;
        made = more_leaves leaves more is.parts parts is.made leaves_are;
      }

  -- and no more: the leaves of all chunks
  pub hashing_ends : (more : List Leaf) → more ≡ leaves ++ leaves_of (chunking old.settings old.buffered) → more ≡ leaves_of (chunking old.settings bytes)
  hashing_ends more leaves_are =
      more_leaves leaves more is.parts (chunking old.settings old.buffered) is.made leaves_are
      ∙ ap leaves_of
      (ap (λ (t : List ℕ). is.parts ++ chunking old.settings t) (sym (append-nil old.buffered)) ∙ sym (is.split.joined []) ∙ ap (chunking old.settings) (append-nil bytes))

  -- Their lengths can be added up.
  pub total_small : (more : List Leaf) → more ≡ leaves_of (chunking old.settings bytes) → total_len more < 2 ^ 64
  total_small more are =
      omega (arith, ap total_len are, total_chunking old.settings is.range.minimum_from is.range.minimum_to bytes, is.short, is.limit, is.range.source_to)
