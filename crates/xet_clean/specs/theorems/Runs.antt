-- A segment that is made of runs which have a file's chunks has these chunks.
use Rattle.std.proofs.Common.{◌≡◌, ◌∙◌, inl, inr, ℕ, zero, suc, ◌+◌, ◌-◌, ◌≤◌, min, List, [], ◌∷◌, ◌++◌, length, map, take, drop, refl, sym, ap, append-nil, length-append, arith}
use Rattle.std.proofs.lemmas.Bool.{cases_lt}
use Rattle.std.proofs.lemmas.List.{drop-drop, drop-map, drop_at, length-drop, length-take, nil_from_length, take-append-drop, take-map, take_at}
use Rattle.std.proofs.Math.Seq.{take-add}
use Rattle.xet_file_plan.specs.Moves.{extended}
use Rattle.xet_file_plan.specs.Placed.{IsMadeOf}
use Rattle.xet_file_plan.specs.Placed.IsMadeOf.{one, more}
use Rattle.xet_file_plan.specs.theorems.Joining.{goes_on_there}
use Rattle.xet_folder.specs.Plan.{part}
use Rattle.xet_hash.specs.Merkle.{chunk_hash}
use Rattle.xet_shard_format.specs.declared.record.FileDataSequenceEntry.{FileDataSequenceEntry as Segment}
use Rattle.xet_store_disk.specs.Separate.{Among}

-- ---- parts of a list have its elements

module _ {X : Type 0} where
  pub among_take : (n : ℕ) (xs : List X) (x : X) → Among (take n xs) x → Among xs x
  among_take zero xs x a = absurd a
  among_take (suc n) [] x a = absurd a
  among_take (suc n) (y ∷ xs) x (inl e) = inl e
  among_take (suc n) (y ∷ xs) x (inr a) = inr (among_take n xs x a)

  pub among_drop : (n : ℕ) (xs : List X) (x : X) → Among (drop n xs) x → Among xs x
  among_drop zero xs x a = a
  among_drop (suc n) [] x a = absurd a
  among_drop (suc n) (y ∷ xs) x a = inr (among_drop n xs x a)

-- ---- parts of a list, one after the other

-- prefixes of a list that are equally long are equal
same_prefix : {X : Type 0} (m n : ℕ) (zs : List X) → length (take m zs) ≡ length (take n zs) → take m zs ≡ take n zs
same_prefix zero zero zs e = refl
same_prefix zero (suc n) [] e = refl
same_prefix zero (suc n) (z ∷ zs) e = absurd (omega (arith, e))
same_prefix (suc m) zero [] e = refl
same_prefix (suc m) zero (z ∷ zs) e = absurd (omega (arith, e))
same_prefix (suc m) (suc n) [] e = refl
same_prefix {X} (suc m) (suc n) (z ∷ zs) e = ap (λ (l : List X). z ∷ l) (same_prefix m n zs (omega (arith, e)))

module _ {X : Type 0} (xs : List X) (a b c : ℕ) where
  lengths : (length (take (c - a) (drop a xs)) ≡ min (c - a) (length xs - a)) × (length (take (b - a) (drop a xs)) ≡ min (b - a) (length xs - a)) × (length (take (c - b) (drop b xs)) ≡ min (c - b) (length xs - b))
  lengths = (
    length-take (c - a) (drop a xs) ∙ ap (min (c - a)) (length-drop a xs),
    length-take (b - a) (drop a xs) ∙ ap (min (b - a)) (length-drop a xs),
    length-take (c - b) (drop b xs) ∙ ap (min (c - b)) (length-drop b xs),
  )

  pub parts_at_most : length (take (c - a) (drop a xs)) ≤ length (take (b - a) (drop a xs)) + length (take (c - b) (drop b xs))
  parts_at_most = omega (arith, lengths.0, lengths.1, lengths.2)

  -- Two parts are the whole if they have no more elements.
  pub parts_both : length (take (b - a) (drop a xs)) + length (take (c - b) (drop b xs)) ≤ length (take (c - a) (drop a xs)) → take (c - a) (drop a xs) ≡ take (b - a) (drop a xs) ++ take (c - b) (drop b xs)
  parts_both all = elim (cases_lt 0 (length (take (c - b) (drop b xs)))) [
    | inl some ↦ (
        let first : a ≤ b = omega (arith, some, all, lengths.0, lengths.1, lengths.2) in
        let second : b ≤ c = omega (arith, some, lengths.2) in
        let sum : c - a ≡ (b - a) + (c - b) = omega (arith, first, second) in
        let there : a + (b - a) ≡ b = omega (arith, first) in
        ap (λ (n : ℕ). take n (drop a xs)) sum
        ∙ take-add (b - a) (c - b) (drop a xs)
        ∙ ap (λ (l : List X). take (b - a) (drop a xs) ++ take (c - b) l) (drop-drop (b - a) a xs ∙ ap (λ (n : ℕ). drop n xs) there)
        )
    | inr none ↦ (
        let empty : take (c - b) (drop b xs) ≡ [] = nil_from_length (take (c - b) (drop b xs)) (omega (arith, none)) in
        same_prefix (c - a) (b - a) (drop a xs) (omega (arith, none, all, parts_at_most))
        ∙ sym (append-nil (take (b - a) (drop a xs)))
        ∙ ap (λ (l : List X). take (b - a) (drop a xs) ++ l) (sym empty)
        )
  ]

-- ---- runs

-- The chunks of a xorb are these. Each run of it that stands names as many of them as it has hashes, and if these are the hashes of
-- chunks that are met, it names these chunks.
module _ (standing : List (List ℕ) → Segment → Type 0) (h : List ℕ) (chunks : List (List ℕ)) (Met : List ℕ → Type 0)
    (count : (run : Segment) (hashes : List (List ℕ)) → standing hashes run → run.xorb_hash ≡ h → length (part run chunks) ≡ length hashes)
    (piece : (run : Segment) (hashes : List (List ℕ)) → standing hashes run → run.xorb_hash ≡ h → (cs : List (List ℕ)) → hashes ≡ map chunk_hash cs → ((b : List ℕ) → Among cs b → Met b) → part run chunks ≡ cs) where
  -- a segment names no more of them
  made_count : (s : Segment) (hashes : List (List ℕ)) → IsMadeOf standing s hashes → s.xorb_hash ≡ h → length (part s chunks) ≤ length hashes
  made_count s hashes (one t _ stands) same = omega (arith, count s hashes stands same)
  made_count s hashes (more t run before after m stands goes) same =
      let on = goes_on_there t run goes in
      let parts : length (part (extended t run) chunks) ≤ length (part t chunks) + length (take (run.chunk_index_end - t.chunk_index_end) (drop t.chunk_index_end chunks)) =
      parts_at_most chunks t.chunk_index_start t.chunk_index_end run.chunk_index_end in
      let run_is : length (take (run.chunk_index_end - t.chunk_index_end) (drop t.chunk_index_end chunks)) ≡ length (part run chunks) =
      ap (λ (n : ℕ). length (take (run.chunk_index_end - n) (drop n chunks))) on.1 in
      omega (arith, parts, run_is, made_count t before m same, count run after stands (sym on.0 ∙ same), length-append before after)

  -- if it names as many as it has hashes, it names the chunks of these hashes
  pub made_part : (s : Segment) (hashes : List (List ℕ)) → IsMadeOf standing s hashes → s.xorb_hash ≡ h → (cs : List (List ℕ)) → hashes ≡ map chunk_hash cs → ((b : List ℕ) → Among cs b → Met b)
      → length hashes ≤ length (part s chunks) → part s chunks ≡ cs
  made_part s hashes (one t _ stands) same cs are met all = piece s hashes stands same cs are met
  made_part s hashes (more t run before after m stands goes) same cs are met all =
      let on = goes_on_there t run goes in
      let n : ℕ = length before in
      let run_is : take (run.chunk_index_end - t.chunk_index_end) (drop t.chunk_index_end chunks) ≡ part run chunks =
      ap (λ (k : ℕ). take (run.chunk_index_end - k) (drop k chunks)) on.1 in
      let parts : length (part (extended t run) chunks) ≤ length (part t chunks) + length (take (run.chunk_index_end - t.chunk_index_end) (drop t.chunk_index_end chunks)) =
      parts_at_most chunks t.chunk_index_start t.chunk_index_end run.chunk_index_end in
      let later : length (part run chunks) ≡ length after = count run after stands (sym on.0 ∙ same) in
      let first_hashes : before ≡ map chunk_hash (take n cs) = sym (take_at before after n refl) ∙ ap (take n) are ∙ take-map chunk_hash n cs in
      let last_hashes : after ≡ map chunk_hash (drop n cs) = sym (drop_at before after n refl) ∙ ap (drop n) are ∙ drop-map chunk_hash n cs in
      let first : part t chunks ≡ take n cs =
      made_part t before m same (take n cs) first_hashes (λ b a. met b (among_take n cs b a)) (omega (arith, all, parts, ap length run_is, later, length-append before after)) in
      let last : part run chunks ≡ drop n cs = piece run after stands (sym on.0 ∙ same) (drop n cs) last_hashes (λ b a. met b (among_drop n cs b a)) in
      let both : part (extended t run) chunks ≡ part t chunks ++ take (run.chunk_index_end - t.chunk_index_end) (drop t.chunk_index_end chunks) =
      parts_both chunks t.chunk_index_start t.chunk_index_end run.chunk_index_end (omega (arith, all, ap length run_is, later, made_count t before m same, length-append before after)) in
      both
      ∙ ap (λ (l : List (List ℕ)). part t chunks ++ l) (run_is ∙ last)
      ∙ ap (λ (l : List (List ℕ)). l ++ drop n cs) first
      ∙ take-append-drop n cs
