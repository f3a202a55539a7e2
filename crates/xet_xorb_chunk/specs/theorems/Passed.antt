-- Forwarding of whole chunks, one step at a time.
use Rattle.std.proofs.Common.{◌≡◌, ◌∙◌, ℕ, ◌+◌, ◌<◌, ◌≤◌, ◌^◌, List, [], ◌∷◌, ◌++◌, ◌-◌, Some, length, slice_range, take, drop, Result, Ok, Err, refl, sym, ap, subst, inl, inr, arith, append_assoc, length-drop}
use Rattle.std.proofs.Math.Seq.{take-append-add}
use Rattle.std.proofs.lemmas.List.{append-nil, drop-drop, length-take-le, take_rest}
use Rattle.std.proofs.lemmas.List.Folds.{concat-append}
use Rattle.std.specs.List.{concat}
use Rattle.xet_hash.specs.declared.error.StoreError.{StoreError}
use Rattle.xet_xorb_chunk.specs.declared.decoder.Tally.{Tally}
use Rattle.xet_xorb_chunk.specs.Decoder.{Counts, Forwards}
use Rattle.xet_xorb_chunk.specs.Passing.{Passes, FailsPassing, RefusesOne, ShowsPrefix}
use Rattle.xet_xorb_chunk.specs.Stream.{Decodes, Fails, Whole, prefix_of}

pub passes_append : (max_chunk total : ℕ) (bytes : List ℕ) (chunks : List (List ℕ)) (middle : ℕ) (rest : List ℕ) (more : List (List ℕ)) (behind : ℕ) (last : List ℕ)
    → Passes max_chunk total bytes chunks middle rest → Passes max_chunk middle rest more behind last → Passes max_chunk total bytes (chunks ++ more) behind last
passes_append max_chunk total bytes [] middle rest more behind last p q =
    subst (λ (t : ℕ). Passes max_chunk t bytes more behind last) p.0 (subst (λ (b : List ℕ). Passes max_chunk middle b more behind last) p.1 q)
passes_append max_chunk total bytes (c ∷ cs) middle rest more behind last p q =
    (p.0, p.1, passes_append max_chunk (total + length c) (drop (8 + length c) bytes) cs middle rest more behind last p.2 q)

-- what is decoded behind chunks that were passed on
pub decodes_after : (max_chunk total : ℕ) (bytes : List ℕ) (chunks : List (List ℕ)) (middle : ℕ) (rest : List ℕ) (more : List (List ℕ)) (r : Result (List ℕ) StoreError)
    → Passes max_chunk total bytes chunks middle rest → Decodes max_chunk middle rest more r → Decodes max_chunk total bytes (chunks ++ more) r
decodes_after max_chunk total bytes [] middle rest more r p q =
    subst (λ (t : ℕ). Decodes max_chunk t bytes more r) p.0 (subst (λ (b : List ℕ). Decodes max_chunk middle b more r) p.1 q)
decodes_after max_chunk total bytes (c ∷ cs) middle rest more r p q =
    (p.0, p.1, decodes_after max_chunk (total + length c) (drop (8 + length c) bytes) cs middle rest more r p.2 q)

pub written_after : (before middle now : List ℕ) (chunks more : List (List ℕ)) → middle ≡ before ++ concat chunks → now ≡ middle ++ concat more
    → now ≡ before ++ concat (chunks ++ more)
written_after before middle now chunks more first next =
    next ∙ ap (λ (x : List ℕ). x ++ concat more) first ∙ append_assoc before (concat chunks) (concat more) ∙ ap (λ (x : List ℕ). before ++ x) (sym (concat-append chunks more))

pub some_after : (before middle now : List ℕ) (chunks more : List (List ℕ)) (n : ℕ) → middle ≡ before ++ concat chunks → now ≡ middle ++ take n (concat more)
    → now ≡ before ++ take (length (concat chunks) + n) (concat (chunks ++ more))
some_after before middle now chunks more n first next =
    next ∙ ap (λ (x : List ℕ). x ++ take n (concat more)) first ∙ append_assoc before (concat chunks) (take n (concat more))
    ∙ ap (λ (x : List ℕ). before ++ x) (sym (take-append-add (concat chunks) (concat more) n) ∙ ap (take (length (concat chunks) + n)) (sym (concat-append chunks more)))

-- a refusal behind chunks that were passed on and written
pub refuses_after : (max_chunk total : ℕ) (bytes : List ℕ) (chunks : List (List ℕ)) (middle : ℕ) (rest : List ℕ) (told : Type 0) (before written now : List ℕ) (e : StoreError)
    → Passes max_chunk total bytes chunks middle rest → (told → written ≡ before ++ concat chunks) → FailsPassing max_chunk middle rest told written now e → FailsPassing max_chunk total bytes told before now e
refuses_after max_chunk total bytes chunks middle rest told before written now e p w (inl r) =
    inl (chunks ++ r.0, decodes_after max_chunk total bytes chunks middle rest r.0 (Err e) p r.1, λ t. written_after before written now chunks r.0 (w t) (r.2 t))
refuses_after max_chunk total bytes chunks middle rest told before written now e p w (inr r) =
    inr (
      r.0,
      λ t.
          let s = r.1 t in (
            chunks ++ s.0,
            length (concat chunks) + s.1,
            (s.2.0, s.2.1, passes_append max_chunk total bytes chunks middle rest s.0 s.2.0 s.2.1 p s.2.2),
            some_after before written now chunks s.0 s.1 (w t) s.3,
          ),
    )

-- nothing was passed on
pub moves_none : (max_chunk : ℕ) (t : Tally) (bytes : List ℕ) → Forwards max_chunk t t bytes bytes []
moves_none max_chunk t bytes = record { passes = (refl, refl); counts = λ before counts. subst (λ (cs : List (List ℕ)). Counts t cs) (sym (append-nil before)) counts; stored = refl }

-- one chunk was
pub moves_one : (max_chunk : ℕ) (old new : Tally) (bytes rest chunk : List ℕ) → prefix_of max_chunk bytes ≡ Whole chunk → old.total + length chunk < 2 ^ 32 → new.total ≡ old.total + length chunk
    → rest ≡ drop (8 + length chunk) bytes → 8 + length chunk ≤ length bytes → ((before : List (List ℕ)) → Counts old before → Counts new (before ++ chunk ∷ []))
    → new.stored ≡ old.stored + (8 + length chunk) → Forwards max_chunk old new bytes rest (chunk ∷ [])
moves_one max_chunk old new bytes rest chunk prefix fits total is long counts stored = record {
  passes = (prefix, fits, (total, is));
  counts = counts;
  stored = omega (arith, ap length is, length-drop (8 + length chunk) bytes);
}

pub moves_append : (max_chunk : ℕ) (old middle new : Tally) (bytes rest last : List ℕ) (chunks more : List (List ℕ)) → Forwards max_chunk old middle bytes rest chunks → Forwards max_chunk middle new rest last more
    → Forwards max_chunk old new bytes last (chunks ++ more)
moves_append max_chunk old middle new bytes rest last chunks more p q = record {
  passes = passes_append max_chunk old.total bytes chunks middle.total rest more new.total last p.passes q.passes;
  counts = λ before counts. subst (λ (cs : List (List ℕ)). Counts new cs) (append_assoc before chunks more) (q.counts (before ++ chunks) (p.counts before counts));
  stored = omega (arith, p.stored, q.stored);
}

-- what stands at the front fails a check
pub refuses_prefix : (max_chunk total : ℕ) (bytes : List ℕ) (told : Type 0) (now : List ℕ) (e : StoreError) → prefix_of max_chunk bytes ≡ Fails e → FailsPassing max_chunk total bytes told now now e
refuses_prefix max_chunk total bytes told now e fails = inl ([], inr (inl (e, fails, refl)), λ t. sym (append-nil now))

-- the same where the sink tells
pub refuses_one_told : (total : ℕ) (chunk : List ℕ) (told tells : Type 0) (before now : List ℕ) (e : StoreError) → (tells → told) → RefusesOne total chunk told before now e
    → RefusesOne total chunk tells before now e
refuses_one_told total chunk told tells before now e t (inl r) = inl (r.0, r.1, λ x. r.2 (t x))
refuses_one_told total chunk told tells before now e t (inr r) = inr (r.0, r.1, λ x. r.2 (t x))

-- a whole chunk was refused where it was to be passed on
pub refuses_pass : (max_chunk total : ℕ) (bytes chunk : List ℕ) (told : Type 0) (before now : List ℕ) (e : StoreError) → prefix_of max_chunk bytes ≡ Whole chunk
    → RefusesOne total chunk told before now e
    → FailsPassing max_chunk total bytes told before now e
refuses_pass max_chunk total bytes chunk told before now e prefix (inl r) =
    inl ([], inr (inr (chunk, prefix, r.1, ap (λ (x : StoreError). Err x) r.0)), λ t. r.2 t ∙ sym (append-nil before))
refuses_pass max_chunk total bytes chunk told before now e prefix (inr r) =
    inr (
      r.0,
      λ t.
          let some = r.2 t in (
            chunk ∷ [],
            some.0,
            (total + length chunk, drop (8 + length chunk) bytes, (prefix, r.1, (refl, refl))),
            some.1 ∙ ap (λ (x : List ℕ). before ++ take some.0 x) (sym (append-nil chunk)),
          ),
    )

-- a whole chunk at a place of a piece, as it is cut from it
pub record StandsAt (max_chunk : ℕ) (piece : List ℕ) (at len : ℕ) : Type 0 where
  pub prefix : prefix_of max_chunk (drop at piece) ≡ Whole (slice_range piece (at + 8) (at + 8 + len))
  pub within : at + 8 + len ≤ length piece
  pub size : length (slice_range piece (at + 8) (at + 8 + len)) ≡ len
  pub behind : drop (at + 8 + len) piece ≡ drop (8 + length (slice_range piece (at + 8) (at + 8 + len))) (drop at piece)

pub stands_at : (max_chunk : ℕ) (piece : List ℕ) (at len : ℕ) → at ≤ length piece → ShowsPrefix max_chunk (slice_range piece at (length piece)) (Ok (Some len)) → StandsAt max_chunk piece at len
stands_at max_chunk piece at len low shows =
    let all : slice_range piece at (length piece) ≡ drop at piece = take_rest piece at in
    let shown = subst (λ (b : List ℕ). (prefix_of max_chunk b ≡ Whole (take len (drop 8 b))) × (8 + len ≤ length b)) all shows in
    let count : at + 8 + len - (at + 8) ≡ len = omega arith in
    let chunk : take len (drop 8 (drop at piece)) ≡ slice_range piece (at + 8) (at + 8 + len) = ap (take len) (drop-drop 8 at piece) ∙ ap (λ (n : ℕ). take n (drop (at + 8) piece)) (sym count) in
    let size : length (slice_range piece (at + 8) (at + 8 + len)) ≡ len =
    ap length (sym chunk) ∙ length-take-le len (drop 8 (drop at piece)) (omega (arith, shown.1, length-drop 8 (drop at piece))) in
    let sum : at + 8 + len ≡ at + (8 + length (slice_range piece (at + 8) (at + 8 + len))) = omega arith in
    record {
      prefix = shown.0 ∙ ap (λ (x : List ℕ). Whole x) chunk;
      within = omega (arith, shown.1, length-drop at piece);
      size = size;
      behind = ap (λ (n : ℕ). drop n piece) sum ∙ sym (drop-drop (8 + length (slice_range piece (at + 8) (at + 8 + len))) at piece);
    }
