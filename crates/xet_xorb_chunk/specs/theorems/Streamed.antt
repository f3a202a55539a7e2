-- Streams that are fed to a decoder block by block.
use Rattle.std.proofs.Common.{◌≡◌, ◌∙◌, ℕ, ◌+◌, List, [], ◌∷◌, ◌++◌, length, drop, take, IfErr, Ok, Err, Result, Vec, sym, ap, subst, inl, inr, refl, arith, length-drop}
use Rattle.std.proofs.lemmas.List.{append-nil, drop-append-le, take_all}
use Rattle.std.specs.List.{concat}
use Rattle.std.specs.declared.alloc.Global.{Global}
use Rattle.xet_hash.specs.declared.error.StoreError.{StoreError}
use Rattle.xet_xorb_chunk.specs.declared.decoder.ChunkDecoder.{ChunkDecoder}
use Rattle.xet_xorb_chunk.specs.Decoder.{FinishesStream, WasFed, fed_len}
use Rattle.xet_codec.specs.Stops.{StopsWriting}
use Rattle.xet_xorb_chunk.specs.Passing.{Begins, Passes, FailsPassing, RefusesMore, RefusesStream, WritesWhole}
use Rattle.xet_xorb_chunk.specs.Stream.{Decodes, stored_bytes}
use Rattle.xet_xorb_chunk.specs.theorems.More.{fails_more, passes_more, whole_more, whole_within}
use Rattle.xet_xorb_chunk.specs.theorems.Passed.{some_after, written_after}

-- what was refused is refused with more bytes behind it
pub decodes_longer : (max_chunk total : ℕ) (bytes more : List ℕ) (chunks : List (List ℕ)) (e : StoreError) → Decodes max_chunk total bytes chunks (Err e) → Decodes max_chunk total (bytes ++ more) chunks (Err e)
decodes_longer max_chunk total bytes more [] e (inl d) = absurd (cc d.1)
decodes_longer max_chunk total bytes more [] e (inr (inl d)) = inr (inl (d.0, fails_more max_chunk bytes more d.0 d.1, d.2))
decodes_longer max_chunk total bytes more [] e (inr (inr d)) = inr (inr (d.0, whole_more max_chunk bytes more d.0 d.1, d.2, d.3))
decodes_longer max_chunk total bytes more (c ∷ cs) e d =
    let seam : drop (8 + length c) bytes ++ more ≡ drop (8 + length c) (bytes ++ more) = sym (drop-append-le (8 + length c) bytes more (whole_within max_chunk bytes c d.0)) in (
      whole_more max_chunk bytes more c d.0,
      d.1,
      subst (λ (b : List ℕ). Decodes max_chunk (total + length c) b cs (Err e)) seam (decodes_longer max_chunk (total + length c) (drop (8 + length c) bytes) more cs e d.2),
    )

-- and what was passed on is, too
pub passes_longer : (max_chunk total : ℕ) (bytes more : List ℕ) (chunks : List (List ℕ)) (behind : ℕ) (rest : List ℕ) → Passes max_chunk total bytes chunks behind rest
    → Passes max_chunk total (bytes ++ more) chunks behind (rest ++ more)
passes_longer max_chunk total bytes more [] behind rest p = (p.0, ap (λ (b : List ℕ). b ++ more) p.1)
passes_longer max_chunk total bytes more (c ∷ cs) behind rest p =
    let seam : drop (8 + length c) bytes ++ more ≡ drop (8 + length c) (bytes ++ more) = sym (drop-append-le (8 + length c) bytes more (whole_within max_chunk bytes c p.0)) in (
      whole_more max_chunk bytes more c p.0,
      p.1,
      subst (λ (b : List ℕ). Passes max_chunk (total + length c) b cs behind (rest ++ more)) seam (passes_longer max_chunk (total + length c) (drop (8 + length c) bytes) more cs behind rest p.2),
    )

-- a block was refused
pub block_refused : (max_chunk : ℕ) (whole bytes rest : List ℕ) (chunks : List (List ℕ)) (told tells : Type 0) (before written now : List ℕ) (e : StoreError) → whole ≡ bytes ++ rest → (told → tells)
    → (told → written ≡ before ++ concat chunks) → RefusesMore max_chunk bytes chunks tells written now e → FailsPassing max_chunk 0 whole told before now e
block_refused max_chunk whole bytes rest chunks told tells before written now e is t w (inl r) =
    inl (
      chunks ++ r.0,
      subst (λ (b : List ℕ). Decodes max_chunk 0 b (chunks ++ r.0) (Err e)) (sym is) (decodes_longer max_chunk 0 bytes rest (chunks ++ r.0) e r.1),
      λ x. written_after before written now chunks r.0 (w x) (r.2 (t x)),
    )
block_refused max_chunk whole bytes rest chunks told tells before written now e is t w (inr r) =
    inr (
      r.0,
      λ x.
          let s = r.1 (t x) in (
            chunks ++ s.0,
            length (concat chunks) + s.1,
            (s.2.0, s.2.1 ++ rest, subst (λ (b : List ℕ). Passes max_chunk 0 b (chunks ++ s.0) s.2.0 (s.2.1 ++ rest)) (sym is) (passes_longer max_chunk 0 bytes rest (chunks ++ s.0) s.2.0 s.2.1 s.2.2)),
            some_after before written now chunks s.0 s.1 (w x) s.3,
          ),
    )

-- the chunks that were written stand at the front
pub writes_whole : (d : ChunkDecoder) (max_chunk : ℕ) (whole fed left : List ℕ) (chunks : List (List ℕ)) (before now : List ℕ) → d.max_chunk ≡ max_chunk → WasFed d fed chunks → whole ≡ fed ++ left
    → now ≡ before ++ concat chunks → WritesWhole max_chunk whole before now
writes_whole d max_chunk whole fed left chunks before now same holds is w =
    let p = passes_more d.max_chunk 0 fed left chunks d.held.items holds.decodes in (
      chunks,
      (
        p.0,
        d.held.items ++ left,
        subst (λ (m : ℕ). Passes m 0 whole chunks p.0 (d.held.items ++ left)) same (subst (λ (b : List ℕ). Passes d.max_chunk 0 b chunks p.0 (d.held.items ++ left)) (sym is) p.1),
      ),
      w,
    )

decodes_len : (max_chunk total : ℕ) (bytes : List ℕ) (chunks : List (List ℕ)) (rest : List ℕ) → Decodes max_chunk total bytes chunks (Ok rest) → stored_bytes chunks + length rest ≡ length bytes
decodes_len max_chunk total bytes [] rest (inl d) = let same : rest ≡ bytes = cc d.1 in omega (arith, ap length same)
decodes_len max_chunk total bytes [] rest (inr (inl d)) = absurd (cc d.2)
decodes_len max_chunk total bytes [] rest (inr (inr d)) = absurd (cc d.3)
decodes_len max_chunk total bytes (c ∷ cs) rest d =
    let next = decodes_len max_chunk (total + length c) (drop (8 + length c) bytes) cs rest d.2 in
    let within = whole_within max_chunk bytes c d.0 in
    omega (arith, next, within, length-drop (8 + length c) bytes)

-- as many bytes were fed as the decoder says
pub holds_len : (d : ChunkDecoder) (fed : List ℕ) (chunks : List (List ℕ)) → WasFed d fed chunks → fed_len d ≡ length fed
holds_len d fed chunks holds = omega (arith, decodes_len d.max_chunk 0 fed chunks d.held.items holds.decodes, holds.counts.stored, d.held.ok.0)

-- chunks that are decoded stand at the front
pub decodes_begins : (max_chunk total : ℕ) (bytes : List ℕ) (chunks : List (List ℕ)) (r : Result (List ℕ) StoreError) → Decodes max_chunk total bytes chunks r → Begins max_chunk total bytes chunks
decodes_begins max_chunk total bytes [] r d = (total, bytes, (refl, refl))
decodes_begins max_chunk total bytes (c ∷ cs) r d =
    let next = decodes_begins max_chunk (total + length c) (drop (8 + length c) bytes) cs r d.2 in (next.0, next.1, (d.0, d.1, next.2))

-- there was no memory, and nothing was written
pub stream_memory : (max_chunk : ℕ) (bytes : List ℕ) (told : Type 0) (now : List ℕ) (e : StoreError) → StopsWriting e → RefusesStream max_chunk bytes told now now e
stream_memory max_chunk bytes told now e stop = inr (inl (stop, λ t. ([], 0, (0, bytes, (refl, refl)), sym (append-nil now))))

-- how the end of a stream is refused
pub end_refused : (max_chunk : ℕ) (bytes : List ℕ) (chunks : List (List ℕ)) (told : Type 0) (before now : List ℕ) (r : Result (ℕ × Vec ℕ Global) StoreError) → (told → now ≡ before ++ concat chunks)
    → FinishesStream max_chunk bytes chunks r → IfErr r (RefusesStream max_chunk bytes told before now)
end_refused max_chunk bytes chunks told before now (Ok x) w ends = tt
end_refused max_chunk bytes chunks told before now (Err e) w (inl stream) = inl (chunks, stream, w)
end_refused max_chunk bytes chunks told before now (Err e) w (inr memory) =
    inr (inl (
      inr memory.0,
      λ t.
          let all : take (length (concat chunks)) (concat chunks) ≡ concat chunks = take_all (length (concat chunks)) (concat chunks) (omega arith) in
          (chunks, length (concat chunks), decodes_begins max_chunk 0 bytes chunks memory.1.rest memory.1.decodes, w t ∙ ap (λ (x : List ℕ). before ++ x) (sym all)),
    ))
