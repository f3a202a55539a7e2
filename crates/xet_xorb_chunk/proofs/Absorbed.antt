-- Pieces that are fed to a decoder.
use Rattle.std.proofs.Common.{◌≡◌, ℕ, ◌+◌, List, [], ◌∷◌, ◌++◌, length, drop, Ok, Err, sym, ap, subst, inl, inr, arith}
use Rattle.std.specs.List.{concat}
use Rattle.xet_hash.specs.declared.error.StoreError.{StoreError}
use Rattle.xet_xorb_chunk.specs.declared.decoder.ChunkDecoder.{ChunkDecoder}
use Rattle.xet_xorb_chunk.specs.declared.decoder.Tally.{Tally}
use Rattle.xet_xorb_chunk.specs.Decoder.{WasFed, Forwards}
use Rattle.xet_xorb_chunk.specs.Passing.{Passes, FailsPassing, RefusesMore}
use Rattle.xet_xorb_chunk.specs.Stream.{Decodes, Short, prefix_of}
use Rattle.xet_xorb_chunk.specs.theorems.More.{passes_more}
use Rattle.xet_xorb_chunk.specs.theorems.Passed.{decodes_after, moves_append, passes_append, refuses_after, written_after}

-- chunks were passed on and written
abbrev pub PassedOn : ℕ → Tally → Tally → List ℕ → List ℕ → Type 0 → List ℕ → List ℕ → Type 0
PassedOn max_chunk old new bytes rest told before now =
    (chunks : List (List ℕ)) × Forwards max_chunk old new bytes rest chunks × (told → now ≡ before ++ concat chunks)

pub absorbed : (max_chunk : ℕ) (old middle new : Tally) (bytes rest next last : List ℕ) (told tells : Type 0) (before written now : List ℕ) → rest ≡ next → (told → tells)
    → PassedOn max_chunk old middle bytes rest told before written → PassedOn max_chunk middle new next last tells written now → PassedOn max_chunk old new bytes last told before now
absorbed max_chunk old middle new bytes rest next last told tells before written now same t p q =
    let moves = subst (λ (b : List ℕ). Forwards max_chunk middle new b last q.0) (sym same) q.1 in
    (p.0 ++ q.0, moves_append max_chunk old middle new bytes rest last p.0 q.0 p.1 moves, λ x. written_after before written now p.0 q.0 (p.2 x) (q.2 (t x)))

pub refuses_told : (max_chunk total : ℕ) (bytes : List ℕ) (told tells : Type 0) (before now : List ℕ) (e : StoreError) → (told → tells) → FailsPassing max_chunk total bytes tells before now e
    → FailsPassing max_chunk total bytes told before now e
refuses_told max_chunk total bytes told tells before now e t (inl r) = inl (r.0, r.1, λ x. r.2 (t x))
refuses_told max_chunk total bytes told tells before now e t (inr r) = inr (r.0, λ x. r.1 (t x))

pub absorbs_refusal : (max_chunk : ℕ) (old middle : Tally) (bytes rest next : List ℕ) (told tells : Type 0) (before written now : List ℕ) (e : StoreError) → rest ≡ next → (told → tells)
    → PassedOn max_chunk old middle bytes rest told before written → FailsPassing max_chunk middle.total next tells written now e → FailsPassing max_chunk old.total bytes told before now e
absorbs_refusal max_chunk old middle bytes rest next told tells before written now e same t p r =
    let refuses = subst (λ (b : List ℕ). FailsPassing max_chunk middle.total b tells written now e) (sym same) r in
    refuses_after max_chunk old.total bytes p.0 middle.total rest told before written now e p.1.passes p.2 (refuses_told max_chunk middle.total rest told tells written now e t refuses)

-- chunks that were passed on from a front, and less than another behind them
pub passes_decodes : (max_chunk total : ℕ) (bytes : List ℕ) (chunks : List (List ℕ)) (behind : ℕ) (rest : List ℕ) → Passes max_chunk total bytes chunks behind rest → prefix_of max_chunk rest ≡ Short
    → Decodes max_chunk total bytes chunks (Ok rest)
passes_decodes max_chunk total bytes [] behind rest p short =
    inl (subst (λ (b : List ℕ). prefix_of max_chunk b ≡ Short) p.1 short, ap (λ (b : List ℕ). Ok b) p.1)
passes_decodes max_chunk total bytes (c ∷ cs) behind rest p short =
    (p.0, p.1, passes_decodes max_chunk (total + length c) (drop (8 + length c) bytes) cs behind rest p.2 short)

-- what a decoder holds, before a piece that comes
ahead : (d : ChunkDecoder) (piece fed : List ℕ) (before : List (List ℕ)) → WasFed d fed before → Passes d.max_chunk 0 (fed ++ piece) before d.passed.total (d.held.items ++ piece)
ahead d piece fed before holds =
    let more = passes_more d.max_chunk 0 fed piece before d.held.items holds.decodes in
    let total : more.0 ≡ d.passed.total = omega (arith, more.2, holds.counts.total) in
    subst (λ (t : ℕ). Passes d.max_chunk 0 (fed ++ piece) before t (d.held.items ++ piece)) total more.1

-- a piece was fed
pub fed_more : (d e : ChunkDecoder) (piece fed : List ℕ) (before : List (List ℕ)) (told : Type 0) (written now : List ℕ) → e.max_chunk ≡ d.max_chunk → prefix_of d.max_chunk e.held.items ≡ Short
    → PassedOn d.max_chunk d.passed e.passed (d.held.items ++ piece) e.held.items told written now → WasFed d fed before
    → (more : List (List ℕ)) × WasFed e (fed ++ piece) (before ++ more) × (told → now ≡ written ++ concat more)
fed_more d e piece fed before told written now max_chunk short p holds =
    let passes = passes_append d.max_chunk 0 (fed ++ piece) before d.passed.total (d.held.items ++ piece) p.0 e.passed.total e.held.items (ahead d piece fed before holds) p.1.passes in
    let decodes = passes_decodes d.max_chunk 0 (fed ++ piece) (before ++ p.0) e.passed.total e.held.items passes short in (
      p.0,
      record {
        decodes = subst (λ (m : ℕ). Decodes m 0 (fed ++ piece) (before ++ p.0) (Ok e.held.items)) (sym max_chunk) decodes;
        counts = p.1.counts before holds.counts;
      },
      p.2,
    )

-- a piece was refused
pub refused_more : (d : ChunkDecoder) (piece fed : List ℕ) (before : List (List ℕ)) (told : Type 0) (written now : List ℕ) (e : StoreError)
    → FailsPassing d.max_chunk d.passed.total (d.held.items ++ piece) told written now e → WasFed d fed before → RefusesMore d.max_chunk (fed ++ piece) before told written now e
refused_more d piece fed before told written now e (inl r) holds =
    inl (r.0, decodes_after d.max_chunk 0 (fed ++ piece) before d.passed.total (d.held.items ++ piece) r.0 (Err e) (ahead d piece fed before holds) r.1, r.2)
refused_more d piece fed before told written now e (inr r) holds =
    inr (
      r.0,
      λ t.
          let s = r.1 t in
          (s.0, s.1, (s.2.0, s.2.1, passes_append d.max_chunk 0 (fed ++ piece) before d.passed.total (d.held.items ++ piece) s.0 s.2.0 s.2.1 (ahead d piece fed before holds) s.2.2), s.3),
    )
