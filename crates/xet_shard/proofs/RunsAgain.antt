-- The run that is read of a xorb's rows is the xorb's.
use Rattle.std.proofs.Common.{◌≡◌, ℕ, zero, suc, ◌+◌, ◌-◌, ◌≤◌, ◌==◌, Bool, true, false, cond, List, [], ◌∷◌, ◌++◌, drop, length, take, map, nat_eq, Option, None, Some, Ok, refl, sym, ap, subst, ◌∙◌, arith}
use Rattle.std.proofs.lemmas.Bool.{eq-eqb, le-leb}
use Rattle.std.proofs.lemmas.List.{length-append, length-map, take_at}
use Rattle.std.proofs.lemmas.List.Sums.{sum_by-take-drop}
use Rattle.std.specs.Cmp.Lexicographic.{pointwise}
use Rattle.std.specs.Prelude.{if◌then◌else◌}
use Rattle.xet_shard_format.specs.declared.record.FileDataSequenceEntry.{FileDataSequenceEntry}
use Rattle.xet_shard_format.specs.declared.record.MDBXorbInfo.{MDBXorbInfo}
use Rattle.xet_shard_format.specs.declared.record.XorbChunkSequenceEntry.{XorbChunkSequenceEntry}
use Rattle.xet_shard_format.specs.declared.row.Row.{Row}
use Rattle.xet_codec.specs.Parsing.{◌>>=◌}
use Rattle.xet_shard_format.specs.Records.{IsXorb, StartAt, chunk_bytes, chunk_row, xorb_head, xorb_rest}
use Rattle.xet_shard.specs.Runs.{agreed, agreeing, end_of_chunk, digests, head_segment, run_after, run_at, run_of, run_segment}
use Rattle.xet_shard.proofs.Agreeing.{Agreed}
use Rattle.xet_shard.proofs.Running.{agreeing-none}
use Rattle.xet_shard_format.specs.theorems.SectionLaws.{chunk_again, chunk_total}

abbrev Chunks : Type 0
Chunks = List XorbChunkSequenceEntry

abbrev Run : Type 0
Run = Option (ℕ × FileDataSequenceEntry)

chunk_ends : (c : XorbChunkSequenceEntry) (at end : ℕ) → c.chunk_byte_range_start ≡ at → at + c.unpacked_segment_bytes ≤ end → end_of_chunk (chunk_row c) at end ≡ Ok (at + c.unpacked_segment_bytes)
unfolding end_of_chunk
chunk_ends c at end is le =
    let ends : c.chunk_byte_range_start + c.unpacked_segment_bytes ≡ at + c.unpacked_segment_bytes = ap (λ (n : ℕ). n + c.unpacked_segment_bytes) is in
    let room : c.chunk_byte_range_start + c.unpacked_segment_bytes ≤ end = omega (arith, le, ends) in
    rw (chunk_again c at is, le-leb (c.chunk_byte_range_start + c.unpacked_segment_bytes) end room) (ap Ok ends)

-- where so many of these chunks end
abbrev end_of : ℕ → Chunks → ℕ → ℕ
end_of at cs n = at + chunk_bytes (take n cs)

chunks_agree : (q : List (List ℕ)) (end at : ℕ) (cs : Chunks) → StartAt at cs → at + chunk_bytes cs ≤ end → agreed q end at (map chunk_row cs) ≡ Ok (agreeing q (digests cs), end_of at cs (agreeing q (digests cs)))
unfolding agreed agreeing
chunks_agree [] end at cs starts le =
    let e : at ≡ at + chunk_bytes (take 0 cs) = omega arith in
    let made : ℕ → Agreed = λ n. Ok (0, n) in
    ap made e
chunks_agree (h ∷ hs) end at [] starts le =
    let e : at ≡ at + chunk_bytes (take 0 []) = omega arith in
    let made : ℕ → Agreed = λ n. Ok (0, n) in
    ap made e
chunks_agree (h ∷ hs) end at (c ∷ cs) starts le =
    let next : ℕ = at + c.unpacked_segment_bytes in
    let total = chunk_total c cs in
    by (pointwise nat_eq h c.chunk_hash) (chunk_ends c at end starts.0 (omega (arith, le, total))) (chunks_agree hs end next cs starts.1 (omega (arith, le, total)))
  where
    next : ℕ
    next = at + c.unpacked_segment_bytes

    n : ℕ
    n = agreeing hs (digests cs)

    one : Agreed → Agreed
    one x = x >>= λ m. Ok (suc m.0, m.1)

    none : Agreed
    none = Ok (0, at)

    by : (b : Bool) → end_of_chunk (chunk_row c) at end ≡ Ok next → agreed hs end next (map chunk_row cs) ≡ Ok (n, end_of next cs n)
        → cond b (end_of_chunk (chunk_row c) at end >>= λ to. one (agreed hs end to (map chunk_row cs))) none ≡ Ok (cond b (suc n) 0, end_of at (c ∷ cs) (cond b (suc n) 0))
    by true ends more =
        let e : next + chunk_bytes (take n cs) ≡ at + chunk_bytes (c ∷ take n cs) = omega (arith, chunk_total c (take n cs)) in
        let made : ℕ → Agreed = λ k. Ok (suc n, k) in
        rw (ends, more) (ap made e)
    by false ends more =
        let e : at ≡ at + chunk_bytes (take 0 (c ∷ cs)) = omega arith in
        let made : ℕ → Agreed = λ k. Ok (0, k) in
        ap made e

-- the chunks from a place on
starts_drop : (place at : ℕ) (cs : Chunks) → StartAt at cs → StartAt (end_of at cs place) (drop place cs)
starts_drop zero at cs starts = let e : at ≡ at + chunk_bytes (take 0 cs) = omega arith in subst (λ (n : ℕ). StartAt n cs) e starts
starts_drop (suc place) at [] starts = tt
starts_drop (suc place) at (c ∷ cs) starts =
    let e : at + c.unpacked_segment_bytes + chunk_bytes (take place cs) ≡ at + chunk_bytes (c ∷ take place cs) = omega (arith, chunk_total c (take place cs)) in
    subst (λ (n : ℕ). StartAt n (drop place cs)) e (starts_drop place (at + c.unpacked_segment_bytes) cs starts.1)

rows_at_place : (cs : Chunks) (place : ℕ) (rest : List Row) → take (length cs - place) (drop place (map chunk_row cs ++ rest)) ≡ map chunk_row (drop place cs)
rows_at_place [] zero rest = refl
rows_at_place [] (suc place) rest =
    let none : 0 - suc place ≡ 0 = omega arith in
    ap (λ (n : ℕ). take n (drop (suc place) rest)) none
rows_at_place (c ∷ cs) zero rest =
    let all : suc (length cs) - 0 ≡ length (map chunk_row (c ∷ cs)) = omega (arith, length-map cs chunk_row) in
    ap (λ (n : ℕ). take n (map chunk_row (c ∷ cs) ++ rest)) all ∙ take_at (map chunk_row (c ∷ cs)) rest (length (map chunk_row (c ∷ cs))) refl
rows_at_place (c ∷ cs) (suc place) rest =
    let less : suc (length cs) - suc place ≡ length cs - place = omega arith in
    ap (λ (n : ℕ). take n (drop place (map chunk_row cs ++ rest))) less ∙ rows_at_place cs place rest

module _ (q : List (List ℕ)) (place : ℕ) (x : MDBXorbInfo) where
  -- so many chunks and their segment
  made : ℕ → ℕ → Run
  made n bytes = if n == 0 then None else Some (n, head_segment (xorb_head x) place n bytes)

  -- by the chunks from the place on
  by_chunks : (cs : Chunks) (at : ℕ) → cs ≡ drop place x.chunks → StartAt at cs → at + chunk_bytes cs ≤ x.metadata.num_bytes_in_xorb → run_of q place (xorb_head x) (map chunk_row cs) ≡ Ok (run_at q x place)
  unfolding run_of run_at made
  by_chunks [] at is starts le = ap (λ (n : ℕ). Ok (if n == 0 then None else Some (n, run_segment x place n))) (sym (ap (λ (ds : Chunks). agreeing q (digests ds)) (sym is) ∙ agreeing-none q))
  by_chunks (c ∷ cs) at is starts le =
      let n : ℕ = agreeing q (digests (c ∷ cs)) in
      let begins : c.chunk_byte_range_start ≡ at = starts.0 in
      let bytes : at + chunk_bytes (take n (c ∷ cs)) - c.chunk_byte_range_start ≡ chunk_bytes (take n (c ∷ cs)) = omega (arith, begins) in
      let read : agreed q x.metadata.num_bytes_in_xorb c.chunk_byte_range_start (map chunk_row (c ∷ cs)) ≡ Ok (n, end_of at (c ∷ cs) n) = ap (λ (k : ℕ). agreed q x.metadata.num_bytes_in_xorb k (map chunk_row (c ∷ cs))) begins ∙ chunks_agree q x.metadata.num_bytes_in_xorb at (c ∷ cs) starts le in
      let of_chunks : Chunks → Run = λ ds. made (agreeing q (digests ds)) (chunk_bytes (take (agreeing q (digests ds)) ds)) in
      rw read (ap (λ (k : ℕ). Ok (made n k)) bytes) ∙ ap (λ (ds : Chunks). Ok (of_chunks ds)) is

  pub run_taken : (rest : List Row) → IsXorb x → run_after q place (xorb_head x) (xorb_rest x ++ rest) ≡ Ok (run_at q x place)
  unfolding run_after
  run_taken rest form =
      let room = le-leb x.metadata.num_entries (length (map chunk_row x.chunks ++ rest)) (omega (arith, length-append (map chunk_row x.chunks) rest, length-map x.chunks chunk_row, form.counted)) in
      let bytes : end_of 0 x.chunks place + chunk_bytes (drop place x.chunks) ≤ x.metadata.num_bytes_in_xorb = omega (arith, form.total, sum_by-take-drop (λ (c : XorbChunkSequenceEntry). c.unpacked_segment_bytes) x.chunks place) in
      rw (room, eq-eqb x.metadata.xorb_flags 0 form.plain, eq-eqb x.metadata.num_bytes_on_disk 0 form.on_disk)
      (ap (λ (n : ℕ). run_of q place (xorb_head x) (take (n - place) (drop place (map chunk_row x.chunks ++ rest)))) form.counted ∙ ap (run_of q place (xorb_head x)) (rows_at_place x.chunks place rest)
      ∙ by_chunks (drop place x.chunks) (end_of 0 x.chunks place) refl (starts_drop place 0 x.chunks form.starts) bytes)
