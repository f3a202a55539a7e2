-- What is told of chunks, with one more.
use Rattle.std.proofs.Common.{◌≡◌, ◌∙◌, ℕ, ◌+◌, List, [], ◌∷◌, ◌++◌, length, sym, ap, arith}
use Rattle.std.proofs.lemmas.List.Sums.{sum_by-cons, sum_by_push}
use Rattle.std.specs.List.{sum_by}
use Rattle.xet_xorb_chunk.specs.declared.decoder.Tally.{Tally}
use Rattle.xet_xorb_chunk.specs.Decoder.{Counts}
use Rattle.xet_xorb_chunk.specs.Stream.{offsets_from, stored_bytes}

same_end : (at len : ℕ) → at + len ≡ at + 0 + len
same_end at len = omega arith

places_push : (at : ℕ) (chunks : List (List ℕ)) (chunk : List ℕ) → offsets_from at (chunks ++ chunk ∷ []) ≡ offsets_from at chunks ++ (at + sum_by length chunks + length chunk) ∷ []
places_push at [] chunk = ap (λ (n : ℕ). at ∷ n ∷ []) (same_end at (length chunk))
places_push at (c ∷ cs) chunk =
    let sum : at + length c + sum_by length cs + length chunk ≡ at + sum_by length (c ∷ cs) + length chunk = omega (arith, sum_by-cons length c cs) in
    ap (λ (x : List ℕ). at ∷ x) (places_push (at + length c) cs chunk ∙ ap (λ (n : ℕ). offsets_from (at + length c) cs ++ n ∷ []) sum)

pub stored-append : (chunks more : List (List ℕ)) → stored_bytes (chunks ++ more) ≡ stored_bytes chunks + stored_bytes more
stored-append [] more = omega arith
stored-append (c ∷ cs) more = omega (arith, stored-append cs more)

-- one more chunk is counted
pub counts_push : (old new : Tally) (chunks : List (List ℕ)) (chunk : List ℕ) → new.starts.items ≡ old.starts.items ++ old.total ∷ [] → new.total ≡ old.total + length chunk
    → new.stored ≡ old.stored + (8 + length chunk) → Counts old chunks → Counts new (chunks ++ chunk ∷ [])
counts_push old new chunks chunk starts total stored counts =
    let last : new.total ≡ 0 + sum_by length chunks + length chunk = omega (arith, counts.total) in
    record {
      starts = ap (λ (x : List ℕ). x ++ new.total ∷ []) (starts ∙ counts.starts) ∙ ap (λ (n : ℕ). offsets_from 0 chunks ++ n ∷ []) last ∙ sym (places_push 0 chunks chunk);
      total = omega (arith, sum_by_push length chunks chunk, counts.total);
      stored = omega (arith, stored-append chunks (chunk ∷ []), counts.stored);
    }
