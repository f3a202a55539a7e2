-- Round trip of a footer of version 0.
use Rattle.std.proofs.Common.{◌≡◌, ◌∙◌, ℕ, ◌+◌, ◌*◌, ◌^◌, ◌<◌, ◌≤◌, List, [], ◌∷◌, ◌++◌, Ok, ap, append_assoc, arith, length, refl, sym}
use Rattle.std.specs.List.{AllByRecursion}
use Rattle.xet_hash.specs.declared.error.Reason.TheVariants as reasons
use Rattle.xet_xorb_footer.specs.declared.info.XorbObjectInfoV0.{XorbObjectInfoV0}
use Rattle.xet_xorb_footer.specs.Laws.{IsStandardV0}
use Rattle.xet_codec.specs.Parsing.{◌>>=◌, next_bytes, number_at, times}
use Rattle.xet_xorb_footer.specs.Reading.{footer_at, rest_v0, version_of}
use Rattle.xet_xorb_footer.specs.FooterEncoding.{footer_magic, max_chunks, of_v0, footer_bytes_v0}
use Rattle.xet_codec.specs.Numbers.{joined, number, numbers}
use Rattle.xet_xorb_footer.specs.theorems.Prefixes.{bytes_whole, ident_whole}
use Rattle.xet_xorb_footer.specs.theorems.Readback.{count_back, hashes_back, length_joined, numbers_back}
use Rattle.xet_xorb_footer.specs.theorems.EncodedLengths.{length_v0}

-- the footer with these fields
abbrev pub standard_v0 : List ℕ → ℕ → List (List ℕ) → List ℕ → List ℕ → XorbObjectInfoV0
standard_v0 hash n hashes ends spare = record { ident = footer_magic; version = 0; xorb_hash = hash; num_chunks = n; chunk_boundary_offsets = ends; chunk_hashes = hashes; spare = spare }

-- its text behind ident and version, before other bytes
abbrev encoding_rest : List ℕ → ℕ → List (List ℕ) → List ℕ → List ℕ → List ℕ → List ℕ
encoding_rest hash n hashes ends spare more = hash ++ (number n ++ (numbers ends ++ (joined hashes ++ (spare ++ more))))

encoding_of : (hash : List ℕ) (n : ℕ) (hashes : List (List ℕ)) (ends spare more : List ℕ) → footer_bytes_v0 (standard_v0 hash n hashes ends spare) ++ more ≡ footer_magic ++ ((0 ∷ []) ++ encoding_rest hash n hashes ends spare more)
unfolding footer_bytes_v0
encoding_of hash n hashes ends spare more = simp append_assoc

rest_back : (hash : List ℕ) (n : ℕ) (hashes : List (List ℕ)) (ends spare more : List ℕ) → length hash ≡ 32 → n ≤ max_chunks → length hashes ≡ n → length ends ≡ n
    → AllByRecursion (λ h. length h ≡ 32) hashes → AllByRecursion (λ k. k < 2 ^ 32) ends → length spare ≡ 16
    → rest_v0 (encoding_rest hash n hashes ends spare more) ≡ Ok (standard_v0 hash n hashes ends spare, more)
unfolding rest_v0
rest_back hash n hashes ends spare more hash_len few hashes_len ends_len whole small spare_len =
    let e1 = bytes_whole 32 hash (number n ++ (numbers ends ++ (joined hashes ++ (spare ++ more)))) hash_len in
    let e2 = count_back n (numbers ends ++ (joined hashes ++ (spare ++ more))) few in
    let e3 : times number_at n (numbers ends ++ (joined hashes ++ (spare ++ more))) ≡ Ok (ends, joined hashes ++ (spare ++ more)) =
    ap (λ (k : ℕ). times number_at k (numbers ends ++ (joined hashes ++ (spare ++ more)))) (sym ends_len) ∙ numbers_back ends (joined hashes ++ (spare ++ more)) small in
    let e4 : times (next_bytes 32) n (joined hashes ++ (spare ++ more)) ≡ Ok (hashes, spare ++ more) =
    ap (λ (k : ℕ). times (next_bytes 32) k (joined hashes ++ (spare ++ more))) (sym hashes_len) ∙ hashes_back hashes (spare ++ more) whole in
    let e5 = bytes_whole 16 spare more spare_len in
    rw (e1, e2, e3, e4, e5) refl

prefix_back : (rest : List ℕ) → footer_at (footer_magic ++ ((0 ∷ []) ++ rest)) ≡ (rest_v0 rest >>= λ x. Ok (of_v0 x.0, x.1))
unfolding footer_at version_of
prefix_back rest = rw (ident_whole footer_magic reasons.Ident footer_magic ((0 ∷ []) ++ rest) refl, bytes_whole 1 (0 ∷ []) rest refl) refl

-- it is the standard one of its fields
same : (i : XorbObjectInfoV0) → IsStandardV0 i → i ≡ standard_v0 i.xorb_hash i.num_chunks i.chunk_hashes i.chunk_boundary_offsets i.spare
same i s = λ j. record { ident = s.ident j; version = s.version j; xorb_hash = i.xorb_hash; num_chunks = i.num_chunks; chunk_boundary_offsets = i.chunk_boundary_offsets; chunk_hashes = i.chunk_hashes; spare = i.spare }

pub written_is_read_v0 : (i : XorbObjectInfoV0) (more : List ℕ) → IsStandardV0 i → footer_at (footer_bytes_v0 i ++ more) ≡ Ok (of_v0 i, more)
written_is_read_v0 i more s =
    let k : XorbObjectInfoV0 = standard_v0 i.xorb_hash i.num_chunks i.chunk_hashes i.chunk_boundary_offsets i.spare in
    let is : i ≡ k = same i s in
    let rest : List ℕ = encoding_rest i.xorb_hash i.num_chunks i.chunk_hashes i.chunk_boundary_offsets i.spare more in
    ap (λ (x : XorbObjectInfoV0). footer_at (footer_bytes_v0 x ++ more)) is ∙ ap footer_at (encoding_of i.xorb_hash i.num_chunks i.chunk_hashes i.chunk_boundary_offsets i.spare more) ∙ prefix_back rest
    ∙ ap (λ (r : _). r >>= λ x. Ok (of_v0 x.0, x.1)) (rest_back i.xorb_hash i.num_chunks i.chunk_hashes i.chunk_boundary_offsets i.spare more s.hash s.few s.hashes s.stored s.whole_hashes s.small_stored s.spare)
    ∙ ap (λ (x : XorbObjectInfoV0). Ok (of_v0 x, more)) (sym is)

pub length_is_known_v0 : (i : XorbObjectInfoV0) → IsStandardV0 i → length (footer_bytes_v0 i) ≡ 60 + 36 * i.num_chunks
length_is_known_v0 i s =
    let all = length_v0 i (ap length s.ident) s.hash (length_joined i.chunk_hashes s.whole_hashes) s.spare in
    omega (arith, all, s.hashes, s.stored)
