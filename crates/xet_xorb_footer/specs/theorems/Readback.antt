-- Round trip of a footer of version 1.
use Rattle.std.proofs.Common.{◌≡◌, ◌∙◌, ℕ, suc, ◌+◌, ◌*◌, ◌^◌, ◌<◌, ◌≤◌, List, [], ◌∷◌, ◌++◌, Ok, ap, append_assoc, arith, eq-eqb, length, length-append, refl, sym}
use Rattle.std.proofs.lemmas.Bool.{le-leb}
use Rattle.std.proofs.lemmas.Nat.{from_le_bytes-to_le_bytes_4}
use Rattle.std.specs.Int.{w32, from_le_bytes}
use Rattle.std.specs.List.{AllByRecursion}
use Rattle.xet_hash.specs.declared.error.Reason.{Reason}
use Rattle.xet_hash.specs.declared.error.Reason.TheVariants as reasons
use Rattle.xet_xorb_footer.specs.declared.info.XorbObjectInfoV1.{XorbObjectInfoV1}
use Rattle.xet_xorb_footer.specs.Laws.{IsStandard}
use Rattle.xet_codec.specs.Parsing.{◌>>=◌, next_bytes, number_at, times, wants}
use Rattle.xet_xorb_footer.specs.Reading.{count_at, footer_at, number_is, rest_v1, version_of}
use Rattle.xet_xorb_footer.specs.FooterEncoding.{boundaries_magic, footer_magic, hashes_magic, max_chunks, footer_bytes_v1}
use Rattle.xet_codec.specs.Numbers.{joined, number, numbers}
use Rattle.xet_xorb_footer.specs.theorems.Prefixes.{bytes_whole, ident_whole, number_is_whole, number_whole, version_whole}
use Rattle.xet_xorb_footer.specs.theorems.EncodedLengths.{length_v1}

number_back : (n : ℕ) (more : List ℕ) → n < 2 ^ 32 → number_at (number n ++ more) ≡ Ok (n, more)
number_back n more small = number_whole (number n) more refl ∙ ap (λ (k : ℕ). Ok (k, more)) (from_le_bytes-to_le_bytes_4 n small)

is_back : (n : ℕ) (reason : Reason) (more : List ℕ) → n < 2 ^ 32 → number_is n reason (number n ++ more) ≡ Ok (tt, more)
is_back n reason more small =
    number_is_whole n reason (number n) more refl ∙ ap (λ (b : _). wants b reason >>= λ _. Ok (tt, more)) (eq-eqb (from_le_bytes w32 (number n)) n (from_le_bytes-to_le_bytes_4 n small))

pub count_back : (n : ℕ) (more : List ℕ) → n ≤ max_chunks → count_at (number n ++ more) ≡ Ok (n, more)
unfolding count_at
count_back n more few = rw (number_back n more (omega arith), le-leb n max_chunks few) refl

pub hashes_back : (hs : List (List ℕ)) (more : List ℕ) → AllByRecursion (λ h. length h ≡ 32) hs → times (next_bytes 32) (length hs) (joined hs ++ more) ≡ Ok (hs, more)
unfolding times
hashes_back [] more all = refl
hashes_back (h ∷ hs) more all = rw (append_assoc h (joined hs) more, bytes_whole 32 h (joined hs ++ more) all.0, hashes_back hs more all.1) refl

pub numbers_back : (ns : List ℕ) (more : List ℕ) → AllByRecursion (λ n. n < 2 ^ 32) ns → times number_at (length ns) (numbers ns ++ more) ≡ Ok (ns, more)
unfolding times
numbers_back [] more all = refl
numbers_back (n ∷ ns) more all =
    let two : numbers (n ∷ ns) ++ more ≡ number n ++ (numbers ns ++ more) = append_assoc (number n) (numbers ns) more in
    ap (times number_at (suc (length ns))) two ∙ rw (number_back n (numbers ns ++ more) all.0, numbers_back ns more all.1) refl

-- the footer with these fields
abbrev pub standard : List ℕ → ℕ → List (List ℕ) → List ℕ → List ℕ → List ℕ → XorbObjectInfoV1
standard hash n hashes ends plain spare = record {
  ident = footer_magic;
  version = 1;
  xorb_hash = hash;
  ident_hash_section = hashes_magic;
  hashes_version = 0;
  chunk_hashes = hashes;
  ident_boundary_section = boundaries_magic;
  boundaries_version = 1;
  chunk_boundary_offsets = ends;
  unpacked_chunk_offsets = plain;
  num_chunks = n;
  hashes_section_offset_from_end = 52 + 40 * n;
  boundary_section_offset_from_end = 40 + 8 * n;
  spare = spare;
}

-- its text behind ident and version, before other bytes
abbrev encoding_end : ℕ → List ℕ → List ℕ → List ℕ
encoding_end n spare more = number n ++ (number (52 + 40 * n) ++ (number (40 + 8 * n) ++ (spare ++ more)))

abbrev encoding_middle : ℕ → List ℕ → List ℕ → List ℕ → List ℕ → List ℕ
encoding_middle n ends plain spare more = boundaries_magic ++ ((1 ∷ []) ++ (number n ++ (numbers ends ++ (numbers plain ++ encoding_end n spare more))))

abbrev encoding_rest : List ℕ → ℕ → List (List ℕ) → List ℕ → List ℕ → List ℕ → List ℕ → List ℕ
encoding_rest hash n hashes ends plain spare more = hash ++ (hashes_magic ++ ((0 ∷ []) ++ (number n ++ (joined hashes ++ encoding_middle n ends plain spare more))))

encoding_of : (hash : List ℕ) (n : ℕ) (hashes : List (List ℕ)) (ends plain spare more : List ℕ) → footer_bytes_v1 (standard hash n hashes ends plain spare) ++ more ≡ footer_magic ++ ((1 ∷ []) ++ encoding_rest hash n hashes ends plain spare more)
unfolding footer_bytes_v1
encoding_of hash n hashes ends plain spare more = simp append_assoc

rest_back : (hash : List ℕ) (n : ℕ) (hashes : List (List ℕ)) (ends plain spare more : List ℕ) → length hash ≡ 32 → n ≤ max_chunks → length hashes ≡ n → length ends ≡ n → length plain ≡ n
    → AllByRecursion (λ h. length h ≡ 32) hashes → AllByRecursion (λ k. k < 2 ^ 32) ends → AllByRecursion (λ k. k < 2 ^ 32) plain → length spare ≡ 16
    → rest_v1 (encoding_rest hash n hashes ends plain spare more) ≡ Ok (standard hash n hashes ends plain spare, more)
unfolding rest_v1
rest_back hash n hashes ends plain spare more hash_len few hashes_len ends_len plain_len whole small_ends small_plain spare_len =
    let small : n < 2 ^ 32 = omega arith in
    let e1 = bytes_whole 32 hash (hashes_magic ++ ((0 ∷ []) ++ (number n ++ (joined hashes ++ encoding_middle n ends plain spare more)))) hash_len in
    let e2 = ident_whole hashes_magic reasons.HashesIdent hashes_magic ((0 ∷ []) ++ (number n ++ (joined hashes ++ encoding_middle n ends plain spare more))) refl in
    let e3 = version_whole 0 reasons.HashesVersion (0 ∷ []) (number n ++ (joined hashes ++ encoding_middle n ends plain spare more)) refl in
    let e4 = count_back n (joined hashes ++ encoding_middle n ends plain spare more) few in
    let e5 : times (next_bytes 32) n (joined hashes ++ encoding_middle n ends plain spare more) ≡ Ok (hashes, encoding_middle n ends plain spare more) =
    ap (λ (k : ℕ). times (next_bytes 32) k (joined hashes ++ encoding_middle n ends plain spare more)) (sym hashes_len) ∙ hashes_back hashes (encoding_middle n ends plain spare more) whole in
    let e6 = ident_whole boundaries_magic reasons.BoundariesIdent boundaries_magic ((1 ∷ []) ++ (number n ++ (numbers ends ++ (numbers plain ++ encoding_end n spare more)))) refl in
    let e7 = version_whole 1 reasons.BoundariesVersion (1 ∷ []) (number n ++ (numbers ends ++ (numbers plain ++ encoding_end n spare more))) refl in
    let e8 = is_back n reasons.CountMismatch (numbers ends ++ (numbers plain ++ encoding_end n spare more)) small in
    let e9 : times number_at n (numbers ends ++ (numbers plain ++ encoding_end n spare more)) ≡ Ok (ends, numbers plain ++ encoding_end n spare more) =
    ap (λ (k : ℕ). times number_at k (numbers ends ++ (numbers plain ++ encoding_end n spare more))) (sym ends_len) ∙ numbers_back ends (numbers plain ++ encoding_end n spare more) small_ends in
    let e10 : times number_at n (numbers plain ++ encoding_end n spare more) ≡ Ok (plain, encoding_end n spare more) =
    ap (λ (k : ℕ). times number_at k (numbers plain ++ encoding_end n spare more)) (sym plain_len) ∙ numbers_back plain (encoding_end n spare more) small_plain in
    let e11 = is_back n reasons.CountMismatch (number (52 + 40 * n) ++ (number (40 + 8 * n) ++ (spare ++ more))) small in
    let e12 = is_back (52 + 40 * n) reasons.HashesOffset (number (40 + 8 * n) ++ (spare ++ more)) (omega arith) in
    let e13 = is_back (40 + 8 * n) reasons.BoundaryOffset (spare ++ more) (omega arith) in
    let e14 = bytes_whole 16 spare more spare_len in
    rw (e1, e2, e3, e4, e5, e6, e7, e8, e9, e10, e11, e12, e13, e14) refl

prefix_back : (rest : List ℕ) → footer_at (footer_magic ++ ((1 ∷ []) ++ rest)) ≡ rest_v1 rest
unfolding footer_at version_of
prefix_back rest = rw (ident_whole footer_magic reasons.Ident footer_magic ((1 ∷ []) ++ rest) refl, bytes_whole 1 (1 ∷ []) rest refl) refl

-- it is the standard one of its fields
pub same : (i : XorbObjectInfoV1) → IsStandard i → i ≡ standard i.xorb_hash i.num_chunks i.chunk_hashes i.chunk_boundary_offsets i.unpacked_chunk_offsets i.spare
same i s = λ j. record {
  ident = s.ident j;
  version = s.version j;
  xorb_hash = i.xorb_hash;
  ident_hash_section = s.hashes_magic j;
  hashes_version = s.hashes_version j;
  chunk_hashes = i.chunk_hashes;
  ident_boundary_section = s.boundaries_magic j;
  boundaries_version = s.boundaries_version j;
  chunk_boundary_offsets = i.chunk_boundary_offsets;
  unpacked_chunk_offsets = i.unpacked_chunk_offsets;
  num_chunks = i.num_chunks;
  hashes_section_offset_from_end = s.hashes_offset j;
  boundary_section_offset_from_end = s.boundary_offset j;
  spare = i.spare;
}

pub written_is_read : (i : XorbObjectInfoV1) (more : List ℕ) → IsStandard i → footer_at (footer_bytes_v1 i ++ more) ≡ Ok (i, more)
written_is_read i more s =
    let k : XorbObjectInfoV1 = standard i.xorb_hash i.num_chunks i.chunk_hashes i.chunk_boundary_offsets i.unpacked_chunk_offsets i.spare in
    let is : i ≡ k = same i s in
    ap (λ (x : XorbObjectInfoV1). footer_at (footer_bytes_v1 x ++ more)) is ∙ ap footer_at (encoding_of i.xorb_hash i.num_chunks i.chunk_hashes i.chunk_boundary_offsets i.unpacked_chunk_offsets i.spare more)
    ∙ prefix_back (encoding_rest i.xorb_hash i.num_chunks i.chunk_hashes i.chunk_boundary_offsets i.unpacked_chunk_offsets i.spare more)
    ∙ rest_back i.xorb_hash i.num_chunks i.chunk_hashes i.chunk_boundary_offsets i.unpacked_chunk_offsets i.spare more s.hash s.few s.lists.hashes s.lists.stored s.lists.plain s.whole_hashes s.small_stored s.small_plain s.spare
    ∙ ap (λ (x : XorbObjectInfoV1). Ok (x, more)) (sym is)

pub length_joined : (hs : List (List ℕ)) → AllByRecursion (λ h. length h ≡ 32) hs → length (joined hs) ≡ 32 * length hs
length_joined [] all = refl
length_joined (h ∷ hs) all = omega (arith, length-append h (joined hs), all.0, length_joined hs all.1)

pub length_is_known : (i : XorbObjectInfoV1) → IsStandard i → length (footer_bytes_v1 i) ≡ 92 + 40 * i.num_chunks
length_is_known i s =
    let all = length_v1 i (ap length s.ident) s.hash (ap length s.hashes_magic) (length_joined i.chunk_hashes s.whole_hashes) (ap length s.boundaries_magic) s.spare in
    omega (arith, all, s.lists.hashes, s.lists.stored, s.lists.plain)
