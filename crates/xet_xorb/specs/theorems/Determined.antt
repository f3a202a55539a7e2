-- The bytes of a xorb determine its chunks.
use Rattle.std.proofs.Common.{◌≡◌, ◌∙◌, ℕ, ◌<◌, ◌^◌, ◌/◌, ◌%◌, List, [], ◌∷◌, ◌++◌, length, drop, take, refl, sym, ap, arith, append_assoc}
use Rattle.std.proofs.lemmas.List.{take_at, drop_at}
use Rattle.std.specs.List.{flat_map, AllByRecursion}
use Rattle.xet_codec.specs.Numbers.{number}
use Rattle.xet_xorb_footer.specs.FooterEncoding.{footer_bytes_v0, footer_bytes_v1}
use Rattle.xet_xorb_chunk.specs.ChunkEncoding.{encoded_chunk}
use Rattle.xet_xorb.specs.Footer.{Version, V0, V1, footer_len, xorb_footer_bytes}
use Rattle.xet_xorb.specs.Xorb.{IsXorbEncoding, xorb_bytes}

-- a number below 2 ^ 24 is determined by its three bytes
pub le24_same : (n m : ℕ) → n < 2 ^ 24 → m < 2 ^ 24 → (n % 256 ≡ m % 256) → (n / 256 % 256 ≡ m / 256 % 256) → (n / 65536 % 256 ≡ m / 65536 % 256) → n ≡ m
le24_same n m a b x y z = omega arith

-- a list that begins so
abbrev pub BeginsWith : ℕ → List ℕ → Type 0
BeginsWith k s = (rest : List ℕ) × (s ≡ k ∷ rest)

-- a stored chunk is determined by what begins with it
pub one_chunk : (b d s t : List ℕ) → length b < 2 ^ 24 → length d < 2 ^ 24 → encoded_chunk b ++ s ≡ encoded_chunk d ++ t → (b ≡ d) × (s ≡ t)
unfolding encoded_chunk
one_chunk b d s t sb sd e =
    let n0 : length b % 256 ≡ length d % 256 = cc in
    let n1 : length b / 256 % 256 ≡ length d / 256 % 256 = cc in
    let n2 : length b / 65536 % 256 ≡ length d / 65536 % 256 = cc in
    let same : length b ≡ length d = le24_same (length b) (length d) sb sd n0 n1 n2 in
    let rest : b ++ s ≡ d ++ t = cc in
    let left : b ≡ d = sym (take_at b s (length b) refl) ∙ ap (take (length b)) rest ∙ take_at d t (length b) (sym same) in
    let right : s ≡ t = sym (drop_at b s (length b) refl) ∙ ap (drop (length b)) rest ∙ drop_at d t (length b) (sym same) in
    (left, right)

-- stored chunks are determined by what begins with them, where a footer follows
pub all_chunks : (cs ds : List (List ℕ)) (s t : List ℕ) → AllByRecursion (λ b. length b < 2 ^ 24) cs → AllByRecursion (λ b. length b < 2 ^ 24) ds → BeginsWith 88 s → BeginsWith 88 t
    → flat_map encoded_chunk cs ++ s ≡ flat_map encoded_chunk ds ++ t → cs ≡ ds
unfolding encoded_chunk
all_chunks [] [] s t sc sd fs ft e = refl
all_chunks [] (d ∷ ds) s t sc sd fs ft e =
    let x : 88 ∷ fs.0 ≡ encoded_chunk d ++ (flat_map encoded_chunk ds ++ t) = sym fs.1 ∙ e ∙ append_assoc (encoded_chunk d) (flat_map encoded_chunk ds) t in cc
all_chunks (c ∷ cs) [] s t sc sd fs ft e =
    let x : 88 ∷ ft.0 ≡ encoded_chunk c ++ (flat_map encoded_chunk cs ++ s) = sym ft.1 ∙ sym e ∙ append_assoc (encoded_chunk c) (flat_map encoded_chunk cs) s in cc
all_chunks (c ∷ cs) (d ∷ ds) s t sc sd fs ft e =
    let parts = one_chunk c d (flat_map encoded_chunk cs ++ s) (flat_map encoded_chunk ds ++ t) sc.0 sd.0 (sym (append_assoc (encoded_chunk c) (flat_map encoded_chunk cs) s) ∙ e ∙ append_assoc (encoded_chunk d) (flat_map encoded_chunk ds) t) in
    let rest : cs ≡ ds = all_chunks cs ds s t sc.1 sd.1 fs ft parts.1 in
    ap (λ (x : List ℕ). x ∷ cs) parts.0 ∙ ap (λ (xs : List (List ℕ)). d ∷ xs) rest

-- what stands behind the chunks begins as a footer
footer_begins : (version : Version) (hash : List ℕ) (ms : List (List ℕ × ℕ)) (spare more : List ℕ) → BeginsWith 88 (xorb_footer_bytes version hash ms spare ++ more)
unfolding footer_bytes_v0 footer_bytes_v1
footer_begins V0 hash ms spare more = (_, refl)
footer_begins V1 hash ms spare more = (_, refl)

encoding_parts : (version : Version) (hash : List ℕ) (ms : List (List ℕ × ℕ)) (cs : List (List ℕ)) (spare : List ℕ) → (s : List ℕ) × BeginsWith 88 s × (xorb_bytes version hash ms cs spare ≡ flat_map encoded_chunk cs ++ s)
unfolding xorb_bytes
encoding_parts version hash ms cs spare = (xorb_footer_bytes version hash ms spare ++ number (footer_len version (length ms)), footer_begins version hash ms spare _, refl)

pub bytes_determine : (bytes : List ℕ) (cs ds : List (List ℕ)) → IsXorbEncoding bytes cs → IsXorbEncoding bytes ds → cs ≡ ds
bytes_determine bytes cs ds x y =
    let p = encoding_parts _ _ _ cs x.spare in
    let q = encoding_parts _ _ _ ds y.spare in
    all_chunks cs ds p.0 q.0 x.small y.small p.1 q.1 (sym p.2 ∙ sym x.encoded ∙ y.encoded ∙ q.2)
