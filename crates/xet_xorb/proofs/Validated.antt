-- What stands behind the stored chunks of a xorb, and that a xorb is its parts.
use Rattle.std.proofs.Common.{◌≡◌, ◌∙◌, ℕ, ◌+◌, ◌-◌, ◌*◌, ◌<◌, ◌≤◌, ◌^◌, List, Option, Some, None, Result, Ok, Err, IfOk, IfSome, IsNone, [], ◌∷◌, ◌++◌, length, length-append, drop, map, take, refl, sym, subst, ap, arith, append_assoc}
use Rattle.std.proofs.Math.Seq.{drop-append_seam, take-append_seam}
use Rattle.std.proofs.lemmas.List.{drop-drop, drop_at, length-drop, length-map, take-append-drop, take_all, take_at}
use Rattle.std.proofs.lemmas.List.Sums.{sum_by-cons}
use Rattle.std.proofs.lemmas.Nat.{from_le_bytes-to_le_bytes_4}
use Rattle.std.specs.List.{flat_map}
use Rattle.xet_hash.specs.Merkle.{leaf_of, leaves_of, total_len, xorb_hash}
use Rattle.xet_xorb_footer.specs.declared.info.XorbObjectInfoV0.{XorbObjectInfoV0}
use Rattle.xet_xorb_footer.specs.declared.info.XorbObjectInfoV1.{XorbObjectInfoV1}
use Rattle.xet_xorb_footer.specs.Ends.{last_footer, footer_length}
use Rattle.xet_codec.specs.Numbers.{joined, number, numbers}
use Rattle.xet_xorb_footer.specs.FooterEncoding.{max_chunks, footer_bytes_v0, footer_bytes_v1}
use Rattle.xet_xorb_footer.specs.theorems.Endings.{footer_length_is}
use Rattle.xet_xorb_footer.specs.theorems.LastRead.{last_is_read, last_is_read_v0}
use Rattle.xet_xorb_footer.specs.theorems.Readback.{length_joined}
use Rattle.xet_xorb_footer.specs.theorems.EncodedLengths.{length_v0, length_v1}
use Rattle.xet_xorb_chunk.specs.ChunkEncoding.{encoded_chunk}
use Rattle.xet_xorb.specs.declared.object.XorbObject.{XorbObject}
use Rattle.xet_xorb.specs.internal.Checking.{AreChunks, HaveLeaves, IsEnding, footer_with_length}
use Rattle.xet_xorb.specs.Footer.{Version, V0, V1, footer_info, footer_len, xorb_footer_bytes, standard_footer_v0, footer_v1}
use Rattle.xet_xorb.specs.Object.{object_of}
use Rattle.xet_xorb.specs.Validation.{IsValid, IsXorbOf}
use Rattle.xet_xorb.specs.Xorb.{IsXorbEncoding, xorb_bytes}
use Rattle.xet_xorb.proofs.Checked.{all_small, same_chunks}
use Rattle.xet_xorb.specs.theorems.Digests.{AreHashed, length-xorb_hash, leaves_hashed}
use Rattle.xet_xorb.specs.theorems.OfLeaves.{length-ends, length-hashes, is_standard_v0, standard_v1, whole_hashes}

-- ---- how long the parts are

pub length-footer : (version : Version) (hash : List ℕ) (ms : List (List ℕ × ℕ)) (spare : List ℕ) → length hash ≡ 32 → AreHashed ms → length spare ≡ 16
    → length (xorb_footer_bytes version hash ms spare) ≡ footer_len version (length ms)
length-footer V0 hash ms spare size hashed sixteen =
    let all = length_v0 (standard_footer_v0 hash ms spare) refl size (length_joined (map (λ (m : List ℕ × ℕ). m.0) ms) (whole_hashes ms hashed)) sixteen in
    omega (arith, all, length-hashes ms, length-ends 8 0 ms)
length-footer V1 hash ms spare size hashed sixteen =
    let all = length_v1 (footer_v1 hash ms spare) refl size refl (length_joined (map (λ (m : List ℕ × ℕ). m.0) ms) (whole_hashes ms hashed)) refl sixteen in
    omega (arith, all, length-hashes ms, length-ends 8 0 ms, length-ends 0 0 ms)

pub length-footer_with_length : (version : Version) (hash : List ℕ) (ms : List (List ℕ × ℕ)) (spare : List ℕ) → length hash ≡ 32 → AreHashed ms → length spare ≡ 16
    → length (footer_with_length version hash ms spare) ≡ footer_len version (length ms) + 4
length-footer_with_length version hash ms spare size hashed sixteen =
    omega (arith, length-append (xorb_footer_bytes version hash ms spare) (number (footer_len version (length ms))), length-footer version hash ms spare size hashed sixteen)

pub length-encodings : (chunks : List (List ℕ)) → length (flat_map encoded_chunk chunks) ≡ total_len (leaves_of chunks) + 8 * length chunks
unfolding encoded_chunk
length-encodings [] = refl
length-encodings (b ∷ bs) =
    omega (arith, length-append (encoded_chunk b) (flat_map encoded_chunk bs), sum_by-cons (λ (m : List ℕ × ℕ). m.1) (leaf_of b) (leaves_of bs), length-encodings bs)

least : (version : Version) (n : ℕ) → 60 ≤ footer_len version n
least V0 n = omega arith
least V1 n = omega arith

same_version : (one other : Version) (n : ℕ) → footer_len one n ≡ footer_len other n → one ≡ other
same_version V0 V0 n e = refl
same_version V0 V1 n e = absurd (omega arith)
same_version V1 V0 n e = absurd (omega arith)
same_version V1 V1 n e = refl

-- ---- endings

regroup_v0 : (a b c d e s : List ℕ) (v : ℕ) → a ++ (v ∷ (b ++ (c ++ (d ++ (e ++ s))))) ≡ (a ++ (v ∷ (b ++ (c ++ (d ++ (e ++ [])))))) ++ s
regroup_v0 a b c d e s v = simp append_assoc

regroup_v1 : (a b c d e f g h i j s : List ℕ) (v w x : ℕ) → a ++ (v ∷ (b ++ (c ++ (w ∷ (d ++ (e ++ (f ++ (x ∷ (d ++ (g ++ (h ++ (d ++ (i ++ (j ++ s))))))))))))))
    ≡ (a ++ (v ∷ (b ++ (c ++ (w ∷ (d ++ (e ++ (f ++ (x ∷ (d ++ (g ++ (h ++ (d ++ (i ++ (j ++ []))))))))))))))) ++ s
regroup_v1 a b c d e f g h i j s v w x = simp append_assoc

-- the spare bytes stand at a footer's end
footer_with : (version : Version) (hash : List ℕ) (ms : List (List ℕ × ℕ)) (spare : List ℕ) → xorb_footer_bytes version hash ms spare ≡ xorb_footer_bytes version hash ms [] ++ spare
unfolding footer_bytes_v0 footer_bytes_v1
footer_with V0 hash ms spare =
    let i : XorbObjectInfoV0 = standard_footer_v0 hash ms spare in
    regroup_v0 i.ident i.xorb_hash (number i.num_chunks) (numbers i.chunk_boundary_offsets) (joined i.chunk_hashes) spare i.version
footer_with V1 hash ms spare =
    let i : XorbObjectInfoV1 = footer_v1 hash ms spare in
    regroup_v1 i.ident i.xorb_hash i.ident_hash_section (number i.num_chunks) (joined i.chunk_hashes) i.ident_boundary_section (numbers i.chunk_boundary_offsets) (numbers i.unpacked_chunk_offsets)
    (number i.hashes_section_offset_from_end) (number i.boundary_section_offset_from_end) spare i.version i.hashes_version i.boundaries_version

-- what was made is what stands there
pub ending_found : (start told : ℕ) (version : Version) (hash : List ℕ) (ms : List (List ℕ × ℕ)) (bytes encoding spare : List ℕ) (info : XorbObjectInfoV1) → start + told + 4 ≡ length bytes → AreHashed ms → length hash ≡ 32
    → length spare ≡ 16 → told ≡ footer_len version (length ms) → info ≡ footer_info version hash ms spare → encoding ≡ footer_with_length version hash ms spare → encoding ≡ take (length encoding) (drop start bytes)
    → IsEnding hash ms (drop start bytes) (record { info = info; info_length = told })
ending_found start told version hash ms bytes encoding spare info whole hashed size sixteen is_told is_info is_text stands =
    let long : length encoding ≡ told + 4 = omega (arith, ap length is_text, length-footer_with_length version hash ms spare size hashed sixteen) in
    let all : take (length encoding) (drop start bytes) ≡ drop start bytes = take_all (length encoding) (drop start bytes) (omega (arith, length-drop start bytes)) in
    record {
      version = version;
      spare = spare;
      spare_len = sixteen;
      encoded = sym all ∙ sym stands ∙ is_text;
      listed = λ i. record { info = is_info i; info_length = is_told i };
    }

-- how many bytes the footer of an ending has
pub footer_length_of : (start told : ℕ) (hash : List ℕ) (ms : List (List ℕ × ℕ)) (bytes : List ℕ) (object : XorbObject) → start + told + 4 ≡ length bytes → AreHashed ms → length hash ≡ 32
    → (e : IsEnding hash ms (drop start bytes) object) → told ≡ footer_len e.version (length ms)
footer_length_of start told hash ms bytes object whole hashed size e =
    omega (arith, length-drop start bytes, ap length e.encoded, length-footer_with_length e.version hash ms e.spare size hashed e.spare_len)

-- where its spare bytes stand
spare_of : (start told : ℕ) (hash : List ℕ) (ms : List (List ℕ × ℕ)) (bytes : List ℕ) (object : XorbObject) → start + told + 4 ≡ length bytes → AreHashed ms → length hash ≡ 32
    → (e : IsEnding hash ms (drop start bytes) object) → take 16 (drop (start + told - 16) bytes) ≡ e.spare
spare_of start told hash ms bytes object whole hashed size e =
    let prefix : List ℕ = xorb_footer_bytes e.version hash ms [] in
    let last : List ℕ = number (footer_len e.version (length ms)) in
    let is = footer_length_of start told hash ms bytes object whole hashed size e in
    let enough = least e.version (length ms) in
    let long : length prefix ≡ told - 16 =
    omega (arith, length-footer e.version hash ms e.spare size hashed e.spare_len, ap length (footer_with e.version hash ms e.spare), length-append prefix e.spare, e.spare_len) in
    let parts : drop start bytes ≡ prefix ++ (e.spare ++ last) = e.encoded ∙ ap (λ (t : List ℕ). t ++ last) (footer_with e.version hash ms e.spare) ∙ append_assoc prefix e.spare last in
    let place : start + (told - 16) ≡ start + told - 16 = omega arith in
    let here : drop (start + told - 16) bytes ≡ e.spare ++ last =
    ap (λ (n : ℕ). drop n bytes) (sym place) ∙ sym (drop-drop (told - 16) start bytes) ∙ ap (drop (told - 16)) parts ∙ drop_at prefix (e.spare ++ last) (told - 16) long in
    ap (take 16) here ∙ take_at e.spare last 16 e.spare_len

-- what is made with an ending's spare bytes stands there
pub ending_stands : (start told : ℕ) (version : Version) (hash : List ℕ) (ms : List (List ℕ × ℕ)) (bytes encoding spare : List ℕ) (object : XorbObject) → start + told + 4 ≡ length bytes → AreHashed ms → length hash ≡ 32
    → spare ≡ take 16 (drop (start + told - 16) bytes) → told ≡ footer_len version (length ms) → encoding ≡ footer_with_length version hash ms spare → IsEnding hash ms (drop start bytes) object → encoding ≡ take (length encoding) (drop start bytes)
ending_stands start told version hash ms bytes encoding spare object whole hashed size read is_told is_text e =
    let same : version ≡ e.version = same_version version e.version (length ms) (sym is_told ∙ footer_length_of start told hash ms bytes object whole hashed size e) in
    let spares : spare ≡ e.spare = read ∙ spare_of start told hash ms bytes object whole hashed size e in
    let is : encoding ≡ drop start bytes = is_text ∙ ap (λ (v : Version). footer_with_length v hash ms spare) same ∙ ap (footer_with_length e.version hash ms) spares ∙ sym e.encoded in
    let all : take (length encoding) (drop start bytes) ≡ drop start bytes = take_all (length encoding) (drop start bytes) (omega (arith, ap length is)) in
    is ∙ sym all

-- ---- a xorb is its parts

length-leaves : (chunks : List (List ℕ)) → length (leaves_of chunks) ≡ length chunks
length-leaves chunks = length-map chunks leaf_of

-- leaves of chunks are hashed, and so is their xorb
pub hashed_of : (max_chunk : ℕ) (bytes : List ℕ) (ms : List (List ℕ × ℕ)) → HaveLeaves max_chunk bytes ms → AreHashed ms
hashed_of max_chunk bytes ms h = subst AreHashed (sym h.leaves) (leaves_hashed h.chunks)

pub hash_size : (ms : List (List ℕ × ℕ)) (hash : List ℕ) → AreHashed ms → xorb_hash ms ≡ hash → length hash ≡ 32
hash_size ms hash hashed is = ap length (sym is) ∙ length-xorb_hash ms hashed

-- stored chunks and an ending are a xorb
pub is_valid : (max_chunk start : ℕ) (hash bytes : List ℕ) (ms : List (List ℕ × ℕ)) (object : XorbObject) → max_chunk < 2 ^ 23 → length bytes < 2 ^ 32 → HaveLeaves max_chunk (take start bytes) ms → 0 < length ms → xorb_hash ms ≡ hash
    → IsEnding hash ms (drop start bytes) object → (chunks : List (List ℕ)) × IsValid max_chunk hash bytes chunks object
unfolding xorb_bytes
is_valid max_chunk start hash bytes ms object small bound h some is e =
    let chunks : List (List ℕ) = h.chunks in
    let own : xorb_hash (leaves_of chunks) ≡ hash = ap xorb_hash (sym h.leaves) ∙ is in
    let last : footer_with_length e.version hash ms e.spare ≡ footer_with_length e.version (xorb_hash (leaves_of chunks)) (leaves_of chunks) e.spare =
    ap (λ (x : List ℕ). footer_with_length e.version x ms e.spare) (sym own) ∙ ap (λ (x : List (List ℕ × ℕ)). footer_with_length e.version (xorb_hash (leaves_of chunks)) x e.spare) h.leaves in (
      chunks,
      record {
        xorb = record {
          encoding = record {
            some = omega (arith, some, ap length h.leaves, length-leaves chunks);
            small = all_small max_chunk chunks small h.are.fit;
            bound = bound;
            version = e.version;
            spare = e.spare;
            spare_len = e.spare_len;
            encoded = sym (take-append-drop start bytes) ∙ ap (λ (t : List ℕ). t ++ drop start bytes) h.are.stored ∙ ap (λ (t : List ℕ). flat_map encoded_chunk chunks ++ t) (e.encoded ∙ last);
          };
          fit = h.are.fit;
          hashed = own;
        };
        listed = e.listed ∙ ap (λ (x : List (List ℕ × ℕ)). object_of e.version hash x e.spare) h.leaves;
      },
    )

-- the parts of a xorb: where the footer begins, its length, the stored chunks and the ending
pub record HasParts (max_chunk : ℕ) (hash bytes : List ℕ) (chunks : List (List ℕ)) : Type 0 where
  pub start : ℕ
  pub told : ℕ
  pub enough : 60 ≤ told
  pub whole : start + told + 4 ≡ length bytes
  pub tells : footer_length bytes ≡ Ok told
  pub stored : AreChunks max_chunk (take start bytes) chunks
  pub object : XorbObject
  pub ends : IsEnding hash (leaves_of chunks) (drop start bytes) object

-- the last four bytes tell a number
footer_length_back : (prefix : List ℕ) (n : ℕ) → n < 2 ^ 32 → footer_length (prefix ++ number n) ≡ Ok n
footer_length_back prefix n small =
    let all : List ℕ = prefix ++ number n in
    let len : length all ≡ length prefix + 4 = length-append prefix (number n) in
    let four : length all - 4 ≡ length prefix = omega arith in
    let last : number n ≡ take 4 (drop (length all - 4) all) = sym (ap (λ (k : ℕ). take 4 (drop k all)) four ∙ ap (take 4) (drop-append_seam prefix (number n))) in
    footer_length_is (length all) all (number n) refl (omega arith) last ∙ ap Ok (from_le_bytes-to_le_bytes_4 n small)

pub parts_of : (max_chunk : ℕ) (hash bytes : List ℕ) (chunks : List (List ℕ)) → IsXorbOf max_chunk hash bytes chunks → HasParts max_chunk hash bytes chunks
unfolding xorb_bytes
parts_of max_chunk hash bytes chunks x =
    let ms : List (List ℕ × ℕ) = leaves_of chunks in
    let v : Version = x.encoding.version in
    let spare : List ℕ = x.encoding.spare in
    let prefix : List ℕ = flat_map encoded_chunk chunks in
    let foot : List ℕ = xorb_footer_bytes v hash ms spare in
    let n : ℕ = footer_len v (length ms) in
    let hashed : AreHashed ms = leaves_hashed chunks in
    let size : length hash ≡ 32 = hash_size ms hash hashed x.hashed in
    let is : bytes ≡ prefix ++ footer_with_length v hash ms spare = x.encoding.encoded ∙ ap (λ (h : List ℕ). prefix ++ footer_with_length v h ms spare) x.hashed in
    let long : length bytes ≡ length prefix + (n + 4) = omega (arith, ap length is, length-append prefix (footer_with_length v hash ms spare), length-footer_with_length v hash ms spare size hashed x.encoding.spare_len) in
    let split : bytes ≡ (prefix ++ foot) ++ number n = is ∙ sym (append_assoc prefix foot (number n)) in
    let bound = x.encoding.bound in
    record {
      start = length prefix;
      told = n;
      enough = least v (length ms);
      whole = omega arith;
      tells = ap footer_length split ∙ footer_length_back (prefix ++ foot) n (omega arith);
      stored = record { fit = x.fit; stored = ap (take (length prefix)) is ∙ take-append_seam prefix (footer_with_length v hash ms spare) };
      object = object_of v hash ms spare;
      ends = record {
        version = v;
        spare = spare;
        spare_len = x.encoding.spare_len;
        encoded = ap (drop (length prefix)) is ∙ drop-append_seam prefix (footer_with_length v hash ms spare);
        listed = refl;
      };
    }

-- ---- the last footer is read

-- how many leaves there are at most, and how far they go
sizes_of : (version : Version) (n stored len : ℕ) → len ≡ stored + (footer_len version n + 4) → 8 * n ≤ stored → len < 2 ^ 32 → n ≤ max_chunks
sizes_of V0 n stored len whole each bound = omega arith
sizes_of V1 n stored len whole each bound = omega arith

last_of : (version : Version) (prefix hash : List ℕ) (ms : List (List ℕ × ℕ)) (spare : List ℕ) → length hash ≡ 32 → AreHashed ms → length ms ≤ max_chunks → total_len ms + 8 * length ms < 2 ^ 32 → length spare ≡ 16
    → last_footer (prefix ++ footer_with_length version hash ms spare) ≡ Ok (footer_info version hash ms spare, footer_len version (length ms))
last_of V0 prefix hash ms spare size hashed few fits sixteen = last_is_read_v0 (standard_footer_v0 hash ms spare) prefix (is_standard_v0 hash ms spare size hashed few fits sixteen)
last_of V1 prefix hash ms spare size hashed few fits sixteen = last_is_read (footer_v1 hash ms spare) prefix (standard_v1 hash ms spare size hashed few fits sixteen)

pub last_footer_is_read : (bytes : List ℕ) (chunks : List (List ℕ)) (x : IsXorbEncoding bytes chunks) (o : XorbObject) → o ≡ object_of x.version (xorb_hash (leaves_of chunks)) (leaves_of chunks) x.spare
    → last_footer bytes ≡ Ok (o.info, o.info_length)
unfolding xorb_bytes
last_footer_is_read bytes chunks x o is =
    let ms : List (List ℕ × ℕ) = leaves_of chunks in
    let hash : List ℕ = xorb_hash ms in
    let prefix : List ℕ = flat_map encoded_chunk chunks in
    let hashed : AreHashed ms = leaves_hashed chunks in
    let size : length hash ≡ 32 = length-xorb_hash ms hashed in
    let bound = x.bound in
    let stored : length prefix ≡ total_len ms + 8 * length ms = omega (arith, length-encodings chunks, length-leaves chunks) in
    let long : length bytes ≡ length prefix + (footer_len x.version (length ms) + 4) =
    omega (arith, ap length x.encoded, length-append prefix (footer_with_length x.version hash ms x.spare), length-footer_with_length x.version hash ms x.spare size hashed x.spare_len) in
    let few : length ms ≤ max_chunks = sizes_of x.version (length ms) (length prefix) (length bytes) long (omega arith) bound in
    ap last_footer x.encoded ∙ last_of x.version prefix hash ms x.spare size hashed few (omega arith) x.spare_len ∙ ap (λ (y : XorbObject). Ok (y.info, y.info_length)) (sym is)

-- a valid object is the last footer
pub valid_is_read : (max_chunk : ℕ) (hash bytes : List ℕ) (object : XorbObject) → (chunks : List (List ℕ)) × IsValid max_chunk hash bytes chunks object → last_footer bytes ≡ Ok (object.info, object.info_length)
valid_is_read max_chunk hash bytes object v =
    let x = v.1.xorb in
    let ms : List (List ℕ × ℕ) = leaves_of v.0 in
    last_footer_is_read bytes v.0 x.encoding object (v.1.listed ∙ ap (λ (h : List ℕ). object_of x.encoding.version h ms x.encoding.spare) (sym x.hashed))

-- ---- what is refused

-- what holds of all that may be found
pub some_more : {X E : Type 0} (P Q : X → Type 0) (r : Result (Option X) E) → ((x : X) → P x → Q x) → IfOk r (λ found. IfSome found P) → IfOk r (λ found. IfSome found Q)
some_more P Q (Ok (Some x)) more h = more x h
some_more P Q (Ok None) more h = h
some_more P Q (Err e) more h = h

pub none_more : {X E : Type 0} (P Q : Type 0) (r : Result (Option X) E) → (P → Q) → IfOk r (λ found. IsNone found → P) → IfOk r (λ found. IsNone found → Q)
none_more P Q (Ok found) more h = λ none. more (h none)
none_more P Q (Err e) more h = h

-- where the footer of a xorb begins, if its length is told
pub place_is : (max_chunk start told : ℕ) (hash bytes : List ℕ) (chunks : List (List ℕ)) → start + told + 4 ≡ length bytes → footer_length bytes ≡ Ok told → (p : HasParts max_chunk hash bytes chunks) → p.start ≡ start
place_is max_chunk start told hash bytes chunks whole tells p =
    let both : Ok told ≡ Ok p.told = sym tells ∙ p.tells in
    let same : told ≡ p.told = cc in
    let all = p.whole in
    omega arith

-- so its stored chunks and its ending are known
pub chunks_at : (max_chunk start told : ℕ) (hash bytes : List ℕ) (chunks : List (List ℕ)) → start + told + 4 ≡ length bytes → footer_length bytes ≡ Ok told → IsXorbOf max_chunk hash bytes chunks → AreChunks max_chunk (take start bytes) chunks
chunks_at max_chunk start told hash bytes chunks whole tells x =
    let p = parts_of max_chunk hash bytes chunks x in
    subst (λ (n : ℕ). AreChunks max_chunk (take n bytes) chunks) (place_is max_chunk start told hash bytes chunks whole tells p) p.stored

pub ending_at : (max_chunk start told : ℕ) (hash bytes : List ℕ) (chunks : List (List ℕ)) → start + told + 4 ≡ length bytes → footer_length bytes ≡ Ok told → IsXorbOf max_chunk hash bytes chunks
    → (object : XorbObject) × IsEnding hash (leaves_of chunks) (drop start bytes) object
ending_at max_chunk start told hash bytes chunks whole tells x =
    let p = parts_of max_chunk hash bytes chunks x in
    (p.object, subst (λ (n : ℕ). IsEnding hash (leaves_of chunks) (drop n bytes) p.object) (place_is max_chunk start told hash bytes chunks whole tells p) p.ends)

-- the leaves that were found are those of a xorb
pub leaves_at : (max_chunk start told : ℕ) (hash bytes : List ℕ) (ms : List (List ℕ × ℕ)) (chunks : List (List ℕ)) → max_chunk < 2 ^ 23 → start + told + 4 ≡ length bytes → footer_length bytes ≡ Ok told
    → HaveLeaves max_chunk (take start bytes) ms → IsXorbOf max_chunk hash bytes chunks → ms ≡ leaves_of chunks
leaves_at max_chunk start told hash bytes ms chunks small whole tells h x =
    h.leaves ∙ ap leaves_of (same_chunks max_chunk (take start bytes) h.chunks chunks small h.are (chunks_at max_chunk start told hash bytes chunks whole tells x))

pub hash_at : (max_chunk : ℕ) (hash bytes : List ℕ) (ms : List (List ℕ × ℕ)) (chunks : List (List ℕ)) → ms ≡ leaves_of chunks → IsXorbOf max_chunk hash bytes chunks → (0 < length ms) × (xorb_hash ms ≡ hash)
hash_at max_chunk hash bytes ms chunks is x = (omega (arith, x.encoding.some, ap length is, length-leaves chunks), ap xorb_hash is ∙ x.hashed)
