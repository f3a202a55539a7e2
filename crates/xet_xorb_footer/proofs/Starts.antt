-- What is read from the first field on is what the definitions of footers read.
use Rattle.std.proofs.Common.{◌≡◌, ◌∙◌, ℕ, ◌+◌, ◌-◌, ◌*◌, nat_eq, Bool, true, false, cond, List, [], ◌∷◌, Result, Ok, Err, ap, arith, refl, sym}
use Rattle.std.specs.Cmp.Lexicographic.{pointwise}
use Rattle.xet_hash.specs.declared.error.Reason.TheVariants as reasons
use Rattle.xet_hash.specs.declared.error.StoreError.{StoreError}
use Rattle.xet_xorb_footer.specs.declared.machine.Field.TheVariants as fields
use Rattle.xet_xorb_footer.specs.Machine.{FooterParts, info_of_parts, info_v0, rest, rest_after_version, rest_boundaries_magic, rest_boundaries_version, rest_boundary_offset, rest_count, rest_count_again, rest_count_last, rest_ends_v0, rest_ends_v1, rest_hash, rest_hashes_magic, rest_hashes_offset, rest_hashes_v0, rest_hashes_v1, rest_hashes_version, rest_magic, rest_plain, rest_spare, rest_version}
use Rattle.xet_xorb_footer.specs.internal.Machine.{as_value, started}
use Rattle.xet_codec.specs.Parsing.{◌>>=◌, Parsed, next_bytes, number_at, times, wants}
use Rattle.xet_xorb_footer.specs.Reading.{count_at, footer_at, footer_v0, magic_at, number_is, rest_v0, rest_v1, version_at, version_of}
use Rattle.xet_xorb_footer.specs.FooterEncoding.{boundaries_magic, footer_magic, hashes_magic, of_v0}
use Rattle.xet_xorb_footer.specs.theorems.Prefixes.{bind_bind, onward}

pub as_value_twice : {X Y Z : Type 0} (make : X → Y) (again : Y → Z) (read : Parsed X) → as_value again (as_value make read) ≡ as_value (λ x. again (make x)) read
as_value_twice make again (Ok x) = refl
as_value_twice make again (Err e) = refl

no_less : (n : ℕ) → n - 0 ≡ n
no_less n = omega arith

-- What follows a field, and what follows a list of which nothing was read.
on_field : {X Y : Type 0} (make : FooterParts → X) (read : Parsed Y) (from : Y × List ℕ → Parsed FooterParts) (to : Y × List ℕ → Parsed X) → ((x : Y × List ℕ) → as_value make (from x) ≡ to x)
    → as_value make (read >>= from) ≡ (read >>= to)
on_field make read from to same = bind_bind read from (λ x. Ok (make x.0, x.1)) ∙ onward read (λ x. as_value make (from x)) to same

on_list : {X Y : Type 0} (make : FooterParts → X) (item : List ℕ → Parsed Y) (n : ℕ) (bytes : List ℕ) (from : List Y × List ℕ → Parsed FooterParts) (to : List Y × List ℕ → Parsed X)
    → ((x : List Y × List ℕ) → as_value make (from x) ≡ to x) → as_value make (times item (n - 0) bytes >>= from) ≡ (times item n bytes >>= to)
on_list make item n bytes from to same = ap (λ (k : ℕ). as_value make (times item k bytes >>= from)) (no_less n) ∙ on_field make (times item n bytes) from to same

-- ---- each field, with an empty list where one is read

abbrev read_spare : {X : Type 0} → (FooterParts → X) → FooterParts → List ℕ → Parsed X
read_spare make q bytes = next_bytes 16 bytes >>= λ x. Ok (make (record q { spare = x.0 }), x.1)

on_spare : {X : Type 0} (make : FooterParts → X) (q : FooterParts) (bytes : List ℕ) → as_value make (rest_spare q bytes) ≡ read_spare make q bytes
unfolding rest_spare
on_spare make q bytes = bind_bind (next_bytes 16 bytes) (λ x. Ok (record q { spare = x.0 }, x.1)) (λ x. Ok (make x.0, x.1))

abbrev read_hashes_v0 : {X : Type 0} → (FooterParts → X) → FooterParts → List ℕ → Parsed X
read_hashes_v0 make q bytes = times (next_bytes 32) q.count bytes >>= λ x. read_spare make (record q { hashes = x.0 }) x.1

on_hashes_v0 : {X : Type 0} (make : FooterParts → X) (q : FooterParts) (bytes : List ℕ) → as_value make (rest_hashes_v0 (record q { hashes = [] }) bytes) ≡ read_hashes_v0 make q bytes
unfolding rest_hashes_v0
on_hashes_v0 make q bytes = on_list make (next_bytes 32) q.count bytes _ _ (λ x. on_spare make (record q { hashes = x.0 }) x.1)

-- the boundary offsets, and then `next`
abbrev read_ends : {X : Type 0} → (FooterParts → List ℕ → Parsed X) → FooterParts → List ℕ → Parsed X
read_ends next q bytes = times number_at q.count bytes >>= λ x. next (record q { ends = x.0 }) x.1

on_ends_v0 : {X : Type 0} (make : FooterParts → X) (q : FooterParts) (bytes : List ℕ) → as_value make (rest_ends_v0 (record q { ends = []; hashes = [] }) bytes) ≡ read_ends (read_hashes_v0 make) q bytes
unfolding rest_ends_v0
on_ends_v0 make q bytes = on_list make number_at q.count bytes _ _ (λ x. on_hashes_v0 make (record q { ends = x.0 }) x.1)

abbrev read_count_v0 : {X : Type 0} → (FooterParts → X) → FooterParts → List ℕ → Parsed X
read_count_v0 make q bytes = count_at bytes >>= λ x. read_ends (read_hashes_v0 make) (record q { is_v1 = false; count = x.0 }) x.1

on_count_v0 : {X : Type 0} (make : FooterParts → X) (q : FooterParts) (bytes : List ℕ) → as_value make (rest_count (record q { is_v1 = false; ends = []; hashes = [] }) bytes) ≡ read_count_v0 make q bytes
unfolding rest_count
on_count_v0 make q bytes = on_field make (count_at bytes) _ _ (λ x. on_ends_v0 make (record q { is_v1 = false; count = x.0 }) x.1)

abbrev read_hash_v0 : {X : Type 0} → (FooterParts → X) → FooterParts → List ℕ → Parsed X
read_hash_v0 make q bytes = next_bytes 32 bytes >>= λ x. read_count_v0 make (record q { hash = x.0 }) x.1

on_hash_v0 : {X : Type 0} (make : FooterParts → X) (q : FooterParts) (bytes : List ℕ) → as_value make (rest_hash (record q { is_v1 = false; ends = []; hashes = [] }) bytes) ≡ read_hash_v0 make q bytes
unfolding rest_hash
on_hash_v0 make q bytes = on_field make (next_bytes 32 bytes) _ _ (λ x. on_count_v0 make (record q { hash = x.0 }) x.1)

abbrev read_boundary_offset : {X : Type 0} → (FooterParts → X) → FooterParts → List ℕ → Parsed X
read_boundary_offset make q bytes = number_is (40 + 8 * q.count) reasons.BoundaryOffset bytes >>= λ x. read_spare make q x.1

on_boundary_offset : {X : Type 0} (make : FooterParts → X) (q : FooterParts) (bytes : List ℕ) → as_value make (rest_boundary_offset q bytes) ≡ read_boundary_offset make q bytes
unfolding rest_boundary_offset
on_boundary_offset make q bytes = on_field make (number_is (40 + 8 * q.count) reasons.BoundaryOffset bytes) _ _ (λ x. on_spare make q x.1)

abbrev read_hashes_offset : {X : Type 0} → (FooterParts → X) → FooterParts → List ℕ → Parsed X
read_hashes_offset make q bytes = number_is (52 + 40 * q.count) reasons.HashesOffset bytes >>= λ x. read_boundary_offset make q x.1

on_hashes_offset : {X : Type 0} (make : FooterParts → X) (q : FooterParts) (bytes : List ℕ) → as_value make (rest_hashes_offset q bytes) ≡ read_hashes_offset make q bytes
unfolding rest_hashes_offset
on_hashes_offset make q bytes = on_field make (number_is (52 + 40 * q.count) reasons.HashesOffset bytes) _ _ (λ x. on_boundary_offset make q x.1)

abbrev read_count_last : {X : Type 0} → (FooterParts → X) → FooterParts → List ℕ → Parsed X
read_count_last make q bytes = number_is q.count reasons.CountMismatch bytes >>= λ x. read_hashes_offset make q x.1

on_count_last : {X : Type 0} (make : FooterParts → X) (q : FooterParts) (bytes : List ℕ) → as_value make (rest_count_last q bytes) ≡ read_count_last make q bytes
unfolding rest_count_last
on_count_last make q bytes = on_field make (number_is q.count reasons.CountMismatch bytes) _ _ (λ x. on_hashes_offset make q x.1)

abbrev read_plain : {X : Type 0} → (FooterParts → X) → FooterParts → List ℕ → Parsed X
read_plain make q bytes = times number_at q.count bytes >>= λ x. read_count_last make (record q { plain = x.0 }) x.1

on_plain : {X : Type 0} (make : FooterParts → X) (q : FooterParts) (bytes : List ℕ) → as_value make (rest_plain (record q { plain = [] }) bytes) ≡ read_plain make q bytes
unfolding rest_plain
on_plain make q bytes = on_list make number_at q.count bytes _ _ (λ x. on_count_last make (record q { plain = x.0 }) x.1)

on_ends_v1 : {X : Type 0} (make : FooterParts → X) (q : FooterParts) (bytes : List ℕ) → as_value make (rest_ends_v1 (record q { ends = []; plain = [] }) bytes) ≡ read_ends (read_plain make) q bytes
unfolding rest_ends_v1
on_ends_v1 make q bytes = on_list make number_at q.count bytes _ _ (λ x. on_plain make (record q { ends = x.0 }) x.1)

abbrev read_count_again : {X : Type 0} → (FooterParts → X) → FooterParts → List ℕ → Parsed X
read_count_again make q bytes = number_is q.count reasons.CountMismatch bytes >>= λ x. read_ends (read_plain make) (record q { is_v1 = true }) x.1

on_count_again : {X : Type 0} (make : FooterParts → X) (q : FooterParts) (bytes : List ℕ) → as_value make (rest_count_again (record q { is_v1 = true; ends = []; plain = [] }) bytes) ≡ read_count_again make q bytes
unfolding rest_count_again
on_count_again make q bytes = on_field make (number_is q.count reasons.CountMismatch bytes) _ _ (λ x. on_ends_v1 make (record q { is_v1 = true }) x.1)

abbrev read_boundaries_version : {X : Type 0} → (FooterParts → X) → FooterParts → List ℕ → Parsed X
read_boundaries_version make q bytes = version_at 1 reasons.BoundariesVersion bytes >>= λ x. read_count_again make q x.1

on_boundaries_version : {X : Type 0} (make : FooterParts → X) (q : FooterParts) (bytes : List ℕ) → as_value make (rest_boundaries_version (record q { is_v1 = true; ends = []; plain = [] }) bytes) ≡ read_boundaries_version make q bytes
unfolding rest_boundaries_version
on_boundaries_version make q bytes = on_field make (version_at 1 reasons.BoundariesVersion bytes) _ _ (λ x. on_count_again make q x.1)

abbrev read_boundaries_ident : {X : Type 0} → (FooterParts → X) → FooterParts → List ℕ → Parsed X
read_boundaries_ident make q bytes = magic_at boundaries_magic reasons.BoundariesIdent bytes >>= λ x. read_boundaries_version make q x.1

on_boundaries_ident : {X : Type 0} (make : FooterParts → X) (q : FooterParts) (bytes : List ℕ) → as_value make (rest_boundaries_magic (record q { is_v1 = true; ends = []; plain = [] }) bytes) ≡ read_boundaries_ident make q bytes
unfolding rest_boundaries_magic
on_boundaries_ident make q bytes = on_field make (magic_at boundaries_magic reasons.BoundariesIdent bytes) _ _ (λ x. on_boundaries_version make q x.1)

abbrev read_hashes_v1 : {X : Type 0} → (FooterParts → X) → FooterParts → List ℕ → Parsed X
read_hashes_v1 make q bytes = times (next_bytes 32) q.count bytes >>= λ x. read_boundaries_ident make (record q { hashes = x.0 }) x.1

on_hashes_v1 : {X : Type 0} (make : FooterParts → X) (q : FooterParts) (bytes : List ℕ) → as_value make (rest_hashes_v1 (record q { is_v1 = true; hashes = []; ends = []; plain = [] }) bytes) ≡ read_hashes_v1 make q bytes
unfolding rest_hashes_v1
on_hashes_v1 make q bytes = on_list make (next_bytes 32) q.count bytes _ _ (λ x. on_boundaries_ident make (record q { hashes = x.0 }) x.1)

abbrev read_count_v1 : {X : Type 0} → (FooterParts → X) → FooterParts → List ℕ → Parsed X
read_count_v1 make q bytes = count_at bytes >>= λ x. read_hashes_v1 make (record q { count = x.0 }) x.1

on_count_v1 : {X : Type 0} (make : FooterParts → X) (q : FooterParts) (bytes : List ℕ) → as_value make (rest_count (record q { is_v1 = true; hashes = []; ends = []; plain = [] }) bytes) ≡ read_count_v1 make q bytes
unfolding rest_count
on_count_v1 make q bytes = on_field make (count_at bytes) _ _ (λ x. on_hashes_v1 make (record q { count = x.0 }) x.1)

abbrev read_hashes_version : {X : Type 0} → (FooterParts → X) → FooterParts → List ℕ → Parsed X
read_hashes_version make q bytes = version_at 0 reasons.HashesVersion bytes >>= λ x. read_count_v1 make q x.1

on_hashes_version : {X : Type 0} (make : FooterParts → X) (q : FooterParts) (bytes : List ℕ) → as_value make (rest_hashes_version (record q { is_v1 = true; hashes = []; ends = []; plain = [] }) bytes) ≡ read_hashes_version make q bytes
unfolding rest_hashes_version
on_hashes_version make q bytes = on_field make (version_at 0 reasons.HashesVersion bytes) _ _ (λ x. on_count_v1 make q x.1)

abbrev read_hashes_ident : {X : Type 0} → (FooterParts → X) → FooterParts → List ℕ → Parsed X
read_hashes_ident make q bytes = magic_at hashes_magic reasons.HashesIdent bytes >>= λ x. read_hashes_version make q x.1

on_hashes_ident : {X : Type 0} (make : FooterParts → X) (q : FooterParts) (bytes : List ℕ) → as_value make (rest_hashes_magic (record q { is_v1 = true; hashes = []; ends = []; plain = [] }) bytes) ≡ read_hashes_ident make q bytes
unfolding rest_hashes_magic
on_hashes_ident make q bytes = on_field make (magic_at hashes_magic reasons.HashesIdent bytes) _ _ (λ x. on_hashes_version make q x.1)

abbrev read_hash_v1 : {X : Type 0} → (FooterParts → X) → FooterParts → List ℕ → Parsed X
read_hash_v1 make q bytes = next_bytes 32 bytes >>= λ x. read_hashes_ident make (record q { hash = x.0 }) x.1

on_hash_v1 : {X : Type 0} (make : FooterParts → X) (q : FooterParts) (bytes : List ℕ) → as_value make (rest_hash (record q { is_v1 = true; hashes = []; ends = []; plain = [] }) bytes) ≡ read_hash_v1 make q bytes
unfolding rest_hash
on_hash_v1 make q bytes = on_field make (next_bytes 32 bytes) _ _ (λ x. on_hashes_ident make (record q { hash = x.0 }) x.1)

-- ---- what the definitions read

pub hash_is_v0 : (q : FooterParts) (bytes : List ℕ) → as_value info_v0 (rest_hash (record q { is_v1 = false; hashes = []; ends = [] }) bytes) ≡ rest_v0 bytes
unfolding rest_v0
hash_is_v0 q bytes = on_hash_v0 info_v0 q bytes

hash_is_either_v0 : (q : FooterParts) (bytes : List ℕ) → as_value info_of_parts (rest_hash (record q { is_v1 = false; hashes = []; ends = [] }) bytes) ≡ as_value of_v0 (rest_v0 bytes)
hash_is_either_v0 q bytes =
    let p : FooterParts = record q { is_v1 = false; hashes = []; ends = [] } in
    on_hash_v0 info_of_parts q bytes ∙ sym (on_hash_v0 (λ x. of_v0 (info_v0 x)) q bytes) ∙ sym (as_value_twice info_v0 of_v0 (rest_hash p bytes)) ∙ ap (as_value of_v0) (hash_is_v0 q bytes)

hash_is_v1 : (q : FooterParts) (bytes : List ℕ) → as_value info_of_parts (rest_hash (record q { is_v1 = true; hashes = []; ends = []; plain = [] }) bytes) ≡ rest_v1 bytes
unfolding rest_v1
hash_is_v1 q bytes = on_hash_v1 info_of_parts q bytes

either_behind : (b : Bool) (version bytes : List ℕ)
    → as_value info_of_parts (cond b (rest_hash (record (started true) { is_v1 = true }) bytes) (wants (pointwise nat_eq version (0 ∷ [])) reasons.Version >>= λ _. rest_hash (record (started true) { is_v1 = false }) bytes))
    ≡ cond b (rest_v1 bytes) (wants (pointwise nat_eq version (0 ∷ [])) reasons.Version >>= λ _. rest_v0 bytes >>= λ x. Ok (of_v0 x.0, x.1))
either_behind true version bytes = hash_is_v1 (started true) bytes
either_behind false version bytes =
    let w : Result (Unit {0}) StoreError = wants (pointwise nat_eq version (0 ∷ [])) reasons.Version in
    bind_bind w (λ _. rest_hash (started true) bytes) (λ x. Ok (info_of_parts x.0, x.1)) ∙ onward w (λ _. as_value info_of_parts (rest_hash (started true) bytes)) (λ _. as_value of_v0 (rest_v0 bytes)) (λ _. hash_is_either_v0 (started true) bytes)

only_behind : (version bytes : List ℕ) → as_value info_v0 (rest_after_version (started false) version bytes) ≡ (wants (pointwise nat_eq version (0 ∷ [])) reasons.Version >>= λ _. rest_v0 bytes)
only_behind version bytes =
    let w : Result (Unit {0}) StoreError = wants (pointwise nat_eq version (0 ∷ [])) reasons.Version in
    bind_bind w (λ _. rest_hash (started false) bytes) (λ x. Ok (info_v0 x.0, x.1)) ∙ onward w (λ _. as_value info_v0 (rest_hash (started false) bytes)) (λ _. rest_v0 bytes) (λ _. hash_is_v0 (started false) bytes)

-- ident and version, and what is behind them
behind_version : {X : Type 0} (make : FooterParts → X) (p : FooterParts) (f : List ℕ × List ℕ → Parsed X) → ((version bytes : List ℕ) → as_value make (rest_after_version p version bytes) ≡ f (version, bytes)) → (bytes : List ℕ)
    → as_value make (rest_magic p bytes) ≡ (version_of bytes >>= f)
unfolding rest_magic rest_version version_of
behind_version make p f same bytes =
    let first = magic_at footer_magic reasons.Ident bytes in
    let second : Unit {0} × List ℕ → Parsed (List ℕ) = λ x. next_bytes 1 x.1 in
    bind_bind first (λ x. rest_version p x.1) (λ x. Ok (make x.0, x.1))
    ∙ onward first (λ x. as_value make (rest_version p x.1)) (λ x. second x >>= f)
    (λ x. bind_bind (second x) (λ y. rest_after_version p y.0 y.1) (λ z. Ok (make z.0, z.1)) ∙ onward (second x) (λ y. as_value make (rest_after_version p y.0 y.1)) f (λ y. same y.0 y.1))
    ∙ sym (bind_bind first second f)

pub starts_either : (bytes : List ℕ) → as_value info_of_parts (rest fields.Ident (started true) bytes) ≡ footer_at bytes
unfolding rest footer_at
starts_either bytes =
    behind_version info_of_parts (started true)
    (λ version. cond (pointwise nat_eq version.0 (1 ∷ [])) (rest_v1 version.1) (wants (pointwise nat_eq version.0 (0 ∷ [])) reasons.Version >>= λ _. rest_v0 version.1 >>= λ x. Ok (of_v0 x.0, x.1)))
    (λ version rest. either_behind (pointwise nat_eq version (1 ∷ [])) version rest) bytes

pub starts_v0 : (bytes : List ℕ) → as_value info_v0 (rest fields.Ident (started false) bytes) ≡ footer_v0 bytes
unfolding rest footer_v0
starts_v0 bytes = behind_version info_v0 (started false) (λ version. wants (pointwise nat_eq version.0 (0 ∷ [])) reasons.Version >>= λ _. rest_v0 version.1) only_behind bytes

pub starts_behind : (bytes : List ℕ) → as_value info_v0 (rest fields.Hash (started false) bytes) ≡ rest_v0 bytes
unfolding rest
starts_behind bytes = hash_is_v0 (started false) bytes
