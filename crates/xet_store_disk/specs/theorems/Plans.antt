-- Reconstruction plans, and what they resolve to.
use Rattle.std.proofs.Common.{◌≡◌, ◌⊎◌, inl, inr, ◌∙◌, ℕ, zero, suc, ◌+◌, ◌-◌, ◌<◌, ◌^◌, List, [], ◌∷◌, ◌++◌, map, take, drop, refl, sym, ap, subst, arith, append_assoc}
use Rattle.std.proofs.lemmas.List.{map-append, length-map, drop-map, take-map}
use Rattle.std.proofs.lemmas.List.Sums.{sum_by-append, sum_by-cons}
use Rattle.std.specs.List.{sum_by}
use Rattle.xet_shard_format.specs.declared.record.FileDataSequenceEntry.{FileDataSequenceEntry as Segment}
use Rattle.xet_shard_format.specs.declared.record.MDBFileInfo.{MDBFileInfo}
use Rattle.xet_folder.specs.Plan.{part, plan_bytes, LiesIn, Resolves}
use Rattle.xet_folder.specs.Xorbs.{IsListed, Xorbs}
use Rattle.xet_store_disk.specs.Separate.{Among}
use Rattle.xet_folder.specs.Contents.{IsRecord}

-- the run of what is made of each element
pub part-map : {X Y : Type 0} (f : X → Y) (s : Segment) (xs : List X) → part s (map f xs) ≡ map f (part s xs)
part-map f s xs = ap (take (s.chunk_index_end - s.chunk_index_start)) (drop-map f s.chunk_index_start xs) ∙ take-map f (s.chunk_index_end - s.chunk_index_start) (drop s.chunk_index_start xs)

-- and its sum
pub sum_by-map : {X Y : Type 0} (f : X → Y) (len : Y → ℕ) (xs : List X) → sum_by len (map f xs) ≡ sum_by (λ x. len (f x)) xs
sum_by-map f len [] = refl
sum_by-map f len (x ∷ xs) =
    sum_by-cons len (f x) (map f xs) ∙ ap (λ (n : ℕ). len (f x) + n) (sum_by-map f len xs) ∙ sym (sum_by-cons (λ x. len (f x)) x xs)

-- A segment that lies in what is made of the elements lies in them.
pub lies-map : {X Y : Type 0} (f : X → Y) (len : Y → ℕ) (s : Segment) (xs : List X) → LiesIn len s (map f xs) → LiesIn (λ x. len (f x)) s xs
lies-map f len s xs h = record {
  some = h.some;
  within = omega (arith, h.within, length-map xs f);
  bytes = h.bytes ∙ ap (sum_by len) (part-map f s xs) ∙ sum_by-map f len (part s xs);
}

-- A plan resolves as well where another relation has all that the first has.
pub resolves_more : {X : Type 0} (P Q : List ℕ → List X → Type 0) (len : X → ℕ) → ((h : List ℕ) (xs : List X) → P h xs → Q h xs)
    → (plan : List Segment) (out : List X) → Resolves P len plan out → Resolves Q len plan out
resolves_more P Q len all [] out j = j
resolves_more P Q len all (s ∷ ss) out (xs, rest, has, lies, parts, more) = (xs, rest, all s.xorb_hash xs has, lies, parts, resolves_more P Q len all ss rest more)

-- What a plan resolves to in one view of the xorbs comes from what it resolves to in another.
pub resolves_map : {X Y : Type 0} (f : X → Y) (P : List ℕ → List Y → Type 0) (Q : List ℕ → List X → Type 0) (len : Y → ℕ)
    → ((h : List ℕ) (ys : List Y) → P h ys → (xs : List X) × Q h xs × (map f xs ≡ ys))
    → (plan : List Segment) (out : List Y) → Resolves P len plan out → (xs : List X) × Resolves Q (λ x. len (f x)) plan xs × (map f xs ≡ out)
resolves_map f P Q len all [] out none = ([], refl, sym none)
resolves_map f P Q len all (s ∷ ss) out (ys, rest, has, lies, parts, more) =
    let here = all s.xorb_hash ys has in
    let later = resolves_map f P Q len all ss rest more in
    let xs = here.0 in
    let same : map f xs ≡ ys = here.2 in (
      part s xs ++ later.0,
      (xs, later.0, here.1, lies-map f len s xs (subst (λ (l : List _). LiesIn len s l) (sym same) lies), refl, later.1),
      map-append f (part s xs) later.0
          ∙ ap (λ (l : List _). l ++ map f later.0) (sym (part-map f s xs) ∙ ap (part s) same)
          ∙ ap (λ (l : List _). part s ys ++ l) later.2 ∙ sym parts,
    )

-- what is at the front, or in the rest, is among all
pub among_take : {X : Type 0} (n : ℕ) (xs : List X) (x : X) → Among (take n xs) x → Among xs x
among_take zero xs x h = absurd h
among_take (suc n) [] x h = absurd h
among_take (suc n) (y ∷ ys) x (inl e) = inl e
among_take (suc n) (y ∷ ys) x (inr h) = inr (among_take n ys x h)

pub among_drop : {X : Type 0} (n : ℕ) (xs : List X) (x : X) → Among (drop n xs) x → Among xs x
among_drop zero xs x h = h
among_drop (suc n) [] x h = absurd h
among_drop (suc n) (y ∷ ys) x h = inr (among_drop n ys x h)

among_append : {X : Type 0} (xs ys : List X) (x : X) → Among (xs ++ ys) x → Among xs x ⊎ Among ys x
among_append [] ys x h = inr h
among_append (y ∷ xs) ys x (inl e) = inl (inl e)
among_append (y ∷ xs) ys x (inr h) = go (among_append xs ys x h)
  where
    go : Among xs x ⊎ Among ys x → Among (y ∷ xs) x ⊎ Among ys x
    go (inl a) = inl (inr a)
    go (inr b) = inr b

-- each element comes from a xorb
pub resolves_among : {X : Type 0} (P : List ℕ → List X → Type 0) (len : X → ℕ) (plan : List Segment) (out : List X) (x : X)
    → Resolves P len plan out → Among out x → (h : List ℕ) × (xs : List X) × P h xs × Among xs x
resolves_among P len [] out x none h = absurd (subst (λ (l : List _). Among l x) none h)
resolves_among {X} P len (s ∷ ss) out x (xs, rest, has, lies, parts, more) h =
    either (among_append (part s xs) rest x (subst (λ (l : List _). Among l x) parts h)) (λ b. resolves_among P len ss rest x more b)
  where
    either : Among (part s xs) x ⊎ Among rest x → (Among rest x → (h : List ℕ) × (xs : List X) × P h xs × Among xs x) → (h : List ℕ) × (xs : List X) × P h xs × Among xs x
    either (inl a) later = (s.xorb_hash, xs, has, among_drop s.chunk_index_start xs x (among_take (s.chunk_index_end - s.chunk_index_start) (drop s.chunk_index_start xs) x a))
    either (inr b) later = later b

-- The bytes of a plan are those of the elements to which it resolves.
pub resolves_bytes : {X : Type 0} (P : List ℕ → List X → Type 0) (len : X → ℕ) (plan : List Segment) (out : List X) → Resolves P len plan out → plan_bytes plan ≡ sum_by len out
resolves_bytes P len [] out none = sym (ap (sum_by len) none)
resolves_bytes P len (s ∷ ss) out (xs, rest, has, lies, parts, more) =
    let later : plan_bytes ss ≡ sum_by len rest = resolves_bytes P len ss rest more in
    let parted : sum_by len out ≡ sum_by len (part s xs) + sum_by len rest = ap (sum_by len) parts ∙ sum_by-append len (part s xs) rest in
    omega (arith, sum_by-cons (λ (t : Segment). t.unpacked_segment_bytes) s ss, lies.bytes, later, parted)

-- so those of a recorded plan fit
pub record_bytes : (xorbs : Xorbs) (r : List ℕ × MDBFileInfo) → IsRecord xorbs r → plan_bytes r.1.segments < 2 ^ 64
record_bytes xorbs r is = let same = resolves_bytes (IsListed xorbs) (λ m. m.1) r.1.segments is.leaves is.resolves in omega (arith, same, is.bound)

-- What a plan's first segments and the others resolve to, which together is what it resolves to.
pub record SplitsAt {X : Type 0} (P : List ℕ → List X → Type 0) (len : X → ℕ) (plan : List Segment) (k : ℕ) (out : List X) : Type 0 where
  pub prefix : List X
  pub rest : List X
  pub is : out ≡ prefix ++ rest
  pub before : Resolves P len (take k plan) prefix
  pub resolves : Resolves P len (drop k plan) rest

pub resolves_split : {X : Type 0} (P : List ℕ → List X → Type 0) (len : X → ℕ) (plan : List Segment) (k : ℕ) (out : List X) → Resolves P len plan out → SplitsAt P len plan k out
resolves_split P len plan zero out j = record { prefix = []; rest = out; is = refl; before = refl; resolves = j }
resolves_split P len [] (suc k) out j = record { prefix = []; rest = out; is = refl; before = refl; resolves = j }
resolves_split P len (s ∷ ss) (suc k) out (xs, rest, has, lies, parts, more) =
    let later = resolves_split P len ss k rest more in record {
      prefix = part s xs ++ later.prefix;
      rest = later.rest;
      is = parts ∙ ap (λ (l : List _). part s xs ++ l) later.is ∙ sym (append_assoc (part s xs) later.prefix later.rest);
      before = (xs, later.prefix, has, lies, refl, later.before);
      resolves = later.resolves;
    }
