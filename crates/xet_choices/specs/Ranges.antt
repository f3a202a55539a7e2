-- The segments of a reconstruction plan, as numbers of chunks: where a chunk lies, and the ranges before it.
use Rattle.std.specs.Prelude.{◌≡◌, ◌≤◌, ◌<◌, ℕ, zero, suc, ◌+◌, ◌-◌, Bool, true, false, nat_le, List, [], ◌∷◌}
use Rattle.std.specs.List.{AllByRecursion}

-- the number of chunks of all segments
abbrev pub total : List ℕ → ℕ
total [] = 0
total (c ∷ cs) = c + total cs

-- The segments of the first n chunks: those that end there, and the part of one that ends later.
unfoldable pub ranges : List ℕ → ℕ → List ℕ
ranges [] n = []
ranges (c ∷ cs) zero = []
ranges (c ∷ cs) (suc n) = elim (nat_le c (suc n)) [ true ↦ c ∷ ranges cs (suc n - c) | false ↦ suc n ∷ [] ]

-- the index of the segment in which chunk j lies
unfoldable pub seg_of : List ℕ → ℕ → ℕ
seg_of [] j = 0
seg_of (c ∷ cs) j = elim (nat_le c j) [ true ↦ suc (seg_of cs (j - c)) | false ↦ 0 ]

-- whether a segment begins with chunk j
unfoldable pub starts : List ℕ → ℕ → Bool
starts [] j = false
starts (c ∷ cs) zero = true
starts (c ∷ cs) (suc j) = elim (nat_le c (suc j)) [ true ↦ starts cs (suc j - c) | false ↦ false ]

-- the number of chunks of the segment with this index
unfoldable pub count_at : List ℕ → ℕ → ℕ
count_at [] segment = 0
count_at (c ∷ cs) zero = c
count_at (c ∷ cs) (suc segment) = count_at cs segment

-- each segment has a chunk
abbrev pub HaveChunks : List ℕ → Type 0
HaveChunks cs = AllByRecursion (λ c. 0 < c) cs

-- Segments that have grown: the last one is longer, or others follow it, or both.
abbrev pub Grown : List ℕ → List ℕ → Type 0
Grown [] ds = Unit {0}
Grown (c ∷ []) [] = ⊥
Grown (c ∷ []) (d ∷ ds) = c ≤ d
Grown (c ∷ e ∷ cs) [] = ⊥
Grown (c ∷ e ∷ cs) (d ∷ ds) = (c ≡ d) × Grown (e ∷ cs) ds
