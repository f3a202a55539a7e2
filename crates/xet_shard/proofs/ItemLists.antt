-- The items of look-ups, one after the other.
use Rattle.std.proofs.Common.{zero, ◌*◌, take, ◌≡◌, ℕ, suc, ◌+◌, ◌-◌, ◌≤◌, ◌<◌, List, [], ◌∷◌, ◌++◌, length, drop, sym, ap, ◌∙◌, arith, get_or}
use Rattle.std.proofs.lemmas.List.{append-nil, drop-take, drop_all}
use Rattle.xet_shard_format.specs.theorems.FirstLast.{half_word_first, word_first}
use Rattle.xet_shard_format.specs.declared.record.MDBXorbInfo.{MDBXorbInfo}
use Rattle.xet_shard_format.specs.Records.{xorb_rows}
use Rattle.xet_codec.specs.Numbers.{half_word, word}
use Rattle.xet_shard.specs.Sections.{heads_in, heads_of, places_in}
use Rattle.xet_shard_format.specs.theorems.Steps.{left, onto}

-- one item more, and none
pub one_more : {I : Type 0} (found found1 : List I) (x : I) (rest total whole : List I) → found1 ≡ found ++ x ∷ [] → whole ≡ x ∷ rest → found ++ whole ≡ total → found1 ++ rest ≡ total
one_more {I} found found1 x rest total whole push step so_far = ap (λ (xs : List I). xs ++ rest) push ∙ onto found x rest total whole step so_far

pub no_more : {I : Type 0} (found total whole : List I) → whole ≡ [] → found ++ whole ≡ total → found ≡ total
no_more {I} found total whole none so_far = sym (append-nil found) ∙ ap (λ (xs : List I). found ++ xs) (sym none) ∙ so_far

pub heads_next : (count i : ℕ) (rest behind : List ℕ) (w h : ℕ) → i < count → behind ≡ drop 12 rest → w ≡ word rest 0 → h ≡ half_word rest 8 → heads_in (count - i) rest ≡ (w, h) ∷ heads_in (count - (i + 1)) behind
unfolding heads_in
heads_next count i rest behind w h lt e ew eh =
    let k : count - i ≡ suc (count - (i + 1)) = omega arith in
    ap (λ (n : ℕ). heads_in n rest) k ∙ (λ j. (sym ew j, sym eh j) ∷ heads_in (count - (i + 1)) (sym e j))

pub heads_none : (count i : ℕ) (rest : List ℕ) → count ≤ i → heads_in (count - i) rest ≡ []
unfolding heads_in
heads_none count i rest le = let k : count - i ≡ 0 = omega arith in ap (λ (n : ℕ). heads_in n rest) k

pub places_next : (count i : ℕ) (rest behind : List ℕ) (w r p : ℕ) → i < count → behind ≡ drop 16 rest → w ≡ word rest 0 → r ≡ half_word rest 8 → p ≡ half_word rest 12
    → places_in (count - i) rest ≡ (w, r, p) ∷ places_in (count - (i + 1)) behind
unfolding places_in
places_next count i rest behind w r p lt e ew er ep =
    let k : count - i ≡ suc (count - (i + 1)) = omega arith in
    ap (λ (n : ℕ). places_in n rest) k ∙ (λ j. (sym ew j, sym er j, sym ep j) ∷ places_in (count - (i + 1)) (sym e j))

pub places_none : (count i : ℕ) (rest : List ℕ) → count ≤ i → places_in (count - i) rest ≡ []
unfolding places_in
places_none count i rest le = let k : count - i ≡ 0 = omega arith in ap (λ (n : ℕ). places_in n rest) k

pub heads_of_next : (at : ℕ) (xs : List MDBXorbInfo) (i : ℕ) (x : MDBXorbInfo) (n : ℕ) → i < length xs → x ≡ get_or xs i x → n ≡ length (xorb_rows x) → heads_of at (drop i xs) ≡ (x.metadata, at) ∷ heads_of (at + n) (drop (i + 1) xs)
unfolding heads_of
heads_of_next at xs i x n lt is e = ap (heads_of at) (left xs i x lt is) ∙ ap (λ (k : ℕ). (x.metadata, at) ∷ heads_of (at + k) (drop (i + 1) xs)) (sym e)

pub heads_of_none : (at : ℕ) (xs : List MDBXorbInfo) (i : ℕ) → length xs ≤ i → heads_of at (drop i xs) ≡ []
unfolding heads_of
heads_of_none at xs i le = ap (heads_of at) (drop_all i xs le)

-- ---- the first items are those of the first bytes

pub heads_first : (n : ℕ) (bytes : List ℕ) → heads_in n (take (12 * n) bytes) ≡ heads_in n bytes
unfolding heads_in
heads_first zero bytes = λ i. []
heads_first (suc n) bytes =
    let more : 12 * suc n ≡ 12 + 12 * n = omega arith in
    (λ i. (word_first 0 (12 * suc n) bytes (omega arith) i, half_word_first 8 (12 * suc n) bytes (omega arith) i) ∷ heads_in n (drop 12 (take (more i) bytes)))
    ∙ (λ i. (word bytes 0, half_word bytes 8) ∷ heads_in n (drop-take 12 (12 * n) bytes i)) ∙ ap (λ (is : List (ℕ × ℕ)). (word bytes 0, half_word bytes 8) ∷ is) (heads_first n (drop 12 bytes))

pub places_first : (n : ℕ) (bytes : List ℕ) → places_in n (take (16 * n) bytes) ≡ places_in n bytes
unfolding places_in
places_first zero bytes = λ i. []
places_first (suc n) bytes =
    let more : 16 * suc n ≡ 16 + 16 * n = omega arith in
    (λ i. (word_first 0 (16 * suc n) bytes (omega arith) i, half_word_first 8 (16 * suc n) bytes (omega arith) i, half_word_first 12 (16 * suc n) bytes (omega arith) i) ∷ places_in n (drop 16 (take (more i) bytes)))
    ∙ (λ i. (word bytes 0, half_word bytes 8, half_word bytes 12) ∷ places_in n (drop-take 16 (16 * n) bytes i)) ∙ ap (λ (is : List (ℕ × ℕ × ℕ)). (word bytes 0, half_word bytes 8, half_word bytes 12) ∷ is) (places_first n (drop 16 bytes))
