-- Where the words with each value of their leading bits begin in a run.
use Rattle.std.proofs.Common.{◌≡◌, ◌⊎◌, inl, inr, ℕ, zero, suc, ◌*◌, ◌+◌, ◌/◌, ◌^◌, ◌<◌, ◌≤◌, List, [], ◌∷◌, ◌++◌, get_or, length, sym, subst, ap, ◌∙◌, arith, length-append}
use Rattle.std.proofs.lemmas.Bool.{cases_lt}
use Rattle.std.proofs.lemmas.List.{get_or_append_left}
use Rattle.std.proofs.lemmas.Nat.{leading_top}
use lib.Count.{count_leading_zeros}
use Rattle.std.proofs.Math.Nat.{pow-suc}
use Rattle.std.proofs.Math.Pow.{shr_mono}
use Rattle.std.proofs.Math.Seq.{get_or-append_seam}
use Rattle.xet_shard_index.specs.Places.{word_place}
use Rattle.xet_shard_index.specs.Runs.{IsBetween, Item, Rising}
use Rattle.xet_shard_index.specs.internal.Starts.{AreStarts, IsStart}
use Rattle.xet_shard_index.proofs.Merging.{Run}
use Rattle.xet_shard_index.proofs.Searching.{rises}

-- a word with a lower value of its leading bits is below
below_of : (shift a b : ℕ) → a / 2 ^ shift < b / 2 ^ shift → a < b
below_of shift a b low = by (cases_lt a b)
  where
    by : (a < b) ⊎ (b ≤ a) → a < b
    by (inl h) = h
    by (inr h) = let m = shr_mono {a = b} {b = a} shift h in absurd (omega (arith, m, low))

-- in all of a run
pub between_all : (run : Run) (word count : ℕ) → length run ≡ count → IsBetween run word 0 count
between_all run word count same = record {
  ordered = omega arith;
  within = omega (arith, same);
  below = λ i d earlier. absurd (omega (arith, earlier));
  above = λ i d later inside. absurd (omega (arith, later, inside, same));
}

-- from the start of a word's value on
pub between_start : (shift : ℕ) (run : Run) (word low : ℕ) → IsStart shift run (word / 2 ^ shift) low → IsBetween run word low (length run)
between_start shift run word low s = record {
  ordered = s.within;
  within = omega arith;
  below = λ i d earlier. below_of shift (get_or run i d).0 word (s.below i d earlier);
  above = λ i d later inside. absurd (omega (arith, later, inside));
}

-- and before that of the next value
pub between_starts : (shift : ℕ) (run : Run) (word low high : ℕ) → IsStart shift run (word / 2 ^ shift) low → IsStart shift run (word / 2 ^ shift + 1) high → IsBetween run word low high
between_starts shift run word low high s t = record {
  ordered = by (cases_lt high low);
  within = t.within;
  below = λ i d earlier. below_of shift (get_or run i d).0 word (s.below i d earlier);
  above = λ i d later inside. let r = t.reached i d later inside in below_of shift word (get_or run i d).0 (omega (arith, r));
}
  where
    by : (high < low) ⊎ (low ≤ high) → low ≤ high
    by (inl h) =
        let d : Item = (0, word_place 0 (0, 0)) in
        let r = t.reached high d (omega arith) (omega (arith, h, s.within)) in
        let b = s.below high d h in
        absurd (omega (arith, r, b))
    by (inr h) = h

pub start_here : (shift : ℕ) (run : Run) (value at : ℕ) → Rising run → at ≤ length run → ((i : ℕ) (d : Item) → i < at → (get_or run i d).0 / 2 ^ shift < value)
    → (at < length run → (d : Item) → value ≤ (get_or run at d).0 / 2 ^ shift) → IsStart shift run value at
start_here shift run value at h within before here = record {
  within = within;
  below = before;
  reached = λ i d later inside. by i d later inside (cases_lt at i);
}
  where
    by : (i : ℕ) (d : Item) → at ≤ i → i < length run → (at < i) ⊎ (i ≤ at) → value ≤ (get_or run i d).0 / 2 ^ shift
    by i d later inside (inl after) =
        let r = rises run at i d h after inside in
        let m = shr_mono {a = (get_or run at d).0} {b = (get_or run i d).0} shift (omega (arith, r)) in
        let v = here (omega (arith, after, inside)) d in
        omega (arith, v, m)
    by i d later inside (inr same) = let e : i ≡ at = omega (arith, later, same) in rw e (here (omega (arith, e, inside)) d)

-- one more item has a lower value
pub lower_until : (shift : ℕ) (run : Run) (value at : ℕ) → ((i : ℕ) (d : Item) → i < at → (get_or run i d).0 / 2 ^ shift < value) → ((d : Item) → (get_or run at d).0 / 2 ^ shift < value)
    → (i : ℕ) (d : Item) → i < at + 1 → (get_or run i d).0 / 2 ^ shift < value
lower_until shift run value at before here i d earlier = by (cases_lt i at)
  where
    by : (i < at) ⊎ (at ≤ i) → (get_or run i d).0 / 2 ^ shift < value
    by (inl h) = before i d h
    by (inr h) = let e : i ≡ at = omega (arith, earlier, h) in rw e (here d)

-- the starts with that of the next value
pub with_start : (shift : ℕ) (run : Run) (starts : List ℕ) (at : ℕ) → AreStarts shift run starts → IsStart shift run (length starts) at → AreStarts shift run (starts ++ at ∷ [])
with_start shift run starts at are is value d low = by (cases_lt value (length starts))
  where
    by : (value < length starts) ⊎ (length starts ≤ value) → IsStart shift run value (get_or (starts ++ at ∷ []) value d)
    by (inl h) = rw (get_or_append_left starts (at ∷ []) d value h) (are value d h)
    by (inr h) =
        let e : value ≡ length starts = omega (arith, h, low, length-append starts (at ∷ [])) in
        rw (e, get_or-append_seam starts at [] d) is

-- a start that was read
pub start_read : (shift : ℕ) (run : Run) (starts table : List ℕ) (value start : ℕ) → AreStarts shift run starts → table ≡ starts → value < length table → ((d : ℕ) → start ≡ get_or table value d) → IsStart shift run value start
start_read shift run starts table value start are same low is =
    subst (λ (s : ℕ). IsStart shift run value s) (sym (is 0 ∙ ap (λ (t : List ℕ). get_or t value 0) same)) (are value 0 (subst (λ (t : List ℕ). value < length t) same low))

-- ---- how many leading bits there are

pub leading_of : (unset count : ℕ) → 8 ≤ count → (j : ℕ) → unset + suc j ≡ 64 → 2 ^ j ≤ count → count < 2 ^ suc j → (m : ℕ) × (unset + m ≡ 61) × (0 < m) × (4 * 2 ^ m ≤ count) × (count < 8 * 2 ^ m)
leading_of unset count some zero sum reaches low = absurd (omega (arith, some, low))
leading_of unset count some (suc zero) sum reaches low = absurd (omega (arith, some, low))
leading_of unset count some (suc (suc zero)) sum reaches low = absurd (omega (arith, some, low))
leading_of unset count some (suc (suc (suc k))) sum reaches low =
    let a = pow-suc 2 (suc k) in
    let b = pow-suc 2 (suc (suc k)) in
    let c = pow-suc 2 (suc (suc (suc k))) in
    (suc k, omega (arith, sum), omega arith, omega (arith, reaches, a, b), omega (arith, low, a, b, c))

pub leading : (count : ℕ) → 8 ≤ count → count < 2 ^ 64 → (m : ℕ) × (count_leading_zeros 64 count + m ≡ 61) × (0 < m) × (4 * 2 ^ m ≤ count) × (count < 8 * 2 ^ m)
leading count some fits = let t = leading_top 64 count (omega (arith, some)) fits in leading_of (count_leading_zeros 64 count) count some t.0 t.1 t.2 t.3
