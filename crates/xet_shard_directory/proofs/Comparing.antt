-- Files are compared part by part.
use Rattle.std.proofs.Common.{◌≡◌, ◌≤◌, ◌∙◌, ◌+◌, ◌-◌, ◌++◌, ℕ, List, Option, None, Some, length, take, drop, option_map, refl, sym, ap, subst, arith}
use Rattle.std.proofs.Math.Seq.{take-add}
use Rattle.std.proofs.lemmas.List.{length-drop, length-take-le, take_all}
use Rattle.xet_io.specs.Disk.{File, stat_of}

-- the length of a part within the bytes
pub part_long : (at n : ℕ) (bytes : List ℕ) → at + n ≤ length bytes → length (take (at + n - at) (drop at bytes)) ≡ n
part_long at n bytes within =
    let m : at + n - at ≡ n = omega arith in
    rw m (length-take-le n (drop at bytes) (omega (arith, within, length-drop at bytes)))

-- one part more
pub goes_on : (at n : ℕ) (b bytes : List ℕ) → at + n ≤ length bytes → take at b ≡ take at bytes
    → take (length (take (at + n - at) (drop at bytes))) (drop at b) ≡ take (at + n - at) (drop at bytes) → take (at + n) b ≡ take (at + n) bytes
goes_on at n b bytes within before same =
    let m : at + n - at ≡ n = omega arith in
    let part : take (at + n - at) (drop at bytes) ≡ take n (drop at bytes) = ap (λ (k : ℕ). take k (drop at bytes)) m in
    let next : take n (drop at b) ≡ take n (drop at bytes) = subst (λ (k : ℕ). take k (drop at b) ≡ take (at + n - at) (drop at bytes)) (part_long at n bytes within) same ∙ part in
    take-add at n b ∙ ap (λ (l : List ℕ). l ++ take n (drop at b)) before ∙ ap (λ (l : List ℕ). take at bytes ++ l) next ∙ sym (take-add at n bytes)

-- after the last part
pub whole : (at : ℕ) (b bytes : List ℕ) → length bytes ≤ at → length b ≡ length bytes → take at b ≡ take at bytes → b ≡ bytes
whole at b bytes end long same = sym (take_all at b (omega (arith, end, long))) ∙ same ∙ take_all at bytes end

-- the bytes that are there, by their number
pub found : (there : Option (List ℕ)) (n : ℕ) → option_map length there ≡ Some n → (b : List ℕ) × (there ≡ Some b) × (length b ≡ n)
found None n e = absurd (cc e)
found (Some b) n e = (b, refl, cc e)

pub long_of : (there : Option (List ℕ)) (b : List ℕ) (n : ℕ) → option_map length there ≡ Some n → there ≡ Some b → length b ≡ n
long_of there b n e is = let s : option_map length there ≡ Some (length b) = ap (option_map length) is in cc

-- a file of another length has other bytes
pub of_other_length : (f : Option File) (m : ℕ × ℕ) (bytes : List ℕ) → Some m ≡ stat_of f → (m.0 ≡ length bytes → ⊥) → (b : List ℕ) × (option_map (λ g. g.bytes) f ≡ Some b) × (b ≡ bytes → ⊥)
of_other_length None m bytes e ne = absurd (cc e)
of_other_length (Some f) m bytes e ne = (f.bytes, refl, λ same. ne (by (cc e) ∙ ap (length) same))
  where
    by : m ≡ (length f.bytes, f.modified) → m.0 ≡ length f.bytes
    by is = ap (λ (x : ℕ × ℕ). x.0) is
