-- What is written and buffered after one more slice.
use Rattle.std.proofs.Common.{◌≡◌, ◌∙◌, ℕ, ◌+◌, ◌≤◌, List, [], ◌++◌, Result, Ok, Err, ap, append_assoc, arith, drop, length, min, subst, sym, take}
use Rattle.std.proofs.Math.Seq.{drop-drop, drop-length, take-add, take-append-add, take-length}
use Rattle.std.proofs.lemmas.List.{append-nil, drop-append-le, drop_min, take-append-drop, take-append-le, take_min}
use Rattle.std.specs.Result.{OnErr, OnOk}
use Rattle.xet_hash.specs.declared.error.StoreError.{StoreError}
use Rattle.xet_codec.specs.Written.{WritesPrefix, Moves}

-- a prefix of some bytes is one of these and others
pub pad : {before now x : List ℕ} (y : List ℕ) → WritesPrefix before now x → WritesPrefix before now (x ++ y)
pad {before} {now} {x} y f =
    record {
      count = min f.count (length x);
      written = f.written ∙ ap (λ (t : List ℕ). before ++ t) (sym (take_min f.count x) ∙ sym (take-append-le (min f.count (length x)) x y (omega arith)));
    }

-- a front of what was left behind a front, and of others
take_twice : (n m : ℕ) (x y : List ℕ) → take n x ++ take m (drop n x ++ y) ≡ take (min n (length x) + m) (x ++ y)
take_twice n m x y =
    let k : ℕ = min n (length x) in
    let le : k ≤ length x = omega arith in
    sym (take-add k m (x ++ y) ∙ ap (λ (t : List ℕ). t ++ take m (drop k (x ++ y))) (take-append-le k x y le ∙ take_min n x)
    ∙ ap (λ (t : List ℕ). take n x ++ take m t) (drop-append-le k x y le ∙ ap (λ (t : List ℕ). t ++ y) (drop_min n x)))

drop_twice : (n m : ℕ) (x y : List ℕ) → drop m (drop n x ++ y) ≡ drop (min n (length x) + m) (x ++ y)
drop_twice n m x y =
    let k : ℕ = min n (length x) in
    let le : k ≤ length x = omega arith in
    sym (ap (λ (i : ℕ). drop i (x ++ y)) (omega arith) ∙ sym (drop-drop m k (x ++ y)) ∙ ap (drop m) (drop-append-le k x y le ∙ ap (λ (t : List ℕ). t ++ y) (drop_min n x)))

-- a prefix of the buffered bytes and a piece is written, and then a prefix of what is left of them and another piece
pieces : (w0 w1 w2 h1 h0 p q : List ℕ) (n m : ℕ) → w1 ≡ w0 ++ take n (h0 ++ p) → h1 ≡ drop n (h0 ++ p) → w2 ≡ w1 ++ take m (h1 ++ q)
    → w2 ≡ w0 ++ take (min n (length (h0 ++ p)) + m) (h0 ++ (p ++ q))
pieces w0 w1 w2 h1 h0 p q n m first left next =
    let x : List ℕ = h0 ++ p in
    next ∙ ap (λ (t : List ℕ). w1 ++ take m (t ++ q)) left ∙ ap (λ (t : List ℕ). t ++ take m (drop n x ++ q)) first ∙ append_assoc w0 (take n x) (take m (drop n x ++ q))
    ∙ ap (λ (t : List ℕ). w0 ++ t) (take_twice n m x q ∙ ap (take (min n (length x) + m)) (append_assoc h0 p q))

-- one piece was taken behind what was held, and then another
pub then : {w0 w1 w2 h1 h2 : List ℕ} (h0 p q : List ℕ) → Moves w0 w1 h1 (h0 ++ p) → Moves w1 w2 h2 (h1 ++ q) → Moves w0 w2 h2 (h0 ++ (p ++ q))
then h0 p q a b = record {
  count = min a.count (length (h0 ++ p)) + b.count;
  written = pieces _ _ _ _ h0 p q a.count b.count a.written a.held b.written;
  held = b.held ∙ ap (λ (t : List ℕ). drop b.count (t ++ q)) a.held ∙ drop_twice a.count b.count (h0 ++ p) q
      ∙ ap (drop (min a.count (length (h0 ++ p)) + b.count)) (append_assoc h0 p q);
}

pub then_prefix : {w0 w1 w2 h1 : List ℕ} (h0 p q : List ℕ) → Moves w0 w1 h1 (h0 ++ p) → WritesPrefix w1 w2 (h1 ++ q) → WritesPrefix w0 w2 (h0 ++ (p ++ q))
then_prefix h0 p q a b = record {
  count = min a.count (length (h0 ++ p)) + b.count;
  written = pieces _ _ _ _ h0 p q a.count b.count a.written a.held b.written;
}

-- all that was held was written, and then a piece
pub direct : {w0 w1 w2 h0 h1 : List ℕ} (p : List ℕ) → Moves w0 w1 h1 h0 → h1 ≡ [] → w2 ≡ w1 ++ p → Moves w0 w2 h1 (h0 ++ p)
direct {w0} {w1} {w2} {h0} {h1} p a none e =
    let all : take a.count h0 ≡ h0 = sym (append-nil (take a.count h0)) ∙ ap (λ (t : List ℕ). take a.count h0 ++ t) (sym none ∙ a.held) ∙ take-append-drop a.count h0 in
    record {
      count = length (h0 ++ p);
      written = e ∙ ap (λ (t : List ℕ). t ++ p) (a.written ∙ ap (λ (t : List ℕ). w0 ++ t) all) ∙ append_assoc w0 h0 p ∙ ap (λ (t : List ℕ). w0 ++ t) (sym (take-length (h0 ++ p)));
      held = none ∙ sym (drop-length (h0 ++ p));
    }

pub direct_prefix : {w0 w1 w2 h0 h1 p : List ℕ} → Moves w0 w1 h1 h0 → h1 ≡ [] → WritesPrefix w1 w2 p → WritesPrefix w0 w2 (h0 ++ p)
direct_prefix {w0} {w1} {w2} {h0} {h1} {p} a none f =
    let all : take a.count h0 ≡ h0 = sym (append-nil (take a.count h0)) ∙ ap (λ (t : List ℕ). take a.count h0 ++ t) (sym none ∙ a.held) ∙ take-append-drop a.count h0 in
    record {
      count = length h0 + f.count;
      written = f.written ∙ ap (λ (t : List ℕ). t ++ take f.count p) (a.written ∙ ap (λ (t : List ℕ). w0 ++ t) all) ∙ append_assoc w0 h0 (take f.count p)
          ∙ ap (λ (t : List ℕ). w0 ++ t) (sym (take-append-add h0 p f.count));
    }

pub pad_behind : {w0 w1 : List ℕ} (h0 p q : List ℕ) → WritesPrefix w0 w1 (h0 ++ p) → WritesPrefix w0 w1 (h0 ++ (p ++ q))
pad_behind {w0} {w1} h0 p q f = subst (λ (t : List ℕ). WritesPrefix w0 w1 t) (append_assoc h0 p q) (pad q f)

-- all that was held is written
pub flushed : {w0 w1 w2 h1 : List ℕ} (h0 t : List ℕ) → h0 ≡ [] → Moves w0 w1 h1 (h0 ++ t) → w2 ≡ w1 ++ h1 → (n : ℕ) × (w2 ≡ w0 ++ take n t)
flushed {w0} {w1} {w2} {h1} h0 t none a e =
    let x : h0 ++ t ≡ t = ap (λ (h : List ℕ). h ++ t) none in (
      length t,
      e ∙ ap (λ (h : List ℕ). w1 ++ h) a.held ∙ ap (λ (w : List ℕ). w ++ drop a.count (h0 ++ t)) a.written ∙ append_assoc w0 (take a.count (h0 ++ t)) (drop a.count (h0 ++ t))
          ∙ ap (λ (y : List ℕ). w0 ++ y) (take-append-drop a.count (h0 ++ t) ∙ x ∙ sym (take-length t)),
    )

pub flushed_prefix : {w0 w1 w2 h1 : List ℕ} (h0 t : List ℕ) → h0 ≡ [] → Moves w0 w1 h1 (h0 ++ t) → WritesPrefix w1 w2 h1 → (n : ℕ) × (w2 ≡ w0 ++ take n t)
flushed_prefix {w0} {w1} {w2} {h1} h0 t none a f =
    let all = then_prefix h0 t [] a (subst (λ (h : List ℕ). WritesPrefix w1 w2 h) (sym (append-nil h1)) f) in
    let x : h0 ++ (t ++ []) ≡ t = ap (λ (h : List ℕ). h ++ (t ++ [])) none ∙ append-nil t in
    (all.count, all.written ∙ ap (λ (y : List ℕ). w0 ++ take all.count y) x)

pub on_ok : {T : Type 0} {P : Type 0} (r : Result T StoreError) → P → OnOk r P
on_ok (Ok x) p = p
on_ok (Err e) p = tt

pub on_err : {T : Type 0} {P : Type 0} (r : Result T StoreError) → P → OnErr r P
on_err (Ok x) p = tt
on_err (Err e) p = p
