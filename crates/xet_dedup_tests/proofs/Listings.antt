-- Xorbs that a store in memory knows, one more at the end or one after the other.
use Rattle.std.proofs.Common.{◌≡◌, ◌∙◌, ℕ, nat_eq, ◌+◌, ◌<◌, Bool, true, false, List, [], ◌∷◌, ◌++◌, drop, get_or, length, Some, None, if◌then◌else◌, refl, sym, ap}
use Rattle.std.proofs.lemmas.List.{at_drop_more}
use Rattle.std.specs.Cmp.Lexicographic.{bytes_decides, pointwise}
use Rattle.xet_dedup_tests.specs.declared.known.KnownXorb.{KnownXorb}
use Rattle.xet_dedup_tests.specs.Listing.{lengths_of, listing}

-- the xorb at an index has the hash, or is passed over
pub listing-here : (xs : List KnownXorb) (i : ℕ) (d : KnownXorb) (h : List ℕ) → i < length xs → pointwise nat_eq (get_or xs i d).hash h ≡ true → listing (drop i xs) h ≡ Some (lengths_of (get_or xs i d))
listing-here xs i d h below is =
    at_drop_more (λ (l : List KnownXorb). listing l h) xs i d below ∙ ap (λ (b : Bool). if b then Some (lengths_of (get_or xs i d)) else listing (drop (i + 1) xs) h) is

pub listing-next : (xs : List KnownXorb) (i : ℕ) (d : KnownXorb) (h : List ℕ) → i < length xs → pointwise nat_eq (get_or xs i d).hash h ≡ false → listing (drop i xs) h ≡ listing (drop (i + 1) xs) h
listing-next xs i d h below is =
    at_drop_more (λ (l : List KnownXorb). listing l h) xs i d below ∙ ap (λ (b : Bool). if b then Some (lengths_of (get_or xs i d)) else listing (drop (i + 1) xs) h) is

-- what is known stays known with more xorbs at the end
pub listing-append : (xs ys : List KnownXorb) (h lengths : List ℕ) → listing xs h ≡ Some lengths → listing (xs ++ ys) h ≡ Some lengths
listing-append [] ys h lengths is = absurd cc
listing-append (x ∷ xs) ys h lengths is = by (pointwise nat_eq x.hash h) (listing-append xs ys h lengths) is
  where
    by : (b : Bool) → (listing xs h ≡ Some lengths → listing (xs ++ ys) h ≡ Some lengths) → (if b then Some (lengths_of x) else listing xs h) ≡ Some lengths → (if b then Some (lengths_of x) else listing (xs ++ ys) h) ≡ Some lengths
    by true rest e = e
    by false rest e = rest e

-- a hash that was not known is, once a xorb that has it is at the end
pub listing-push : (xs : List KnownXorb) (x : KnownXorb) → listing xs x.hash ≡ None → listing (xs ++ x ∷ []) x.hash ≡ Some (lengths_of x)
listing-push [] x is = ap (λ (b : Bool). if b then Some (lengths_of x) else None) ((bytes_decides x.hash x.hash).1 refl)
listing-push (y ∷ xs) x is = by (pointwise nat_eq y.hash x.hash) (listing-push xs x) is
  where
    by : (b : Bool) → (listing xs x.hash ≡ None → listing (xs ++ x ∷ []) x.hash ≡ Some (lengths_of x)) → (if b then Some (lengths_of y) else listing xs x.hash) ≡ None
        → (if b then Some (lengths_of y) else listing (xs ++ x ∷ []) x.hash) ≡ Some (lengths_of x)
    by true rest e = absurd cc
    by false rest e = rest e

-- the same of the xorb that was read at an index
pub listing-read : (xs : List KnownXorb) (i : ℕ) (x : KnownXorb) (h : List ℕ) → i < length xs → x ≡ get_or xs i x → pointwise nat_eq (get_or xs i x).hash h ≡ true → listing (drop i xs) h ≡ Some (lengths_of x)
listing-read xs i x h below read is = listing-here xs i x h below is ∙ ap (λ (y : KnownXorb). Some (lengths_of y)) (sym read)
