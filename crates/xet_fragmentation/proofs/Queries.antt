use Rattle.std.proofs.Common.{◌≡◌, ℕ, Bool, true, false, if◌then◌else◌, refl}
use Rattle.xet_fragmentation.specs.Fragmentation.{Fragmentation, asked, chunks_in, is_fragmented, is_full, is_short}

-- whichever of two it is, where both have as many chunks
pub either_has : (b : Bool) (x y f : Fragmentation) → chunks_in x ≡ chunks_in f → chunks_in y ≡ chunks_in f → chunks_in (if b then x else y) ≡ chunks_in f
either_has true x y f p q = p
either_has false x y f p q = q

-- a query does not change the number of chunks
pub asked-chunks : (f : Fragmentation) (run : ℕ) → chunks_in (asked f run) ≡ chunks_in f
unfolding asked
asked-chunks f run =
    either_has (is_full f) _ f f
    (either_has (is_fragmented f) _ _ f (either_has (is_short f run) _ f f refl refl) refl)
    refl
