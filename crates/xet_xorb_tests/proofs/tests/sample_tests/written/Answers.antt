use Rattle.std.proofs.Common.{◌≡◌, ℕ, List, sym, subst}
use Rattle.xet_xorb_samples.specs.Samples.{AreBoundaries}
use Rattle.xet_xorb_tests.proofs.tests.sample_tests.written.Goals as goal

boundaries_like : (bytes plain : List ℕ) (places boundaries : List (List ℕ × ℕ)) → bytes ≡ plain → places ≡ boundaries → AreBoundaries plain boundaries → AreBoundaries bytes places
boundaries_like bytes plain places boundaries same_bytes same_places are = subst (λ (x : List ℕ). AreBoundaries x places) (sym same_bytes) (subst (AreBoundaries plain) (sym same_places) are)

pub written_like-requires : goal.written_like-requires
written_like-requires c = boundaries_like _ c.in_ok-object.plain.items _ c.in_ok-object.boundaries.items c.deref-2.ensures.value c.deref-3.ensures.value c.in_ok-object.ensures.boundaries
