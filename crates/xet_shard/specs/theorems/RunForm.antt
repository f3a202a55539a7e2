-- The run of a query in memory is one for the query.
use Rattle.std.proofs.Common.{◌≡◌, ◌≤◌, ◌∙◌, ℕ, zero, suc, nat_eq, Bool, true, false, List, [], ◌∷◌, cond, drop, length, Option, None, Some, option_and_then, ap, refl, subst, sym, arith}
use Rattle.std.proofs.Math.Dec.{eqb-suc-zero}
use Rattle.std.specs.Cmp.Lexicographic.{pointwise}
use Rattle.xet_shard.specs.RunForms.{IsRunFor}
use Rattle.xet_shard.specs.Runs.{agreeing, digests, held_run, last_chunk, run_at, run_segment}
use Rattle.xet_shard_format.specs.declared.record.FileDataSequenceEntry.{FileDataSequenceEntry}
use Rattle.xet_shard_format.specs.declared.record.MDBXorbInfo.{MDBXorbInfo}

agreeing_within : (query others : List (List ℕ)) → agreeing query others ≤ length query
unfolding agreeing
agreeing_within [] others = omega arith
agreeing_within (h ∷ hs) [] = omega arith
agreeing_within (h ∷ hs) (o ∷ os) = by (pointwise nat_eq h o) (agreeing_within hs os)
  where
    by : (b : Bool) → agreeing hs os ≤ length hs → cond b (suc (agreeing hs os)) 0 ≤ suc (length hs)
    by true le = omega (arith, le)
    by false le = omega arith

run_at_form : (query : List (List ℕ)) (block : MDBXorbInfo) (place : ℕ) (run : ℕ × FileDataSequenceEntry) → run_at query block place ≡ Some run → IsRunFor query run
unfolding run_at
run_at_form query block place run is = by (agreeing query (digests (drop place block.chunks))) (agreeing_within query (digests (drop place block.chunks))) is
  where
    by : (count : ℕ) → count ≤ length query → cond (nat_eq count 0) None (Some (count, run_segment block place count)) ≡ Some run → IsRunFor query run
    by zero within is = absurd (cc is)
    by (suc n) within is =
        let some : Some (suc n, run_segment block place (suc n)) ≡ Some run =
        sym (ap (λ (b : Bool). cond b None (Some (suc n, run_segment block place (suc n)))) (eqb-suc-zero n)) ∙ is in
        let same : (suc n, run_segment block place (suc n)) ≡ run = cc some in
        subst (IsRunFor query) same (record { some = omega arith; within = within; chunks = refl; flags = refl })

pub held_run_form : (blocks : List MDBXorbInfo) (query : List (List ℕ)) (run : ℕ × FileDataSequenceEntry) → held_run blocks query ≡ Some run → IsRunFor query run
unfolding held_run
held_run_form blocks [] run is = absurd (cc is)
held_run_form blocks (h ∷ hs) run is = by (last_chunk h blocks) is
  where
    by : (found : Option (MDBXorbInfo × ℕ)) → option_and_then (λ found. run_at (h ∷ hs) found.0 found.1) found ≡ Some run → IsRunFor (h ∷ hs) run
    by None is = absurd (cc is)
    by (Some found) is = run_at_form (h ∷ hs) found.0 found.1 run is
