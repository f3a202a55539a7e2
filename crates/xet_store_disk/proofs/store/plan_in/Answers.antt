use Rattle.std.proofs.Common.{◌≡◌, ◌∙◌, ℕ, List, true, false, Option, Some, option_map, sym, ap, nat_eq}
use Rattle.std.specs.Cmp.Lexicographic.{pointwise}
use Rattle.xet_hash.specs.Hash.{zero_hash}
use Rattle.xet_shard_format.specs.declared.record.MDBFileInfo.{MDBFileInfo}
use Rattle.xet_store_disk.specs.Store.{plan_of}
use Rattle.xet_store_disk.proofs.store.plan_in.Goals as goal

pub returns-then-eq : goal.returns-then-eq
unfolding plan_of
returns-then-eq c =
    let test : pointwise nat_eq c.args.hash.now zero_hash ≡ true = ap (λ (d : List ℕ). pointwise nat_eq c.args.hash.now d) (sym c.default.ensures) ∙ sym c.eq.ensures ∙ c.if-eq.true in
    rw (test, plan_of) (ap Some c.empty.ensures)

pub returns-in-Some : goal.returns-in-Some
unfolding plan_of
returns-in-Some c =
    let test : pointwise nat_eq c.args.hash.now zero_hash ≡ false = ap (λ (d : List ℕ). pointwise nat_eq c.args.hash.now d) (sym c.default.ensures) ∙ sym c.eq.ensures ∙ c.if-eq.false in
    rw (test, plan_of) (ap Some c.plan.ensures ∙ ap (λ (o : Option MDBFileInfo). option_map (λ (f : MDBFileInfo). f.segments) o) c.in-Some.ensures.value)

pub returns-in-None : goal.returns-in-None
unfolding plan_of
returns-in-None c =
    let test : pointwise nat_eq c.args.hash.now zero_hash ≡ false = ap (λ (d : List ℕ). pointwise nat_eq c.args.hash.now d) (sym c.default.ensures) ∙ sym c.eq.ensures ∙ c.if-eq.false in
    rw (test, plan_of) (ap (λ (o : Option MDBFileInfo). option_map (λ (f : MDBFileInfo). f.segments) o) c.in-None.ensures.value)
