use Rattle.std.proofs.Common.{◌≡◌, Some, sym}
use Rattle.xet_shard_index.proofs.insertion.next_insertion.Goals as goal

some_is : {X : Type 0} (x y : X) → Some x ≡ Some y → x ≡ y
some_is x y e = cc

pub returns-in-Some-clause-some : goal.returns-in-Some-clause-some
returns-in-Some-clause-some c i e =
    let ready = c.in-Some.ensures in
    rw (some_is i c.in-Some.insertion (sym e), ready.2, ← ready.3, ← ready.4) (c.requires.ready ready.0 ready.1)
