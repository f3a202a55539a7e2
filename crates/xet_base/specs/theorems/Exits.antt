-- What holds of the error that `?` returns.
use Rattle.std.proofs.Common.{◌≡◌, Result, Ok, Err, subst, sym}
use Rattle.std.specs.Result.{IfErr, IsErrAnd, OnErr}

-- what holds of an error holds of the exit with it
pub on_exit : {T E : Type 0} (r : Result T E) (e : E) (P : E → Type 0) → IsErrAnd r (λ y. y ≡ e) → P e → IfErr r P
on_exit (Ok x) e P exit p = tt
on_exit (Err y) e P exit p = subst P (sym exit) p

pub exit_with : {T E : Type 0} (P : E → Type 0) (r : Result T E) (e : E) → IsErrAnd r (λ y. y ≡ e) → P e → IfErr r P
exit_with P r e exit p = on_exit r e P exit p

-- what is known at the exit
pub exit_on : {T E : Type 0} {P : Type 0} (Q : E → Type 0) (r : Result T E) → IsErrAnd r Q → P → OnErr r P
exit_on Q (Ok x) exit p = tt
exit_on Q (Err e) exit p = p
