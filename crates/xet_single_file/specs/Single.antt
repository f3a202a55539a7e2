-- One file that is cleaned over a pass of a session.
use Rattle.std.specs.Prelude.{◌≡◌, ◌⊎◌, ◌<◌, ◌+◌, ℕ, Bool, true, false, List, length}
use Rattle.xet_clean.specs.declared.policy.Sha256Policy.{Sha256Policy}
use Rattle.xet_hash.specs.declared.error.StoreError.{StoreError}
use Rattle.xet_hash.specs.declared.error.StoreError.TheVariants.{TooLarge}
use Rattle.xet_hash.specs.declared.error.What.TheVariants.{Source}
use Rattle.xet_locked_session.specs.Passing.{passing_of}
use Rattle.xet_store.specs.Interface.{IsErrorSince}
use Rattle.xet_store.specs.Holders.{Holder}

-- What contracts see of it: the pass when the file began, and the pass now; the number of the source; where the SHA-256 comes
-- from; the bytes so far; whether each call returned Ok.
pub record SingleFileState : Type 0 where
  pub start : Holder
  pub pass : Holder
  pub source : ℕ
  pub policy : Sha256Policy
  pub bytes : List ℕ
  pub whole : Bool

-- the state of these parts
abbrev pub single_state : Holder → Holder → ℕ → Sha256Policy → List ℕ → Bool → SingleFileState
single_state start pass source policy bytes whole = record { start = start; pass = pass; source = source; policy = policy; bytes = bytes; whole = whole }

-- Why bytes were not added, after which the pass is this: the file would be longer than the limits allow, the error names its
-- source, and the pass is as it was; or a step failed.
abbrev pub IsSingleError : SingleFileState → List ℕ → Holder → StoreError → Type 0
IsSingleError s bytes pass e =
    ((e ≡ TooLarge (Source s.source)) × (s.start.limits.max_source_bytes < length s.bytes + length bytes) × (pass ≡ s.pass))
    ⊎ IsErrorSince (passing_of s.start s.pass false) (passing_of s.start pass true) e
