use Rattle.std.proofs.Common.{◌≡◌, ◌&&◌, Bool, true, false, refl, inl, inr}
use Rattle.clap.specs.Words.{App, Kinds, HasKind, app_of, is_simple, is_simple_and_free, kind_of}
use Rattle.clap.specs.Faults.{is_free_app}
use Rattle.clap.specs.Simple.{built}
use Rattle.clap.specs.declared.error.Error.{Error}
use Rattle.clap.specs.declared.error.kind.ErrorKind.TheVariants.{OutOfMemory}
use Rattle.xet_arguments.specs.internal.Commands.{HasFault}
use Rattle.xet_arguments.proofs.parsing.matches_of_words.Goals as goal

first_holds : (a b : Bool) → (a && b) ≡ true → a ≡ true
first_holds true b e = refl
first_holds false b e = cc

simple : (a : App) → is_simple_and_free a ≡ true → is_simple a ≡ true
simple a = first_holds (is_simple a) (is_free_app (built a))

among : (kinds : Kinds) (e : Error) → HasKind kinds e → (kind_of e ≡ OutOfMemory → ⊥) → HasFault kinds
among kinds e (inl h) other = absurd (other h)
among kinds e (inr h) other = (kind_of e, h)

pub returns-in-Ok : goal.returns-in-Ok
returns-in-Ok c = (c.in-Ok.ensures.kinds c.requires, (c.in-Ok.ensures.matches (simple (app_of c.args.command) c.requires)).0)

pub returns-in_ok-rejects_words-in-Err : goal.returns-in_ok-rejects_words-in-Err
returns-in_ok-rejects_words-in-Err c = among _ c.in-Err.error (c.in-Err.ensures.kinds c.requires) c.in_ok-rejects_words-in-Err.ensures
