-- Steps that follow one another.
pub use Rattle.xet_store.specs.theorems.Joining.{steps_both as steps_then}
