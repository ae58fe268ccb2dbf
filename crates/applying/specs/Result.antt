-- What a gate's result is, passed on for the crates that apply gates: crates/settling has it.
pub use Rattle.settling.specs.Result.{made_of, bounds_from, picked}
