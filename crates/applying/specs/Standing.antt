-- The slices that are lent for a gate's set, passed on for the crates that apply gates: crates/settling has it.
pub use Rattle.settling.specs.Standing.{Lent, Indexable}
