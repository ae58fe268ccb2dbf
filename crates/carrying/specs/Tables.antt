-- Two tables, passed on for the crates that carry sets through gates: crates/standing and crates/settling have them.
pub use Rattle.standing.specs.Tables.{Table, table_of, holder, other, set_on, StandsOn, HoldingOn, StandsIn}
pub use Rattle.settling.specs.Standing.{LentOn}
