-- The laws of bytes at the front of an output, passed on for the crates that write a file's parts one after the other.
pub use Rattle.putting.proofs.Front.{front_long, tail_lent, tail_long, lent_on}
