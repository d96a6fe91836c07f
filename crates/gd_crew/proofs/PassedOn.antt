-- The laws of the crates below that crates above name from here, so that they name those crates no more.
pub use Rattle.gd_lookup.proofs.Calls.{caches_stay, counts_are, lines_append}
pub use Rattle.gd_lookup.proofs.Counted.{first_right}
