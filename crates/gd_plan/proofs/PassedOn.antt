-- The laws of the crates below that crates above name from here, so that they name those crates no more.
pub use Rattle.gd_resolve.proofs.Costs.{found_steps, word_least, expects_two, word_paid}
