-- The laws of the crates below that crates above name from here, so that they name those crates no more.
pub use Rattle.gd_read.proofs.PassedOn.known
pub use Rattle.gd_read.proofs.PassedOn.match_fault
pub use Rattle.gd_read.proofs.PassedOn.places
pub use Rattle.gd_read.proofs.PassedOn.scan
pub use Rattle.gd_read.proofs.PassedOn.tree_knot
pub use Rattle.gd_read.proofs.PassedOn.walk
