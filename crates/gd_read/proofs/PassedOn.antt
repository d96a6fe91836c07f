-- The laws of the crates below that crates above name from here, so that they name those crates no more.
pub use Rattle.gd_roots.proofs.PassedOn.match_fault
pub use Rattle.gd_roots.proofs.PassedOn.places
pub use Rattle.gd_roots.proofs.PassedOn.scan
pub use Rattle.gd_roots.proofs.PassedOn.walk
pub use Rattle.gd_shape.proofs.PassedOn.tree_knot
pub use Rattle.gd_shape.proofs.known.Known.TheSendSync as known
