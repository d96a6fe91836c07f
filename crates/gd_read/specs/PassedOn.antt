-- The definitions of the crates below that crates above name from here, so that they name those crates no more.
pub use Rattle.gd_compile.specs.Fault.{unknown_of}
pub use Rattle.gd_roots.specs.PassedOn.current
pub use Rattle.gd_roots.specs.PassedOn.frame
pub use Rattle.gd_roots.specs.PassedOn.matcher
pub use Rattle.gd_shape.specs.contracts.shape.Shape as shape
