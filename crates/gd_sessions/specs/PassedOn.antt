-- The definitions of the crates below that crates above name from here, so that they name those crates no more.
pub use Rattle.gd_held.specs.PassedOn.{one_member}
pub use Rattle.gd_writer.specs.Opened.{Opens}
pub use Rattle.gd_writer.specs.Parts.{Tells}
pub use Rattle.gd_writer.specs.Side.{SideValue, GoesOn}
