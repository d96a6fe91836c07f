-- The definitions of the crates below that crates above name from here, so that they name those crates no more.
pub use Rattle.gd_lookup.specs.Calls.{CountsLines, reader_of, is_answered, AreCounts}
pub use Rattle.gd_lookup.specs.Keeping.{AllRight, KeepingValue}
pub use Rattle.gd_lookup.specs.Laws.{first_kept, none_kept}
pub use Rattle.gd_seats.specs.Session.{SessionValue}
pub use Rattle.gd_writer.specs.ChangeCode.{members_code}
pub use Rattle.gd_writer.specs.Opened.{Opens}
pub use Rattle.gd_writer.specs.Parts.{Tells}
pub use Rattle.gd_writer.specs.Side.{Begins, SideValue, KeepsAll, state_of, StandsForSide}
