-- The definitions of the crates below that crates above name from here, so that they name those crates no more.
pub use Rattle.gd_caller.specs.Served.{printed, StandsForState}
pub use Rattle.gd_crew.specs.PassedOn.{Tells, first_kept, KeepingValue, CountsLines, AreCounts, none_kept}
