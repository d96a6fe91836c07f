-- The definitions of the crates below that crates above name from here, so that they name those crates no more.
pub use Rattle.gd_plan.specs.Seen.{expects_view}
