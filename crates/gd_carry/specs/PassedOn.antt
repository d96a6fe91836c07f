-- The definitions of the crates below that crates above name from here, so that they name those crates no more.
pub use Rattle.gd_intent.specs.Walk.{intent_of}
pub use Rattle.gd_mql.specs.Requests.{write_view}
