-- The definitions of the crates below that crates above name from here, so that they name those crates no more.
pub use Rattle.gd_suspended_laws.specs.Standing.{window_of, marks_of, page_objects, rows_among, valued, ChangesNothing, rows_of, page_rows, IsKept, trees_among, weight_among, HasVisited, IsOrderOf, HasScanned}
pub use Rattle.gd_work_laws.specs.Reading.{printing_most}
