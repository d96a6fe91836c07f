-- The laws of the crates below that crates above name from here, so that they name those crates no more.
pub use Rattle.gd_suspended_laws.proofs.Gathered.{gathers_none, gathers_one, pages_print, pages_refuse, rows_are_light, page_object}
pub use Rattle.gd_suspended_laws.proofs.Given.{runs_join, light_join, light_weight}
pub use Rattle.gd_suspended_laws.proofs.Going.{page_many, map-take, length-map, row_found}
pub use Rattle.gd_suspended_laws.proofs.Laws.{then_counts, many_are_refused, prints_are_owed, starts_owe, scans_owe, scans_keep, then_builds}
pub use Rattle.gd_suspended_laws.proofs.Scanning.{inside}
pub use Rattle.gd_suspended_laws.proofs.Visited.{visited_none, visited_more, offers_none, offers_one, offers_past, visits_end, heavy_visits_refuse, take_whole}
pub use Rattle.gd_work_laws.proofs.Rows.{found_passes}
