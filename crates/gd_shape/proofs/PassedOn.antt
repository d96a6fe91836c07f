-- The laws of the crates below that crates above name from here, so that they name those crates no more.
pub use Rattle.gd_left_laws.proofs.Laws.{scans_give_pages, pages_are_light}
pub use Rattle.gd_left_laws.proofs.PassedOn.{page_many, then_counts, runs_join, light_join, light_weight, map-take, length-map, many_are_refused, prints_are_owed, starts_owe, scans_owe, scans_keep, then_builds, row_found, inside, visited_none, visited_more, offers_none, offers_one, offers_past, visits_end, heavy_visits_refuse, gathers_none, gathers_one, pages_print, pages_refuse, rows_are_light, take_whole, page_object, found_passes}
pub use Rattle.gd_match_laws.proofs.Bodies.{filter_map-append}
pub use Rattle.gd_match_laws.proofs.First.{cmp-less}
pub use Rattle.gd_match_laws.proofs.PassedOn.{owed_first, place_of-tree, list_of-trees_of}
pub use Rattle.gd_match_laws.proofs.Scans.{run-keeps, run-gives}
pub use Rattle.gd_trees.proofs.tree.Tree.TheLaws.TheKnot as tree_knot
