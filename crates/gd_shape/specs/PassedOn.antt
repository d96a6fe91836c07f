-- The definitions of the crates below that crates above name from here, so that they name those crates no more.
pub use Rattle.gd_left_laws.specs.Laws.{KeepsPage, IsLightPage}
pub use Rattle.gd_left_laws.specs.PassedOn.{window_of, marks_of, page_objects, rows_among, valued, ChangesNothing, rows_of, page_rows, IsKept, trees_among, weight_among, HasVisited, IsOrderOf, HasScanned}
pub use Rattle.gd_match_laws.specs.Laws.{AtEnd}
pub use Rattle.gd_match_laws.specs.Moves.{Runs, order_from, stays}
pub use Rattle.gd_match_laws.specs.PassedOn.{start}
pub use Rattle.gd_trees.specs.Led.{judge_turns}
pub use Rattle.gd_trees.specs.Shallow.{are_shallow}
pub use Rattle.gd_trees.specs.View.{view, trees_view}
pub use Rattle.gd_trees.specs.declared.tree.Tree.{Tree}
pub use Rattle.gd_trees.specs.declared.tree.Trees.{Trees}
