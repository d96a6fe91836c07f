-- The definitions of the crates below that crates above name from here, so that they name those crates no more.
pub use Rattle.gd_match_laws.specs.Laws.{AtEnd}
pub use Rattle.gd_match_laws.specs.Links.{link_order, passing_links, is_first, link_if}
pub use Rattle.gd_match_laws.specs.Moves.{order_from, FrameMoves, begins, passes_over, descends, takes, below_moves, below_ends, next_begins, later_moves, StackMoves, frame_moves, ScanMoves, scan_passes_over, picks, frames_move, gives, Runs, stays, moves, passing_from, fresh}
pub use Rattle.gd_match_laws.specs.PassedOn.{start, scanned}
pub use Rattle.gd_match_laws.specs.Rows.{rows_order}
