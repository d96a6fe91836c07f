-- The laws of the crates below that crates above name from here, so that they name those crates no more.
pub use Rattle.gd_order_laws.proofs.Places.{places_rise, nat_less}
pub use Rattle.gd_order_laws.proofs.Rows.{In-map, apart_rows, In-mapped, apart_objects}
pub use Rattle.gd_order_laws.proofs.Sorted.{Each-member, In-filter, kept_row_by_row, Apart-filter, Each-append, In-sorted, Each-from_members, In-filtered, sorted_permutes}
pub use Rattle.gd_page_laws.proofs.Pages.{found_lists, cut-objects, cut-values, printed-values}
pub use Rattle.gd_page_laws.proofs.PassedOn.{literal-passes, answer-passes, take_longer, more_than, answers_pass, query-asked, held-typed}
pub use Rattle.gd_page_laws.proofs.TreeRows.{carried, AnswersObjects, answer_of-link, place_of-tree, sort_lists-behind, key_places-are, list_of-trees_of}
