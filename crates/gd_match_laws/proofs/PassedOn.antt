-- The laws of the crates below that crates above name from here, so that they name those crates no more.
pub use Rattle.gd_scan_laws.proofs.Begun.{scanned_is}
pub use Rattle.gd_scan_laws.proofs.Laws.{planned, orders_have_all}
pub use Rattle.gd_scan_laws.proofs.Links.{answer_known, is_refers, refers_is}
pub use Rattle.gd_scan_laws.proofs.Objects.{both_true, true_both, place_there, there_place, passes_there, object_is, is_object_in, live_there}
pub use Rattle.gd_scan_laws.proofs.Orders.{Each-both, among_in, picked, picks, scanned_all, scanned_once, scanned_apart, in_among}
pub use Rattle.gd_scan_laws.proofs.PassedOn.{found_lists, cut-objects, cut-values, printed-values, carried, AnswersObjects, answer_of-link, place_of-tree, sort_lists-behind, key_places-are, Each-member, Each-from_members, In-filter, In-filtered, Apart-filter, sorted_permutes, apart_objects, list_of-trees_of, answers_pass, query-asked, held-typed}
pub use Rattle.gd_scan_laws.proofs.Replies.{keeps_all, none_any, start_replies, Each-take, offered_is, heavy_is, known_after}
pub use Rattle.gd_scan_laws.proofs.Settled.{In-take, first_of_window, marks_again}
pub use Rattle.gd_scan_laws.proofs.Start.{answers_first, owed_first, any_map, any_in, in_any}
