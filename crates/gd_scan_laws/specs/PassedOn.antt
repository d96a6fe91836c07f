-- The definitions of the crates below that crates above name from here, so that they name those crates no more.
pub use Rattle.gd_order_laws.specs.Window.{Rising, In, Each, kept_onto, Apart}
pub use Rattle.gd_page_laws.specs.PassedOn.{ScanOrder, Candidate, finished, left_weight, with_list, window, answering, candidate, MembersOf, owed_by, scan_fits, weighs_too_much, scan_order, body_answer, built_trees, built_weight, walk_text, Ranked, cut, candidates_from, tried, iter_fits, frames_fit, frame_lists_fit, stack_fits, row_candidates, row_tried, lists_anew, grown, finished_lists, left_clauses, weight_behind, later_answers, later_weight, page_shape, page_of_rows, Printed, id_json, own_shape, plain_shape, each_shape, list_shape, answers_shape, object_shape, rows_shape, IterAt, Frame, Scan, Walk, scanning, building, printing, AreHeld, RootSet, everything, named_places, links_of, set_places, root_sets, distinct, sets_by_name, sets_by_link, work, set_work, query_work, printed_count, first_left, set_size, first_smallest, id_count, own_ids, style_ids, ranked, answer_of, value_work, sort_work, near, few, each_far, named, named_sets, link_sets, with_far, with_typ, with_near, is_among, first_times, link_order, set_order}
