-- The definitions of the crates below that crates above name from here, so that they name those crates no more.
pub use Rattle.gd_bytes.specs.Frozen.{scanning, Scan, IterAt, Frame, Walk, building, printing}
pub use Rattle.gd_runs.specs.Owed.{ScanOrder, candidate, weighs_too_much, Candidate, candidates_from, is_among, finished, left_weight, with_list, MembersOf, owed_by, scan_fits, tried, iter_fits, frames_fit, frame_lists_fit, stack_fits, lists_anew, grown, finished_lists, left_clauses, weight_behind, later_answers, later_weight}
pub use Rattle.gd_runs.specs.RootSets.{RootSet, everything, named_places, links_of, named, named_sets, link_sets, sets_by_name, sets_by_link, with_typ, with_far, first_smallest, set_size, distinct, set_places, root_sets}
pub use Rattle.gd_runs.specs.Scanned.{scan_order, first_times, link_order, set_order}
pub use Rattle.gd_runs.specs.Shape.{object_shape, page_shape, Printed, rows_shape, list_shape, walk_text, id_json, own_shape, plain_shape, each_shape, answers_shape}
pub use Rattle.gd_runs.specs.Shape.Answers.{Ranked, cut, ranked, answer_of}
pub use Rattle.gd_runs.specs.Shape.Ids.{id_count, own_ids, style_ids}
pub use Rattle.gd_runs.specs.Thawed.{body_answer, window, answering, built_trees, built_weight, row_candidates, page_of_rows, row_tried}
pub use Rattle.gd_runs.specs.Work.{work, set_work, query_work, printed_count, first_left, value_work, sort_work, near, few, each_far, with_near}
pub use Rattle.gd_template_laws.specs.Laws.{AreHeld}
