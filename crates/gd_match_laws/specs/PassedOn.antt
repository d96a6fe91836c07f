-- The definitions of the crates below that crates above name from here, so that they name those crates no more.
pub use Rattle.gd_scan_laws.specs.Ordered.{start, scanned}
pub use Rattle.gd_scan_laws.specs.PassedOn.{In, Apart, Each, AreHeld, RootSet, everything, named_places, links_of, set_places, root_sets, distinct, sets_by_name, sets_by_link, work, set_work, query_work, printed_count, first_left, set_size, first_smallest, id_count, own_ids, style_ids, Ranked, ranked, answer_of, cut, value_work, sort_work, near, few, each_far, named, named_sets, link_sets, with_far, with_typ, with_near, ScanOrder, is_among, first_times, link_order, set_order}
pub use Rattle.gd_scan_laws.specs.Planned.{Planned}
