-- The laws of the crates below that crates above name from here, so that they name those crates no more.
pub use Rattle.gd_match_laws.proofs.Laws.{runs_give}
pub use Rattle.gd_match_laws.proofs.Links.{links_once, links_found, links_rise}
pub use Rattle.gd_match_laws.proofs.PassedOn.{place_there, there_place, planned, keeps_all, Each-take, offered_is, heavy_is, known_after, answers_first, owed_first, any_map, both_true, true_both, passes_there, orders_have_all, answer_known, among_in, picks, in_among, Each-both, is_object_in, picked, refers_is, any_in, in_any}
pub use Rattle.gd_template_laws.proofs.Literals.{literal-passes}
pub use Rattle.gd_template_laws.proofs.Places.{any-same}
pub use Rattle.gd_template_laws.proofs.Results.{answer-passes}
