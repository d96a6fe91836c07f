-- The sort keys of an object stand where its tree tells.
use Rattle.std.proofs.Common.{ap, ◌∙◌}
use Rattle.gd_match_laws.proofs.PassedOn.{query-asked, held-typed, sort_lists-behind, key_places-are}
use Rattle.gd_runs.specs.Shape.Answers.{key_places}
use Rattle.gd_suspended_laws.specs.Laws.{TreesTellKeys}

pub trees_tell_keys : TreesTellKeys
trees_tell_keys prims written q o held asked = ap (key_places q.sort o) (sort_lists-behind prims q.members q.sort o) ∙ key_places-are prims (held-typed prims held) q.sort (query-asked prims written q asked).1 o
