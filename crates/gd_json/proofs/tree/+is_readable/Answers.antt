use Rattle.std.proofs.Common.{sym, ap, ◌∙◌}
use Rattle.std.specs.Prelude.{is_some}
use Rattle.json.specs.Value.{value_view, items_view as values_view, members_view as map_view}
use Rattle.json.proofs.Trees.{view-Array, view-Object}
use Rattle.serde_json.specs.Read.{of_json}
use Rattle.gd_json.proofs.Readings.{array_read, object_read}
use Rattle.gd_json.proofs.tree.+is_readable.Goals as goal

pub is_readable-returns-in-Array : goal.is_readable-returns-in-Array
is_readable-returns-in-Array t c =
    c.are_readable.ensures ∙ sym (ap (λ v. is_some (of_json (value_view v))) c.in-Array.is ∙ ap (λ j. is_some (of_json j)) (view-Array c.in-Array.items) ∙ array_read (values_view c.in-Array.items.items))

pub is_readable-returns-in-Object : goal.is_readable-returns-in-Object
is_readable-returns-in-Object t c =
    c.have_readings.ensures ∙ sym (ap (λ v. is_some (of_json (value_view v))) c.in-Object.is ∙ ap (λ j. is_some (of_json j)) (view-Object c.in-Object.members) ∙ object_read (map_view c.in-Object.members.items))
