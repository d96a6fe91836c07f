use Rattle.std.proofs.Common.{◌≡◌, drop, is_some}
use Rattle.gd_json.specs.View.{items_view}
use Rattle.gd_defs.specs.Query.Directive.{sort_words}
use Rattle.gd_mql.proofs.directive.are_sort_words.Given as goal

abbrev pub invariant-loop-item : goal.invariant-loop-item
invariant-loop-item l = is_some (sort_words (items_view l.items)) ≡ is_some (sort_words (items_view (drop l.item-index l.items)))
