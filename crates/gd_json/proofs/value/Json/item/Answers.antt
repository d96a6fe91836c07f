use Rattle.std.proofs.Common.{sym, ◌∙◌, ap}
use Rattle.gd_tree.specs.Look.{item_of}
use Rattle.gd_json.specs.View.{view}
use Rattle.gd_json.proofs.Parts.{view-List, seen_at}
use Rattle.gd_json.proofs.value.Json.item.Goals as goal

pub returns-in-List : goal.returns-in-List
returns-in-List c =
    seen_at c.in-List.items.items c.args.index c.get.result (rw c.deref.ensures.value at c.get.ensures.lookup)
    ∙ sym (ap (λ j. item_of c.args.index (view j)) c.in-List.is ∙ ap (item_of c.args.index) (view-List c.in-List.items))
