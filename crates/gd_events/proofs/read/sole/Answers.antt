use Rattle.std.proofs.Common.{ℕ, List, length, ◌==◌, sym, ap, ◌∙◌}
use Rattle.gd_tree.specs.Json as tree
use Rattle.gd_json.specs.View.{members_view}
use Rattle.gd_json.specs.declared.value.Json.{Json}
use Rattle.gd_events.specs.Parts.{sole_of}
use Rattle.gd_events.proofs.Named.{sole_more}
use Rattle.gd_events.proofs.read.sole.Goals as goal

pub returns : goal.returns
returns c =
    let bare = ap (λ (ms : List (List ℕ × Json)). length ms == 0) (sym c.as_slice.ensures.value) ∙ sym c.if-is_empty.ensures in
    sym (ap (λ (ms : List (List ℕ × Json)). sole_of (tree.object (members_view ms))) c.in_ok-last.ensures.items ∙ sole_more c.pop.new.self.items c.in_ok-last.last bare)
