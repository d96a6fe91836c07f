use Rattle.std.proofs.Common.{ap, sym, ◌∙◌, subst, List, ℕ}
use Rattle.gd_postings.specs.Postings.{IsAbove}
use Rattle.gd_keys.specs.Keys.{KeysValue, object_list}
use Rattle.gd_keys.proofs.keys.Keys.add_to_object.Goals as goal

pub enter-requires-clause-above : goal.enter-requires-clause-above
enter-requires-clause-above c = λ o is.
    subst (λ (ids : List ℕ). IsAbove ids c.args.id) (ap (λ (v : KeysValue). (object_list v o).ids) (sym c.self.view_is) ∙ sym (c.make_room.ensures.same o))
    (c.requires.above o is)
