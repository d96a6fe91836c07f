use Rattle.std.proofs.Common.{ap, sym, ◌∙◌, subst, List, ℕ}
use Rattle.gd_postings.specs.Postings.{IsAbove}
use Rattle.gd_keys.specs.Keys.{KeysValue, key_list, object_list}
use Rattle.gd_keys.proofs.keys.Keys.add_with_key.Goals as goal

pub enter-requires-clause-above : goal.enter-requires-clause-above
enter-requires-clause-above c = λ n is.
    subst (λ (ids : List ℕ). IsAbove ids c.args.id) (ap (λ (v : KeysValue). (key_list v n c.args.key.now).ids) (sym c.self.view_is) ∙ sym (c.make_room.ensures.same n c.args.key.now))
    (c.requires.above_keys n is)

pub enter-requires-2-clause-above : goal.enter-requires-2-clause-above
enter-requires-2-clause-above c = λ o is.
    subst (λ (ids : List ℕ). IsAbove ids c.args.id) (ap (λ (v : KeysValue). (object_list v o).ids) (sym c.self.view_is) ∙ sym (c.make_room-2.ensures.same o))
    (c.requires.above_objects o is)
