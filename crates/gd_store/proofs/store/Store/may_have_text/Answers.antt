use Rattle.std.proofs.Common.{◌≡◌, ◌∙◌, List, false, subst, sym, ap}
use Rattle.std.specs.List.{list_any}
use Rattle.gd_prim.specs.declared.Primitive.{Primitive}
use Rattle.gd_prim.specs.History.{prims_of}
use Rattle.gd_prim.specs.Live.{is_text}
use Rattle.gd_store.proofs.Stored.{all_of_batches}
use Rattle.gd_store.proofs.store.Store.may_have_text.Goals as goal

pub returns-clause-none : goal.returns-clause-none
returns-clause-none c long =
    subst (λ (prims : List Primitive). list_any (λ p. is_text c.args.text.now p.value) prims ≡ false)
    (sym (all_of_batches c.self.inside.prims c.self.inside.requests.items c.self.inside.text c.self.invariant) ∙ ap prims_of c.self.view_is)
    (c.may_have_text.ensures.none long)
