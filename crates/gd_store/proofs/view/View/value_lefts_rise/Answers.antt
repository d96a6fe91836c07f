use Rattle.std.proofs.Common.{◌∙◌, List, ap, length, subst, take}
use Rattle.gd_prim.specs.declared.Primitive.{Primitive}
use Rattle.gd_prim.specs.History.{prims_of}
use Rattle.gd_store.specs.Valued.{places_of_number}
use Rattle.gd_store.specs.Lefts.{LeftsRise}
use Rattle.gd_store.proofs.History.{front_of_all}
use Rattle.gd_store.proofs.view.View.value_lefts_rise.Goals as goal

pub returns : goal.returns
returns c rises =
    subst (λ (prims : List Primitive). LeftsRise prims (places_of_number c.args.number prims))
    (front_of_all c.self.inside.store.now c.self.inside.dateline ∙ ap prims_of c.self.view_is)
    (c.value_lefts_rise.ensures rises (length (prims_of (take c.self.inside.dateline c.self.inside.store.now))))
