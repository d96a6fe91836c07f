use Rattle.std.proofs.Common.{◌∙◌, List, ap, length, subst, take}
use Rattle.gd_prim.specs.declared.Primitive.{Primitive}
use Rattle.gd_prim.specs.History.{prims_of}
use Rattle.gd_prim.specs.End.{places_with}
use Rattle.gd_store.specs.Lefts.{LeftsRise}
use Rattle.gd_store.proofs.History.{front_of_all}
use Rattle.gd_store.proofs.view.View.lefts_rise.Goals as goal

pub returns : goal.returns
returns c rises =
    subst (λ (prims : List Primitive). LeftsRise prims (places_with c.args.end c.args.node prims))
    (front_of_all c.self.inside.store.now c.self.inside.dateline ∙ ap prims_of c.self.view_is)
    (c.lefts_rise.ensures rises (length (prims_of (take c.self.inside.dateline c.self.inside.store.now))))
