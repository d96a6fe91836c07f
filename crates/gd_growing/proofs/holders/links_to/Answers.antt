use Rattle.std.proofs.Common.{ℕ, List, sym, subst}
use Rattle.gd_prim.specs.End.{places_with}
use Rattle.gd_prim.specs.History.{prims_of}
use Rattle.gd_growing.specs.Facts.{Holds}
use Rattle.gd_growing.specs.Scan.{far_side}
use Rattle.gd_growing.specs.Seen.{target_view}
use Rattle.gd_growing.specs.declared.target.Target.{Target as Given}
use Rattle.gd_growing.proofs.Held.{of_object, of_property}
use Rattle.gd_growing.proofs.holders.links_to.Goals as goal

pub returns-in-Object : goal.returns-in-Object
returns-in-Object c =
    let s = c.args.growing.now in
    let p = c.args.property.now in
    subst (λ (links : List ℕ). Holds s p (target_view c.args.target.now) links) (sym c.object_links.ensures)
    (subst (λ (t : Given). Holds s p (target_view t) (places_with (far_side p) c.in-Object.object (prims_of s.batches))) (sym c.in-Object.is) (of_object s p c.in-Object.object c.requires.objects))

pub returns-in-Value : goal.returns-in-Value
returns-in-Value c =
    let s = c.args.growing.now in
    let p = c.args.property.now in
    subst (λ (links : List ℕ). Holds s p (target_view c.args.target.now) links) (sym c.property_links.ensures) (of_property s p (target_view c.args.target.now))
