use Rattle.std.proofs.Common.{◌≡◌, List, ap, sym, ◌∙◌, Some}
use Rattle.gd_prim.specs.declared.Batch.{Batch}
use Rattle.gd_prim.specs.History.{prims_of}
use Rattle.gd_store.specs.Valued.{number_in, places_of_number}
use Rattle.gd_growing.proofs.Held.{numbered, unnumbered}
use Rattle.gd_growing.proofs.holders.value_links.Goals as goal

pub returns-in-Some : goal.returns-in-Some
returns-in-Some c =
    let v = c.args.value.now in
    let number : number_in v (prims_of c.args.growing.now.batches) ≡ Some c.in-Some.number =
    sym (ap (λ (b : List Batch). number_in v (prims_of b)) c.below-below.ensures) ∙ sym c.in-Some.ensures.number in
    c.value_places.ensures.places ∙ ap (λ (b : List Batch). places_of_number c.in-Some.number (prims_of b)) c.below-below.ensures
    ∙ numbered v (prims_of c.args.growing.now.batches) c.in-Some.number number

pub returns-in-None : goal.returns-in-None
returns-in-None c =
    let v = c.args.value.now in
    unnumbered v (prims_of c.args.growing.now.batches)
    (sym (ap (λ (b : List Batch). number_in v (prims_of b)) c.below-below.ensures) ∙ sym c.in-None.ensures.number)
