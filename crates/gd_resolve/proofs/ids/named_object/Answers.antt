use Rattle.std.proofs.Common.{ℕ, List, ◌<◌, length, refl}
use Rattle.gd_prim.specs.History.{prims_of}
use Rattle.gd_defs.specs.Ids as defined
use Rattle.gd_resolve.proofs.Counted.{counted_later, counted_anyhow}
use Rattle.gd_resolve.proofs.ids.named_object.Goals as goal

pub returns-in-Some-clause-path_counted : goal.returns-in-Some-clause-path_counted
returns-in-Some-clause-path_counted g c = counted_anyhow (λ (keys : List (List ℕ)). 0 < length keys) (defined.id_keys c.args.text.now) c.args.steps.now c.guid_object.new.steps (c.in-Some.ensures.found refl)

pub returns-in-Some-2-clause-guid_counted : goal.returns-in-Some-2-clause-guid_counted
returns-in-Some-2-clause-guid_counted g c = counted_later (λ (place : ℕ). place < length (prims_of c.args.view.now)) (defined.guid_place c.args.text.now)
    c.args.steps.now c.guid_object.new.steps c.follow.new.steps c.guid_object.ensures.counted c.follow.ensures.later
