use Rattle.std.proofs.Common.{◌≡◌, ℕ, List, [], ◌++◌, take, ap, ◌∙◌}
use Rattle.gd_prim.specs.declared.Batch.{Batch}
use Rattle.gd_prim.specs.History.{prims_of}
use Rattle.gd_growing.specs.State.{so_far}
use Rattle.gd_intent.proofs.Before.{all_before}
use Rattle.gd_intent.proofs.facts.holds.Goals as goal

pub returns : goal.returns
returns c =
    let all : so_far c.new-before.result ≡ prims_of c.args.view.now = ap so_far c.new-before.ensures
    ∙ (ap (λ (bs : List Batch). prims_of bs ++ []) (c.earlier.ensures ∙ ap (λ (n : ℕ). take n c.args.view.now) c.dateline.ensures.dateline) ∙ all_before c.args.view.now) in
    cc
