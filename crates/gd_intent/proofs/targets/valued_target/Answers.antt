use Rattle.std.proofs.Common.{◌∙◌, ap, subst, map, Bor, List, ℕ}
use Rattle.gd_prim.specs.History.{prims_of}
use Rattle.gd_defs.specs.Write.Parts as parts
use Rattle.gd_json.specs.View.{view as json_of}
use Rattle.gd_compile.specs.PassedOn.{expects_view}
use Rattle.gd_growing.specs.Seen.{target_view}
use Rattle.gd_compile.specs.Fault.{Finds}
use Rattle.gd_intent.proofs.targets.valued_target.Goals as goal

pub returns-clause-target : goal.returns-clause-target
returns-clause-target g c =
    let there = ap (λ (names : List (Bor (List ℕ))). map (λ (n : Bor (List ℕ)). n.now) names) c.deref.ensures.value ∙ c.in_ok-below.ensures in
    subst (λ (p : List (List ℕ)). Finds target_view (parts.new_target (prims_of c.args.view.now) p (expects_view c.args.expects) (json_of c.args.json.now)) c.new_target.result) there c.new_target.ensures.target
