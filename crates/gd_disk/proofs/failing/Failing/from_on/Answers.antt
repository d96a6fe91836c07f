use Rattle.std.proofs.Common.{◌≡◌, ◌++◌, List, ℕ, sym, ◌∙◌, ap, subst, Contains, Some, ◌↔◌, ◌≤◌}
use Rattle.std.proofs.lemmas.List.{append-nil}
use Rattle.gd_disk.specs.Recorded.{from_on}
use Rattle.gd_disk.proofs.Stops.{from_on_has}
use Rattle.gd_disk.proofs.failing.Failing.from_on.Goals as goal

pub returns : goal.returns
returns c =
    let list : from_on (Some c.args.after) ++ c.new.result.items ≡ from_on (Some c.args.after) = ap (λ (l : List ℕ). from_on (Some c.args.after) ++ l) c.new.ensures.items ∙ append-nil (from_on (Some c.args.after)) in
    λ n less. subst (λ (l : List ℕ). Contains l n ↔ c.args.after ≤ n) (sym list) (from_on_has c.args.after n less)
