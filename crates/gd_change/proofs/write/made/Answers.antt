use Rattle.std.proofs.Common.{subst, List}
use Rattle.gd_prim.specs.declared.Primitive.{Primitive}
use Rattle.gd_carry.specs.PassedOn.{write_view}
use Rattle.gd_carry.specs.Exec.{written}
use Rattle.gd_change.specs.Fault.{GivesChange}
use Rattle.gd_change.proofs.Evaluated.{all_viewed}
use Rattle.gd_change.proofs.write.made.Goals as goal

pub returns-clause-made : goal.returns-clause-made
returns-clause-made c =
    let same = all_viewed c.args.store.now c.view-view.result c.requests.result c.view-view.ensures c.requests.ensures.count in
    subst (λ (prims : List Primitive). GivesChange (written prims (write_view c.args.request.now) c.args.moment) c.written.result) same c.written.ensures
