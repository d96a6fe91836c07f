use Rattle.std.proofs.Common.{◌<◌, List, length, take, subst, arith}
use Rattle.gd_prim.specs.declared.Batch.{Batch}
use Rattle.gd_prim.specs.End.{end_of}
use Rattle.gd_prim.specs.History.{prims_of}
use Rattle.gd_prim.specs.Live.{refers}
use Rattle.gd_store.proofs.History.{past_seventy}
use Rattle.gd_store.proofs.Within.{place_within}
use Rattle.gd_store.proofs.view.View.list_at.Goals as goal

pub returns-clause-below : goal.returns-clause-below
returns-clause-below g c =
    let P : List Batch → Type 0 = λ bs. c.link_at.result < length (prims_of bs) in
    subst P c.self.view_is (place_within (λ p. refers (end_of c.args.end p) c.args.node) (prims_of (take c.self.inside.dateline c.self.inside.store.now)) c.args.k c.link_at.result c.link_at.ensures.place)

pub returns-clause-work : goal.returns-clause-work
returns-clause-work g c = omega (arith, c.link_at.ensures.work, past_seventy c.args.self.now)
