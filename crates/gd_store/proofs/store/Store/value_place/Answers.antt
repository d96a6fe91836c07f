use Rattle.std.proofs.Common.{length}
use Rattle.gd_prim.specs.History.{prims_at}
use Rattle.gd_store.proofs.Stored.{front_is}
use Rattle.gd_store.proofs.Valued.{number_all, number_kth}
use Rattle.gd_store.proofs.store.Store.value_place.Goals as goal

pub value_place-requires : goal.value_place-requires
value_place-requires g c =
    number_all c.self.inside.prims (prims_at c.args.self.now c.args.dateline) (length (prims_at c.args.self.now c.args.dateline)) c.args.number c.args.k
    (front_is c.self.inside.prims c.self.inside.requests.items c.self.inside.text c.args.self.now c.args.dateline c.self.invariant c.self.view_is)
    c.requires.within

pub returns-clause-place : goal.returns-clause-place
returns-clause-place g c =
    number_kth c.self.inside.prims (prims_at c.args.self.now c.args.dateline) (length (prims_at c.args.self.now c.args.dateline)) c.args.number c.args.k c.value_place.result
    (front_is c.self.inside.prims c.self.inside.requests.items c.self.inside.text c.args.self.now c.args.dateline c.self.invariant c.self.view_is)
    c.requires.within c.value_place.ensures.place
