use Rattle.std.proofs.Common.{length}
use Rattle.gd_prim.specs.End.{end_of}
use Rattle.gd_prim.specs.History.{prims_at}
use Rattle.gd_prim.specs.Live.{refers}
use Rattle.gd_store.proofs.Stored.{front_is}
use Rattle.gd_store.proofs.Within.{within_all, front_kth}
use Rattle.gd_store.proofs.store.Store.link_at.Goals as goal

pub link_at-requires : goal.link_at-requires
link_at-requires g c =
    within_all (λ p. refers (end_of c.args.end p) c.args.node) (length (prims_at c.args.self.now c.args.dateline)) c.self.inside.prims (prims_at c.args.self.now c.args.dateline) c.args.k
    (front_is c.self.inside.prims c.self.inside.requests.items c.self.inside.text c.args.self.now c.args.dateline c.self.invariant c.self.view_is)
    c.requires.within

pub returns-clause-place : goal.returns-clause-place
returns-clause-place g c =
    front_kth (λ p. refers (end_of c.args.end p) c.args.node) (length (prims_at c.args.self.now c.args.dateline)) c.self.inside.prims (prims_at c.args.self.now c.args.dateline) c.args.k c.link_at.result
    (front_is c.self.inside.prims c.self.inside.requests.items c.self.inside.text c.args.self.now c.args.dateline c.self.invariant c.self.view_is)
    c.requires.within c.link_at.ensures.place
