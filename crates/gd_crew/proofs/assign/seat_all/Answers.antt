use Rattle.std.proofs.Common.{List, subst, sym, ap}
use Rattle.std.specs.Prelude.{IfSome}
use Rattle.gd_prim.specs.declared.Batch.{Batch}
use Rattle.gd_cache.specs.Right.{KeepsRight}
use Rattle.std.specs.List.{All}
use Rattle.gd_shared.specs.History.{FrontValue}
use Rattle.gd_crew.specs.Ready.{IsIdle, IsManned}
use Rattle.gd_crew.proofs.assign.seat_all.Goals as goal

pub seat-requires-clause-idle : goal.seat-requires-clause-idle
seat-requires-clause-idle g c = subst (λ (f : FrontValue). All (IsIdle f.history) c.loop-sid.seats.items) (sym c.tell-shown.ensures) c.loop-sid.invariant.idle

pub seat-requires-clause-manned : goal.seat-requires-clause-manned
seat-requires-clause-manned g c = subst (λ (f : FrontValue). All (IsManned f.history c.args.works.now) c.loop-sid.hired.items) (sym c.tell-shown.ensures) c.loop-sid.invariant.manned

pub seat-requires-clause-right : goal.seat-requires-clause-right
seat-requires-clause-right g c = subst (λ (l : List Batch). IfSome c.cache_of-cache.result (λ k. KeepsRight l k.now)) (sym (ap (λ (f : FrontValue). f.list) c.tell-shown.ensures)) (c.cache_of-cache.ensures c.args.side.now.shown c.requires.right)
