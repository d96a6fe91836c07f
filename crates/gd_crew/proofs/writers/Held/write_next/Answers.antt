use Rattle.std.proofs.Common.{sym, subst}
use Rattle.std.specs.Prelude.{IfSome}
use Rattle.gd_runs.specs.Side.{IsLeft}
use Rattle.gd_core_laws.specs.Lock.{HasOutcome}
use Rattle.gd_mql.specs.Requests.{write_view}
use Rattle.gd_writer.specs.Side.{SideValue}
use Rattle.gd_crew.proofs.Rounds.{is_fresh, wrote}
use Rattle.gd_crew.proofs.writers.Held.write_next.Goals as goal

pub write-requires-clause-left : goal.write-requires-clause-left
write-requires-clause-left g c = subst (λ (s : SideValue _ _). IsLeft s.outcomes c.args.line) (sym c.self.view_is) c.requires.left

pub write-requires-clause-fresh : goal.write-requires-clause-fresh
write-requires-clause-fresh g c =
    let d = g.D.Disk in
    is_fresh d.content d.moment d.images d.images_since d.faults g.C.Clock.may g.L.Round.named c.self.inside.side c.self.invariant c.args.line c.args.bytes c.args.before (write_view c.args.request.now) c.requires.of_round
    (subst (λ (s : SideValue _ _). IsLeft s.outcomes c.args.line) (sym c.self.view_is) c.requires.left)

pub invariant_of-self-2 : goal.invariant_of-self-2
invariant_of-self-2 g c =
    let keeps = c.stored-stored.ensures.keeps in
    let d = g.D.Disk in
    wrote d.content d.moment d.images d.images_since d.faults g.C.Clock.may g.L.Round.named c.self.inside.side c.self.invariant c.args.line c.args.bytes c.args.before (write_view c.args.request.now) c.requires.of_round
    (subst (λ (s : SideValue _ _). IsLeft s.outcomes c.args.line) (sym c.self.view_is) c.requires.left)
    c.write.new.self keeps.history keeps.shows (subst (λ (s : SideValue _ _). IfSome c.args.before (λ m. HasOutcome s.outcomes m)) (sym c.self.view_is) c.requires.next)
    c.write.ensures.goes c.in_ok-write.ensures.ok
