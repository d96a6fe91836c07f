use Rattle.std.proofs.Common.{◌∷◌, ◌++◌, [], List, map, refl, sym, subst, ap, ◌∙◌}
use Rattle.gd_mql.specs.Requests.{write_view}
use Rattle.gd_writer.specs.declared.outcome.WriteOf.{WriteOf}
use Rattle.gd_writer.specs.Outcomes.{told_view}
use Rattle.gd_writer.specs.Side.{IsSide}
use Rattle.gd_writer.proofs.Going.{goes_nothing}
use Rattle.gd_writer.proofs.Written.{writes_by, goes_by, goes_still, keeps_by}
use Rattle.gd_writer.proofs.side.WriteSide.write.Goals as goal

pub invariant_of-self : goal.invariant_of-self
invariant_of-self g c =
    let s = c.self.inside in
    subst (IsSide g.C.Clock.may s.desk.ledger s.desk.copies s.desk.clock) (sym c.reserve.ensures.items) c.self.invariant

pub returns-in_err-reserve-clause-goes : goal.returns-in_err-reserve-clause-goes
returns-in_err-reserve-clause-goes g c =
    let d = g.D.Disk in
    let s = c.self.inside in
    goes_still d.content d.moment d.images d.images_since d.faults g.C.Clock.may s.desk.ledger s.desk.copies s.desk.clock (map told_view s.outcomes.items) (map told_view c.reserve.new.self.items) c.args.self.now c.self.view_is
    (goes_nothing d.content d.moment d.images d.images_since d.faults g.C.Clock.may g.met.D.Disk.only_now c.args.self.now c.stored-stored.ensures.keeps)

pub returns-clause-ok : goal.returns-clause-ok
returns-clause-ok g c =
    let d = g.D.Disk in
    let s = c.self.inside in
    let new = c.write-outcome.new.self in
    let o : WriteOf = record { line = c.args.line; outcome = c.write-outcome.result } in
    writes_by d.content d.moment d.images d.images_since d.faults g.C.Clock.may s.desk.ledger s.desk.copies s.desk.clock s.outcomes.items c.args.line c.args.bytes (write_view c.args.request.now)
    new.ledger new.copies new.clock o c.push.new.self.items (c.push.ensures.items ∙ ap (λ (xs : List WriteOf). xs ++ o ∷ []) c.reserve.ensures.items) refl c.write-outcome.ensures.carries c.args.self.now c.self.view_is

pub returns-clause-goes : goal.returns-clause-goes
returns-clause-goes g c =
    let d = g.D.Disk in
    let s = c.self.inside in
    let new = c.write-outcome.new.self in
    let o : WriteOf = record { line = c.args.line; outcome = c.write-outcome.result } in
    goes_by d.content d.moment d.images d.images_since d.faults g.C.Clock.may s.desk.ledger s.desk.copies s.desk.clock s.outcomes.items c.args.line c.args.bytes (write_view c.args.request.now)
    new.ledger new.copies new.clock o c.push.new.self.items (c.push.ensures.items ∙ ap (λ (xs : List WriteOf). xs ++ o ∷ []) c.reserve.ensures.items) refl c.write-outcome.ensures.carries c.args.self.now c.self.view_is

pub invariant_of-self-2 : goal.invariant_of-self-2
invariant_of-self-2 g c =
    let d = g.D.Disk in
    let s = c.self.inside in
    let new = c.write-outcome.new.self in
    let o : WriteOf = record { line = c.args.line; outcome = c.write-outcome.result } in
    keeps_by d.content d.moment d.images d.images_since d.faults g.C.Clock.may s.desk.ledger s.desk.copies s.desk.clock s.outcomes.items c.args.line c.args.bytes (write_view c.args.request.now)
    new.ledger new.copies new.clock o c.push.new.self.items (c.push.ensures.items ∙ ap (λ (xs : List WriteOf). xs ++ o ∷ []) c.reserve.ensures.items) refl c.write-outcome.ensures.carries c.args.self.now c.self.view_is
    c.self.invariant c.requires.left c.requires.fresh c.write-outcome.ensures.aligned
