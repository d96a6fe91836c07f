use Rattle.std.proofs.Common.{◌-◌, drop, length, sym, ◌∙◌, ap, subst, arith}
use Rattle.gd_journal.specs.Heads.{HeadIs, Fits}
use Rattle.gd_journal.specs.Shape.{IsRecord}
use Rattle.gd_journal.proofs.Found.{payload_read}
use Rattle.gd_journal.proofs.reading.Records.next.Goals as goal

pub overflow_add-at : goal.overflow_add-at
overflow_add-at g c =
    let fits = subst (Fits (c.args.self.now.window.len - c.args.self.now.at)) c.in-Record.is c.in_ok-head_at.ensures.fits in
    omega (arith, fits.0, c.requires.ready.near)

pub overflow_add-self-in-Record : goal.overflow_add-self-in-Record
overflow_add-self-in-Record g c =
    let fits = subst (Fits (c.args.self.now.window.len - c.args.self.now.at)) c.in-Record.is c.in_ok-head_at.ensures.fits in
    omega (arith, fits.0, c.from.ensures, c.requires.ready.near)

pub returns-in_ok-bytes-in-Record-clause-comes : goal.returns-in_ok-bytes-in-Record-clause-comes
returns-in_ok-bytes-in-Record-clause-comes g c = λ f is.
    let at = c.args.self.now.at in
    let there = subst (HeadIs (drop at f)) c.in-Record.is (c.in_ok-head_at.ensures.head f is) in
    let bytes = c.in_ok-bytes-in-Record.ensures.bytes f (c.head_at.ensures.untouched.same ∙ is) ∙ payload_read f there.0 at c.in-Record.size there.1 there.2 in
    (subst (IsRecord (drop at f)) (sym bytes) there.2, omega (arith, c.from.ensures, ap length bytes, there.1))
