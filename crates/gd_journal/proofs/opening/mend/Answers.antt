use Rattle.std.proofs.Common.{◌≤◌, [], length, sym, ◌∙◌, ap, subst, arith}
use Rattle.std.specs.Option.{is_some}
use Rattle.gd_bytes.specs.File.{Version, second}
use Rattle.gd_disk.specs.Runs.{untouched_none}
use Rattle.gd_journal.specs.Shape.{IsClosed}
use Rattle.gd_journal.specs.State.{AtGate, IsOpened}
use Rattle.gd_journal.specs.Versions.{version_seen}
use Rattle.gd_journal.proofs.Means.{held_short, closed_stands}
use Rattle.gd_journal.proofs.Runs.{open_untouched, open_created, open_told}
use Rattle.gd_journal.proofs.Kept.{settle}
use Rattle.gd_journal.proofs.Heads.{closed_ends, fresh_place}
use Rattle.gd_journal.proofs.Ends.{end_closed, end_torn}
use Rattle.gd_journal.proofs.opening.mend.Goals as goal

pub create-requires-clause-short : goal.create-requires-clause-short
create-requires-clause-short g c = λ f is. let s = c.requires.seen f is in omega (arith, s.1.size)

pub close-requires-clause-reach : goal.close-requires-clause-reach
close-requires-clause-reach g c = λ f is. let s = c.requires.seen f is in omega (arith, s.1.size, s.1.within (omega arith))

pub close-requires-clause-near : goal.close-requires-clause-near
close-requires-clause-near g c = λ f is. let s = c.requires.seen f is in omega (arith, s.1.within (omega arith))

pub returns-in_err-create-clause-tells : goal.returns-in_err-create-clause-tells
returns-in_err-create-clause-tells g c = λ f is.
    let d = g.D.Disk in
    let s = c.requires.seen f is in
    let short : length f ≤ 9 = omega (arith, s.1.size) in
    open_created c.args.disk.now c.create.new.disk f short (c.create.ensures.short (λ e now. omega (arith, short, ap length (s.0 e now))))

pub returns-then-len-le-UNFINISHED-clause-tells : goal.returns-then-len-le-UNFINISHED-clause-tells
returns-then-len-le-UNFINISHED-clause-tells g c = λ f is.
    let d = g.D.Disk in
    let s = c.requires.seen f is in
    let short : length f ≤ 9 = omega (arith, s.1.size) in
    open_created c.args.disk.now c.create.new.disk f short (c.create.ensures.short (λ e now. omega (arith, short, ap length (s.0 e now))))

pub returns-then-len-le-UNFINISHED-clause-ends : goal.returns-then-len-le-UNFINISHED-clause-ends
returns-then-len-le-UNFINISHED-clause-ends g c = λ f is.
    let d = g.D.Disk in
    let s = c.requires.seen f is in
    let short : length f ≤ 9 = omega (arith, s.1.size) in
    let fresh = s.1.short (omega arith) in
    let after = c.create.new.disk in
    let there : IsOpened (d.content after) (d.images after) second c.args.end.gate f =
    ([], (held_short f short, λ long. absurd (omega (arith, short))), settle (d.content after) (d.images after) c.args.end.gate second [] tt (record { told = c.create.ensures.told ∙ ap is_some is; place = fresh.0 ∙ fresh_place; left = c.in_ok-create.ensures.rests f is })) in
    closed_ends c.args.end.damaged _ _ (ap is_some fresh.1) (subst (λ (v : Version). IsOpened (d.content after) (d.images after) v c.args.end.gate f) (sym fresh.2) there)

pub returns-then-is_some-clause-tells : goal.returns-then-is_some-clause-tells
returns-then-is_some-clause-tells g c = λ f is.
    let d = g.D.Disk in
    let was = c.args.disk.now in
    open_untouched was was f (g.met.D.Disk.only_now was) (c.requires.seen f is).0 (untouched_none {content = d.content} was)

pub returns-then-is_some-clause-ends : goal.returns-then-is_some-clause-ends
returns-then-is_some-clause-ends g c = λ f is.
    let e = c.args.end in
    end_torn f c.args.len (version_seen e.version) e.marked e.gate e.damaged _ _ (c.requires.seen f is).1 (omega arith) (sym c.is_some.ensures ∙ c.if-is_some.true) (untouched_none c.args.disk.now)

pub returns-in_err-gate-clause-tells : goal.returns-in_err-gate-clause-tells
returns-in_err-gate-clause-tells g c = λ f is.
    let d = g.D.Disk in
    let was = c.args.disk.now in
    let end = c.args.end in
    let v = version_seen end.version in
    let s = c.requires.seen f is in
    let none = sym c.is_some.ensures ∙ c.if-is_some.false in
    let e = end_closed f c.args.len v end.marked end.gate end.damaged s.1 (omega arith) none in
    let there : AtGate (d.content was) (d.images was) end.gate v e.0 (IsClosed v e.0) = record { told = ap is_some is; place = e.2; left = λ b now. subst (IsClosed v e.0) (sym (s.0 b now)) e.3 } in
    open_told was c.close.new.disk v e.0 f e.1 e.3 (c.close.ensures.tells v e.0 e.1 e.4 there)

pub returns-clause-tells : goal.returns-clause-tells
returns-clause-tells g c = λ f is.
    let d = g.D.Disk in
    let was = c.args.disk.now in
    let end = c.args.end in
    let v = version_seen end.version in
    let s = c.requires.seen f is in
    let none = sym c.is_some.ensures ∙ c.if-is_some.false in
    let e = end_closed f c.args.len v end.marked end.gate end.damaged s.1 (omega arith) none in
    let there : AtGate (d.content was) (d.images was) end.gate v e.0 (IsClosed v e.0) = record { told = ap is_some is; place = e.2; left = λ b now. subst (IsClosed v e.0) (sym (s.0 b now)) e.3 } in
    open_told was c.close.new.disk v e.0 f e.1 e.3 (c.close.ensures.tells v e.0 e.1 e.4 there)

pub returns-clause-ends : goal.returns-clause-ends
returns-clause-ends g c = λ f is.
    let d = g.D.Disk in
    let was = c.args.disk.now in
    let end = c.args.end in
    let v = version_seen end.version in
    let s = c.requires.seen f is in
    let none = sym c.is_some.ensures ∙ c.if-is_some.false in
    let e = end_closed f c.args.len v end.marked end.gate end.damaged s.1 (omega arith) none in
    let there : AtGate (d.content was) (d.images was) end.gate v e.0 (IsClosed v e.0) = record { told = ap is_some is; place = e.2; left = λ b now. subst (IsClosed v e.0) (sym (s.0 b now)) e.3 } in
    closed_ends end.damaged _ _ none (e.0, closed_stands v e.0 f e.1 e.3, c.in_ok-gate.ensures.settled v e.0 e.1 e.4 there)
