use Rattle.std.proofs.Common.{◌≡◌, get_or, ◌∙◌, ap}
use Rattle.gd_journal.proofs.Told.{content_of, gate_open}
use Rattle.gd_journal.proofs.Gates.{counts_if}
use Rattle.gd_journal.proofs.Settles.{shut_there, shut_leaves}
use Rattle.gd_journal.proofs.record.settle_record.Goals as goal

pub returns-then-branch-clause-settled : goal.returns-then-branch-clause-settled
returns-then-branch-clause-settled g c = λ v ps p s f now.
    let d = g.D.Disk in
    let u = c.is_open.ensures.untouched in
    let f0 = content_of (d.content c.args.disk.now) s.told in
    let told = u.same ∙ f0.1 in
    let same : f ≡ f0.0 = c.in_ok-is_open.ensures.only f0.0 told f now in
    let one : get_or f0.0 c.args.gate 0 ≡ 1 = gate_open _ _ (c.in_ok-is_open.ensures.value f0.0 told) c.if-branch.true in
    counts_if v ps p f c.args.gate s.place (ap (λ l. get_or l c.args.gate 0) same ∙ one) (s.left f (u.now f now))

pub returns-in_err-clear-clause-doubtful : goal.returns-in_err-clear-clause-doubtful
returns-in_err-clear-clause-doubtful g c = λ v ps p s.
    let d = g.D.Disk in
    let e = c.in_ok-is_open.ensures in
    shut_leaves c.args.disk.now c.is_open.new.disk c.clear.new.disk c.args.gate _ v ps p (g.met.D.Disk.only_now c.args.disk.now) c.is_open.ensures.untouched e.only e.value c.if-branch.false (c.clear.ensures.closed v) s

pub returns-clause-doubtful : goal.returns-clause-doubtful
returns-clause-doubtful g c = λ v ps p s.
    let d = g.D.Disk in
    let e = c.in_ok-is_open.ensures in
    shut_leaves c.args.disk.now c.is_open.new.disk c.clear.new.disk c.args.gate _ v ps p (g.met.D.Disk.only_now c.args.disk.now) c.is_open.ensures.untouched e.only e.value c.if-branch.false (c.clear.ensures.closed v) s

pub returns-clause-settled : goal.returns-clause-settled
returns-clause-settled g c = λ v ps p s.
    let d = g.D.Disk in
    let e = c.in_ok-is_open.ensures in
    c.in_ok-clear.ensures.rests v ps (shut_there c.args.disk.now c.is_open.new.disk c.args.gate _ v ps p c.is_open.ensures.untouched e.only e.value c.if-branch.false s)
