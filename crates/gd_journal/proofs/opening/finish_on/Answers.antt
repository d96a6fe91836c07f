use Rattle.std.proofs.Common.{◌≡◌, sym, ◌∙◌}
use Rattle.gd_disk.specs.Runs.{untouched_none, untouched_call, untouched_then, leaves_join}
use Rattle.gd_journal.specs.Meaning.{told_by}
use Rattle.gd_journal.specs.Versions.{version_seen}
use Rattle.gd_journal.proofs.Told.{content_of}
use Rattle.gd_journal.proofs.Kept.{opened_standing, opened_then}
use Rattle.gd_journal.proofs.Runs.{open_untouched}
use Rattle.gd_journal.proofs.Ends.{sees_less, end_version}
use Rattle.gd_journal.proofs.opening.finish_on.Goals as goal

pub mend-requires-clause-seen : goal.mend-requires-clause-seen
mend-requires-clause-seen g c =
    let d = g.D.Disk in
    let s = c.reserve.ensures.stays in
    sees_less (d.content c.args.disk.now) (d.content c.reserve.new.self) (d.images c.args.disk.now) (d.images c.reserve.new.self) c.args.len (version_seen c.args.end.version) c.args.end.marked c.args.end.gate c.args.end.damaged s.content s.images c.requires.seen

pub returns-then-is_far-clause-tells : goal.returns-then-is_far-clause-tells
returns-then-is_far-clause-tells g c = λ f is.
    let d = g.D.Disk in
    let was = c.args.disk.now in
    open_untouched was was f (g.met.D.Disk.only_now was) (c.requires.seen f is).0 (untouched_none {content = d.content} was)

pub returns-in_err-reserve-clause-tells : goal.returns-in_err-reserve-clause-tells
returns-in_err-reserve-clause-tells g c = λ f is.
    let d = g.D.Disk in
    let was = c.args.disk.now in
    open_untouched was c.reserve.new.self f (g.met.D.Disk.only_now was) (c.requires.seen f is).0
    (untouched_call d.content d.moment d.images d.images_since was c.reserve.new.self (g.met.D.Disk.counts_now was) c.reserve.ensures.stays c.reserve.ensures.time)

pub returns-in_err-gate-clause-tells : goal.returns-in_err-gate-clause-tells
returns-in_err-gate-clause-tells g c = λ f is.
    let d = g.D.Disk in
    let was = c.args.disk.now in
    leaves_join was c.reserve.new.self c.mend.new.disk (λ b. told_by b ≡ told_by f)
    (open_untouched was c.reserve.new.self f (g.met.D.Disk.only_now was) (c.requires.seen f is).0
    (untouched_call d.content d.moment d.images d.images_since was c.reserve.new.self (g.met.D.Disk.counts_now was) c.reserve.ensures.stays c.reserve.ensures.time))
    (c.mend.ensures.tells f (c.reserve.ensures.stays.content ∙ is))

pub returns-clause-tells : goal.returns-clause-tells
returns-clause-tells g c = λ f is.
    let d = g.D.Disk in
    let was = c.args.disk.now in
    leaves_join was c.reserve.new.self c.mend.new.disk (λ b. told_by b ≡ told_by f)
    (open_untouched was c.reserve.new.self f (g.met.D.Disk.only_now was) (c.requires.seen f is).0
    (untouched_call d.content d.moment d.images d.images_since was c.reserve.new.self (g.met.D.Disk.counts_now was) c.reserve.ensures.stays c.reserve.ensures.time))
    (c.mend.ensures.tells f (c.reserve.ensures.stays.content ∙ is))

pub returns-clause-ends : goal.returns-clause-ends
returns-clause-ends g c = λ f is.
    let d = g.D.Disk in
    let was = c.args.disk.now in
    opened_then c.args.end.damaged f _ _ _
    (untouched_then
    (untouched_call d.content d.moment d.images d.images_since was c.reserve.new.self (g.met.D.Disk.counts_now was) c.reserve.ensures.stays c.reserve.ensures.time))
    (c.in_ok-gate.ensures.ends f (c.reserve.ensures.stays.content ∙ is))

pub returns-clause-keeps : goal.returns-clause-keeps
returns-clause-keeps g c = λ told.
    let d = g.D.Disk in
    let mid = c.reserve.new.self in
    let e = c.args.end in
    let f = content_of (d.content mid) (sym c.mend.ensures.told ∙ told) in
    let seen = c.requires.seen f.0 (sym c.reserve.ensures.stays.content ∙ f.1) in
    opened_standing e.damaged (d.content c.mend.new.disk) (d.images c.mend.new.disk) (version_seen e.version) _ f.0 _ (λ untouched b now. seen.0 b (c.reserve.ensures.stays.images b (untouched.now b now))) (end_version f.0 c.args.len (version_seen e.version) e.marked e.gate e.damaged seen.1) (c.in_ok-gate.ensures.ends f.0 f.1)
