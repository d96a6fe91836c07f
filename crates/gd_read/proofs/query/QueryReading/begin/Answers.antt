use Rattle.std.proofs.Common.{subst, sym, Err, length, option_map, ◌≡◌, ◌≤◌}
use Rattle.gd_mql.specs.Requests.{cursor_view, read_view}
use Rattle.gd_read.specs.Begun.{asked_from, fault_at}
use Rattle.gd_read.proofs.Begun.{begins_err, begins_ok, cursor_bounded}
use Rattle.gd_frozen.specs.Meant.{meant}
use Rattle.gd_read.proofs.Paid.{first_paid}
use Rattle.gd_read.proofs.Starts.{starts_at, starts_none}
use Rattle.gd_read.proofs.query.QueryReading.begin.Goals as goal

pub begin_at-requires : goal.begin_at-requires
begin_at-requires g c = record { mark = cursor_bounded c.dateline-latest.result (cursor_view c.args.request.cursor) c.in-Ok.after c.in-Ok.ensures.given }

pub returns-in-Err-clause-begun : goal.returns-in-Err-clause-begun
returns-in-Err-clause-begun g c = λ wanted.
    begins_err c.args.view.now (length c.args.view.now) (read_view c.args.request) (fault_at (length c.args.view.now) c.in-Err.fault)
    (subst (λ n. asked_from n (cursor_view c.args.request.cursor) ≡ Err (fault_at n c.in-Err.fault)) c.dateline-latest.ensures.dateline (c.in-Err.ensures.given wanted))

pub returns-in-Ok-clause-begun : goal.returns-in-Ok-clause-begun
returns-in-Ok-clause-begun g c =
    begins_ok c.args.view.now c.earlier-below.result c.dateline-latest.result (read_view c.args.request) c.in-Ok.after c.begin_at.result c.dateline-latest.ensures.dateline c.in-Ok.ensures.given
    c.dateline_behind.result c.dateline_behind.ensures c.earlier-below.ensures (subst (λ n. n ≤ c.dateline-latest.result) (sym c.dateline_behind.ensures) c.in-Ok.ensures.below) c.begin_at.ensures.begun

pub returns-in-Ok-clause-first : goal.returns-in-Ok-clause-first
returns-in-Ok-clause-first g c =
    first_paid c.args.view.now c.earlier-below.result c.dateline_behind.result c.begin_at.result c.earlier-below.ensures
    (subst (λ n. c.dateline_behind.result ≤ n) c.dateline-latest.ensures.dateline (subst (λ n. n ≤ c.dateline-latest.result) (sym c.dateline_behind.ensures) c.in-Ok.ensures.below)) c.begin_at.ensures.going c.begin_at.ensures.paid

pub returns-in-Err-clause-work : goal.returns-in-Err-clause-work
returns-in-Err-clause-work g c = starts_none c.args.view.now (read_view c.args.request) c.args.steps.now

pub returns-in-Ok-clause-work : goal.returns-in-Ok-clause-work
returns-in-Ok-clause-work g c =
    starts_at c.args.view.now c.earlier-below.result c.dateline-latest.result c.dateline_behind.result (read_view c.args.request) (option_map meant c.in-Ok.after) c.args.steps.now c.begin_at.new.steps
    c.dateline-latest.ensures.dateline c.in-Ok.ensures.given c.dateline_behind.ensures c.earlier-below.ensures c.begin_at.ensures.work
