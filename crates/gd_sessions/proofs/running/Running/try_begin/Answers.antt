use Rattle.std.proofs.Common.{◌<◌, length, subst, arith, IfOk}
use Rattle.std.specs.Prelude.{set}
use Rattle.gd_mql.specs.Requests.{read_set_view}
use Rattle.gd_runs.specs.Core.{BeginStep}
use Rattle.gd_sessions.specs.Running.{RunningValue, core_state}
use Rattle.gd_sessions.proofs.Ran.{begins_ok}
use Rattle.std.proofs.Common.{OnErr}
use Rattle.gd_runs.specs.Core as core
use Rattle.gd_replay_laws.specs.Paced.{AreWithin}
use Rattle.gd_sessions.specs.Running.{left_now, KeepsPace}
use Rattle.gd_sessions.proofs.Paced.{begins_paced, begins_left}
use Rattle.gd_sessions.proofs.running.Running.try_begin.Goals as goal

pub returns-clause-step : goal.returns-clause-step
returns-clause-step g c =
    let hs = c.self.inside.held.items in
    let lt : c.args.sid < length hs = let many = c.self.invariant.many in let small = c.requires.sid in omega (arith, many, small) in
    subst (λ (r : RunningValue _ _). IfOk c.begin.result (λ reply. BeginStep (core_state r) c.args.line c.args.sid (read_set_view c.args.request) reply.items (core_state (record { side = c.self.inside.side; held = set hs c.args.sid c.begin.new.self })))) c.self.view_is
    (begins_ok c.self.inside.side hs c.args.sid c.index_mut-held.result.now c.begin.new.self lt c.index_mut-held.ensures.value c.store.result.now c.shown_of-shown.result c.args.line (read_set_view c.args.request) c.begin.result
    c.store.ensures c.shown_of-shown.ensures.count c.begin.ensures.begins)

pub returns-clause-paced : goal.returns-clause-paced
returns-clause-paced g c =
    let hs = c.self.inside.held.items in
    let lt : c.args.sid < length hs = let many = c.self.invariant.many in let small = c.requires.sid in omega (arith, many, small) in
    subst (λ (r : RunningValue _ _). IfOk c.begin.result (λ reply. KeepsPace c.args.line (core.begin c.args.sid (read_set_view c.args.request)) reply.items r (record { side = c.self.inside.side; held = set hs c.args.sid c.begin.new.self }))) c.self.view_is
    (begins_paced c.self.inside.side hs c.args.sid c.index_mut-held.result.now c.begin.new.self lt c.index_mut-held.ensures.value c.store.result.now c.args.line (read_set_view c.args.request) c.begin.result c.store.ensures
    (begins_ok c.self.inside.side hs c.args.sid c.index_mut-held.result.now c.begin.new.self lt c.index_mut-held.ensures.value c.store.result.now c.shown_of-shown.result c.args.line (read_set_view c.args.request) c.begin.result
    c.store.ensures c.shown_of-shown.ensures.count c.begin.ensures.begins) c.begin.ensures.first)

pub returns-clause-left : goal.returns-clause-left
returns-clause-left g c =
    let hs = c.self.inside.held.items in
    let lt : c.args.sid < length hs = let many = c.self.invariant.many in let small = c.requires.sid in omega (arith, many, small) in
    subst (λ (r : RunningValue _ _). OnErr c.begin.result (AreWithin (left_now (record { side = c.self.inside.side; held = set hs c.args.sid c.begin.new.self })) (left_now r))) c.self.view_is
    (begins_left c.self.inside.side hs c.args.sid c.index_mut-held.result.now c.begin.new.self lt c.index_mut-held.ensures.value c.begin.result c.begin.ensures.err)
