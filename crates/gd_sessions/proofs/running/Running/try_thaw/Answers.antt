use Rattle.std.proofs.Common.{◌<◌, ◌≤◌, ◌^◌, IfOk, List, length, subst, arith}
use Rattle.std.specs.Prelude.{set}
use Rattle.gd_prim.specs.declared.Batch.{Batch}
use Rattle.gd_mql.specs.Requests.{read_set_view}
use Rattle.gd_runs.specs.Core.{ThawStep}
use Rattle.gd_held.specs.PassedOn.{one_member}
use Rattle.gd_replay_laws.specs.Paced.{AreWithin}
use Rattle.gd_held.specs.Held.{held_left}
use Rattle.gd_sessions.specs.Running.{RunningValue, core_state, left_now}
use Rattle.gd_sessions.proofs.Ran.{thaws_ok}
use Rattle.gd_sessions.proofs.Paced.{set_within}
use Rattle.gd_sessions.proofs.running.Running.try_thaw.Goals as goal

pub returns-clause-step : goal.returns-clause-step
returns-clause-step g c =
    let hs = c.self.inside.held.items in
    let lt : c.args.sid < length hs = let many = c.self.invariant.many in let small = c.requires.sid in omega (arith, many, small) in
    subst (λ (r : RunningValue _ _). IfOk c.thaw.result (λ reply. ThawStep one_member (core_state r) c.args.line c.args.sid (read_set_view c.args.request) c.args.text.now reply.items (core_state (record { side = c.self.inside.side; held = set hs c.args.sid c.thaw.new.self })))) c.self.view_is
    (thaws_ok c.self.inside.side hs c.args.sid c.index_mut-held.result.now c.thaw.new.self lt c.index_mut-held.ensures.value c.store.result.now c.shown_of-shown.result c.args.line (read_set_view c.args.request) c.args.text.now c.thaw.result
    c.store.ensures c.shown_of-shown.ensures.count c.thaw.ensures.thaws)

pub returns-clause-left : goal.returns-clause-left
returns-clause-left g c =
    let hs = c.self.inside.held.items in
    let lt : c.args.sid < length hs = let many = c.self.invariant.many in let small = c.requires.sid in omega (arith, many, small) in
    let before = c.index_mut-held.result.now in
    let after = c.thaw.new.self in
    subst (λ (r : RunningValue _ _). AreWithin (left_now (record { side = c.self.inside.side; held = set hs c.args.sid after })) (left_now r)) c.self.view_is
    (set_within c.self.inside.side hs c.args.sid before after lt c.index_mut-held.ensures.value
    (subst (λ (bs : List Batch). held_left (2 ^ 32) bs after.state ≤ held_left (2 ^ 32) bs before.state) c.store.ensures (c.thaw.ensures.left (2 ^ 32))))
