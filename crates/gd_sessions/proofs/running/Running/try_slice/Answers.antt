use Rattle.std.proofs.Common.{◌≡◌, false, ◌<◌, ◌≤◌, ◌+◌, ◌^◌, List, length, subst, arith, IfOk}
use Rattle.std.specs.Prelude.{set}
use Rattle.gd_prim.specs.declared.Batch.{Batch}
use Rattle.gd_held.specs.PassedOn.{one_member}
use Rattle.gd_runs.specs.Core.{SliceStep}
use Rattle.gd_held.specs.Held.{reads, held_left}
use Rattle.gd_sessions.specs.Sessions.{holds_thawed}
use Rattle.gd_sessions.specs.Running.{RunningValue, core_state, IsSliced}
use Rattle.gd_sessions.proofs.Ran.{slices_ok, slices_err, run_sliced}
use Rattle.gd_runs.specs.Core as core
use Rattle.gd_replay_laws.specs.Paced.{AreWithin}
use Rattle.gd_sessions.specs.Running.{left_now, KeepsPace}
use Rattle.gd_sessions.proofs.Paced.{slices_paced, set_within}
use Rattle.gd_sessions.proofs.running.Running.try_slice.Goals as goal

pub returns-clause-step : goal.returns-clause-step
returns-clause-step g c =
    let hs = c.self.inside.held.items in
    let lt : c.args.sid < length hs = let many = c.self.invariant.many in let small = c.requires.sid in omega (arith, many, small) in
    subst (λ (r : RunningValue _ _). IfOk c.slice.result (λ reply. SliceStep one_member (core_state r) c.args.line c.args.sid reply.items (core_state (record { side = c.self.inside.side; held = set hs c.args.sid c.slice.new.self })))) c.self.view_is
    (slices_ok c.self.inside.side hs c.args.sid c.index_mut-held.result.now c.slice.new.self lt c.index_mut-held.ensures.value c.store.result.now c.shown_of-shown.result c.args.line c.slice.result
    c.store.ensures c.shown_of-shown.ensures.count c.slice.ensures.slices)

pub returns-clause-err : goal.returns-clause-err
returns-clause-err g c =
    let hs = c.self.inside.held.items in
    let lt : c.args.sid < length hs = let many = c.self.invariant.many in let small = c.requires.sid in omega (arith, many, small) in
    rw (← c.self.view_is)
    (slices_err c.self.inside.side hs c.args.sid c.index_mut-held.result.now c.slice.new.self lt c.index_mut-held.ensures.value c.shown_of-shown.result c.slice.result c.shown_of-shown.ensures.count c.slice.ensures.err)

pub returns-clause-sliced : goal.returns-clause-sliced
returns-clause-sliced g c =
    let hs = c.self.inside.held.items in
    let lt : c.args.sid < length hs = let many = c.self.invariant.many in let small = c.requires.sid in omega (arith, many, small) in
    let before = c.index_mut-held.result.now in
    let after = c.slice.new.self in
    subst (λ (r : RunningValue _ _). IsSliced c.args.sid c.args.budget r (record { side = c.self.inside.side; held = set hs c.args.sid after }) c.args.steps.now c.slice.new.steps) c.self.view_is
    (run_sliced c.self.inside.side hs c.args.sid before after lt c.index_mut-held.ensures.value c.args.budget c.args.steps.now c.slice.new.steps c.slice.ensures.reached c.slice.ensures.work
    (λ began n past. subst (λ (bs : List Batch). c.slice.new.steps + held_left n bs after.state ≤ c.args.steps.now + held_left n bs before.state) c.store.ensures (c.slice.ensures.less began n past)))

pub returns-clause-left : goal.returns-clause-left
returns-clause-left g c =
    let hs = c.self.inside.held.items in
    let lt : c.args.sid < length hs = let many = c.self.invariant.many in let small = c.requires.sid in omega (arith, many, small) in
    let before = c.index_mut-held.result.now in
    let after = c.slice.new.self in
    subst (λ (r : RunningValue _ _). AreWithin (left_now (record { side = c.self.inside.side; held = set hs c.args.sid after })) (left_now r)) c.self.view_is
    (set_within c.self.inside.side hs c.args.sid before after lt c.index_mut-held.ensures.value
    (subst (λ (bs : List Batch). held_left (2 ^ 32) bs after.state ≤ held_left (2 ^ 32) bs before.state) c.store.ensures (c.slice.ensures.fewer (2 ^ 32) (omega arith))))

pub returns-clause-paced : goal.returns-clause-paced
returns-clause-paced g c =
    let hs = c.self.inside.held.items in
    let lt : c.args.sid < length hs = let many = c.self.invariant.many in let small = c.requires.sid in omega (arith, many, small) in
    let before = c.index_mut-held.result.now in
    let after = c.slice.new.self in
    let fewer = subst (λ (bs : List Batch). held_left (2 ^ 32) bs after.state ≤ held_left (2 ^ 32) bs before.state) c.store.ensures (c.slice.ensures.fewer (2 ^ 32) (omega arith)) in
    let less : holds_thawed (reads before.state) ≡ false → _ = λ began. subst (λ (bs : List Batch). c.slice.new.steps + held_left (2 ^ 32) bs after.state ≤ c.args.steps.now + held_left (2 ^ 32) bs before.state) c.store.ensures (c.slice.ensures.less began (2 ^ 32) (omega arith)) in
    subst (λ (r : RunningValue _ _). IfOk c.slice.result (λ reply. c.args.steps.now ≡ 0 → KeepsPace c.args.line (core.slice c.args.sid c.args.budget) reply.items r (record { side = c.self.inside.side; held = set hs c.args.sid after }))) c.self.view_is
    (slices_paced c.self.inside.side hs c.args.sid before after lt c.index_mut-held.ensures.value c.args.line c.args.budget c.args.steps.now c.slice.new.steps c.slice.result c.requires.few
    (slices_ok c.self.inside.side hs c.args.sid before after lt c.index_mut-held.ensures.value c.store.result.now c.shown_of-shown.result c.args.line c.slice.result
    c.store.ensures c.shown_of-shown.ensures.count c.slice.ensures.slices)
    (set_within c.self.inside.side hs c.args.sid before after lt c.index_mut-held.ensures.value fewer) c.slice.ensures.reached less)
