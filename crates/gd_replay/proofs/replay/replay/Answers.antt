use Rattle.std.proofs.Common.{◌≡◌, ◌∙◌, ℕ, ◌+◌, List, Bool, Option, IfSome, refl, sym, ap, subst, arith, append-nil, IsTrue}
use Rattle.std.specs.Option.{is_some}
use Rattle.gd_base.specs.Counts.{Rose, RoseBy}
use Rattle.gd_prim.specs.declared.Batch.{Batch}
use Rattle.gd_runs.specs.Legal.{batches}
use Rattle.gd_runs.specs.Core.{State}
use Rattle.gd_sessions.specs.PassedOn.{Tells}
use Rattle.gd_replay_laws.proofs.Faults.{rose_within}
use Rattle.gd_replay.specs.Kept.{HasBatches}
use Rattle.gd_replay.specs.Stops.{Leaves, end_faults, RoseWith, EndsAs}
use Rattle.gd_replay.specs.Replays.{Loads, Replays, ReplaysTaken, ReplaysFront}
use Rattle.gd_replay.proofs.Known.{sent_ends, sent_faults, sent_begun, sent_at_end, sent_on, sent_causes, wider_ends, unopened_ends}
use Rattle.gd_replay.proofs.Kept.{keeps_more, sent_keeps}
use Rattle.gd_replay.proofs.Outcomes.{on_err_more}
use Rattle.gd_replay.proofs.Taken.{rose_since}
use Rattle.gd_replay.proofs.replay.replay.Goals as goal

pub returns-in-Ok-clause-ends : goal.returns-in-Ok-clause-ends
returns-in-Ok-clause-ends g c =
    let running = c.in-Ok.running in
    let begins = c.in-Ok.ensures.begins in
    let content = g.D.Disk.content c.args.disk in
    let leaves = λ (t : State). Tells content → Leaves (g.D.Disk.images c.replay_lines-end.result.1) t in
    let old = g.K.Sink.held c.args.sink.now in
    let mid = g.K.Sink.held c.replay_lines-end.new.sink in
    let new = g.K.Sink.held c.flush-sent.new.self in
    let x = g.S.Source.left c.args.source.now in
    let before = g.D.Disk.faults c.args.disk in
    let opened = g.D.Disk.faults running.side.log.disk in
    let after = g.D.Disk.faults c.replay_lines-end.result.1 in
    let idle : Type 0 = (c.replay_lines-end.new.source ≡ c.args.source.now) × (c.flush-sent.new.self ≡ c.args.sink.now) in
    let end = c.replay_lines-end.result.0 in
    let same = sent_faults end c.flush-sent.result c.sent_on.result c.sent_on.ensures in
    let rises = RoseWith before after c.sent_on.result in
    let loads = λ (l : List Batch). l ≡ running.side.history.loaded in
    let may = g.C.Clock.may running.side.clock in
    let inner = subst (λ (b : Bool). EndsAs end (IfSome x (Replays b may loads (λ t. IsTrue b → Leaves (g.D.Disk.images c.replay_lines-end.result.1) t) (RoseWith opened after end) old mid))
    (IfSome x (ReplaysTaken b may loads (λ t. IsTrue b → Leaves (g.D.Disk.images c.replay_lines-end.result.1) t) (RoseWith opened after end) old mid))
    (IfSome x (ReplaysFront b may loads (λ t. IsTrue b → Leaves (g.D.Disk.images c.replay_lines-end.result.1) t) (RoseWith opened after end) old mid)) ⊥) c.in-Ok.ensures.disk.told c.replay_lines-end.ensures.ends in
    subst (λ (m : ℕ → Bool). EndsAs c.sent_on.result (IfSome x (Replays (is_some content) m (Loads content) leaves rises old new)) (IfSome x (ReplaysTaken (is_some content) m (Loads content) leaves rises old new))
    (IfSome x (ReplaysFront (is_some content) m (Loads content) leaves rises old new)) idle) begins.clock
    (sent_ends (is_some content) (g.C.Clock.may running.side.clock) (λ l. l ≡ running.side.history.loaded) (Loads content) (λ l is. subst (λ (bs : List Batch). Loads content bs) (sym is) begins.means) leaves
    (RoseWith opened after end) rises (λ n rose. subst (λ (own : ℕ). RoseBy before after (n + own)) (sym same) (rose_within opened after before after (n + end_faults end) c.in-Ok.ensures.disk.later (omega arith) rose)) old mid new c.flush-sent.ensures.bytes idle x
    end c.flush-sent.result c.sent_on.result c.sent_on.ensures
    inner)

pub returns-in-Ok-clause-at_end : goal.returns-in-Ok-clause-at_end
returns-in-Ok-clause-at_end g c = sent_at_end c.replay_lines-end.result.0 c.flush-sent.result c.sent_on.result _ c.sent_on.ensures c.replay_lines-end.ensures.at_end

pub returns-in-Ok-clause-sent : goal.returns-in-Ok-clause-sent
returns-in-Ok-clause-sent g c = sent_on c.replay_lines-end.result.0 c.flush-sent.result c.sent_on.result _ c.sent_on.ensures c.flush-sent.ensures.sent

pub returns-in-Ok-clause-caused : goal.returns-in-Ok-clause-caused
returns-in-Ok-clause-caused g c =
    let old = g.K.Sink.faults c.args.sink.now in
    let mid = g.K.Sink.faults c.replay_lines-end.new.sink in
    let new = g.K.Sink.faults c.flush-sent.new.self in
    let before = g.D.Disk.faults c.args.disk in
    let opened = g.D.Disk.faults c.in-Ok.running.side.log.disk in
    let after = g.D.Disk.faults c.replay_lines-end.result.1 in
    wider_ends c.sent_on.result _ (Rose old new) (Rose opened after) (Rose before after) _ (rose_since before opened after c.in-Ok.ensures.disk.later)
    (sent_causes c.replay_lines-end.result.0 c.flush-sent.result c.sent_on.result _ (Rose old mid) (Rose opened after) _ (Rose old new) c.sent_on.ensures c.replay_lines-end.ensures.caused
    (λ rose. omega (arith, rose, c.flush-sent.ensures.cause.later))
    (on_err_more c.flush-sent.result (Rose mid new) (Rose old new) (rose_since old mid new c.replay_lines-end.ensures.later) c.flush-sent.ensures.cause.failed))

pub returns-in-Err-clause-caused : goal.returns-in-Err-clause-caused
returns-in-Err-clause-caused g c = unopened_ends c.in-Err.fault _ _ _ _ c.in-Err.ensures.cause

pub returns-in-Ok-clause-kept : goal.returns-in-Ok-clause-kept
returns-in-Ok-clause-kept g c = λ file is.
    let side = c.in-Ok.running.side in
    let disk = c.replay_lines-end.result.1 in
    let tells : Tells (g.D.Disk.content c.args.disk) = subst (λ (o : Option (List ℕ)). Tells o) (sym is) refl in
    let now = subst (λ (told : Bool). IsTrue told) (sym c.in-Ok.ensures.disk.told) tells in
    let all : batches side.history ≡ side.history.loaded = ap (λ (s : State). batches s.history) c.in-Ok.ensures.opened ∙ append-nil side.history.loaded in
    sent_keeps c.replay_lines-end.result.0 c.flush-sent.result c.sent_on.result _ _ c.sent_on.ensures
    (keeps_more c.replay_lines-end.result.0 _ _ _ _
    (λ has. (side.history.loaded, c.in-Ok.ensures.begins.means file is, subst (HasBatches (g.D.Disk.content disk) (g.D.Disk.images disk)) all has)) (λ f no. no)
    (c.replay_lines-end.ensures.kept now))

pub returns-in-Err-clause-kept : goal.returns-in-Err-clause-kept
returns-in-Err-clause-kept g c = λ file is. (c.in-Err.ensures.disk.kept file is, c.in-Err.ensures.refused file is)

pub returns-in-Ok-clause-unopened : goal.returns-in-Ok-clause-unopened
returns-in-Ok-clause-unopened g c = sent_begun c.replay_lines-end.result.0 c.flush-sent.result c.sent_on.result _ c.sent_on.ensures c.replay_lines-end.ensures.begun
