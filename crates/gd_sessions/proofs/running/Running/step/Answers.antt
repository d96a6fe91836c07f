use Rattle.std.proofs.Common.{ℕ, List, inl, refl, subst, ◌∙◌}
use Rattle.gd_runs.specs.Core as core
use Rattle.gd_replay_laws.specs.Steps.{Takes}
use Rattle.gd_events.specs.Events.{event_view}
use Rattle.gd_reply.specs.Replies.{reply_text}
use Rattle.gd_held.specs.PassedOn.{one_member}
use Rattle.gd_sessions.specs.Running.{core_state}
use Rattle.gd_sessions.proofs.Goes.{goes_same}
use Rattle.gd_sessions.proofs.Taken.{takes_counted}
use Rattle.gd_mql.specs.Requests.{read_set_view, write_view}
use Rattle.gd_sessions.specs.Running.{left_now}
use Rattle.gd_replay_laws.proofs.Paced.{write_paces, learn_paces, freeze_paces, thaw_paces}
use Rattle.gd_sessions.proofs.Paced.{left_stays}
use Rattle.gd_sessions.proofs.running.Running.step.Goals as goal

pub returns-in-Begin-clause-takes : goal.returns-in-Begin-clause-takes
returns-in-Begin-clause-takes g c = λ told. rw c.in-Begin.is (c.begin.ensures.takes told (g.C.Clock.may c.args.self.now.side.clock) c.args.bytes)

pub returns-in-Begin-clause-counted : goal.returns-in-Begin-clause-counted
returns-in-Begin-clause-counted g c =
    let faults = g.D.Disk.faults in
    takes_counted (g.C.Clock.may c.args.self.now.side.clock) (core_state c.args.self.now) c.args.line c.args.bytes (event_view c.args.event) (core_state c.begin.new.self) (faults c.args.self.now.side.log.disk) (faults c.begin.new.self.side.log.disk) (reply_text c.begin.result) (rw c.in-Begin.is tt)
    (λ told. rw c.in-Begin.is (c.begin.ensures.takes told (g.C.Clock.may c.args.self.now.side.clock) c.args.bytes))

pub returns-in-Begin-clause-goes : goal.returns-in-Begin-clause-goes
returns-in-Begin-clause-goes g c =
    let d = g.D.Disk in
    goes_same d.content d.moment d.images d.images_since d.faults g.C.Clock.may g.met.D.Disk.only_now c.args.self.now.side c.begin.new.self.side c.shown-shown.ensures.keeps c.begin.ensures.side

pub returns-in-Slice-clause-takes : goal.returns-in-Slice-clause-takes
returns-in-Slice-clause-takes g c = λ told. rw c.in-Slice.is (c.slice.ensures.takes told (g.C.Clock.may c.args.self.now.side.clock) c.args.bytes)

pub returns-in-Slice-clause-counted : goal.returns-in-Slice-clause-counted
returns-in-Slice-clause-counted g c =
    let faults = g.D.Disk.faults in
    takes_counted (g.C.Clock.may c.args.self.now.side.clock) (core_state c.args.self.now) c.args.line c.args.bytes (event_view c.args.event) (core_state c.slice.new.self) (faults c.args.self.now.side.log.disk) (faults c.slice.new.self.side.log.disk) (reply_text c.slice.result) (rw c.in-Slice.is tt)
    (λ told. rw c.in-Slice.is (c.slice.ensures.takes told (g.C.Clock.may c.args.self.now.side.clock) c.args.bytes))

pub returns-in-Slice-clause-goes : goal.returns-in-Slice-clause-goes
returns-in-Slice-clause-goes g c =
    let d = g.D.Disk in
    goes_same d.content d.moment d.images d.images_since d.faults g.C.Clock.may g.met.D.Disk.only_now c.args.self.now.side c.slice.new.self.side c.shown-shown.ensures.keeps c.slice.ensures.side

pub returns-in-Learn-clause-takes : goal.returns-in-Learn-clause-takes
returns-in-Learn-clause-takes g c = λ told. rw c.in-Learn.is (c.learn.ensures.takes told (g.C.Clock.may c.args.self.now.side.clock) c.args.bytes)

pub returns-in-Learn-clause-counted : goal.returns-in-Learn-clause-counted
returns-in-Learn-clause-counted g c =
    let faults = g.D.Disk.faults in
    takes_counted (g.C.Clock.may c.args.self.now.side.clock) (core_state c.args.self.now) c.args.line c.args.bytes (event_view c.args.event) (core_state c.learn.new.self) (faults c.args.self.now.side.log.disk) (faults c.learn.new.self.side.log.disk) (reply_text c.learn.result) (rw c.in-Learn.is tt)
    (λ told. rw c.in-Learn.is (c.learn.ensures.takes told (g.C.Clock.may c.args.self.now.side.clock) c.args.bytes))

pub returns-in-Learn-clause-goes : goal.returns-in-Learn-clause-goes
returns-in-Learn-clause-goes g c =
    let d = g.D.Disk in
    goes_same d.content d.moment d.images d.images_since d.faults g.C.Clock.may g.met.D.Disk.only_now c.args.self.now.side c.learn.new.self.side c.shown-shown.ensures.keeps c.learn.ensures.side

pub returns-in-Freeze-clause-takes : goal.returns-in-Freeze-clause-takes
returns-in-Freeze-clause-takes g c = λ told. rw c.in-Freeze.is (c.freeze.ensures told (g.C.Clock.may c.args.self.now.side.clock) c.args.bytes)

pub returns-in-Freeze-clause-counted : goal.returns-in-Freeze-clause-counted
returns-in-Freeze-clause-counted g c =
    let faults = g.D.Disk.faults in
    takes_counted (g.C.Clock.may c.args.self.now.side.clock) (core_state c.args.self.now) c.args.line c.args.bytes (event_view c.args.event) (core_state c.args.self.now) (faults c.args.self.now.side.log.disk) (faults c.args.self.now.side.log.disk) (reply_text c.freeze.result) (rw c.in-Freeze.is tt)
    (λ told. rw c.in-Freeze.is (c.freeze.ensures told (g.C.Clock.may c.args.self.now.side.clock) c.args.bytes))

pub returns-in-Freeze-clause-goes : goal.returns-in-Freeze-clause-goes
returns-in-Freeze-clause-goes g c =
    let d = g.D.Disk in
    goes_same d.content d.moment d.images d.images_since d.faults g.C.Clock.may g.met.D.Disk.only_now c.args.self.now.side c.args.self.now.side c.shown-shown.ensures.keeps refl

pub returns-in-Thaw-clause-takes : goal.returns-in-Thaw-clause-takes
returns-in-Thaw-clause-takes g c = λ told. rw c.in-Thaw.is
    (subst (λ (text : List ℕ). Takes told one_member (g.C.Clock.may c.args.self.now.side.clock) (core_state c.args.self.now) c.args.line c.args.bytes (core.thaw c.in-Thaw.sid (read_set_view c.in-Thaw.request) text) (reply_text c.thaw.result) (core_state c.thaw.new.self)) (c.as_bytes-text.ensures.value ∙ c.as_str.ensures)
    (c.thaw.ensures.takes told (g.C.Clock.may c.args.self.now.side.clock) c.args.bytes))

pub returns-in-Thaw-clause-counted : goal.returns-in-Thaw-clause-counted
returns-in-Thaw-clause-counted g c =
    let faults = g.D.Disk.faults in
    takes_counted (g.C.Clock.may c.args.self.now.side.clock) (core_state c.args.self.now) c.args.line c.args.bytes (event_view c.args.event) (core_state c.thaw.new.self) (faults c.args.self.now.side.log.disk) (faults c.thaw.new.self.side.log.disk) (reply_text c.thaw.result) (rw c.in-Thaw.is tt)
    (λ told. rw c.in-Thaw.is
    (subst (λ (text : List ℕ). Takes told one_member (g.C.Clock.may c.args.self.now.side.clock) (core_state c.args.self.now) c.args.line c.args.bytes (core.thaw c.in-Thaw.sid (read_set_view c.in-Thaw.request) text) (reply_text c.thaw.result) (core_state c.thaw.new.self)) (c.as_bytes-text.ensures.value ∙ c.as_str.ensures)
    (c.thaw.ensures.takes told (g.C.Clock.may c.args.self.now.side.clock) c.args.bytes)))

pub returns-in-Thaw-clause-goes : goal.returns-in-Thaw-clause-goes
returns-in-Thaw-clause-goes g c =
    let d = g.D.Disk in
    goes_same d.content d.moment d.images d.images_since d.faults g.C.Clock.may g.met.D.Disk.only_now c.args.self.now.side c.thaw.new.self.side c.shown-shown.ensures.keeps c.thaw.ensures.side

pub returns-in-Write-clause-takes : goal.returns-in-Write-clause-takes
returns-in-Write-clause-takes g c = λ told. rw c.in-Write.is (inl c.write.ensures.step)

pub returns-in-Begin-clause-paced : goal.returns-in-Begin-clause-paced
returns-in-Begin-clause-paced g c = λ none. rw c.in-Begin.is c.begin.ensures.paced

pub returns-in-Slice-clause-paced : goal.returns-in-Slice-clause-paced
returns-in-Slice-clause-paced g c = λ none. rw c.in-Slice.is (c.slice.ensures.paced none)

pub returns-in-Write-clause-paced : goal.returns-in-Write-clause-paced
returns-in-Write-clause-paced g c = λ none. rw c.in-Write.is
    (λ d. write_paces one_member d (core_state c.args.self.now) c.args.line c.in-Write.sid (write_view c.in-Write.request) (reply_text c.write.result) (core_state c.write.new.self) (left_now c.args.self.now) (left_now c.write.new.self) c.write.ensures.left)

pub returns-in-Learn-clause-paced : goal.returns-in-Learn-clause-paced
returns-in-Learn-clause-paced g c = λ none. rw c.in-Learn.is
    (λ d. learn_paces one_member d (core_state c.args.self.now) c.args.line c.in-Learn.sid c.in-Learn.dateline (reply_text c.learn.result) (core_state c.learn.new.self) (left_now c.args.self.now) (left_now c.learn.new.self) c.learn.ensures.left)

pub returns-in-Freeze-clause-paced : goal.returns-in-Freeze-clause-paced
returns-in-Freeze-clause-paced g c = λ none. rw c.in-Freeze.is
    (λ d. freeze_paces one_member d (core_state c.args.self.now) c.args.line c.in-Freeze.sid (reply_text c.freeze.result) (core_state c.args.self.now) (left_now c.args.self.now) (left_now c.args.self.now) (left_stays (left_now c.args.self.now)))

pub returns-in-Thaw-clause-paced : goal.returns-in-Thaw-clause-paced
returns-in-Thaw-clause-paced g c = λ none. rw c.in-Thaw.is
    (λ d. thaw_paces one_member d (core_state c.args.self.now) c.args.line c.in-Thaw.sid (read_set_view c.in-Thaw.request) c.in-Thaw.text (reply_text c.thaw.result) (core_state c.thaw.new.self) (left_now c.args.self.now) (left_now c.thaw.new.self) c.thaw.ensures.left)
