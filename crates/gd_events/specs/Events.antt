-- Events as the definitions have them.
use Rattle.std.specs.Prelude.{Result}
use Rattle.gd_runs.specs.Core as core
use Rattle.gd_runs.specs.Input.{InputFault}
use Rattle.gd_mql.specs.Requests.{read_set_view, write_view, GivesAsked}
use Rattle.gd_fault.specs.declared.fault.LineFault.{LineFault}
use Rattle.gd_events.specs.declared.event.Event.{Event}
use Rattle.gd_events.specs.declared.event.Event.TheVariants.{Begin, Slice, Write, Learn, Freeze, Thaw, Reopen}

-- the event that this is
abbrev pub event_view : Event → core.Event
event_view (Begin sid r) = core.begin sid (read_set_view r)
event_view (Slice sid budget) = core.slice sid budget
event_view (Write sid w) = core.write sid (write_view w)
event_view (Learn sid dateline) = core.learn sid dateline
event_view (Freeze sid) = core.freeze sid
event_view (Thaw sid r text) = core.thaw sid (read_set_view r) text
event_view Reopen = core.reopen

-- the call gives the event or the fault that is expected, or else memory was wanting
abbrev pub GivesEvent : Result core.Event InputFault → Result Event LineFault → Type 0
GivesEvent expected result = GivesAsked event_view expected result
