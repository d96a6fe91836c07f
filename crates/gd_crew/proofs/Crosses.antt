-- A worker goes to another thread with all that it has: the readings of its sessions, and its jobs, whose requests other threads may read too.
use denote.Param.Send.{IsSend, IsSync, sendable}
use denote.Ref.{NamedLft}
use Rattle.std.proofs.Crossing.{crosses}
use Rattle.gd_cache.proofs.cache.ReplyCache.TheSendSync as reply_cache
use Rattle.gd_cache.proofs.key.ReplyText.TheSendSync as reply_text
use Rattle.gd_frozen.proofs.cursor.Cursor.TheSendSync as cursor_sent
use Rattle.gd_frozen.proofs.frozen.Walk.TheSendSync as told_walk
use Rattle.gd_json.proofs.value.Json.TheLaws.TheKnot as json_knot
use Rattle.gd_json.proofs.value.JsonText.TheSendSync as text
use Rattle.gd_seats.proofs.PassedOn.match_fault
use Rattle.gd_seats.proofs.PassedOn.places
use Rattle.gd_seats.proofs.PassedOn.scan
use Rattle.gd_seats.proofs.PassedOn.walk
use Rattle.gd_seats.specs.PassedOn.current
use Rattle.gd_seats.specs.PassedOn.frame
use Rattle.gd_seats.specs.PassedOn.matcher
use Rattle.gd_mql.specs.contracts.request.ChangeList as change_list
use Rattle.gd_mql.specs.contracts.request.ChangeRequest as change
use Rattle.gd_mql.specs.contracts.request.ReadList as read_list
use Rattle.gd_mql.specs.contracts.request.ReadRequest as request
use Rattle.gd_mql.specs.contracts.request.ReadSet as read_set
use Rattle.gd_mql.specs.contracts.request.WriteRequest as write_request
use Rattle.gd_mql.specs.contracts.request.WriteSet as write_set
use Rattle.gd_plan.proofs.asked.Member.TheLaws.TheKnot as member_knot
use Rattle.gd_plan.proofs.asked.SortKey.TheSendSync as sort
use Rattle.gd_plan.specs.contracts.asked.Asked as asked
use Rattle.gd_plan.specs.contracts.plan.Plan as plan
use Rattle.gd_seats.specs.contracts.session.Session as session
use Rattle.gd_seats.proofs.PassedOn.known
use Rattle.gd_seats.specs.PassedOn.shape
use Rattle.gd_shared.proofs.seat.Seat.TheSendSync as seat
use Rattle.gd_seats.specs.PassedOn.gathered
use Rattle.gd_seats.specs.PassedOn.gathering
use Rattle.gd_seats.specs.PassedOn.query
use Rattle.gd_seats.specs.PassedOn.reading
use Rattle.gd_seats.specs.PassedOn.part
use Rattle.gd_seats.specs.PassedOn.several
use Rattle.gd_seats.specs.PassedOn.stage
use Rattle.gd_seats.specs.PassedOn.subject
use Rattle.gd_seats.specs.PassedOn.trying
use Rattle.gd_seats.specs.PassedOn.visiting
use Rattle.gd_template.proofs.constraint.Constraint.TheSendSync as constraint
use Rattle.gd_template.proofs.template.Hop.TheSendSync as hop
use Rattle.gd_template.proofs.template.Mode.TheSendSync as mode
use Rattle.gd_template.proofs.template.Template.TheLaws.TheKnot as template_knot
use Rattle.gd_template.specs.contracts.template.Template as template
use Rattle.gd_seats.proofs.PassedOn.tree_knot
use Rattle.gd_window.proofs.window.Window.TheSendSync as window_sent
use Rattle.gd_crew.proofs.job.ReadReply.TheSendSync as reply
use Rattle.gd_crew.proofs.job.Stop.TheSendSync as stop
use Rattle.gd_crew.specs.contracts.job.Job as job
use Rattle.gd_crew.specs.contracts.seated.Seated as seated
use Rattle.gd_crew.specs.contracts.worker.Worker as worker

-- ---- a reading

request_field : IsSend (request.the_field).row
request_field = search (sendable, crosses, text.the_send, json_knot.crosses) depth 40 fits 5000

list_field : IsSend (read_list.the_field).row
list_field = search (sendable, crosses, request_field) depth 40 fits 5000

set_field : IsSend (read_set.the_field).row
set_field = search (sendable, crosses, request_field, list_field) depth 40 fits 5000

current_field : IsSend (current.the_field).row
current_field = search (sendable, crosses, places.the_field_send, tree_knot.crosses) depth 40 fits 5000

frame_field : IsSend (frame.the_field).row
frame_field = search (sendable, crosses, current_field, tree_knot.crosses) depth 40 fits 5000

matcher_field : IsSend (matcher.the_field).row
matcher_field = search (sendable, crosses, scan.the_field_send, frame_field, match_fault.the_field_send) depth 40 fits 5000

template_field : IsSend (template.the_field).row
template_field = search (sendable, crosses, constraint.the_send, mode.the_send, hop.the_send, template_knot.crosses) depth 40 fits 20000

asked_field : IsSend (asked.the_field).row
asked_field = search (sendable, crosses, text.the_send, sort.the_send, json_knot.crosses, member_knot.crosses) depth 40 fits 20000

plan_field : IsSend (plan.the_field).row
plan_field = search (sendable, template_field, asked_field) depth 40

shape_field : IsSend (shape.the_field).row
shape_field = search (sendable, crosses, asked_field, known.the_send, told_walk.the_send, text.the_send, tree_knot.crosses) depth 40 fits 5000

subject_field : IsSend (subject.the_field).row
subject_field = search (sendable, crosses, request_field, cursor_sent.the_field_send) depth 40 fits 5000

trying_field : IsSend (trying.the_field).row
trying_field = search (sendable, crosses, matcher_field) depth 40 fits 5000

visiting_field : IsSend (visiting.the_field).row
visiting_field = search (sendable, crosses, plan_field, walk.the_field_send, trying_field) depth 40 fits 5000

gathered_field : IsSend (gathered.the_field).row
gathered_field = search (sendable, crosses, tree_knot.crosses) depth 40 fits 5000

gathering_field : IsSend (gathering.the_field).row
gathering_field = search (sendable, crosses, plan_field, gathered_field, trying_field) depth 40 fits 5000

stage_field : IsSend (stage.the_field).row
stage_field = search (sendable, crosses, visiting_field, gathering_field, shape_field) depth 40 fits 5000

query_field : IsSend (query.the_field).row
query_field = search (sendable, crosses, subject_field, window_sent.the_send, stage_field) depth 40 fits 5000

part_field : IsSend (part.the_field).row
part_field = search (sendable, crosses, query_field, request_field) depth 40 fits 5000

several_field : IsSend (several.the_field).row
several_field = search (sendable, crosses, part_field) depth 40 fits 5000

reading_field : IsSend (reading.the_field).row
reading_field = search (sendable, crosses, query_field, several_field) depth 40 fits 5000

-- ---- a worker

session_field : IsSend (session.the_field).row
session_field = search (sendable, crosses, seat.the_send, reading_field) depth 40 fits 5000

request_shared : IsSync (request.the_field).row
request_shared = search (sendable, crosses, text.the_sync, json_knot.crosses) depth 40 fits 5000

list_shared : IsSync (read_list.the_field).row
list_shared = search (sendable, crosses, request_shared) depth 40 fits 5000

set_shared : IsSync (read_set.the_field).row
set_shared = search (sendable, crosses, request_shared, list_shared) depth 40 fits 5000

change_shared : IsSync (change.the_field).row
change_shared = search (sendable, crosses, json_knot.crosses) depth 40 fits 5000

changes_shared : IsSync (change_list.the_field).row
changes_shared = search (sendable, crosses, change_shared) depth 40 fits 5000

changed_shared : IsSync (write_set.the_field).row
changed_shared = search (sendable, crosses, change_shared, changes_shared) depth 40 fits 5000

write_shared : IsSync (write_request.the_field).row
write_shared = search (sendable, crosses, text.the_sync, changed_shared) depth 40 fits 5000

job_field : (a : NamedLft) → IsSend (job.the_field a).row
job_field a = search (sendable, crosses, set_shared, write_shared, reply_cache.the_sync, reply_text.the_sync) depth 40 fits 5000

seated_field : (a : NamedLft) → IsSend (seated.the_field a).row
seated_field a = search (sendable, crosses, session_field, job_field, reply.the_field_send, stop.the_field_send) depth 40 fits 5000

pub worker_send : (a : NamedLft) → IsSend (worker.the_row a)
worker_send a = search (sendable, crosses, seated_field) depth 40 fits 5000
