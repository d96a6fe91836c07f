-- What stands behind the lock of writes goes from thread to thread, for every disk, every clock and every round that does.
use denote.RattleType.{RattleType}
use denote.Param.Send.{IsSend, sendable}
use Rattle.std.proofs.Crossing.{crosses}
use Rattle.gd_disk.specs.declared.disk.Disk as disk
use Rattle.gd_json.proofs.value.Json.TheLaws.TheKnot as json_knot
use Rattle.gd_json.proofs.value.JsonText.TheSendSync as text
use Rattle.gd_log.proofs.stored.StoredLog.TheSendSync as stored
use Rattle.gd_outside.specs.declared.clock.Clock as clock
use Rattle.gd_prim.proofs.Batch.TheSendSync as batch
use Rattle.gd_writer.proofs.copies.Copies.TheSendSync as copies
use Rattle.gd_writer.proofs.roomy.Roomy.TheSendSync as roomy
use Rattle.gd_writer.specs.contracts.desk.Desk as desk
use Rattle.gd_writer.specs.contracts.entry.Entry as entry
use Rattle.gd_writer.specs.contracts.ledger.Ledger as ledger
use Rattle.gd_writer.specs.contracts.made.Made as made
use Rattle.gd_writer.specs.contracts.outcome.WriteOf as write_of
use Rattle.gd_writer.specs.contracts.side.WriteSide as side
use Rattle.gd_crew.specs.contracts.writers.Held as held
use Rattle.gd_crew.specs.declared.writers.Round as round

-- ---- a write side

entry_field : IsSend (entry.the_field).row
entry_field = search (sendable, crosses, text.the_send, json_knot.crosses) depth 40 fits 5000

made_field : IsSend (made.the_field).row
made_field = search (sendable, crosses, entry_field, batch.the_field_send) depth 40 fits 5000

write_of_field : IsSend (write_of.the_field).row
write_of_field = search (sendable, crosses, text.the_send, json_knot.crosses) depth 40 fits 5000

ledger_field : (D : RattleType) (d : disk.Ghosts D.Denot) → IsSend D → IsSend (ledger.the_field D d).row
ledger_field D d s = search (sendable, crosses, stored.the_send, roomy.the_send, entry_field, made_field) depth 40 fits 5000

desk_field : (D C : RattleType) (d : disk.Ghosts D.Denot) → IsSend D → IsSend C → IsSend (desk.the_field D C d).row
desk_field D C d s t = search (sendable, crosses, ledger_field, copies.the_send) depth 40 fits 5000

side_field : (D C : RattleType) (d : disk.Ghosts D.Denot) (c : clock.Ghosts C.Denot) → IsSend D → IsSend C → IsSend (side.the_field D C d c).row
side_field D C d c s t = search (sendable, crosses, desk_field, roomy.the_send, write_of_field) depth 40 fits 5000

-- ---- what the lock holds

pub held_field : (L D C : RattleType) (l : round.Ghosts L.Denot) (d : disk.Ghosts D.Denot) (c : clock.Ghosts C.Denot) → IsSend L → IsSend D → IsSend C → IsSend (held.the_field L D C l d c).row
held_field L D C l d c r s t = search (sendable, crosses, side_field) depth 40 fits 5000
