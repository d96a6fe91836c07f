use Rattle.std.proofs.Common.{None}
use Rattle.gd_disk.proofs.Slots.{slot_push, other_push}
use Rattle.gd_disk.proofs.memory_shelf.add_out.Goals as goal

pub returns-clause-out : goal.returns-clause-out
returns-clause-out c = slot_push c.args.path.now c.args.slots.now.items c.push.new.self.items (record { path = c.in_ok-path.path; disk = None }) c.requires c.in_ok-path.ensures c.in_ok-push.ensures.items

pub returns-clause-others : goal.returns-clause-others
returns-clause-others c = λ other apart. other_push c.args.path.now other c.args.slots.now.items c.push.new.self.items (record { path = c.in_ok-path.path; disk = None }) apart c.in_ok-path.ensures c.in_ok-push.ensures.items
