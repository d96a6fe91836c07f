use Rattle.std.proofs.Common.{sym, true, false}
use Rattle.gd_fault.proofs.Keys.{id_keys-tested}
use Rattle.gd_fault.proofs.ids.id_keys.Goals as goal

pub returns-then-are_id_keys-clause-found : goal.returns-then-are_id_keys-clause-found
returns-then-are_id_keys-clause-found c = sym (id_keys-tested c.args.text.now c.in_ok-keys.keys.items true (cc) (cc) c.in_ok-keys.ensures (cc))

pub returns-clause-found : goal.returns-clause-found
returns-clause-found c = sym (id_keys-tested c.args.text.now c.in_ok-keys.keys.items false (cc) (cc) c.in_ok-keys.ensures (cc))
