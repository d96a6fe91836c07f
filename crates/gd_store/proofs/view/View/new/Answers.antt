use Rattle.gd_store.proofs.Held.{history_front}
use Rattle.gd_store.proofs.view.View.new.Goals as goal

pub invariant_of-result : goal.invariant_of-result
invariant_of-result c = record { there = c.requires.there; history = history_front c.args.store.now c.args.dateline c.requires.history }
