use Rattle.gd_crew.proofs.writers.Held.write.Goals as goal

pub write_next-requires-clause-left : goal.write_next-requires-clause-left
write_next-requires-clause-left g c = c.is_next.ensures.left c.if-not-is_next.false
