use Rattle.std.proofs.Common.{◌∙◌}
use Rattle.gd_disk.proofs.Slots.{still_there}
use Rattle.gd_disk.proofs.memory_shelf.MemoryShelfShelf.open_at.Goals as goal

pub returns-in_err-disk-in-None-clause-others : goal.returns-in_err-disk-in-None-clause-others
returns-in_err-disk-in-None-clause-others c = λ other apart.
    rw (← c.self.view_is) (still_there _ _ (c.add_empty.ensures.others other apart ∙ c.replace_at.ensures.others other apart))

pub returns-in_ok-disk-in-None-clause-others : goal.returns-in_ok-disk-in-None-clause-others
returns-in_ok-disk-in-None-clause-others c = λ other apart.
    rw (← c.self.view_is) (still_there _ _ (c.add_empty.ensures.others other apart ∙ c.replace_at.ensures.others other apart))
