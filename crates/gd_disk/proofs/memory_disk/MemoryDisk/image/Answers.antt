use Rattle.std.proofs.Common.{rules, ◌≡◌, List, ℕ, sym, subst}
use Rattle.gd_disk.specs.Recorded.{images_of, held}
use Rattle.gd_disk.specs.Laws.{held_left}
use Rattle.gd_disk.proofs.memory_disk.MemoryDisk.image.Goals as goal

pub returns-in_ok-to_vec-in-Kept-clause-left : goal.returns-in_ok-to_vec-in-Kept-clause-left
returns-in_ok-to_vec-in-Kept-clause-left c =
    let same : c.in_ok-to_vec-in-Kept.field-0.items ≡ held c.args.self.now.first c.args.self.now.made = search rules in
    subst (λ (l : List ℕ). images_of c.args.self.now l) (sym same) (held_left c.args.self.now.first c.args.self.now.made)
