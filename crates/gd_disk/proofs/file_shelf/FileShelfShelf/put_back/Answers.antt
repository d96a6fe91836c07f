use Rattle.std.proofs.Common.{refl}
use Rattle.gd_disk.proofs.Names.{among_forget, others_forget}
use Rattle.gd_disk.proofs.file_shelf.FileShelfShelf.put_back.Goals as goal

pub returns-clause-back : goal.returns-clause-back
returns-clause-back g c = among_forget c.args.self.now.out c.forget.new.names.items c.args.path.now (rw (← c.self.view_is) c.forget.ensures)

pub returns-clause-others : goal.returns-clause-others
returns-clause-others g c = λ other apart.
    (record { content = refl; fewer = λ c has. has; more = λ c has. has }, others_forget c.args.self.now.out c.forget.new.names.items c.args.path.now other apart (rw (← c.self.view_is) c.forget.ensures))
