use Rattle.std.proofs.Common.{refl, ◌∙◌, ap, [], ◌∷◌, ◌++◌}
use Rattle.gd_disk.proofs.Names.{among_push, others_push}
use Rattle.gd_disk.proofs.file_shelf.FileShelfShelf.open_at.Goals as goal

pub returns-in-Ok-clause-out : goal.returns-in-Ok-clause-out
returns-in-Ok-clause-out g c = among_push c.args.self.now.out c.remember.new.names.items c.args.path.now c.in_ok-name.name c.in_ok-name.ensures (rw (← c.self.view_is) (c.remember.ensures ∙ ap (λ l. l ++ c.in_ok-name.name ∷ []) c.reserve.ensures.items))

pub returns-in-Ok-clause-others : goal.returns-in-Ok-clause-others
returns-in-Ok-clause-others g c = λ other apart.
    (record { content = refl; fewer = λ c has. has; more = λ c has. has }, others_push c.args.self.now.out c.remember.new.names.items c.args.path.now c.in_ok-name.name other apart c.in_ok-name.ensures (rw (← c.self.view_is) (c.remember.ensures ∙ ap (λ l. l ++ c.in_ok-name.name ∷ []) c.reserve.ensures.items)))
