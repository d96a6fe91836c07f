use Rattle.std.proofs.Common.{ℕ, [], sym, ◌∙◌, ap, subst, arith}
use Rattle.std.specs.Option.{is_some}
use Rattle.gd_journal.specs.Reading.{IsRead}
use Rattle.gd_journal.proofs.OneByOne.{read_none}
use Rattle.gd_journal.proofs.opening.look.Goals as goal

pub invariant_of-result : goal.invariant_of-result
invariant_of-result g c =
    let d = g.D.Disk in
    let seen = c.in-Ok.ensures.seen in
    (seen, c.none.ensures.ready (d.content c.see.new.disk) (λ f is. (seen f is).1.size), λ f is. ([], subst (λ (n : ℕ). IsRead [] n f) (sym c.none.ensures.at) (read_none f (λ long. ap is_some ((seen f is).1.begins (omega (arith, (seen f is).1.size)))))))

pub returns-in-Ok-clause-unread : goal.returns-in-Ok-clause-unread
returns-in-Ok-clause-unread g c = λ f is.
    let end = (c.in-Ok.ensures.seen f (c.see.ensures.untouched.same ∙ is)).1 in
    subst (λ (n : ℕ). IsRead [] n f) (sym c.none.ensures.at) (read_none f (λ long. ap is_some (end.begins (omega (arith, end.size)))))
