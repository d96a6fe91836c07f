use Rattle.std.proofs.Common.{[], ◌∷◌, Vec, sym, subst}
use Rattle.gd_crew.specs.Collected.{TakesSessions}
use Rattle.gd_crew.proofs.Taken.{takes_session, passes_session, only_true}
use Rattle.gd_crew.proofs.collect.dismiss_session.Goals as goal
use Rattle.gd_crew.proofs.collect.dismiss_session.Goals.{then-has_only, else-has_only}

pub returns-clause-worked : goal.returns-clause-worked
returns-clause-worked c =
    let table = c.args.shown.now.history in
    let shown = c.args.shown.now.list in
    let s = c.args.one in
    let old = c.args.worked.now.items in
    elim c.if-has_only.branch [
      | then-has_only w ↦ subst (λ (v : Vec _ _). TakesSessions c.args.first table shown (s ∷ []) old v.items) (sym w.worked-is)
          (takes_session c.args.first table shown s old w.keep_replies.new.worked.items (only_true _ c.has_only.result c.has_only.ensures w.if-has_only.true).0 w.keep_replies.ensures)
      | else-has_only w ↦ subst (λ (v : Vec _ _). TakesSessions c.args.first table shown (s ∷ []) old v.items) (sym w.worked-is) (passes_session c.args.first table shown s old)
    ]
