use Rattle.std.proofs.Common.{sym, subst, ap, ◌∙◌, ◌∷◌, [], ◌++◌, List}
use Rattle.std.specs.List.{All}
use Rattle.std.proofs.lemmas.List.Elements.{All-push}
use Rattle.gd_crew.specs.declared.seated.Seated.{Seated}
use Rattle.gd_crew.specs.Ready.{IsReady}
use Rattle.gd_crew.proofs.assign.seat_among.Goals as goal

pub returns-clause-ready : goal.returns-clause-ready
returns-clause-ready c =
    subst (All (IsReady c.args.shown.history c.args.works.now)) (sym (c.push_reserved.ensures.items ∙ ap (λ (ss : List Seated). ss ++ c.in_ok-one.one ∷ []) c.in_ok-reserve.ensures.items))
    (All-push (IsReady c.args.shown.history c.args.works.now) c.args.seated.now.items c.in_ok-one.one c.requires.ready c.in_ok-one.ensures.ready)
