use Rattle.std.proofs.Common.{◌∙◌, sym, ap, subst}
use Rattle.std.proofs.lemmas.Result.{err_from_is_err_and}
use Rattle.gd_tplang.specs.Stop.{Stopped}
use Rattle.gd_tplang.specs.Survey.{space_at}
use Rattle.gd_tplang.proofs.Walked.{closes, space_stops, item_steps, clause_enough}
use Rattle.gd_tplang.proofs.survey.Walk.step.Goals as goal

pub returns-then-is_next : goal.returns-then-is_next
returns-then-is_next c = λ k enough. closes k c.args.self.now c.close.new.self c.args.bytes.now c.in_ok-rest.rest.now c.requires c.close.ensures.deep c.in_ok-rest.ensures c.close.ensures.now enough

pub returns-in_err-rest-2 : goal.returns-in_err-rest-2
returns-in_err-rest-2 c = λ k enough.
    let p = err_from_is_err_and c.from_residual-in_err-rest-2.result c.from_residual-in_err-rest-2.ensures.1 in
    let bytes = c.args.bytes.now in
    let there = subst (λ n. Stopped c.in_err-rest-2.field-0.0 (space_at n bytes)) c.count.ensures.same c.in_err-rest-2.ensures in
    let stopped = space_stops c.in_err-rest-2.field-0.0 k c.args.self.now bytes c.requires (sym c.is_next.ensures ∙ c.if-is_next.false) there in
    rw (p.1, p.2) stopped

pub returns-then-is_clause_next : goal.returns-then-is_clause_next
returns-then-is_clause_next c = λ k enough.
    let w = c.args.self.now in
    let bytes = c.args.bytes.now in
    let space = ap (λ n. space_at n bytes) (sym c.count.ensures.same) ∙ c.in_ok-rest-2.ensures in
    let levels = clause_enough k w c.add_item.new.self bytes c.in_ok-rest-2.rest.now c.requires enough space (sym c.is_clause_next.ensures ∙ c.if-is_clause_next.true) c.add_item.ensures in
    item_steps k w c.add_item.new.self c.clause.new.self bytes c.in_ok-rest-2.rest.now c.clause.result c.requires enough (sym c.is_next.ensures ∙ c.if-is_next.false) space c.add_item.ensures (c.clause.ensures k levels)

pub returns : goal.returns
returns c = λ k enough.
    let w = c.args.self.now in
    let bytes = c.args.bytes.now in
    let space = ap (λ n. space_at n bytes) (sym c.count.ensures.same) ∙ c.in_ok-rest-2.ensures in
    item_steps k w c.add_item.new.self c.test.new.self bytes c.in_ok-rest-2.rest.now c.test.result c.requires enough (sym c.is_next.ensures ∙ c.if-is_next.false) space c.add_item.ensures (c.test.ensures k)
