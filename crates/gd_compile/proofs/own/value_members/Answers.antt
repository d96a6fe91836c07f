use Rattle.std.proofs.Common.{◌+◌, ◌∙◌, ap, map, Bor, List, ℕ, Ok, arith}
use Rattle.gd_grammar.specs.Chain.{◌>>=◌}
use Rattle.gd_prim.specs.History.{prims_of}
use Rattle.gd_defs.specs.Asked as defs
use Rattle.gd_defs.specs.Query as query
use Rattle.gd_mql.specs.Clauses.{left, with_part}
use Rattle.gd_plan.specs.Seen.{expects_view}
use Rattle.gd_compile.specs.Looks.{value_looks}
use Rattle.gd_compile.proofs.Looked.{parts_next, parts_broken, items_ended}
use Rattle.gd_compile.specs.Walk.{in_front}
use Rattle.gd_compile.proofs.own.value_members.Goals as goal

pub loop-part-preserved : goal.loop-part-preserved
loop-part-preserved g c =
    let prims = prims_of c.args.view.now in
    let e = expects_view c.args.expects in
    let path = map (λ (n : Bor (List ℕ)). n.now) c.args.path.now in
    record {
      whole = c.loop-part.invariant.whole
          ∙ (ap (λ (ms : query.Members). defs.value_members prims e path ms >>= λ d. Ok (in_front c.loop-part.gathered d)) c.in-Some.ensures
          ∙ c.in_ok-add_value_part.ensures.part (left c.in-Some.others));
      looks = parts_next (value_looks prims e) (left c.loop-part.rest) (with_part c.in-Some.part (left c.in-Some.others)) (left c.in-Some.others) c.loop-part.steps c.add_value_part.new.steps (c.args.steps.now + value_looks prims e (left c.args.members.now))
          c.in-Some.ensures c.loop-part.invariant.looks (c.add_value_part.ensures.looks (left c.in-Some.others));
      later = omega arith;
    }

pub returns-in_err-add_value_part-clause-looks : goal.returns-in_err-add_value_part-clause-looks
returns-in_err-add_value_part-clause-looks g c =
    let prims = prims_of c.args.view.now in
    let e = expects_view c.args.expects in
    parts_broken (value_looks prims e) (left c.loop-part.rest) (with_part c.in-Some.part (left c.in-Some.others)) (left c.in-Some.others) c.loop-part.steps c.add_value_part.new.steps (c.args.steps.now + value_looks prims e (left c.args.members.now))
    c.in-Some.ensures c.loop-part.invariant.looks (c.add_value_part.ensures.looks (left c.in-Some.others))

pub returns-clause-looks : goal.returns-clause-looks
returns-clause-looks g c = items_ended _ _ _ c.loop-part.invariant.looks
