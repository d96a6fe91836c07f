use Rattle.std.proofs.lemmas.Result.{err_from_is_err_and}
use Rattle.gd_tplang.specs.Seen.{head_of}
use Rattle.gd_tplang.proofs.Walked.{clause_head_stops, clause_space_stops, clause_bracket_stops, clause_opens}
use Rattle.gd_tplang.proofs.survey.Walk.clause.Goals as goal

pub returns-in_err-_head : goal.returns-in_err-_head
returns-in_err-_head c = λ k enough.
    let p = err_from_is_err_and c.from_residual.result c.from_residual.ensures.1 in
    let stopped = clause_head_stops c.in_err-_head.field-0.0 k c.args.self.now c.args.bytes.now c.requires.inside enough c.requires.comes c.in_err-_head.ensures in
    rw (p.1, p.2) stopped

pub returns-in_err-rest : goal.returns-in_err-rest
returns-in_err-rest c = λ k enough.
    let p = err_from_is_err_and c.from_residual-in_err-rest.result c.from_residual-in_err-rest.ensures.1 in
    let stopped = clause_space_stops c.in_err-rest.field-0.0 k c.args.self.now c.args.bytes.now (head_of c.in_ok-_head._head) c.in_ok-_head.rest.now c.requires.inside enough c.requires.comes c.in_ok-_head.ensures c.in_err-rest.ensures in
    rw (p.1, p.2) stopped

pub returns-in_err-rest-2 : goal.returns-in_err-rest-2
returns-in_err-rest-2 c = λ k enough.
    let p = err_from_is_err_and c.from_residual-in_err-rest-2.result c.from_residual-in_err-rest-2.ensures.1 in
    let stopped = clause_bracket_stops c.in_err-rest-2.field-0.0 k c.args.self.now c.args.bytes.now (head_of c.in_ok-_head._head) c.in_ok-_head.rest.now c.in_ok-rest.rest.now c.requires.inside enough c.requires.comes c.in_ok-_head.ensures c.in_ok-rest.ensures c.in_err-rest-2.ensures in
    rw (p.1, p.2) stopped

pub returns : goal.returns
returns c = λ k enough.
    clause_opens k c.args.self.now c.enter.new.self c.args.bytes.now (head_of c.in_ok-_head._head) c.in_ok-_head.rest.now c.in_ok-rest.rest.now c.in_ok-rest-2.rest.now c.requires.inside enough c.requires.comes c.in_ok-_head.ensures c.in_ok-rest.ensures c.in_ok-rest-2.ensures c.in_ok-enter.ensures
