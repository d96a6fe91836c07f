use Rattle.std.proofs.Common.{◌≤◌, ◌+◌, List, subst}
use Rattle.gd_prim.specs.declared.Batch.{Batch}
use Rattle.gd_mql.specs.Requests.{read_set_view}
use Rattle.gd_read.specs.Start.{start_steps}
use Rattle.gd_read.proofs.States.{has_begun, is_refused, goes_front, first_over}
use Rattle.gd_read.proofs.session.SessionState.begin.Goals as goal

pub returns-in-Ok-clause-begins : goal.returns-in-Ok-clause-begins
returns-in-Ok-clause-begins g c =
    has_begun c.args.store.now c.view-view.result c.args.shown (read_set_view c.args.request) c.in-Ok.reading c.view-view.ensures c.requires.shown c.in-Ok.ensures.begun c.in-Ok.ensures.below

pub returns-in-Ok-clause-going : goal.returns-in-Ok-clause-going
returns-in-Ok-clause-going g c = goes_front c.args.store.now c.view-view.result c.args.shown c.in-Ok.reading c.view-view.ensures c.requires.shown c.in-Ok.ensures.below c.in-Ok.ensures.going

pub returns-in-Ok-clause-first : goal.returns-in-Ok-clause-first
returns-in-Ok-clause-first g c = λ n due. first_over n c.args.store.now c.view-view.result c.args.shown due c.in-Ok.reading c.view-view.ensures c.requires.shown c.in-Ok.ensures.below (c.in-Ok.ensures.first n due)

pub returns-in-Err-clause-begins : goal.returns-in-Err-clause-begins
returns-in-Err-clause-begins g c =
    is_refused c.args.store.now c.view-view.result c.args.shown (read_set_view c.args.request) c.in-Err.fault c.view-view.ensures c.requires.shown c.in-Err.ensures.begun c.in-Err.ensures.offset

pub returns-in-Ok-clause-work : goal.returns-in-Ok-clause-work
returns-in-Ok-clause-work g c = subst (λ (bs : List Batch). c.begin.new.steps ≤ c.args.steps.now + start_steps bs (read_set_view c.args.request)) c.view-view.ensures c.begin.ensures.work

pub returns-in-Err-clause-work : goal.returns-in-Err-clause-work
returns-in-Err-clause-work g c = subst (λ (bs : List Batch). c.begin.new.steps ≤ c.args.steps.now + start_steps bs (read_set_view c.args.request)) c.view-view.ensures c.begin.ensures.work
