use Rattle.std.proofs.Common.{◌∙◌, ap, sym, subst, Result, Err}
use Rattle.std.proofs.lemmas.Result.{err_from_is_err_and}
use Rattle.gd_prim.specs.declared.Batch.{Batch}
use Rattle.gd_prim.specs.History.{prims_of}
use Rattle.gd_tree.specs.Json as tree
use Rattle.gd_defs.specs.Write.Links.{ChangeFault}
use Rattle.gd_mql.specs.Requests.{write_view}
use Rattle.gd_compile.specs.Fault.{unknown_of}
use Rattle.gd_intent.specs.Seen.{intent_view}
use Rattle.gd_carry.specs.Outcome.{GivesChange}
use Rattle.gd_carry.proofs.Whole.{looked_up, unmeant, told, same_told}
use Rattle.gd_carry.proofs.exec.written.Goals as goal

pub returns : goal.returns
returns c =
    let same = looked_up (prims_of c.args.view.now) (write_view c.args.request.now) c.args.moment (intent_view c.in_ok-intent.intent) c.in_ok-intent.ensures.intent in
    subst (λ (r : Result (Batch × tree.Json) ChangeFault). GivesChange r c.carry_out.result) (sym same) c.carry_out.ensures

pub returns-in_err-intent : goal.returns-in_err-intent
returns-in_err-intent c =
    let p = err_from_is_err_and c.from_residual.result c.from_residual.ensures.1 in
    let e = c.in_err-intent.field-0.0 in
    rw (p.1, p.2) (λ known. unmeant (prims_of c.args.view.now) (write_view c.args.request.now) c.args.moment (unknown_of e) (c.in_err-intent.ensures.intent (told e known)) ∙ ap Err (sym (same_told e known)))
