use Rattle.std.proofs.Common.{ℕ, List, ◌<◌, length}
use Rattle.gd_base.specs.Counts.{Rose}
use Rattle.gd_prim.specs.History.{prims_of}
use Rattle.gd_defs.specs.Ids as defined
use Rattle.gd_resolve.proofs.Counted.{same_text}
use Rattle.gd_resolve.proofs.ids.object_of.Goals as goal

pub returns-in_err-object-clause-guid_counted : goal.returns-in_err-object-clause-guid_counted
returns-in_err-object-clause-guid_counted g c = same_text defined.guid_place (λ (place : ℕ). place < length (prims_of c.args.view.now) → Rose c.args.steps.now c.named_object.new.steps)
    c.as_str.result.now c.args.path.now c.as_str.ensures c.named_object.ensures.guid_counted

pub returns-in_err-copy-in-None-clause-guid_counted : goal.returns-in_err-copy-in-None-clause-guid_counted
returns-in_err-copy-in-None-clause-guid_counted g c = same_text defined.guid_place (λ (place : ℕ). place < length (prims_of c.args.view.now) → Rose c.args.steps.now c.named_object.new.steps)
    c.as_str.result.now c.args.path.now c.as_str.ensures c.named_object.ensures.guid_counted

pub returns-in-Some-clause-guid_counted : goal.returns-in-Some-clause-guid_counted
returns-in-Some-clause-guid_counted g c = same_text defined.guid_place (λ (place : ℕ). place < length (prims_of c.args.view.now) → Rose c.args.steps.now c.named_object.new.steps)
    c.as_str.result.now c.args.path.now c.as_str.ensures c.named_object.ensures.guid_counted

pub returns-in-Some-clause-path_counted : goal.returns-in-Some-clause-path_counted
returns-in-Some-clause-path_counted g c = λ other. same_text defined.id_keys (λ (keys : List (List ℕ)). 0 < length keys → Rose c.args.steps.now c.named_object.new.steps)
    c.as_str.result.now c.args.path.now c.as_str.ensures c.in_ok-object.ensures.path_counted

pub returns-in_ok-copy-in-None-clause-guid_counted : goal.returns-in_ok-copy-in-None-clause-guid_counted
returns-in_ok-copy-in-None-clause-guid_counted g c = same_text defined.guid_place (λ (place : ℕ). place < length (prims_of c.args.view.now) → Rose c.args.steps.now c.named_object.new.steps)
    c.as_str.result.now c.args.path.now c.as_str.ensures c.named_object.ensures.guid_counted

pub returns-in_ok-copy-in-None-clause-path_counted : goal.returns-in_ok-copy-in-None-clause-path_counted
returns-in_ok-copy-in-None-clause-path_counted g c = λ other. same_text defined.id_keys (λ (keys : List (List ℕ)). 0 < length keys → Rose c.args.steps.now c.named_object.new.steps)
    c.as_str.result.now c.args.path.now c.as_str.ensures c.in_ok-object.ensures.path_counted
