use Rattle.std.proofs.Common.{◌≡◌, ◌∙◌, ◌+◌, ◌<◌, true, length, arith, rules}
use Rattle.std.specs.Prelude.{sum_by}
use Rattle.std.proofs.Math.Seq.{map-set_same}
use Rattle.std.proofs.lemmas.List.Elements.{All-set, AllWithin-more_set}
use Rattle.gd_read.specs.Left.{part_left}
use Rattle.gd_read.specs.Several.{part_request, PartGoes, is_answered}
use Rattle.gd_read.proofs.Together.{less_set}
use Rattle.gd_read.proofs.several.go_on_all.Goals as goal

pub returns-in_err-go_on-clause-requests : goal.returns-in_err-go_on-clause-requests
returns-in_err-go_on-clause-requests g c = map-set_same part_request c.loop-k.parts c.loop-k.k c.go_on.new.self c.index-parts-k.result c.go_on.ensures.request ∙ c.loop-k.invariant.requests

pub returns-in_err-go_on-clause-less : goal.returns-in_err-go_on-clause-less
returns-in_err-go_on-clause-less g c =
    let there : c.loop-k.k < length c.loop-k.parts = search rules in
    λ n past. less_set (part_left n c.args.view.now) c.loop-k.parts c.loop-k.k c.go_on.new.self c.index-parts-k.result c.loop-k.steps c.go_on.new.steps (c.args.steps.now + sum_by (part_left n c.args.view.now) c.args.parts.now) there
    (c.go_on.ensures.less n past) (c.loop-k.invariant.less n past)

pub returns-then-not-branch-clause-requests : goal.returns-then-not-branch-clause-requests
returns-then-not-branch-clause-requests g c = map-set_same part_request c.loop-k.parts c.loop-k.k c.go_on.new.self c.index-parts-k.result c.go_on.ensures.request ∙ c.loop-k.invariant.requests

pub returns-then-not-branch-clause-less : goal.returns-then-not-branch-clause-less
returns-then-not-branch-clause-less g c =
    let there : c.loop-k.k < length c.loop-k.parts = search rules in
    λ n past. less_set (part_left n c.args.view.now) c.loop-k.parts c.loop-k.k c.go_on.new.self c.index-parts-k.result c.loop-k.steps c.go_on.new.steps (c.args.steps.now + sum_by (part_left n c.args.view.now) c.args.parts.now) there
    (c.go_on.ensures.less n past) (c.loop-k.invariant.less n past)

pub loop-k-preserved : goal.loop-k-preserved
loop-k-preserved g c =
    let there : c.loop-k.k < length c.loop-k.parts = search rules in
    let done : c.in_ok-go_on.field-0 ≡ true = cc in
    record {
      requests = map-set_same part_request c.loop-k.parts c.loop-k.k c.go_on.new.self c.index-parts-k.result c.go_on.ensures.request ∙ c.loop-k.invariant.requests;
      go = All-set (PartGoes c.args.view.now) c.loop-k.parts c.loop-k.k c.go_on.new.self c.in_ok-go_on.ensures.goes c.loop-k.invariant.go;
      answered = AllWithin-more_set c.loop-k.parts c.loop-k.k c.go_on.new.self there (λ part. is_answered part ≡ true) c.loop-k.invariant.answered (c.in_ok-go_on.ensures.answered done);
      less = λ n past. less_set (part_left n c.args.view.now) c.loop-k.parts c.loop-k.k c.go_on.new.self c.index-parts-k.result c.loop-k.steps c.go_on.new.steps (c.args.steps.now + sum_by (part_left n c.args.view.now) c.args.parts.now) there
          (c.go_on.ensures.less n past) (c.loop-k.invariant.less n past);
      work = let all = c.left-left.ensures in let few = c.go_on.ensures.work in omega (arith, all, few);
      later = let before = c.loop-k.invariant.later in let after = c.go_on.ensures.later in omega (arith, before, after);
    }
