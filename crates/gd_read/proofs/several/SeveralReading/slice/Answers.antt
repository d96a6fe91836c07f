use Rattle.std.proofs.Common.{◌≡◌, length, rules}
use Rattle.gd_read.proofs.Together.{less_parts}
use Rattle.gd_read.proofs.several.SeveralReading.slice.Goals as goal

pub returns-in_err-go_on_all-clause-less : goal.returns-in_err-go_on_all-clause-less
returns-in_err-go_on_all-clause-less g c =
    let long : length c.go_on_all.new.parts ≡ c.args.self.now.parts.len = search rules in
    λ n past. less_parts n c.args.view.now c.args.self.now c.go_on_all.new.parts c.as_mut_slice.result.now c.args.steps.now c.go_on_all.new.steps long c.as_mut_slice.ensures.value (c.go_on_all.ensures.less n past)

pub returns-then-not-branch-clause-less : goal.returns-then-not-branch-clause-less
returns-then-not-branch-clause-less g c =
    let long : length c.go_on_all.new.parts ≡ c.args.self.now.parts.len = search rules in
    λ n past. less_parts n c.args.view.now c.args.self.now c.go_on_all.new.parts c.as_mut_slice.result.now c.args.steps.now c.go_on_all.new.steps long c.as_mut_slice.ensures.value (c.go_on_all.ensures.less n past)

pub returns-in_err-bytes-clause-less : goal.returns-in_err-bytes-clause-less
returns-in_err-bytes-clause-less g c =
    let long : length c.go_on_all.new.parts ≡ c.args.self.now.parts.len = search rules in
    λ n past. less_parts n c.args.view.now c.args.self.now c.go_on_all.new.parts c.as_mut_slice.result.now c.args.steps.now c.go_on_all.new.steps long c.as_mut_slice.ensures.value (c.go_on_all.ensures.less n past)

pub returns-clause-less : goal.returns-clause-less
returns-clause-less g c =
    let long : length c.go_on_all.new.parts ≡ c.args.self.now.parts.len = search rules in
    λ n past. less_parts n c.args.view.now c.args.self.now c.go_on_all.new.parts c.as_mut_slice.result.now c.args.steps.now c.go_on_all.new.steps long c.as_mut_slice.ensures.value (c.go_on_all.ensures.less n past)
