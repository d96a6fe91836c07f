use Rattle.std.proofs.Common.{◌∙◌, ap, sym, List, ℕ}
use Rattle.gd_json.specs.View.{members_view}
use Rattle.gd_json.specs.declared.value.Json.{Json}
use Rattle.gd_form_laws.specs.Spelled.{spelled_members}
use Rattle.gd_mql.specs.Clauses.{with_part}
use Rattle.gd_mql.proofs.Shown.{split_right, split_rest, split_passed, split_end}
use Rattle.gd_mql.proofs.clause.Members.split_spelled.Goals as goal

pub of-part-requires-clause-right : goal.of-part-requires-clause-right
of-part-requires-clause-right c = split_right c.args.self.now.root c.loop-first.rest.now c.in-Some.others.now c.in-Some.first.now c.in-Some.ensures.cases.0 c.loop-first.invariant.right

pub with_members-requires : goal.with_members-requires
with_members-requires c = split_rest c.args.self.now.root c.loop-first.rest.now c.in-Some.others.now c.in-Some.first.now c.in-Some.ensures.cases.0 c.loop-first.invariant.right

pub returns-then-not-is_no_part : goal.returns-then-not-is_no_part
returns-then-not-is_no_part c =
    let root = c.args.self.now.root in
    c.loop-first.invariant.same
    ∙ (ap (λ (xs : List (List ℕ × Json)). spelled_members root (members_view xs)) c.in-Some.ensures.cases.0
    ∙ (c.of-part.ensures (members_view c.in-Some.others.now) (split_rest root c.loop-first.rest.now c.in-Some.others.now c.in-Some.first.now c.in-Some.ensures.cases.0 c.loop-first.invariant.right)
    ∙ ap (with_part c.of-part.result) (sym c.with_members.ensures)))

pub loop-first-preserved : goal.loop-first-preserved
loop-first-preserved c =
    let root = c.args.self.now.root in
    record {
      same = c.loop-first.invariant.same ∙ split_passed root c.loop-first.rest.now c.in-Some.others.now c.in-Some.first.now c.as_str.result.now c.in-Some.ensures.cases.0 c.loop-first.invariant.right c.as_str.ensures c.if-not-is_no_part.ensures;
      right = split_rest root c.loop-first.rest.now c.in-Some.others.now c.in-Some.first.now c.in-Some.ensures.cases.0 c.loop-first.invariant.right;
    }

pub returns : goal.returns
returns c = c.loop-first.invariant.same ∙ split_end c.args.self.now.root c.loop-first.rest.now c.in_default.ensures.cases
