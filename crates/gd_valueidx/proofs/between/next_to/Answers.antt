use Rattle.std.proofs.Common.{◌∙◌, sym}
use Rattle.std.specs.Map.{keys_of}
use Rattle.std.specs.Option.{option_copied}
use Rattle.gd_valueidx.specs.Runs.{flat, is_to}
use Rattle.gd_valueidx.proofs.Ranked.{step_yes, step_no, parted_to}
use Rattle.gd_valueidx.proofs.between.next_to.Goals as goal

pub returns-then-stands_to-clause-number : goal.returns-then-stands_to-clause-number
returns-then-stands_to-clause-number c =
    step_yes (is_to (keys_of c.args.lists.now.entries) (option_copied c.args.hi)) (flat c.args.order.now.runs.items) _ _ c.in-Some.number c.in-Some.ensures.number c.in-Some.ensures.behind
    (sym c.stands_to.ensures ∙ c.if-stands_to.true)

pub returns-else-stands_to-clause-none : goal.returns-else-stands_to-clause-none
returns-else-stands_to-clause-none c =
    step_no (is_to (keys_of c.args.lists.now.entries) (option_copied c.args.hi)) (flat c.args.order.now.runs.items) _ c.in-Some.number
    (parted_to (keys_of c.args.lists.now.entries) (option_copied c.args.hi) (flat c.args.order.now.runs.items) c.requires.ordered) c.in-Some.ensures.number (sym c.stands_to.ensures ∙ c.if-stands_to.false)
