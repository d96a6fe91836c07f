use Rattle.std.proofs.Common.{◌≡◌, ◌++◌, map, drop}
use Rattle.gd_match_laws.specs.Walks.{each_listed, object_listed}
use Rattle.gd_plan.specs.Asked.{asking_view, members_view}
use Rattle.gd_shape.specs.InTrees.{lists_view}
use Rattle.gd_shape.specs.Listed.{answer_listed}
use Rattle.gd_shape.specs.Ranking.{ranked_view}
use Rattle.gd_shape.proofs.gather.+objects.Given as goal

abbrev pub invariant-push_members-loop-member : goal.invariant-push_members-loop-member
invariant-push_members-loop-member l =
    l.objects.items ++ object_listed l.sight (members_view (drop l.member-index l.members)) l.at.link l.at.object (lists_view l.lists)
    ≡ l.initial.objects.items ++ object_listed l.sight (members_view l.members) l.at.link l.at.object (lists_view l.at.lists.now)

abbrev pub invariant-push_rows-loop-row : goal.invariant-push_rows-loop-row
invariant-push_rows-loop-row l = let f = answer_listed l.sight (asking_view l.asking) (members_view l.clause) in
    l.objects.items ++ each_listed f (map ranked_view (drop l.row-index l.rows)) ≡ l.initial.objects.items ++ each_listed f (map ranked_view l.rows)
