use Rattle.std.proofs.Common.{◌≡◌, true, map, drop}
use Rattle.gd_plan.specs.Asked.{asking_view, members_view}
use Rattle.gd_match_laws.specs.Walks.{object_listed}
use Rattle.gd_runs.specs.Shape.{each_shape, list_shape, object_shape}
use Rattle.gd_shape.specs.InTrees.{lists_view}
use Rattle.gd_shape.specs.Listed.{AreAmong}
use Rattle.gd_shape.specs.Outcome.{written, items_written, members_written}
use Rattle.gd_shape.specs.Printed.{as_object, answer_print}
use Rattle.gd_shape.specs.Ranking.{ranked_view}
use Rattle.gd_shape.proofs.print.+print.Given as goal

abbrev pub invariant-write_object-loop-member : goal.invariant-write_object-loop-member
invariant-write_object-loop-member l = record {
  printed : members_written l.out.tokens (object_shape l.sight (members_view (drop l.member-index l.members)) l.at.link l.at.object (lists_view l.lists) l.told)
      ≡ written l.fn.out.tokens (as_object (object_shape l.sight (members_view l.members) l.at.link l.at.object (lists_view l.at.lists.now) l.fn.told));
  before : l.out.before ≡ l.fn.out.before;
  listed : AreAmong (object_listed l.sight (members_view (drop l.member-index l.members)) l.at.link l.at.object (lists_view l.lists))
      (object_listed l.sight (members_view l.members) l.at.link l.at.object (lists_view l.at.lists.now));
}

abbrev pub invariant-write_each-loop-row : goal.invariant-write_each-loop-row
invariant-write_each-loop-row l = let f = answer_print l.sight (asking_view l.asking) (members_view l.clause) in record {
  printed : items_written l.out.tokens (each_shape f (map ranked_view (drop l.row-index l.rows)) l.told) ≡ written l.fn.out.tokens (list_shape true (each_shape f (map ranked_view l.rows) l.fn.told));
  before : l.out.before ≡ l.fn.out.before;
}
