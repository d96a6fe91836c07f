use Rattle.std.proofs.Common.{◌≡◌, ◌-◌, ◌++◌, take, drop, map}
use Rattle.gd_json.specs.View.{view}
use Rattle.gd_gen.specs.Replies.{result_of}
use Rattle.gd_gen.proofs.summary.results.Given as goal

-- the results that were found and those of the lines that are still to be looked at are all
abbrev pub invariant-loop-place : goal.invariant-loop-place
invariant-loop-place l = record {
  found : map view l.found.items ++ map result_of (take (l.count - l._place) l.lines) ≡ map result_of (take l.count l.initial.lines);
  later : drop (l.count - l._place) l.lines ≡ drop l.count l.initial.lines;
}
