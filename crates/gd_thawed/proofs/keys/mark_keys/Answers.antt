use Rattle.std.proofs.Common.{◌∷◌, [], ap, length, length-append, arith}
use Rattle.gd_defs.specs.Reply.{fitted}
use Rattle.gd_plan.specs.Seen.{sort_key_view}
use Rattle.gd_window.specs.Laws.{keys_at}
use Rattle.std.specs.Prelude.{map}
use Rattle.gd_thawed.proofs.KeyLinks.{marks_more}
use Rattle.gd_thawed.proofs.keys.mark_keys.Goals as goal

pub loop-count-preserved : goal.loop-count-preserved
loop-count-preserved c =
    let prims = c.args.prims.now in
    let l = c.loop-count in
    let k = c.in_ok-key_at.field-0 in
    let pushed = c.in_ok-push.ensures.items in
    record {
      keys = marks_more prims (length prims) c.args.sort.now c.args.places.now l.count c.index-sort-count.result l.keys.items c.push.new.self.items
          (keys_at prims (map sort_key_view c.args.sort.now) (fitted (length prims) (map sort_key_view c.args.sort.now) c.args.places.now))
          c.place_behind.result c.fitted-place.result k c.loop-count-test.true c.index-sort-count.is c.place_behind.ensures c.fitted-place.ensures c.in_ok-key_at.ensures pushed l.invariant.keys;
      count = let same = ap length pushed in omega (arith, same, length-append l.keys.items (k ∷ []), l.invariant.count);
    }
