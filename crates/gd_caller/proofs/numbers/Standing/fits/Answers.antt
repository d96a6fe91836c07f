use Rattle.std.proofs.Common.{◌≤◌, List, map, refl, sym, subst, arith}
use Rattle.gd_core_laws.specs.Bounds.{least_later}
use Rattle.gd_round_lines.specs.declared.work.WriteLine.{WriteLine}
use Rattle.gd_round_lines.specs.Works.{write_of}
use Rattle.gd_caller.specs.Fits.{FollowsWrites}
use Rattle.gd_round_lines.proofs.Sets.{item_there, drop_there}
use Rattle.gd_caller.proofs.numbers.Standing.fits.Goals as goal

pub loop-write-preserved : goal.loop-write-preserved
loop-write-preserved c =
    let s = c.args.self.now in
    let r = c.args.read.now in
    let i = c.loop-write.write-index in
    let w = c.write-item.result in
    let rest = drop_there s.writes.now i w (item_there s.writes.now i w c.loop-write-test.true c.write-item.is) in
    let not_less = c.if-later_number-at.false in
    record {
      later = λ outs are below.
          let number = c.later_number.ensures outs are in
          c.loop-write.invariant.later outs are (subst (λ (l : List WriteLine). c.args.at ≤ least_later (map write_of l) outs r.line r.session s.shown) (sym rest) (omega (arith, not_less, number, below)));
      follows = λ outs are all. c.loop-write.invariant.follows outs are (subst (FollowsWrites outs r c.args.at) (sym rest) (c.if-not-follows.ensures outs are refl, all));
    }
