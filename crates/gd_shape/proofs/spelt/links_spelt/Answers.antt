use Rattle.std.proofs.Common.{◌<◌, ◌-◌, length, arith}
use Rattle.std.specs.Prelude.{string_bytes}
use Rattle.gd_shape.proofs.Walked.{link_more}
use Rattle.gd_shape.proofs.spelt.links_spelt.Goals as goal

pub loop-left-preserved : goal.loop-left-preserved
loop-left-preserved c =
    let within : c.loop-left.left - 1 < length c.args.links.now = omega (arith, c.loop-left.invariant.within, c.loop-left-test.true) in
    record {
      within = omega (arith, c.loop-left.invariant.within);
      spelt = link_more c.args.sight.now c.args.links.now c.loop-left.left c.index-links-left.result (string_bytes c.loop-left.text) (string_bytes c.push_link.new.text)
          c.loop-left-test.true within c.index-links-left.is c.loop-left.invariant.spelt c.in_ok-push_link.ensures;
    }
