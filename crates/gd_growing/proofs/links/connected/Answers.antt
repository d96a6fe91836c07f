use Rattle.gd_growing.specs.State.{so_far}
use Rattle.gd_growing.proofs.Updating.{updates_so}
use Rattle.gd_growing.proofs.links.connected.Goals as goal

pub returns-in-Delete-clause-links : goal.returns-in-Delete-clause-links
returns-in-Delete-clause-links c = rw c.in-Delete.is c.deleted.ensures.links

pub returns-in_default : goal.returns-in_default
returns-in_default c = record {
  links = rw c.in-Update.is (updates_so c.args.stamp.now (so_far c.args.growing.now) (so_far c.update_at.new.growing) c.args.property.now c.args.object c.args.target.now c.args.previous c.update_at.result
      (λ namespace key is. c.in_default.not-Key namespace key is) c.update_at.ensures.links);
  below = c.update_at.ensures.below;
  same = c.update_at.ensures.same;
}
