use Rattle.std.proofs.Common.{◌-◌, refl, sym, arith}
use Rattle.gd_prim.specs.History.{prims_of}
use Rattle.gd_resolve.proofs.Ways.{led_first, led_all, led_unnamed, led_on}
use Rattle.gd_resolve.proofs.up.links_up.Goals as goal

pub loop-left-init : goal.loop-left-init
loop-left-init g c = record {
  led = led_first (prims_of c.args.view.now) c.args.object 16 c.args.object c.new-links.result.items refl refl c.new-links.ensures.items;
  few = omega arith;
  first = λ full. refl;
  work = omega arith;
  later = omega arith;
  counted = λ less. omega (arith, less);
}

pub returns-then-eq-clause-links : goal.returns-then-eq-clause-links
returns-then-eq-clause-links g c =
    led_all (prims_of c.args.view.now) c.args.object c.loop-left.left c.loop-left.place c.loop-left.links.items c.loop-left.invariant.led (cc)

pub returns-in_default-namespace_of-clause-links : goal.returns-in_default-namespace_of-clause-links
returns-in_default-namespace_of-clause-links g c =
    led_unnamed (prims_of c.args.view.now) c.args.object c.loop-left.left c.loop-left.place c.in-Some.link c.loop-left.links.items c.loop-left.invariant.led (omega arith) (cc)
    (sym c.in-Some.ensures.link) (sym c.in_default-namespace_of.ensures.namespace)

pub loop-left-preserved : goal.loop-left-preserved
loop-left-preserved g c = record {
  led = led_on (prims_of c.args.view.now) c.args.object c.loop-left.left c.loop-left.place c.in-Some.link c.in-Some-namespace_of.namespace c.loop-left.links.items _ c.loop-left.invariant.led (omega arith) (cc)
      (sym c.in-Some.ensures.link) (sym c.in-Some-namespace_of.ensures.namespace) c.in_ok-push.ensures.items;
  few = omega arith;
  first = λ full. absurd (omega (arith, full));
  work = omega arith;
  later = omega arith;
  counted = λ less. omega arith;
}

pub returns-then-eq-2-clause-links : goal.returns-then-eq-2-clause-links
returns-then-eq-2-clause-links g c =
    led_all (prims_of c.args.view.now) c.args.object c.loop-left.left c.loop-left.place c.loop-left.links.items c.loop-left.invariant.led (cc)
