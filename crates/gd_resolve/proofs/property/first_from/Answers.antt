use Rattle.std.proofs.Common.{◌+◌, refl, drop, sym, ap, ◌∙◌, cond, Some, arith}
use Rattle.std.specs.Prelude.{find}
use Rattle.gd_prim.specs.History.{prims_of}
use Rattle.gd_prim.specs.declared.End.TheVariants.{Left}
use Rattle.gd_prim.specs.End.{places_with}
use Rattle.gd_resolve.specs.Found.{is_found, is_wanted}
use Rattle.gd_resolve.proofs.Lefts.{find_next}
use Rattle.gd_resolve.proofs.property.first_from.Goals as goal

pub loop-k-init : goal.loop-k-init
loop-k-init g c = record { left = refl; work = omega arith; later = omega arith }

pub returns-then-is_found-clause-first : goal.returns-then-is_found-clause-first
returns-then-is_found-clause-first g c =
    let places = places_with Left c.args.object (prims_of c.args.view.now) in
    let test = is_found (is_wanted c.args.wanted.now) (prims_of c.args.view.now) in
    sym (c.loop-k.invariant.left ∙ find_next test places c.loop-k.k c.list_at-place.result c.list_at-place.ensures.place
    ∙ ap (λ b. cond b (Some c.list_at-place.result) (find test (drop (c.loop-k.k + 1) places))) (sym c.is_found.ensures.found ∙ c.if-is_found.true))

pub loop-k-preserved : goal.loop-k-preserved
loop-k-preserved g c =
    let places = places_with Left c.args.object (prims_of c.args.view.now) in
    let test = is_found (is_wanted c.args.wanted.now) (prims_of c.args.view.now) in
    record {
      left = c.loop-k.invariant.left ∙ find_next test places c.loop-k.k c.list_at-place.result c.list_at-place.ensures.place
          ∙ ap (λ b. cond b (Some c.list_at-place.result) (find test (drop (c.loop-k.k + 1) places))) (sym c.is_found.ensures.found ∙ c.if-is_found.false);
      work = omega arith;
      later = omega arith;
    }
