use Rattle.std.proofs.Common.{◌<◌, ◌&&◌, is_some, sym, ◌∙◌, arith}
use Rattle.gd_prim.specs.History.{prims_of}
use Rattle.gd_prim.specs.Live as live
use Rattle.gd_store.specs.Keys.{is_key_of}
use Rattle.gd_resolve.proofs.Ways.{find-place}
use Rattle.gd_resolve.proofs.up.naming_link.Goals as goal

pub loop-k-preserved : goal.loop-k-preserved
loop-k-preserved g c =
    let prims = prims_of c.args.view.now in
    let below : c.loop-k.k < 8 = omega arith in
    record {
      left = c.loop-k.invariant.left
          ∙ find-place (λ k. live.is_live prims k && is_some (live.end_at (λ p. p.right) prims k)) 8 c.loop-k.k (live.places_where (is_key_of c.args.object) prims) c.in_ok-link.link below
          (sym c.in_ok-link.ensures.place) (sym c.names.ensures.names ∙ c.if-names.false);
      work = omega arith;
      later = omega arith;
      counted = λ more. omega arith;
    }
