use Rattle.std.proofs.Common.{◌∙◌, arith}
use Rattle.gd_flat.specs.Made.{growing_of}
use Rattle.gd_flat.proofs.Whole.{trees_done}
use Rattle.gd_flat.proofs.thawing.made.Goals as goal

pub returns : goal.returns
returns c =
    c.in_order.ensures
    ∙ trees_done c.args.pieces.now c.loop-piece.piece-index (growing_of c.loop-piece.growing) _ (omega (arith, c.loop-piece-test.false, c.loop-piece.auto.piece-index-end)) c.loop-piece.invariant c.in_ok-items.ensures
