use Rattle.std.proofs.Common.{rules, ◌≡◌, false}
use Rattle.gd_crew.proofs.Passes.{pass_kept}
use Rattle.gd_crew.proofs.worker.pass.Goals as goal
use Rattle.gd_crew.proofs.worker.pass.Goals.{then-turn, else-turn}

pub turn-requires-clause-part : goal.turn-requires-clause-part
turn-requires-clause-part g c κs within = c.loop-k.invariant.0 c.loop-k.k c.index-seated-k.result (search rules)

pub loop-k-preserved : goal.loop-k-preserved
loop-k-preserved g c =
    let after : c.if-turn.going ≡ false → (c.loop-k.going ≡ false) × (c.turn.result ≡ false) = λ no. elim c.if-turn.branch [ then-turn w ↦ absurd (cc (w.going-is, no)) | else-turn w ↦ (search rules, search rules) ] in
    pass_kept _ _ c.args.seated.now c.loop-k.seated c.loop-k.k c.index-seated-k.result c.turn.new.self c.loop-k.going c.if-turn.going c.turn.result (search rules) (search rules) c.loop-k.invariant c.turn.ensures.runs c.turn.ensures.over after
