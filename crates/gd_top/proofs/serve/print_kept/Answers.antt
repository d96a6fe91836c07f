use Rattle.std.proofs.Common.{ℕ, List, [], ◌∷◌, ◌++◌, subst}
use Rattle.std.specs.Io.KnownBytes.{Appends}
use Rattle.gd_outside.specs.Gains.{GainsFront}
use Rattle.gd_top.proofs.Counted.{line_same}
use Rattle.gd_top.proofs.serve.print_kept.Goals as goal

pub returns-in-Ok-clause-done : goal.returns-in-Ok-clause-done
returns-in-Ok-clause-done g c is =
    subst (λ (l : List ℕ). Appends (g.K.Sink.held c.args.sink.now) (g.K.Sink.held c.print_counts.new.sink) (l ++ 10 ∷ []))
    (line_same c.args.keeping.now c.hits.result c.reads.result c.refused.result c.hits.ensures c.reads.ensures c.refused.ensures) c.in-Ok.ensures.all

pub returns-in-Err-clause-front : goal.returns-in-Err-clause-front
returns-in-Err-clause-front g c is =
    subst (λ (l : List ℕ). GainsFront (g.K.Sink.held c.args.sink.now) (g.K.Sink.held c.print_counts.new.sink) (l ++ 10 ∷ []))
    (line_same c.args.keeping.now c.hits.result c.reads.result c.refused.result c.hits.ensures c.reads.ensures c.refused.ensures) c.in-Err.ensures.front
