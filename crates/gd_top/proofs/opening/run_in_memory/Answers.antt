use Rattle.std.proofs.Common.{[], Some, refl, arith}
use Rattle.gd_base.specs.Counts.{RoseBy}
use Rattle.gd_disk.specs.Recorded.{content_of, images_of}
use Rattle.gd_words.specs.Verbs.{verb_in}
use Rattle.gd_top.specs.Ends.{IsIdle}
use Rattle.gd_top.specs.Kept.{StaysTold}
use Rattle.gd_top.proofs.Framed.{printed_weaker, printed_nothing}
use Rattle.gd_top.proofs.Replayed.{empty_causes}
use Rattle.gd_top.proofs.opening.run_in_memory.Goals as goal

pub returns-in-Ok-clause-prints : goal.returns-in-Ok-clause-prints
returns-in-Ok-clause-prints g c =
    let run = c.run_over-status in
    let source = c.args.source.now in
    let sink = c.args.sink.now in
    let disk = c.in-Ok.disk in
    printed_weaker run.result.0 (g.C.Clock.may c.args.clock) (IsIdle source run.new.source sink run.new.sink × StaysTold (content_of disk) (content_of run.result.1) (images_of disk) (images_of run.result.1))
    (IsIdle source run.new.source sink run.new.sink) (λ unbegun. unbegun.0) (g.S.Source.left source) (g.S.Source.left run.new.source) (g.K.Sink.held sink) (g.K.Sink.held run.new.sink) (verb_in c.args.command.now)
    (content_of disk) (Some []) (images_of run.result.1) (λ file. ⊥) (RoseBy 0 0) (RoseBy 0 0) c.in-Ok.ensures (λ file none. absurd none) (λ n rose. rose) run.ensures.prints

pub returns-in-Ok-clause-causes : goal.returns-in-Ok-clause-causes
returns-in-Ok-clause-causes g c = empty_causes c.run_over-status.result.0 _ _ _ _ (content_of c.in-Ok.disk) c.in-Ok.ensures (λ rose. omega (arith, rose)) c.run_over-status.ensures.causes

pub returns-in-Err-clause-prints : goal.returns-in-Err-clause-prints
returns-in-Err-clause-prints g c =
    let source = c.args.source.now in
    let sink = c.args.sink.now in
    printed_nothing (g.C.Clock.may c.args.clock) (RoseBy 0 0) (IsIdle source source sink sink) (g.S.Source.left source) (g.S.Source.left source) (g.K.Sink.held sink) (g.K.Sink.held sink) (verb_in c.args.command.now) (Some []) (λ file. ⊥) (record { source = refl; sink = refl })
