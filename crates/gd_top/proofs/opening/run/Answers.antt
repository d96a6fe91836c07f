use Rattle.std.proofs.Common.{◌≡◌, ◌^◌, List, ℕ, Option, Some, None, option_map, sym, ap, subst, ◌∙◌}
use Rattle.gd_base.specs.Counts.{Rose}
use Rattle.gd_runs.proofs.Rounds.{no_some}
use Rattle.gd_words.specs.Verbs.{verb_in, file_of}
use Rattle.gd_input.specs.Taken.{TakesAtLeast}
use Rattle.gd_top.specs.Ends.{IsIdle, Causes, RisesAt}
use Rattle.gd_top.specs.Kept.{StaysAt}
use Rattle.gd_top.specs.Held.{MayMeanAt, DoesMean, told_at}
use Rattle.gd_top.specs.Verbs.{PrintsAt}
use Rattle.gd_top.proofs.Framed.{printed_in_memory}
use Rattle.gd_top.proofs.opening.run.Goals as goal

pub returns-in-Some-clause-prints : goal.returns-in-Some-clause-prints
returns-in-Some-clause-prints g c =
    let f = g.F.Shelf in
    let run = c.run_in_file in
    let source = c.args.source.now in
    let sink = c.args.sink.now in
    let path : file_of c.args.command.now ≡ Some c.in-Some.path.now = sym c.file.ensures ∙ ap (λ o. option_map (λ t. t.now) o) c.in-Some.is in
    subst (λ (p : Option (List ℕ)). PrintsAt (verb_in c.args.command.now) run.result (g.C.Clock.may c.args.clock) (f.content c.args.shelf.now) (f.images run.new.shelf) p (RisesAt p (f.faults c.args.shelf.now) (f.faults run.new.shelf))
    (IsIdle source run.new.source sink run.new.sink × StaysAt (f.content c.args.shelf.now) (f.content run.new.shelf) (f.images c.args.shelf.now) (f.images run.new.shelf) p)
    (g.S.Source.left source) (g.S.Source.left run.new.source) (g.K.Sink.held sink) (g.K.Sink.held run.new.sink)) (sym path) run.ensures.prints

pub returns-in-Some-clause-causes : goal.returns-in-Some-clause-causes
returns-in-Some-clause-causes g c =
    let f = g.F.Shelf in
    let run = c.run_in_file in
    let source = c.args.source.now in
    let sink = c.args.sink.now in
    let content = f.content c.args.shelf.now in
    let path : file_of c.args.command.now ≡ Some c.in-Some.path.now = sym c.file.ensures ∙ ap (λ o. option_map (λ t. t.now) o) c.in-Some.is in
    subst (λ (p : Option (List ℕ)). Causes run.result (Rose (g.S.Source.faults source) (g.S.Source.faults run.new.source)) (Rose (g.K.Sink.faults sink) (g.K.Sink.faults run.new.sink)) (Rose (f.faults c.args.shelf.now) (f.faults run.new.shelf))
    (TakesAtLeast (2 ^ 40) (g.S.Source.left source) (g.S.Source.left run.new.source) (g.S.Source.given source) (g.S.Source.given run.new.source)) (MayMeanAt content p) (DoesMean (told_at content p))) (sym path) run.ensures.causes

pub returns-in-None-clause-prints : goal.returns-in-None-clause-prints
returns-in-None-clause-prints g c =
    let f = g.F.Shelf in
    let run = c.run_in_memory in
    let source = c.args.source.now in
    let sink = c.args.sink.now in
    let faults = f.faults c.args.shelf.now in
    let path : file_of c.args.command.now ≡ None = sym c.file.ensures ∙ ap (λ o. option_map (λ t. t.now) o) c.in-None.is in
    subst (λ (p : Option (List ℕ)). PrintsAt (verb_in c.args.command.now) run.result (g.C.Clock.may c.args.clock) (f.content c.args.shelf.now) (f.images c.args.shelf.now) p (RisesAt p faults faults)
    (IsIdle source run.new.source sink run.new.sink × StaysAt (f.content c.args.shelf.now) (f.content c.args.shelf.now) (f.images c.args.shelf.now) (f.images c.args.shelf.now) p)
    (g.S.Source.left source) (g.S.Source.left run.new.source) (g.K.Sink.held sink) (g.K.Sink.held run.new.sink)) (sym path)
    (printed_in_memory run.result (g.C.Clock.may c.args.clock) (IsIdle source run.new.source sink run.new.sink) (IsIdle source run.new.source sink run.new.sink × Unit {0}) (λ idle. (idle, tt))
    (g.S.Source.left source) (g.S.Source.left run.new.source) (g.K.Sink.held sink) (g.K.Sink.held run.new.sink) (verb_in c.args.command.now) (f.content c.args.shelf.now) (f.images c.args.shelf.now) run.ensures.prints)

pub returns-in-Some-clause-disk_steady : goal.returns-in-Some-clause-disk_steady
returns-in-Some-clause-disk_steady g c none =
    let path : file_of c.args.command.now ≡ Some c.in-Some.path.now = sym c.file.ensures ∙ ap (λ o. option_map (λ t. t.now) o) c.in-Some.is in
    no_some (sym none ∙ path)

pub returns-in-None-clause-disk_steady : goal.returns-in-None-clause-disk_steady
returns-in-None-clause-disk_steady g c none = c.run_in_memory.ensures.causes.disk_fault
