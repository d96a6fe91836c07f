use Rattle.std.proofs.Common.{◌≡◌, ◌∙◌, ℕ, Option, ap, subst, sym, true, false, refl}
use Rattle.gd_words.specs.declared.verbs.Command.{Command}
use Rattle.gd_words.specs.Verbs.{serves, caches, replays, dumps, restores, follows, answers, generates, verb_in, reads_input, prints_output}
use Rattle.gd_top.specs.Ends.{IsIdle}
use Rattle.gd_top.specs.Counted.{PrintsServed}
use Rattle.gd_top.specs.Held.{Leaves, Loads}
use Rattle.gd_top.specs.Kept.{StaysTold}
use Rattle.gd_top.specs.Restores.{LeavesBatches}
use Rattle.gd_top.proofs.Caused.{causes_weaker}
use Rattle.gd_base.specs.Counts.{RoseBy}
use Rattle.gd_top.proofs.Counted.{serving_reads, serving_prints, serving_tells}
use Rattle.gd_top.proofs.Dumped.{dump_weaker}
use Rattle.gd_top.proofs.Framed.{printed_serving}
use Rattle.gd_top.proofs.Generated.{summary_weaker}
use Rattle.gd_top.proofs.Restored.{restores_weaker}
use Rattle.gd_top.proofs.opening.run_over.Goals as goal

-- ---- serve

pub returns-in-Serve-clause-prints : goal.returns-in-Serve-clause-prints
returns-in-Serve-clause-prints g c =
    let d = g.D.Disk in
    let run = c.serve_over in
    let source = c.args.source.now in
    let sink = c.args.sink.now in
    let told = d.content c.args.disk in
    let may = g.C.Clock.may c.args.clock in
    let rises = RoseBy (d.faults c.args.disk) (d.faults run.result.1) in
    let unbegun = IsIdle source run.new.source sink run.new.sink × StaysTold told (d.content run.result.1) (d.images c.args.disk) (d.images run.result.1) in
    let served = subst (λ (cache : Option ℕ). PrintsServed cache run.result.0 may (Loads told) (Leaves may told (d.images run.result.1)) rises unbegun (g.S.Source.left source) (g.S.Source.left run.new.source) (g.K.Sink.held sink) (g.K.Sink.held run.new.sink))
    c.new-pace.ensures.cache run.ensures.prints in
    rw c.in-Serve.is
    (printed_serving c.in-Serve.settings.cache run.result.0 may told (d.images run.result.1) rises unbegun (g.S.Source.left source) (g.S.Source.left run.new.source) (g.K.Sink.held sink) (g.K.Sink.held run.new.sink) served)

pub returns-in-Serve-clause-rounds_sent : goal.returns-in-Serve-clause-rounds_sent
returns-in-Serve-clause-rounds_sent g c is = c.serve_over.ensures.rounds_sent

pub returns-in-Serve-clause-cached_sent : goal.returns-in-Serve-clause-cached_sent
returns-in-Serve-clause-cached_sent g c n is = c.serve_over.ensures.rounds_sent

pub returns-in-Serve-clause-no_input : goal.returns-in-Serve-clause-no_input
returns-in-Serve-clause-no_input g c is = let other : true ≡ false = sym (serving_reads c.in-Serve.settings.cache) ∙ (sym (ap (λ (command : Command). reads_input (verb_in command)) c.in-Serve.is) ∙ is) in absurd (cc)

pub returns-in-Serve-clause-no_output : goal.returns-in-Serve-clause-no_output
returns-in-Serve-clause-no_output g c is = let other : true ≡ false = sym (serving_prints c.in-Serve.settings.cache) ∙ (sym (ap (λ (command : Command). prints_output (verb_in command)) c.in-Serve.is) ∙ is) in absurd (cc)

pub returns-in-Serve-clause-tells : goal.returns-in-Serve-clause-tells
returns-in-Serve-clause-tells g c = rw c.in-Serve.is (serving_tells c.in-Serve.settings.cache c.serve_over.result.0 c.serve_over.ensures.tells)

-- ---- replay

pub returns-in-Replay-clause-prints : goal.returns-in-Replay-clause-prints
returns-in-Replay-clause-prints g c = rw c.in-Replay.is c.replay_over.ensures.prints

pub returns-in-Replay-clause-rounds_sent : goal.returns-in-Replay-clause-rounds_sent
returns-in-Replay-clause-rounds_sent g c is = let other : replays ≡ serves = sym (ap (λ (command : Command). verb_in command) c.in-Replay.is) ∙ is in absurd (cc)

pub returns-in-Replay-clause-cached_sent : goal.returns-in-Replay-clause-cached_sent
returns-in-Replay-clause-cached_sent g c n is = let other : replays ≡ caches n = sym (ap (λ (command : Command). verb_in command) c.in-Replay.is) ∙ is in absurd (cc)

pub returns-in-Replay-clause-no_input : goal.returns-in-Replay-clause-no_input
returns-in-Replay-clause-no_input g c is = let other : true ≡ false = sym (ap (λ (command : Command). reads_input (verb_in command)) c.in-Replay.is) ∙ is in absurd (cc)

pub returns-in-Replay-clause-no_output : goal.returns-in-Replay-clause-no_output
returns-in-Replay-clause-no_output g c is = let other : true ≡ false = sym (ap (λ (command : Command). prints_output (verb_in command)) c.in-Replay.is) ∙ is in absurd (cc)

pub returns-in-Replay-clause-tells : goal.returns-in-Replay-clause-tells
returns-in-Replay-clause-tells g c = rw c.in-Replay.is c.replay_over.ensures.tells

-- ---- dump

pub returns-in-Dump-clause-prints : goal.returns-in-Dump-clause-prints
returns-in-Dump-clause-prints g c =
    let d = g.D.Disk in
    let run = c.dump_over in
    rw c.in-Dump.is
    (dump_weaker (Loads (d.content c.args.disk)) (Loads (d.content c.args.disk)) (λ loaded begun. begun) c.in-Dump.dump.from (g.K.Sink.held c.args.sink.now) (g.K.Sink.held run.new.sink) run.result.0 _ _
    (λ still. (record { source = refl; sink = still.0 }, still.1)) run.ensures.prints)

pub returns-in-Dump-clause-causes : goal.returns-in-Dump-clause-causes
returns-in-Dump-clause-causes g c = causes_weaker c.dump_over.result.0 _ _ _ _ _ _ _ _ _ _ (λ none. absurd none) (λ sink. sink) (λ disk. disk) (λ none. absurd none) c.dump_over.ensures.causes

pub returns-in-Dump-clause-at_end : goal.returns-in-Dump-clause-at_end
returns-in-Dump-clause-at_end g c is done = let other : false ≡ true = sym (ap (λ (command : Command). reads_input (verb_in command)) c.in-Dump.is) ∙ is in absurd (cc)

pub returns-in-Dump-clause-no_output : goal.returns-in-Dump-clause-no_output
returns-in-Dump-clause-no_output g c is = let other : true ≡ false = sym (ap (λ (command : Command). prints_output (verb_in command)) c.in-Dump.is) ∙ is in absurd (cc)

pub returns-in-Dump-clause-rounds_sent : goal.returns-in-Dump-clause-rounds_sent
returns-in-Dump-clause-rounds_sent g c is = let other : dumps c.in-Dump.dump.from ≡ serves = sym (ap (λ (command : Command). verb_in command) c.in-Dump.is) ∙ is in absurd (cc)

pub returns-in-Dump-clause-cached_sent : goal.returns-in-Dump-clause-cached_sent
returns-in-Dump-clause-cached_sent g c n is = let other : dumps c.in-Dump.dump.from ≡ caches n = sym (ap (λ (command : Command). verb_in command) c.in-Dump.is) ∙ is in absurd (cc)

pub returns-in-Dump-clause-tells : goal.returns-in-Dump-clause-tells
returns-in-Dump-clause-tells g c = rw c.in-Dump.is c.dump_over.ensures.tells

-- ---- restore

pub returns-in-Restore-clause-prints : goal.returns-in-Restore-clause-prints
returns-in-Restore-clause-prints g c =
    let d = g.D.Disk in
    let run = c.restore_over in
    let told = d.content c.args.disk in
    let leaves = LeavesBatches told (d.images run.result.1) in
    rw c.in-Restore.is
    (restores_weaker (Loads told) (Loads told) leaves leaves (λ loaded begun. begun) (λ after groups left. left) run.result.0 _ _ (g.S.Source.left c.args.source.now)
    (λ still. (record { source = still.0; sink = refl }, still.1)) run.ensures.comes)

pub returns-in-Restore-clause-causes : goal.returns-in-Restore-clause-causes
returns-in-Restore-clause-causes g c = causes_weaker c.restore_over.result.0 _ _ _ _ _ _ _ _ _ _ (λ read. read) (λ none. absurd none) (λ disk. disk) (λ long. long) c.restore_over.ensures.causes

pub returns-in-Restore-clause-no_input : goal.returns-in-Restore-clause-no_input
returns-in-Restore-clause-no_input g c is = let other : true ≡ false = sym (ap (λ (command : Command). reads_input (verb_in command)) c.in-Restore.is) ∙ is in absurd (cc)

pub returns-in-Restore-clause-sent : goal.returns-in-Restore-clause-sent
returns-in-Restore-clause-sent g c is done = let other : false ≡ true = sym (ap (λ (command : Command). prints_output (verb_in command)) c.in-Restore.is) ∙ is in absurd (cc)

pub returns-in-Restore-clause-rounds_sent : goal.returns-in-Restore-clause-rounds_sent
returns-in-Restore-clause-rounds_sent g c is = let other : restores ≡ serves = sym (ap (λ (command : Command). verb_in command) c.in-Restore.is) ∙ is in absurd (cc)

pub returns-in-Restore-clause-cached_sent : goal.returns-in-Restore-clause-cached_sent
returns-in-Restore-clause-cached_sent g c n is = let other : restores ≡ caches n = sym (ap (λ (command : Command). verb_in command) c.in-Restore.is) ∙ is in absurd (cc)

pub returns-in-Restore-clause-tells : goal.returns-in-Restore-clause-tells
returns-in-Restore-clause-tells g c = rw c.in-Restore.is c.restore_over.ensures.tells

-- ---- templates

pub returns-in-Templates-clause-prints : goal.returns-in-Templates-clause-prints
returns-in-Templates-clause-prints g c = rw c.in-Templates.is c.templates_over.ensures.prints

pub returns-in-Templates-clause-rounds_sent : goal.returns-in-Templates-clause-rounds_sent
returns-in-Templates-clause-rounds_sent g c is = let other : answers ≡ serves = sym (ap (λ (command : Command). verb_in command) c.in-Templates.is) ∙ is in absurd (cc)

pub returns-in-Templates-clause-cached_sent : goal.returns-in-Templates-clause-cached_sent
returns-in-Templates-clause-cached_sent g c n is = let other : answers ≡ caches n = sym (ap (λ (command : Command). verb_in command) c.in-Templates.is) ∙ is in absurd (cc)

pub returns-in-Templates-clause-no_input : goal.returns-in-Templates-clause-no_input
returns-in-Templates-clause-no_input g c is = let other : true ≡ false = sym (ap (λ (command : Command). reads_input (verb_in command)) c.in-Templates.is) ∙ is in absurd (cc)

pub returns-in-Templates-clause-no_output : goal.returns-in-Templates-clause-no_output
returns-in-Templates-clause-no_output g c is = let other : true ≡ false = sym (ap (λ (command : Command). prints_output (verb_in command)) c.in-Templates.is) ∙ is in absurd (cc)

pub returns-in-Templates-clause-tells : goal.returns-in-Templates-clause-tells
returns-in-Templates-clause-tells g c = rw c.in-Templates.is c.templates_over.ensures.tells

-- ---- follow

pub returns-in-Follow-clause-prints : goal.returns-in-Follow-clause-prints
returns-in-Follow-clause-prints g c = rw c.in-Follow.is c.follow_over.ensures.prints

pub returns-in-Follow-clause-rounds_sent : goal.returns-in-Follow-clause-rounds_sent
returns-in-Follow-clause-rounds_sent g c is = let other : follows ≡ serves = sym (ap (λ (command : Command). verb_in command) c.in-Follow.is) ∙ is in absurd (cc)

pub returns-in-Follow-clause-cached_sent : goal.returns-in-Follow-clause-cached_sent
returns-in-Follow-clause-cached_sent g c n is = let other : follows ≡ caches n = sym (ap (λ (command : Command). verb_in command) c.in-Follow.is) ∙ is in absurd (cc)

pub returns-in-Follow-clause-no_input : goal.returns-in-Follow-clause-no_input
returns-in-Follow-clause-no_input g c is = let other : true ≡ false = sym (ap (λ (command : Command). reads_input (verb_in command)) c.in-Follow.is) ∙ is in absurd (cc)

pub returns-in-Follow-clause-no_output : goal.returns-in-Follow-clause-no_output
returns-in-Follow-clause-no_output g c is = let other : true ≡ false = sym (ap (λ (command : Command). prints_output (verb_in command)) c.in-Follow.is) ∙ is in absurd (cc)

pub returns-in-Follow-clause-tells : goal.returns-in-Follow-clause-tells
returns-in-Follow-clause-tells g c = rw c.in-Follow.is c.follow_over.ensures.tells

-- ---- gen

pub returns-in-Generate-clause-prints : goal.returns-in-Generate-clause-prints
returns-in-Generate-clause-prints g c =
    let d = g.D.Disk in
    let run = c.generate_over in
    let source = c.args.source.now in
    let sink = c.args.sink.now in
    let told = d.content c.args.disk in
    let rises = RoseBy (d.faults c.args.disk) (d.faults run.result.1) in
    let unbegun = IsIdle source source sink run.new.sink × StaysTold told (d.content run.result.1) (d.images c.args.disk) (d.images run.result.1) in
    rw c.in-Generate.is
    (summary_weaker (g.C.Clock.may c.args.clock) (Loads told) (Loads told) rises rises (λ loaded begun. begun) (λ n rose. rose)
    c.in-Generate.generate.number c.in-Generate.generate.count (g.K.Sink.held sink) (g.K.Sink.held run.new.sink) run.result.0 ⊥ unbegun (λ never. absurd never) run.ensures.prints)

pub returns-in-Generate-clause-causes : goal.returns-in-Generate-clause-causes
returns-in-Generate-clause-causes g c = causes_weaker c.generate_over.result.0 _ _ _ _ _ _ _ _ _ _ (λ none. absurd none) (λ sink. sink) (λ none. absurd none) (λ none. absurd none) c.generate_over.ensures.causes

pub returns-in-Generate-clause-at_end : goal.returns-in-Generate-clause-at_end
returns-in-Generate-clause-at_end g c is done = let other : false ≡ true = sym (ap (λ (command : Command). reads_input (verb_in command)) c.in-Generate.is) ∙ is in absurd (cc)

pub returns-in-Generate-clause-no_output : goal.returns-in-Generate-clause-no_output
returns-in-Generate-clause-no_output g c is = let other : true ≡ false = sym (ap (λ (command : Command). prints_output (verb_in command)) c.in-Generate.is) ∙ is in absurd (cc)

pub returns-in-Generate-clause-rounds_sent : goal.returns-in-Generate-clause-rounds_sent
returns-in-Generate-clause-rounds_sent g c is = let other : generates c.in-Generate.generate.number c.in-Generate.generate.count ≡ serves = sym (ap (λ (command : Command). verb_in command) c.in-Generate.is) ∙ is in absurd (cc)

pub returns-in-Generate-clause-cached_sent : goal.returns-in-Generate-clause-cached_sent
returns-in-Generate-clause-cached_sent g c n is = let other : generates c.in-Generate.generate.number c.in-Generate.generate.count ≡ caches n = sym (ap (λ (command : Command). verb_in command) c.in-Generate.is) ∙ is in absurd (cc)

pub returns-in-Generate-clause-tells : goal.returns-in-Generate-clause-tells
returns-in-Generate-clause-tells g c = rw c.in-Generate.is c.generate_over.ensures.tells
