use Rattle.std.proofs.Common.{◌≡◌, ap, Some, None, rules, arith, refl, sym, inl, ◌∙◌}
use Rattle.std.proofs.lemmas.Grind.{common_steps}
use Rattle.std.proofs.KnownBytes.{Keeps-refl}
use Rattle.gd_words.specs.Words.{command_of}
use Rattle.gd_words.specs.Verbs as verb
use Rattle.gd_words.specs.Verbs.{Verb, verb_in, file_of, path_of, reads_input, prints_output}
use Rattle.gd_top.specs.Ends.{IsIdle, RisesAt, may_tell}
use Rattle.gd_top.specs.Kept.{StaysAt}
use Rattle.gd_top.proofs.Caused.{not_usage}
use Rattle.gd_top.proofs.Commands.{verb_known, verb_is, path_known, none_known}
use Rattle.gd_top.proofs.Complete.{complete}
use Rattle.gd_top.proofs.Framed.{printed_no_words}
use Rattle.gd_top.proofs.Generated.{summary_known, none_printed, untouched_keeps}
use Rattle.gd_top.proofs.Kept.{stays_untouched}
use Rattle.gd_top.proofs.program.graphd.Goals as goal

pub returns-in-Ok-Some-clause-serves : goal.returns-in-Ok-Some-clause-serves
returns-in-Ok-Some-clause-serves g c is =
    let run = c.run in
    let f = g.F.Shelf in
    let source = c.args.source.now in
    let sink = c.args.sink.now in
    let words : command_of c.args.words.now ≡ Some c.in-Ok-Some.command = first_of (search rules, grind (arith, common_steps)) in
    verb_known verb.serves run.result (g.C.Clock.may c.args.clock) (f.content c.args.shelf.now) (f.images run.new.shelf) (λ path. RisesAt path (f.faults c.args.shelf.now) (f.faults run.new.shelf))
    (λ path. IsIdle source run.new.source sink run.new.sink × StaysAt (f.content c.args.shelf.now) (f.content run.new.shelf) (f.images c.args.shelf.now) (f.images run.new.shelf) path)
    (g.S.Source.left source) (g.S.Source.left run.new.source) (g.K.Sink.held sink) (g.K.Sink.held run.new.sink) c.args.words.now c.in-Ok-Some.command words is run.ensures.prints

pub returns-in-Ok-Some-clause-events : goal.returns-in-Ok-Some-clause-events
returns-in-Ok-Some-clause-events g c is =
    let run = c.run in
    let f = g.F.Shelf in
    let source = c.args.source.now in
    let sink = c.args.sink.now in
    let words : command_of c.args.words.now ≡ Some c.in-Ok-Some.command = first_of (search rules, grind (arith, common_steps)) in
    verb_known verb.replays run.result (g.C.Clock.may c.args.clock) (f.content c.args.shelf.now) (f.images run.new.shelf) (λ path. RisesAt path (f.faults c.args.shelf.now) (f.faults run.new.shelf))
    (λ path. IsIdle source run.new.source sink run.new.sink × StaysAt (f.content c.args.shelf.now) (f.content run.new.shelf) (f.images c.args.shelf.now) (f.images run.new.shelf) path)
    (g.S.Source.left source) (g.S.Source.left run.new.source) (g.K.Sink.held sink) (g.K.Sink.held run.new.sink) c.args.words.now c.in-Ok-Some.command words is run.ensures.prints

pub returns-in-Ok-Some-clause-kept : goal.returns-in-Ok-Some-clause-kept
returns-in-Ok-Some-clause-kept g c path is =
    let words : command_of c.args.words.now ≡ Some c.in-Ok-Some.command = first_of (search rules, grind (arith, common_steps)) in
    c.run.ensures.kept path (sym (path_known c.args.words.now c.in-Ok-Some.command words) ∙ is)

pub returns-in-Ok-Some-clause-complete : goal.returns-in-Ok-Some-clause-complete
returns-in-Ok-Some-clause-complete g c given no_read no_sink no_disk sound short =
    complete c.run.result _ _ _ (g.S.Source.left c.args.source.now) (g.S.Source.left c.run.new.source) (g.S.Source.given c.args.source.now) (g.S.Source.given c.run.new.source) (g.F.Shelf.content c.args.shelf.now) _ (not_usage (verb_in c.in-Ok-Some.command) c.run.result c.run.ensures.tells) c.run.ensures.causes no_read no_sink no_disk (search rules) short

pub returns-in-Ok-None-clause-serves : goal.returns-in-Ok-None-clause-serves
returns-in-Ok-None-clause-serves g c is =
    let words : command_of c.args.words.now ≡ None = first_of (search rules, grind (arith, common_steps)) in
    absurd (none_known verb.serves c.args.words.now words is)

pub returns-in-Ok-None-clause-events : goal.returns-in-Ok-None-clause-events
returns-in-Ok-None-clause-events g c is =
    let words : command_of c.args.words.now ≡ None = first_of (search rules, grind (arith, common_steps)) in
    absurd (none_known verb.replays c.args.words.now words is)

pub returns-in-Err-clause-serves : goal.returns-in-Err-clause-serves
returns-in-Err-clause-serves g c is =
    let f = g.F.Shelf in
    let source = c.args.source.now in
    let sink = c.args.sink.now in
    let faults = f.faults c.args.shelf.now in
    let path = path_of c.args.words.now in
    let content = f.content c.args.shelf.now in
    let images = f.images c.args.shelf.now in
    printed_no_words (g.C.Clock.may c.args.clock) (RisesAt path faults faults) (IsIdle source source sink sink × StaysAt content content images images path) (g.S.Source.left source) (g.S.Source.left source) (g.K.Sink.held sink) (g.K.Sink.held sink) verb.serves
    content images path (record { source = refl; sink = refl }, stays_untouched content images path)

pub returns-in-Err-clause-events : goal.returns-in-Err-clause-events
returns-in-Err-clause-events g c is =
    let f = g.F.Shelf in
    let source = c.args.source.now in
    let sink = c.args.sink.now in
    let faults = f.faults c.args.shelf.now in
    let path = path_of c.args.words.now in
    let content = f.content c.args.shelf.now in
    let images = f.images c.args.shelf.now in
    printed_no_words (g.C.Clock.may c.args.clock) (RisesAt path faults faults) (IsIdle source source sink sink × StaysAt content content images images path) (g.S.Source.left source) (g.S.Source.left source) (g.K.Sink.held sink) (g.K.Sink.held sink) verb.replays
    content images path (record { source = refl; sink = refl }, stays_untouched content images path)

pub returns-in-Ok-Some-clause-rounds_sent : goal.returns-in-Ok-Some-clause-rounds_sent
returns-in-Ok-Some-clause-rounds_sent g c is =
    let words : command_of c.args.words.now ≡ Some c.in-Ok-Some.command = first_of (search rules, grind (arith, common_steps)) in
    c.run.ensures.rounds_sent (verb_is verb.serves c.args.words.now c.in-Ok-Some.command words is)

pub returns-in-Ok-None-clause-rounds_sent : goal.returns-in-Ok-None-clause-rounds_sent
returns-in-Ok-None-clause-rounds_sent g c is =
    let words : command_of c.args.words.now ≡ None = first_of (search rules, grind (arith, common_steps)) in
    absurd (none_known verb.serves c.args.words.now words is)

pub returns-in-Err-clause-rounds_sent : goal.returns-in-Err-clause-rounds_sent
returns-in-Err-clause-rounds_sent g c is other = inl refl

pub returns-in-Ok-Some-clause-disk_steady : goal.returns-in-Ok-Some-clause-disk_steady
returns-in-Ok-Some-clause-disk_steady g c none =
    let words : command_of c.args.words.now ≡ Some c.in-Ok-Some.command = first_of (search rules, grind (arith, common_steps)) in
    c.run.ensures.disk_steady (sym (path_known c.args.words.now c.in-Ok-Some.command words) ∙ none)

pub returns-in-Ok-Some-clause-usage : goal.returns-in-Ok-Some-clause-usage
returns-in-Ok-Some-clause-usage g c is = absurd (not_usage (verb_in c.in-Ok-Some.command) c.run.result c.run.ensures.tells is)

-- ---- sessions keep replies

pub returns-in-Ok-Some-clause-cached : goal.returns-in-Ok-Some-clause-cached
returns-in-Ok-Some-clause-cached g c n is =
    let run = c.run in
    let f = g.F.Shelf in
    let source = c.args.source.now in
    let sink = c.args.sink.now in
    let words : command_of c.args.words.now ≡ Some c.in-Ok-Some.command = first_of (search rules, grind (arith, common_steps)) in
    verb_known (verb.caches n) run.result (g.C.Clock.may c.args.clock) (f.content c.args.shelf.now) (f.images run.new.shelf) (λ path. RisesAt path (f.faults c.args.shelf.now) (f.faults run.new.shelf))
    (λ path. IsIdle source run.new.source sink run.new.sink × StaysAt (f.content c.args.shelf.now) (f.content run.new.shelf) (f.images c.args.shelf.now) (f.images run.new.shelf) path)
    (g.S.Source.left source) (g.S.Source.left run.new.source) (g.K.Sink.held sink) (g.K.Sink.held run.new.sink) c.args.words.now c.in-Ok-Some.command words is run.ensures.prints

pub returns-in-Ok-None-clause-cached : goal.returns-in-Ok-None-clause-cached
returns-in-Ok-None-clause-cached g c n is =
    let words : command_of c.args.words.now ≡ None = first_of (search rules, grind (arith, common_steps)) in
    absurd (none_known (verb.caches n) c.args.words.now words is)

pub returns-in-Err-clause-cached : goal.returns-in-Err-clause-cached
returns-in-Err-clause-cached g c n is =
    let f = g.F.Shelf in
    let source = c.args.source.now in
    let sink = c.args.sink.now in
    let faults = f.faults c.args.shelf.now in
    let path = path_of c.args.words.now in
    let content = f.content c.args.shelf.now in
    let images = f.images c.args.shelf.now in
    printed_no_words (g.C.Clock.may c.args.clock) (RisesAt path faults faults) (IsIdle source source sink sink × StaysAt content content images images path) (g.S.Source.left source) (g.S.Source.left source) (g.K.Sink.held sink) (g.K.Sink.held sink) (verb.caches n)
    content images path (record { source = refl; sink = refl }, stays_untouched content images path)

pub returns-in-Ok-Some-clause-cached_sent : goal.returns-in-Ok-Some-clause-cached_sent
returns-in-Ok-Some-clause-cached_sent g c n is =
    let words : command_of c.args.words.now ≡ Some c.in-Ok-Some.command = first_of (search rules, grind (arith, common_steps)) in
    c.run.ensures.cached_sent n (verb_is (verb.caches n) c.args.words.now c.in-Ok-Some.command words is)

pub returns-in-Ok-None-clause-cached_sent : goal.returns-in-Ok-None-clause-cached_sent
returns-in-Ok-None-clause-cached_sent g c n is =
    let words : command_of c.args.words.now ≡ None = first_of (search rules, grind (arith, common_steps)) in
    absurd (none_known (verb.caches n) c.args.words.now words is)

pub returns-in-Err-clause-cached_sent : goal.returns-in-Err-clause-cached_sent
returns-in-Err-clause-cached_sent g c n is other = inl refl

-- ---- a dump

pub returns-in-Ok-Some-clause-dumps : goal.returns-in-Ok-Some-clause-dumps
returns-in-Ok-Some-clause-dumps g c from is =
    let run = c.run in
    let f = g.F.Shelf in
    let source = c.args.source.now in
    let sink = c.args.sink.now in
    let words : command_of c.args.words.now ≡ Some c.in-Ok-Some.command = first_of (search rules, grind (arith, common_steps)) in
    verb_known (verb.dumps from) run.result (g.C.Clock.may c.args.clock) (f.content c.args.shelf.now) (f.images run.new.shelf) (λ path. RisesAt path (f.faults c.args.shelf.now) (f.faults run.new.shelf))
    (λ path. IsIdle source run.new.source sink run.new.sink × StaysAt (f.content c.args.shelf.now) (f.content run.new.shelf) (f.images c.args.shelf.now) (f.images run.new.shelf) path)
    (g.S.Source.left source) (g.S.Source.left run.new.source) (g.K.Sink.held sink) (g.K.Sink.held run.new.sink) c.args.words.now c.in-Ok-Some.command words is run.ensures.prints

pub returns-in-Ok-None-clause-dumps : goal.returns-in-Ok-None-clause-dumps
returns-in-Ok-None-clause-dumps g c from is =
    let words : command_of c.args.words.now ≡ None = first_of (search rules, grind (arith, common_steps)) in
    absurd (none_known (verb.dumps from) c.args.words.now words is)

pub returns-in-Err-clause-dumps : goal.returns-in-Err-clause-dumps
returns-in-Err-clause-dumps g c from is =
    let f = g.F.Shelf in
    let source = c.args.source.now in
    let sink = c.args.sink.now in
    let faults = f.faults c.args.shelf.now in
    let path = path_of c.args.words.now in
    let content = f.content c.args.shelf.now in
    let images = f.images c.args.shelf.now in
    printed_no_words (g.C.Clock.may c.args.clock) (RisesAt path faults faults) (IsIdle source source sink sink × StaysAt content content images images path) (g.S.Source.left source) (g.S.Source.left source) (g.K.Sink.held sink) (g.K.Sink.held sink) (verb.dumps from)
    content images path (record { source = refl; sink = refl }, stays_untouched content images path)

-- ---- restores

pub returns-in-Ok-Some-clause-restores : goal.returns-in-Ok-Some-clause-restores
returns-in-Ok-Some-clause-restores g c is =
    let run = c.run in
    let f = g.F.Shelf in
    let source = c.args.source.now in
    let sink = c.args.sink.now in
    let words : command_of c.args.words.now ≡ Some c.in-Ok-Some.command = first_of (search rules, grind (arith, common_steps)) in
    verb_known verb.restores run.result (g.C.Clock.may c.args.clock) (f.content c.args.shelf.now) (f.images run.new.shelf) (λ path. RisesAt path (f.faults c.args.shelf.now) (f.faults run.new.shelf))
    (λ path. IsIdle source run.new.source sink run.new.sink × StaysAt (f.content c.args.shelf.now) (f.content run.new.shelf) (f.images c.args.shelf.now) (f.images run.new.shelf) path)
    (g.S.Source.left source) (g.S.Source.left run.new.source) (g.K.Sink.held sink) (g.K.Sink.held run.new.sink) c.args.words.now c.in-Ok-Some.command words is run.ensures.prints

pub returns-in-Ok-None-clause-restores : goal.returns-in-Ok-None-clause-restores
returns-in-Ok-None-clause-restores g c is =
    let words : command_of c.args.words.now ≡ None = first_of (search rules, grind (arith, common_steps)) in
    absurd (none_known verb.restores c.args.words.now words is)

pub returns-in-Err-clause-restores : goal.returns-in-Err-clause-restores
returns-in-Err-clause-restores g c is =
    let f = g.F.Shelf in
    let source = c.args.source.now in
    let sink = c.args.sink.now in
    let faults = f.faults c.args.shelf.now in
    let path = path_of c.args.words.now in
    let content = f.content c.args.shelf.now in
    let images = f.images c.args.shelf.now in
    printed_no_words (g.C.Clock.may c.args.clock) (RisesAt path faults faults) (IsIdle source source sink sink × StaysAt content content images images path) (g.S.Source.left source) (g.S.Source.left source) (g.K.Sink.held sink) (g.K.Sink.held sink) verb.restores
    content images path (record { source = refl; sink = refl }, stays_untouched content images path)

-- ---- answers

pub returns-in-Ok-Some-clause-answers : goal.returns-in-Ok-Some-clause-answers
returns-in-Ok-Some-clause-answers g c is =
    let run = c.run in
    let f = g.F.Shelf in
    let source = c.args.source.now in
    let sink = c.args.sink.now in
    let words : command_of c.args.words.now ≡ Some c.in-Ok-Some.command = first_of (search rules, grind (arith, common_steps)) in
    verb_known verb.answers run.result (g.C.Clock.may c.args.clock) (f.content c.args.shelf.now) (f.images run.new.shelf) (λ path. RisesAt path (f.faults c.args.shelf.now) (f.faults run.new.shelf))
    (λ path. IsIdle source run.new.source sink run.new.sink × StaysAt (f.content c.args.shelf.now) (f.content run.new.shelf) (f.images c.args.shelf.now) (f.images run.new.shelf) path)
    (g.S.Source.left source) (g.S.Source.left run.new.source) (g.K.Sink.held sink) (g.K.Sink.held run.new.sink) c.args.words.now c.in-Ok-Some.command words is run.ensures.prints

pub returns-in-Ok-None-clause-answers : goal.returns-in-Ok-None-clause-answers
returns-in-Ok-None-clause-answers g c is =
    let words : command_of c.args.words.now ≡ None = first_of (search rules, grind (arith, common_steps)) in
    absurd (none_known verb.answers c.args.words.now words is)

pub returns-in-Err-clause-answers : goal.returns-in-Err-clause-answers
returns-in-Err-clause-answers g c is =
    let f = g.F.Shelf in
    let source = c.args.source.now in
    let sink = c.args.sink.now in
    let faults = f.faults c.args.shelf.now in
    let path = path_of c.args.words.now in
    let content = f.content c.args.shelf.now in
    let images = f.images c.args.shelf.now in
    printed_no_words (g.C.Clock.may c.args.clock) (RisesAt path faults faults) (IsIdle source source sink sink × StaysAt content content images images path) (g.S.Source.left source) (g.S.Source.left source) (g.K.Sink.held sink) (g.K.Sink.held sink) verb.answers
    content images path (record { source = refl; sink = refl }, stays_untouched content images path)

-- ---- follows

pub returns-in-Ok-Some-clause-follows : goal.returns-in-Ok-Some-clause-follows
returns-in-Ok-Some-clause-follows g c is =
    let run = c.run in
    let f = g.F.Shelf in
    let source = c.args.source.now in
    let sink = c.args.sink.now in
    let words : command_of c.args.words.now ≡ Some c.in-Ok-Some.command = first_of (search rules, grind (arith, common_steps)) in
    verb_known verb.follows run.result (g.C.Clock.may c.args.clock) (f.content c.args.shelf.now) (f.images run.new.shelf) (λ path. RisesAt path (f.faults c.args.shelf.now) (f.faults run.new.shelf))
    (λ path. IsIdle source run.new.source sink run.new.sink × StaysAt (f.content c.args.shelf.now) (f.content run.new.shelf) (f.images c.args.shelf.now) (f.images run.new.shelf) path)
    (g.S.Source.left source) (g.S.Source.left run.new.source) (g.K.Sink.held sink) (g.K.Sink.held run.new.sink) c.args.words.now c.in-Ok-Some.command words is run.ensures.prints

pub returns-in-Ok-None-clause-follows : goal.returns-in-Ok-None-clause-follows
returns-in-Ok-None-clause-follows g c is =
    let words : command_of c.args.words.now ≡ None = first_of (search rules, grind (arith, common_steps)) in
    absurd (none_known verb.follows c.args.words.now words is)

pub returns-in-Err-clause-follows : goal.returns-in-Err-clause-follows
returns-in-Err-clause-follows g c is =
    let f = g.F.Shelf in
    let source = c.args.source.now in
    let sink = c.args.sink.now in
    let faults = f.faults c.args.shelf.now in
    let path = path_of c.args.words.now in
    let content = f.content c.args.shelf.now in
    let images = f.images c.args.shelf.now in
    printed_no_words (g.C.Clock.may c.args.clock) (RisesAt path faults faults) (IsIdle source source sink sink × StaysAt content content images images path) (g.S.Source.left source) (g.S.Source.left source) (g.K.Sink.held sink) (g.K.Sink.held sink) verb.follows
    content images path (record { source = refl; sink = refl }, stays_untouched content images path)

-- ---- gen

pub returns-in-Ok-Some-clause-generates : goal.returns-in-Ok-Some-clause-generates
returns-in-Ok-Some-clause-generates g c number count is =
    let run = c.run in
    let f = g.F.Shelf in
    let source = c.args.source.now in
    let sink = c.args.sink.now in
    let words : command_of c.args.words.now ≡ Some c.in-Ok-Some.command = first_of (search rules, grind (arith, common_steps)) in
    summary_known number count run.result (g.C.Clock.may c.args.clock) (f.content c.args.shelf.now) (f.images run.new.shelf) (f.faults c.args.shelf.now) (f.faults run.new.shelf)
    (λ path. IsIdle source run.new.source sink run.new.sink × StaysAt (f.content c.args.shelf.now) (f.content run.new.shelf) (f.images c.args.shelf.now) (f.images run.new.shelf) path)
    (g.S.Source.left source) (g.S.Source.left run.new.source) (g.K.Sink.held sink) (g.K.Sink.held run.new.sink) c.in-Ok-Some.command (verb_is (verb.generates number count) c.args.words.now c.in-Ok-Some.command words is)
    (λ still. untouched_keeps g.K.Sink.held sink run.new.sink still.0.sink) run.ensures.prints run.ensures.tells run.ensures.disk_steady run.ensures.causes.not_store_told run.ensures.causes.damaged_told

pub returns-in-Ok-None-clause-generates : goal.returns-in-Ok-None-clause-generates
returns-in-Ok-None-clause-generates g c number count is =
    let words : command_of c.args.words.now ≡ None = first_of (search rules, grind (arith, common_steps)) in
    absurd (none_known (verb.generates number count) c.args.words.now words is)

pub returns-in-Err-clause-generates : goal.returns-in-Err-clause-generates
returns-in-Err-clause-generates g c number count is = none_printed _ _ _ _ number count _ _ (Keeps-refl (g.K.Sink.held c.args.sink.now))

-- ---- any verb

pub returns-in-Ok-Some-clause-at_end : goal.returns-in-Ok-Some-clause-at_end
returns-in-Ok-Some-clause-at_end g c v is reads done =
    let words : command_of c.args.words.now ≡ Some c.in-Ok-Some.command = first_of (search rules, grind (arith, common_steps)) in
    c.run.ensures.at_end (ap (λ (w : Verb). reads_input w) (verb_is v c.args.words.now c.in-Ok-Some.command words is) ∙ reads) done

pub returns-in-Ok-Some-clause-no_input : goal.returns-in-Ok-Some-clause-no_input
returns-in-Ok-Some-clause-no_input g c v is reads =
    let words : command_of c.args.words.now ≡ Some c.in-Ok-Some.command = first_of (search rules, grind (arith, common_steps)) in
    c.run.ensures.no_input (ap (λ (w : Verb). reads_input w) (verb_is v c.args.words.now c.in-Ok-Some.command words is) ∙ reads)

pub returns-in-Ok-Some-clause-sent : goal.returns-in-Ok-Some-clause-sent
returns-in-Ok-Some-clause-sent g c v is prints done =
    let words : command_of c.args.words.now ≡ Some c.in-Ok-Some.command = first_of (search rules, grind (arith, common_steps)) in
    c.run.ensures.sent (ap (λ (w : Verb). prints_output w) (verb_is v c.args.words.now c.in-Ok-Some.command words is) ∙ prints) done

pub returns-in-Ok-Some-clause-no_output : goal.returns-in-Ok-Some-clause-no_output
returns-in-Ok-Some-clause-no_output g c v is prints =
    let words : command_of c.args.words.now ≡ Some c.in-Ok-Some.command = first_of (search rules, grind (arith, common_steps)) in
    c.run.ensures.no_output (ap (λ (w : Verb). prints_output w) (verb_is v c.args.words.now c.in-Ok-Some.command words is) ∙ prints)

pub returns-in-Ok-Some-clause-tells : goal.returns-in-Ok-Some-clause-tells
returns-in-Ok-Some-clause-tells g c v is =
    let words : command_of c.args.words.now ≡ Some c.in-Ok-Some.command = first_of (search rules, grind (arith, common_steps)) in
    ap (λ (w : Verb). may_tell w c.run.result) (sym (verb_is v c.args.words.now c.in-Ok-Some.command words is)) ∙ c.run.ensures.tells

pub returns-in-Ok-None-clause-tells : goal.returns-in-Ok-None-clause-tells
returns-in-Ok-None-clause-tells g c v is =
    let words : command_of c.args.words.now ≡ None = first_of (search rules, grind (arith, common_steps)) in
    absurd (none_known v c.args.words.now words is)

pub returns-in-Err-clause-tells : goal.returns-in-Err-clause-tells
returns-in-Err-clause-tells g c v is = refl
