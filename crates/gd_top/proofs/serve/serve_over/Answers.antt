use Rattle.std.proofs.Common.{◌≡◌, ◌∙◌, ℕ, Bool, option_map, refl, subst, ap, arith}
use Rattle.std.specs.Option.{is_some}
use Rattle.gd_base.specs.Counts.{RoseBy}
use Rattle.gd_threads.specs.Served.{state_at}
use Rattle.gd_top.specs.Ends.{IsIdle}
use Rattle.gd_top.specs.Held.{Leaves, Loads}
use Rattle.gd_top.specs.Kept.{StaysTold}
use Rattle.gd_top.specs.Opened.{HoldsAs}
use Rattle.gd_top.specs.Counted.{PrintsServed}
use Rattle.gd_top.proofs.Kept.{keeps_run, keeps_refused, stays_refused}
use Rattle.gd_top.proofs.Framed.{refused_served}
use Rattle.gd_top.proofs.Caused.{refused_tells}
use Rattle.gd_words.specs.Verbs.{serves}
use Rattle.gd_top.proofs.Settled.{loads, leaves}
use Rattle.gd_top.proofs.Counted.{above_none, served_weaker}
use Rattle.gd_top.proofs.Weaker.{rose_within}
use Rattle.gd_top.proofs.serve.serve_over.Goals as goal

pub returns-in-Ok-clause-prints : goal.returns-in-Ok-clause-prints
returns-in-Ok-clause-prints g c =
    let d = g.D.Disk in
    let first = c.in-Ok.rounds in
    let last = c.serve_all-status.new.rounds in
    let told = d.content c.args.disk in
    let may = g.C.Clock.may c.args.clock in
    let loaded = first.side.history.loaded in
    let before = d.faults first.side.log.disk in
    let after = d.faults last.side.log.disk in
    let cache = option_map (λ n. n.value) c.args.pace.cache in
    served_weaker cache may (λ l. l ≡ loaded) (Loads told) (HoldsAs may (state_at last.side)) (Leaves may told (d.images c.close-disk.result.0)) (RoseBy before after) (RoseBy (d.faults c.args.disk) (d.faults c.close-disk.result.0))
    (loads told loaded c.in-Ok.ensures.begins.means)
    (leaves may told (d.content c.close-disk.result.0) (d.images c.close-disk.result.0) (state_at last.side)
    (ap (λ (pair : _ × _). is_some (d.content pair.0)) c.close-disk.ensures.parts ∙ (c.serve_all-status.ensures.told ∙ c.in-Ok.ensures.disk.told)) c.close-disk.ensures.holds)
    (λ n. rose_within before after (d.faults c.args.disk) (d.faults c.close-disk.result.0) n c.in-Ok.ensures.disk.later (omega (arith, ap (λ (pair : _ × _). d.faults pair.0) c.close-disk.ensures.parts)))
    c.serve_all-status.result ⊥ _ _ _ _ _ (λ e. absurd e)
    (subst (λ (m : ℕ → Bool). PrintsServed cache c.serve_all-status.result m (λ l. l ≡ loaded) (HoldsAs m (state_at last.side)) (RoseBy before after) ⊥ (g.S.Source.left c.args.source.now) (g.S.Source.left c.serve_all-status.new.source) (g.K.Sink.held c.args.sink.now) (g.K.Sink.held c.serve_all-status.new.sink)) c.in-Ok.ensures.begins.clock
    (c.serve_all-status.ensures.prints cache (above_none c.args.pace.cache) c.in-Ok.ensures.keeps))

pub returns-in-Ok-clause-kept : goal.returns-in-Ok-clause-kept
returns-in-Ok-clause-kept g c =
    let d = g.D.Disk in
    let last = c.serve_all-status.new.rounds in
    -- what holds of the disk wherever a thread may run holds here
    let laws = g.met.D.Disk g.world.𝓛 g.world.𝓜 g.world.𝓡 ((λ s x. x), (λ x. x), (λ x. x), λ x. x) in
    keeps_run d.content d.images laws.reads_one c.args.disk c.close-disk.result.0 c.in-Ok.rounds.side.history.loaded (state_at last.side) c.in-Ok.ensures.begins.means c.serve_all-status.ensures.loaded
    (ap (λ (pair : _ × _). is_some (d.content pair.0)) c.close-disk.ensures.parts ∙ (c.serve_all-status.ensures.told ∙ c.in-Ok.ensures.disk.told)) c.close-disk.ensures.holds

pub returns-in-Err-clause-prints : goal.returns-in-Err-clause-prints
returns-in-Err-clause-prints g c =
    let d = g.D.Disk in
    let source = c.args.source.now in
    let sink = c.args.sink.now in
    let left = g.S.Source.left source in
    let held = g.K.Sink.held sink in
    let old = c.args.disk in
    let new = c.in-Err.disk in
    let unbegun = IsIdle source source sink sink × StaysTold (d.content old) (d.content new) (d.images old) (d.images new) in
    rw c.of_store.ensures
    (refused_served (g.C.Clock.may c.args.clock) (RoseBy (d.faults old) (d.faults new)) unbegun left left held held (option_map (λ n. n.value) c.args.pace.cache) (Loads (d.content old)) (Leaves (g.C.Clock.may c.args.clock) (d.content old) (d.images new)) c.in-Err.fault
    (record { source = refl; sink = refl }, stays_refused d.content d.moment d.images d.images_since old new c.in-Err.ensures.disk.kept))

pub returns-in-Err-clause-kept : goal.returns-in-Err-clause-kept
returns-in-Err-clause-kept g c = let d = g.D.Disk in keeps_refused d.content d.moment d.images d.images_since c.args.disk c.in-Err.disk c.in-Err.ensures.disk.kept

pub returns-in-Err-clause-tells : goal.returns-in-Err-clause-tells
returns-in-Err-clause-tells g c = rw c.of_store.ensures (refused_tells serves c.in-Err.fault)
