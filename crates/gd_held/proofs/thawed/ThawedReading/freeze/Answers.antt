use Rattle.std.proofs.Common.{◌≡◌, ◌∙◌, List, take, subst, sym, ap}
use Rattle.std.proofs.lemmas.Result.{IfOk-weaker}
use Rattle.gd_prim.specs.declared.Batch.{Batch}
use Rattle.gd_defs.specs.Reply.{Answer}
use Rattle.gd_frozen.specs.Meaning.{reading_of}
use Rattle.gd_thawed.specs.Freezing.{Freezes}
use Rattle.gd_thawed.specs.Query.{IsGoing}
use Rattle.gd_held.specs.Thawed.{text_owes, thawed_view, ThawedGoes}
use Rattle.gd_held.specs.declared.thawed.ThawedReading.{ThawedReading}
use Rattle.gd_held.proofs.Owing.{frozen_as}
use Rattle.gd_held.proofs.thawed.ThawedReading.freeze.Goals as goal

pub returns : goal.returns
returns c =
    let t : ThawedReading = c.args.self.now in
    let front : List Batch = take (thawed_view t).dateline c.args.store.now in
    let goes : ThawedGoes front t = c.requires.going.1 in
    let owed : Answer = text_owes front t goes.query in
    let same : c.view-view.result ≡ front = c.view-view.ensures ∙ ap (λ n. take n c.args.store.now) c.dateline.ensures in
    let given = c.in_ok-frozen.ensures.freezes owed (subst (λ (bs : List Batch). IsGoing bs owed t.query) (sym same) goes.going) in
    IfOk-weaker c.frozen_text.result _ _
    (λ text spelled. frozen_as c.args.store.now t goes (reading_of c.in_ok-frozen.frozen) text.items
    (subst (λ (bs : List Batch). Freezes bs owed t.query.subject (reading_of c.in_ok-frozen.frozen)) same given) spelled)
    c.frozen_text.ensures.spelled
