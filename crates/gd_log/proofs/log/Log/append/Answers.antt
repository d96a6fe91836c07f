use Rattle.std.proofs.Common.{true, ◌≡◌, ℕ, List, Some, [], ◌∷◌, ◌++◌, sym, ◌∙◌, ap, subst, arith}
use Rattle.std.proofs.lemmas.Result.{on_ok_weaker}
use Rattle.std.proofs.lemmas.Option.{IfSome_then}
use Rattle.gd_bytes.specs.Group.{IsGroup, group_of}
use Rattle.gd_journal.specs.State.{Journaled}
use Rattle.gd_log.proofs.Held.{held_next, hold, doubt, leaves}
use Rattle.gd_bytes.specs.File.{is_marked}
use Rattle.gd_log.proofs.Meaning.{push}
use Rattle.gd_log.proofs.log.Log.append.Goals as goal

pub append-requires-clause-near : goal.append-requires-clause-near
append-requires-clause-near g c = λ f is.
    let none = ap (λ (v : Journaled _). v.doubt) c.self.view_is ∙ c.requires.no_doubt in
    let long = c.gate.ensures.last f is none c.self.invariant in
    omega (arith, long, c.gate.ensures.gate, c.in_ok-is_near.ensures.near)

pub returns-clause-added : goal.returns-clause-added
returns-clause-added g c = rw (← c.self.view_is) (on_ok_weaker c.append.result (λ run bs before.
    let d = g.D.Disk in
    let j = c.self.inside.journal in
    let p = c.as_slice.result.now in
    let more = c.args.batches.now in
    let is : IsGroup p more = subst (λ (l : List ℕ). IsGroup l more) (sym c.as_slice.ensures.value) c.in_ok-payload.ensures.spelled in
    let meant : group_of p ≡ Some more = ap group_of c.as_slice.ensures.value ∙ c.in_ok-payload.ensures.meant in
    let next = held_next (d.content j.disk) (d.images j.disk) j.gate bs more p before is meant in
    let h = before.held in
    let after = c.append.new.self in
    hold (d.content after.disk) (d.images after.disk) after.gate h.version (h.payloads ++ p ∷ []) (bs ++ more) (push (is_marked h.version) [] h.payloads true bs p more h.groups next) (run h.version h.payloads h.settled)) c.append.ensures.added)

pub returns-clause-unsure : goal.returns-clause-unsure
returns-clause-unsure g c = rw (← c.self.view_is) (IfSome_then c.append.new.self.doubt c.append.ensures.doubtful (λ n run bs before.
    let d = g.D.Disk in
    let j = c.self.inside.journal in
    let p = c.as_slice.result.now in
    let more = c.args.batches.now in
    let is : IsGroup p more = subst (λ (l : List ℕ). IsGroup l more) (sym c.as_slice.ensures.value) c.in_ok-payload.ensures.spelled in
    let meant : group_of p ≡ Some more = ap group_of c.as_slice.ensures.value ∙ c.in_ok-payload.ensures.meant in
    let next = held_next (d.content j.disk) (d.images j.disk) j.gate bs more p before is meant in
    let h = before.held in
    let after = c.append.new.self in
    doubt (d.content after.disk) (d.images after.disk) after.gate n h.version h.payloads p bs more h.groups next (run h.version h.payloads h.settled)))

pub returns-clause-moments : goal.returns-clause-moments
returns-clause-moments g c = rw (← c.self.view_is) (λ bs before.
    let d = g.D.Disk in
    let j = c.self.inside.journal in
    let p = c.as_slice.result.now in
    let more = c.args.batches.now in
    let is : IsGroup p more = subst (λ (l : List ℕ). IsGroup l more) (sym c.as_slice.ensures.value) c.in_ok-payload.ensures.spelled in
    let meant : group_of p ≡ Some more = ap group_of c.as_slice.ensures.value ∙ c.in_ok-payload.ensures.meant in
    let next = held_next (d.content j.disk) (d.images j.disk) j.gate bs more p before is meant in
    let h = before.held in
    let after = c.append.new.self in
    leaves j.disk after.disk h.version h.payloads p bs more h.groups next (c.append.ensures.moments h.version h.payloads h.settled))
