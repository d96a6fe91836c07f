use Rattle.std.proofs.Common.{◌∙◌, ◌+◌, sym}
use Rattle.gd_window.proofs.Seen.{still_up, seen_put}
use Rattle.gd_window.proofs.window.Window.offer.Goals as goal

pub invariant_of-self : goal.invariant_of-self
invariant_of-self c =
    still_up c.put.result c.self.inside.order (c.self.inside.limit + 1) c.place_of-place.result c.args.row c.as_slice.result.now c.self.inside.kept.items c.put.new.rows.items
    c.as_slice.ensures.value c.self.invariant.0 c.self.invariant.1 c.place_of-place.ensures.place c.put.ensures.put c.put.ensures.same

pub returns-clause-seen : goal.returns-clause-seen
returns-clause-seen c =
    let s = c.self.inside in
    seen_put c.put.result (record { order = s.order; limit = s.limit; after = s.after; rows = s.kept.items }) c.args.self.now c.place_of-place.result c.args.row c.as_slice.result.now c.put.new.rows.items
    c.self.view_is c.as_slice.ensures.value (sym c.comes_behind.ensures ∙ c.if-not-comes_behind.false) c.place_of-place.ensures.place c.put.ensures.put
