use Rattle.std.proofs.Common.{◌∙◌, take}
use Rattle.gd_caller.proofs.Counting.{shown_reply, shown_long}
use Rattle.gd_caller.proofs.reads.line_at.Goals as goal

pub returns-in-Some : goal.returns-in-Some
returns-in-Some g c =
    let s = c.args.standing.now in
    let r = c.args.read.now in
    let right = rw c.in-Some.is at c.in_ok-found.ensures.right in
    right (take s.shown s.store.now) c.requires.kept c.requires.keyed (shown_long s.store.now s.shown c.args.at c.requires.there c.requires.shown) ∙ shown_reply s.store.now s.shown c.args.at r.line r c.requires.there c.requires.shown
