use Rattle.std.proofs.Common.{◌-◌, ℕ, List, inl, inr, map, refl, set, sym, ap, ◌∙◌, take}
use Rattle.gd_reply.specs.Replies.{reply_text}
use Rattle.gd_caller.proofs.Counting.{shown_reply, shown_long}
use Rattle.gd_caller.proofs.reads.answer_at.Goals as goal

pub returns-in-Ok-clause-replies : goal.returns-in-Ok-clause-replies
returns-in-Ok-clause-replies g c =
    let was = c.args.replies.now.items in
    let place = c.args.read.line - c.args.standing.now.first in
    inr (c.settle.ensures.replies ∙ ap (λ (t : List ℕ). set (map reply_text was) place t) c.in-Ok.ensures)

pub returns-in-Ok-clause-kept : goal.returns-in-Ok-clause-kept
returns-in-Ok-clause-kept g c =
    let s = c.args.standing.now in
    let r = c.args.read in
    c.settle.ensures.right (take s.shown s.store.now) c.args.at (shown_long s.store.now s.shown c.args.at c.requires.there c.requires.shown) c.ranges.at.fits (c.in-Ok.ensures ∙ sym (shown_reply s.store.now s.shown c.args.at r.line r c.requires.there c.requires.shown)) c.requires.kept

pub returns-in-Err-clause-counted : goal.returns-in-Err-clause-counted
returns-in-Err-clause-counted g c = inr (refl, refl)
