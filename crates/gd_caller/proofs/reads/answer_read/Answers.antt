use Rattle.std.proofs.Common.{ℕ, inl, inr, ⊎_elim, get_or, refl, ap, arith}
use Rattle.std.proofs.lemmas.Option.{IfSome_then, slice_get-get_or}
use Rattle.gd_runs.specs.Request.{reply_of}
use Rattle.gd_mql.specs.Requests.{read_set_view}
use Rattle.gd_caller.proofs.Counting.{fitting_reply}
use Rattle.gd_caller.proofs.reads.answer_read.Goals as goal

pub returns-in-Some-clause-answers : goal.returns-in-Some-clause-answers
returns-in-Some-clause-answers g c outs are =
    let r = c.args.read in
    let floors = c.args.floors.now in
    let kept = c.in-Some.kept in
    let fits = c.in-Some.ensures.fits outs are in
    let many = c.requires.floors in
    let small = c.requires.read.2 in
    record {
      floor = get_or floors r.session 0;
      there = slice_get-get_or floors r.session 0 (omega (arith, many, small));
      at = kept.at;
      next = kept.at;
      floors_are = c.settle_worked.ensures.floors;
      above_floor = fits.above;
      above_at = omega arith;
      replies = inr (kept.reply.items, c.settle_worked.ensures.replies, inr (kept, c.in-Some.ensures.same, refl, refl, fits));
    }

pub returns-in-None-clause-answers : goal.returns-in-None-clause-answers
returns-in-None-clause-answers g c outs are =
    let r = c.args.read in
    let s = c.args.standing.now in
    let floors = c.args.floors.now in
    let many = c.requires.floors in
    let small = c.requires.read.2 in
    let most = c.max.ensures in
    let least = c.least_later-at.ensures.least outs are in
    record {
      floor = get_or floors r.session 0;
      there = slice_get-get_or floors r.session 0 (omega (arith, many, small));
      at = c.least_later-at.result;
      next = c.max.result;
      floors_are = refl;
      above_floor = omega (arith, most);
      above_at = omega (arith, most);
      replies = ⊎_elim
          (λ same. inl same)
          (λ is. inr (reply_of s.store.now c.least_later-at.result r.line (read_set_view r.request), is, inl (least, ap (λ (n : ℕ). reply_of s.store.now n r.line (read_set_view r.request)) least)))
          c.answer_at.ensures.replies;
    }

-- what a worker kept is the reply, at a number of what is shown
pub settle_worked-requires-clause-there : goal.settle_worked-requires-clause-there
settle_worked-requires-clause-there g c = (fitting_reply c.args.standing.now.store.now c.args.standing.now.shown c.args.read c.args.worked c.in-Some.kept c.in-Some.ensures.same c.requires.worked).0

pub settle_worked-requires-clause-answers : goal.settle_worked-requires-clause-answers
settle_worked-requires-clause-answers g c = (fitting_reply c.args.standing.now.store.now c.args.standing.now.shown c.args.read c.args.worked c.in-Some.kept c.in-Some.ensures.same c.requires.worked).1

pub fitting-requires-clause-shown : goal.fitting-requires-clause-shown
fitting-requires-clause-shown g c = IfSome_then c.args.worked c.requires.worked (λ w is. is.0)
