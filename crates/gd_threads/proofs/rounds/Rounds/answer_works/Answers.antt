use Rattle.std.proofs.Common.{◌+◌, ℕ, List, length, map, sym, subst, ap, arith}
use Rattle.std.specs.List.{All}
use Rattle.logbook.specs.Pages.{Book}
use Rattle.gd_input.specs.Rounds.{AreKept, in_round}
use Rattle.gd_runs.specs.Explained.{Numbered}
use Rattle.gd_crew.specs.PassedOn.{SideValue, AllRight, CountsLines}
use Rattle.gd_reply.specs.Replies.{reply_text}
use Rattle.gd_round_lines.specs.Fresh.{IsFreshFrom}
use Rattle.gd_round_lines.specs.Works.{texts_of, AreRead, AreWithin}
use Rattle.gd_crew.specs.Ready.{IsIdle}
use Rattle.gd_crew.specs.Texts.{kept_lines}
use Rattle.gd_crew.proofs.Joined.{kept}
use Rattle.gd_threads.specs.Served.{RoundsValue}
use Rattle.gd_threads.specs.Rounds.{AnswersRound}
use Rattle.gd_caller.proofs.CountedLines.{lines_counted}
use Rattle.gd_threads.proofs.Kept.{all_later, shown_more, shown_run}
use Rattle.gd_threads.proofs.Served.{answered, kept_of_writes, fresh_behind, texts_in}
use Rattle.gd_threads.proofs.Sides.{shown_fresh}
use Rattle.gd_threads.proofs.rounds.Rounds.answer_works.Goals as goal

pub answer_joined-replies-requires-clause-outcomes : goal.answer_joined-replies-requires-clause-outcomes
answer_joined-replies-requires-clause-outcomes g c =
    let d = g.D.Disk in
    let lines = length c.args.lines.now in
    kept_of_writes d.content d.moment d.images d.images_since d.faults g.C.Clock.may c.args.self.now.lines (c.args.self.now.lines + lines) c.args.works c.requires.within c.show-begun.new.side c.run-workers.new.side c.run-workers.ensures.runs

pub invariant_of-self : goal.invariant_of-self
invariant_of-self g c =
    let d = g.D.Disk in
    let old = c.self.inside in
    let inv = c.self.invariant in
    let end = old.lines + length c.args.lines.now in
    let mid = c.show-begun.new.side in
    let late = c.run-workers.new.side in
    let runs = c.run-workers.ensures.runs in
    let is = c.answer_joined-replies.ensures.side in
    let hired = c.hire-hired.ensures in
    let lent = c.run-workers.ensures.lent in
    let collected = c.collect-worked.ensures in
    let count = hired.count in
    let capacity = hired.capacity in
    let more = collected.count in
    let same = collected.capacity in
    let all = inv.all in
    let room = inv.room in
    let within = subst (λ (r : RoundsValue _ _). AreWithin r.lines (r.lines + length c.args.lines.now) c.args.works) (sym c.self.view_is) c.requires.within in
    record {
      outcomes = ap (λ (s : SideValue _ _). s.outcomes) is;
      fresh = subst (λ (s : SideValue _ _). IsFreshFrom end s.history s.doubt) (sym is)
          (fresh_behind d.content d.moment d.images d.images_since d.faults g.C.Clock.may old.lines end c.args.works within mid late runs (shown_fresh old.lines old.side mid c.show-begun.ensures.shows inv.fresh));
      idle = subst (λ (table : Book). All (IsIdle table) c.collect-worked.new.seats.items) (sym (ap (λ (s : SideValue _ _). s.table) is)) collected.idle;
      all = omega (arith, count, lent, more, all);
      room = omega (arith, capacity, same, room);
      some = inv.some;
      few = inv.few;
      kept = subst (λ (s : SideValue _ _). AllRight s.shown c.answer_joined-replies.new.keeping.caches) (sym is) c.answer_joined-replies.ensures.kept;
    }

-- what sessions keep is right over what is shown before the writes
pub hire-hired-requires-clause-right : goal.hire-hired-requires-clause-right
hire-hired-requires-clause-right g c =
    let old = c.self.inside.side in
    let mid = c.show-begun.new.side in
    subst (AllRight mid.shown) (sym c.caches.ensures)
    (all_later old.shown mid.shown c.self.inside.keeping.caches (shown_more old mid c.show-begun.ensures.shows c.stored-stored.ensures.keeps.shows c.show-begun.ensures.keeps.keeps.shows) c.self.invariant.kept)

-- and behind them
pub answer_joined-replies-requires-clause-kept : goal.answer_joined-replies-requires-clause-kept
answer_joined-replies-requires-clause-kept g c =
    let d = g.D.Disk in
    let old = c.self.inside.side in
    let mid = c.show-begun.new.side in
    let late = c.run-workers.new.side in
    let caches = c.self.inside.keeping.caches in
    all_later mid.shown late.shown caches (shown_run d.content d.moment d.images d.images_since d.faults g.C.Clock.may c.args.works mid late c.run-workers.ensures.runs c.show-begun.ensures.keeps.keeps.shows c.stored-kept.ensures.keeps.shows)
    (all_later old.shown mid.shown caches (shown_more old mid c.show-begun.ensures.shows c.stored-stored.ensures.keeps.shows c.show-begun.ensures.keeps.keeps.shows) c.self.invariant.kept)

pub returns : goal.returns
returns g c =
    let d = g.D.Disk in
    let old = c.self.inside in
    let inv = c.self.invariant in
    let lines = c.args.lines.now in
    let replies = map reply_text c.answer_joined-replies.result.items in
    let kept_now = c.answer_joined-replies.new.keeping in
    let new : RoundsValue _ _ = record { side = c.answer_joined-replies.new.side; lines = old.lines + length lines; keeping = kept_now } in
    let within = subst (λ (r : RoundsValue _ _). AreWithin r.lines (r.lines + length lines) c.args.works) (sym c.self.view_is) c.requires.within in
    let reads = subst (λ (r : RoundsValue _ _). (given : List Numbered) → AreKept lines (texts_of given) → AreRead r.lines given c.args.works) (sym c.self.view_is) c.requires.read in
    subst (λ (r : RoundsValue _ _). AnswersRound d.content d.moment d.images d.images_since d.faults g.C.Clock.may lines r new replies) c.self.view_is
    (answered d.content d.moment d.images d.images_since d.faults g.C.Clock.may old.lines lines c.args.works within reads (kept_lines lines) (kept lines c.requires.short) c.show-begun.result replies
    old.keeping kept_now
    (λ texts had. subst (λ (bs : List (List ℕ)). CountsLines old.lines bs replies old.keeping kept_now) (texts_in 0 texts)
    (lines_counted old.lines c.show-begun.result (in_round 0 texts) c.args.works c.run-workers.new.side replies (reads (in_round 0 texts) (subst (AreKept lines) (sym (texts_in 0 texts)) had))
    (kept_of_writes d.content d.moment d.images d.images_since d.faults g.C.Clock.may old.lines (old.lines + length lines) c.args.works within c.show-begun.new.side c.run-workers.new.side c.run-workers.ensures.runs)
    c.answer_joined-replies.ensures.answers (old.lines + length lines) old.keeping kept_now within c.answer_joined-replies.ensures.counted))
    old.side c.show-begun.new.side c.run-workers.new.side c.answer_joined-replies.new.side inv.outcomes inv.fresh c.show-begun.ensures.shows c.show-begun.ensures.shown c.run-workers.ensures.runs c.answer_joined-replies.ensures.answers c.answer_joined-replies.ensures.side)
