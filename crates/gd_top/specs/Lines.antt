-- What answering lines of a round comes to.
use Rattle.std.specs.Prelude.{◌≡◌, ℕ, ◌+◌, ◌≤◌, List, length, Bool, true, Option, Result, OnOk, OnErr}
use Rattle.std.specs.Option.{is_some}
use Rattle.gd_base.specs.Counts.{Rose}
use Rattle.gd_input.specs.declared.line.RoundLine.{RoundLine}
use Rattle.gd_input.specs.Rounds.{AreKept}
use Rattle.gd_outside.specs.declared.Failed.{Failed}
use Rattle.gd_threads.specs.Served.{RoundsValue, state_at}
use Rattle.gd_top.specs.Answered.{Answers, AnswersFront}

-- Lines of a round were answered over a run, and printed to a sink: all of them, and sent on, or, where it stopped, a front of what they come to. It stops where the sink fails.
pub record AnswersLines {D C : Type 0} (content : D → Option (List ℕ)) (faults : D → ℕ) (may : C → ℕ → Bool) (lines : List RoundLine) (old new : RoundsValue D C) (held_old held_new : Option (List ℕ)) (is_sent : Bool) (sink_old sink_new : ℕ) (result : Result (Unit {0}) Failed) : Type 0 where
  pub all : (texts : List (List ℕ)) → AreKept lines texts → OnOk result (Answers (may old.side.clock) (state_at old.side) old.lines (state_at new.side) new.lines texts held_old held_new (faults old.side.log.disk) (faults new.side.log.disk) old.keeping new.keeping)
  pub front : (texts : List (List ℕ)) → AreKept lines texts → OnErr result (AnswersFront (may old.side.clock) (state_at old.side) old.lines (state_at new.side) texts held_old held_new (faults old.side.log.disk) (faults new.side.log.disk) old.keeping new.keeping)
  pub sent : OnOk result (is_sent ≡ true)
  pub next : OnOk result (new.lines ≡ old.lines + length lines)
  pub caches : length new.keeping.caches ≡ length old.keeping.caches
  pub loaded : new.side.history.loaded ≡ old.side.history.loaded
  pub told : is_some (content new.side.log.disk) ≡ is_some (content old.side.log.disk)
  pub clock : may new.side.clock ≡ may old.side.clock
  pub failed : OnErr result (Rose sink_old sink_new)
  pub later : sink_old ≤ sink_new
  pub disk_later : faults old.side.log.disk ≤ faults new.side.log.disk
