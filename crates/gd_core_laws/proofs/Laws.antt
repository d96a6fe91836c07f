-- The laws of the core, proved.
use Rattle.gd_runs.specs.Core as core
use Rattle.gd_runs.specs.Core.{State, WriteStep}
use Rattle.gd_runs.specs.Side.{Kept, WriteKeeps}
use Rattle.gd_runs.specs.Side as side
use Rattle.gd_core_laws.specs.Laws.{ReadsWithoutMemoryEnter, WritesKeepHistory, KeptWritesAreSteps, LockedWritesKeep, CallersKeep, WorkedReadsFit, ReadsAgainFit, RoundsFollow}
use Rattle.gd_core_laws.proofs.Memory.{begin_lacks, slice_lacks}
use Rattle.gd_core_laws.proofs.SideHistory.{write_keeps}
use Rattle.gd_core_laws.proofs.SideWrites.{walk_keeps}
use Rattle.gd_core_laws.proofs.Lock.{lock_keeps}
use Rattle.gd_core_laws.proofs.Bounds.{worked_by, read_again_by}
use Rattle.gd_core_laws.proofs.RoundAfter.{round_after, stands_after}

pub reads_without_memory_enter : ReadsWithoutMemoryEnter
reads_without_memory_enter s t i budget r = (begin_lacks s t i r, slice_lacks s t i budget)

pub writes_keep_history : WritesKeepHistory
writes_keep_history may s outcomes k bytes w kept t keeps left fresh step = write_keeps may s outcomes k bytes w keeps left fresh kept t step

pub kept_writes_are_steps : KeptWritesAreSteps
kept_writes_are_steps may s k bytes i w _ _ (side.stores t e can) = core.stores t e can
kept_writes_are_steps may s k bytes i w _ _ (side.stores_late t e can) = core.stores_late t e can
kept_writes_are_steps may s k bytes i w _ _ (side.refuses t moment f ends does) = core.refuses t moment f ends does
kept_writes_are_steps may s k bytes i w _ _ (side.doubts t e can) = core.doubts t e can
kept_writes_are_steps may s k bytes i w _ _ (side.leaves_doubt e is) = core.leaves_doubt e is
kept_writes_are_steps may s k bytes i w _ _ side.lacks_memory = core.lacks_memory
kept_writes_are_steps may s k bytes i w _ _ (side.lacks_memory_settled t ends) = core.lacks_memory_settled t ends

pub locked_writes_keep : LockedWritesKeep
locked_writes_keep may l first given s faults most outcomes new x a kept t more lines history lock within in_lines left next step count =
    lock_keeps may l first given lines s faults most outcomes new history lock within x a in_lines left next kept t more step count

pub callers_keep : CallersKeep
callers_keep may l ls s outcomes new p t outs fresh keeps are steps = walk_keeps may l fresh ls s outcomes new p t outs keeps are steps

pub worked_reads_fit : WorkedReadsFit
worked_reads_fit loaded may before printed h shown doubt runs more round g shows lines outcomes j r s q m entered st here order at asks within below front out reply above told later =
    worked_by loaded may before printed h shown doubt runs more round g shows lines outcomes st here order j r s q m entered at asks within below front out reply above told later

pub reads_again_fit : ReadsAgainFit
reads_again_fit least runs g shows lines outcomes k r s q order asks out reply = read_again_by least runs g shows lines outcomes order k r s q asks out reply

pub rounds_follow : RoundsFollow
rounds_follow loaded may before printed h shown doubt runs round given faults output shows doubts outcomes new more st upto here keeps facts = (
  round_after loaded may before printed h shown doubt runs st round upto given here faults output shows doubts outcomes new more keeps facts,
  stands_after loaded may before printed h shown doubt runs st round upto given here faults output shows doubts outcomes new more keeps facts,
)
