use Rattle.gd_following.proofs.Runs.{all_follow, taken_follow, front_follow, reached_on, reached_batches}
use Rattle.gd_following.proofs.Ends.{ended_as, ended_between, ended_ok, ended_causes, ended_keeps}
use Rattle.gd_following.proofs.run.follow_lines.Goals as goal

pub returns-clause-ends : goal.returns-clause-ends
returns-clause-ends g c =
    let d = g.D.Disk in
    let node = c.args.node in
    let after = c.answer_all-end.new.answers in
    let old = g.K.Sink.held c.args.sink.now in
    let new = g.K.Sink.held c.answer_all-end.new.sink in
    let left = g.S.Source.left c.args.source.now in
    let ends = rw c.of-following.ensures at c.answer_all-end.ensures.ends in
    rw (c.ended.ensures, c.close.ensures, c.into_node.ensures)
    (ended_as c.answer_all-end.result _ _ _ _ _ _ _
    (all_follow d.content d.images d.faults node after c.requires old new left)
    (taken_follow d.content d.images d.faults node after c.requires old new left)
    (front_follow d.content d.images d.faults node after c.requires old new left)
    ends)

pub returns-clause-at_end : goal.returns-clause-at_end
returns-clause-at_end g c = rw c.ended.ensures (ended_ok c.answer_all-end.result _ c.answer_all-end.ensures.at_end)

pub returns-clause-sent : goal.returns-clause-sent
returns-clause-sent g c = rw c.ended.ensures (ended_between c.answer_all-end.result _ c.answer_all-end.ensures.sent)

pub returns-clause-caused : goal.returns-clause-caused
returns-clause-caused g c = rw c.ended.ensures (ended_causes c.answer_all-end.result _ _ _ _ c.answer_all-end.ensures.caused)

pub returns-clause-disk : goal.returns-clause-disk
returns-clause-disk g c =
    let d = g.D.Disk in
    let reaches = rw c.of-following.ensures at c.answer_all-end.ensures.reaches in
    rw (c.close.ensures, c.into_node.ensures) (reached_on d.content d.images d.faults c.args.node c.answer_all-end.new.answers reaches).later

pub returns-clause-kept : goal.returns-clause-kept
returns-clause-kept g c =
    let d = g.D.Disk in
    let reaches = rw c.of-following.ensures at c.answer_all-end.ensures.reaches in
    rw (c.ended.ensures, c.close.ensures, c.into_node.ensures) (λ holds.
    ended_keeps c.answer_all-end.result _ _ (reached_batches d.content d.images d.faults c.args.node c.answer_all-end.new.answers reaches holds))

pub returns-clause-told : goal.returns-clause-told
returns-clause-told g c =
    let d = g.D.Disk in
    let reaches = rw c.of-following.ensures at c.answer_all-end.ensures.reaches in
    rw (c.close.ensures, c.into_node.ensures) (reached_on d.content d.images d.faults c.args.node c.answer_all-end.new.answers reaches).told
