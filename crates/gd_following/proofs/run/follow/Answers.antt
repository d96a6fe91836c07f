use Rattle.std.proofs.Common.{◌≡◌, ℕ, ◌≤◌, List, sym, subst, arith}
use Rattle.std.specs.Option.{ForSome}
use Rattle.gd_base.specs.Counts.{RoseBy}
use Rattle.gd_prim.specs.declared.Batch.{Batch}
use Rattle.gd_replay_laws.proofs.Faults.{rose_within}
use Rattle.gd_follow_laws.specs.World.{Node}
use Rattle.gd_follow.specs.Node.{HoldsNode}
use Rattle.gd_following.specs.Runs.{Loads, Leaves}
use Rattle.gd_following.proofs.Runs.{all_more, taken_more, front_more}
use Rattle.gd_following.proofs.Ends.{begun_as, begun_causes, begun_keeps}
use Rattle.gd_following.proofs.run.follow.Goals as goal

pub returns-in-Ok-clause-ends : goal.returns-in-Ok-clause-ends
returns-in-Ok-clause-ends g c =
    let d = g.D.Disk in
    let node = c.in-Ok.node in
    let told = d.content c.args.disk in
    let images = d.images c.follow_lines.result.1 in
    let was = d.faults c.args.disk in
    let between = d.faults node.log.disk in
    let now = d.faults c.follow_lines.result.1 in
    let old = g.K.Sink.held c.args.sink.now in
    let new = g.K.Sink.held c.follow_lines.new.sink in
    let input = g.S.Source.left c.args.source.now in
    let one : (l : List Batch) → l ≡ node.list → Loads told l = λ l is. subst (λ (bs : List Batch). Loads told bs) (sym is) c.in-Ok.ensures.means in
    let two : (n : Node) → (HoldsNode d.content d.images node → Leaves images n) → ForSome told (λ _. Leaves images n) = λ n left file is. left (c.in-Ok.ensures.holds file is) in
    let same : now ≤ now = omega arith in
    let three : (n : ℕ) → RoseBy between now n → RoseBy was now n = λ n rose. rose_within between now was now n c.in-Ok.ensures.later same rose in
    begun_as c.follow_lines.result.0 _ _ _ _ _ _ _
    (all_more _ (Loads told) _ (λ n. ForSome told (λ _. Leaves images n)) _ (RoseBy was now) one two three old new input)
    (taken_more _ (Loads told) _ (λ n. ForSome told (λ _. Leaves images n)) _ (RoseBy was now) one two three old new input)
    (front_more _ (Loads told) _ (λ n. ForSome told (λ _. Leaves images n)) _ (RoseBy was now) one two three old new input)
    c.follow_lines.ensures.ends

pub returns-in-Ok-clause-caused : goal.returns-in-Ok-clause-caused
returns-in-Ok-clause-caused g c = begun_causes c.follow_lines.result.0 _ _ _ _ c.follow_lines.ensures.caused

pub returns-in-Ok-clause-kept : goal.returns-in-Ok-clause-kept
returns-in-Ok-clause-kept g c file is =
    begun_keeps c.follow_lines.result.0 _ _ _ (λ batches. (c.in-Ok.node.list, c.in-Ok.ensures.means file is, batches)) (c.follow_lines.ensures.kept (c.in-Ok.ensures.holds file is))
