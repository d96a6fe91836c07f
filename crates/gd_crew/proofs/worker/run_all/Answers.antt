use Rattle.std.proofs.Common.{rules, ◌≡◌, length}
use Rattle.gd_crew.specs.Seated.{AreOver}
use Rattle.gd_crew.proofs.Passes.{all_start, all_run, go_on}
use Rattle.gd_crew.proofs.worker.run_all.Goals as goal

pub loop-init : goal.loop-init
loop-init g c = (tt, tt, all_start _ _ c.args.seated.now c.requires.begins, λ k d v l r. r)

pub returns-then-not-pass : goal.returns-then-not-pass
returns-then-not-pass g c =
    let vs = c.args.seated.now in let ms = c.loop.seated in let ws = c.pass.new.seated in
    let len : length ms ≡ length vs = search rules in let len' : length ws ≡ length vs = search rules in let over : AreOver ws = search rules in
    all_run _ _ vs ws len' c.requires.begins (go_on _ _ vs ms ws len c.loop.invariant.3 c.pass.ensures.go) over
