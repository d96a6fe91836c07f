use Rattle.std.proofs.Common.{◌≡◌, ◌∙◌, ◌+◌, ◌-◌, ◌++◌, ◌∷◌, [], arith, ap, map, ℕ, List}
use Rattle.std.proofs.lemmas.Result.{err_from_is_err_and}
use Rattle.gd_grammar.specs.Mark.{Mark}
use Rattle.gd_bytes.specs.FrozenRead.{row_at, some_at}
use Rattle.gd_frozen.specs.declared.frozen.RowAt.{RowAt}
use Rattle.gd_frozen.specs.Meaning.{row_of}
use Rattle.gd_grammar.proofs.Loops.{more_ends, more_step, more_done}
use Rattle.gd_frozen.proofs.Loops.{more_halts, stop_halts, map_more}
use Rattle.gd_frozen.specs.declared.halt.Halt.TheVariants as halt
use Rattle.gd_frozen.proofs.row.some_rows.Goals as goal

pub returns-in-None : goal.returns-in-None
returns-in-None c = let l = c.loop-place in more_ends 59 (1000 - l._place) row_at (map row_of l.rows.items) l.rest.now (some_at 1000 59 row_at c.args.bytes.now) c.in-None.ensures l.invariant

pub returns : goal.returns
returns c = let l = c.loop-place in more_done 59 (1000 - l._place) row_at (map row_of l.rows.items) l.rest.now (some_at 1000 59 row_at c.args.bytes.now) (omega arith) l.invariant

pub returns-in_err-next-in-Some : goal.returns-in_err-next-in-Some
returns-in_err-next-in-Some c =
    let l = c.loop-place in
    let p = err_from_is_err_and c.from_residual-in_err-next-in-Some.result c.from_residual-in_err-next-in-Some.ensures.1 in
    let stopped = more_halts (halt.Bad c.in_err-next-in-Some.field-0.0.left) 59 (1000 - l._place) (1000 - (l._place + 1)) row_at (map row_of l.rows.items) l.rest.now c.in-Some.behind.now (some_at 1000 59 row_at c.args.bytes.now) (omega (arith, c.loop-place-test.true)) c.in-Some.ensures (stop_halts c.in_err-next-in-Some.field-0.0 (row_at c.in-Some.behind.now) c.in_err-next-in-Some.ensures) l.invariant in
    rw (p.1, p.2) stopped

pub loop-place-preserved : goal.loop-place-preserved
loop-place-preserved c =
    let l = c.loop-place in
    more_step 59 (1000 - l._place) (1000 - (l._place + 1)) row_at (map row_of l.rows.items) (map row_of c.push-in-Some.new.self.items) (row_of c.in_ok-next-in-Some.next) l.rest.now c.in-Some.behind.now c.in_ok-next-in-Some.after.now (some_at 1000 59 row_at c.args.bytes.now)
    (omega (arith, c.loop-place-test.true)) c.in-Some.ensures c.in_ok-next-in-Some.ensures (map_more row_of l.rows.items c.push-in-Some.new.self.items c.in_ok-next-in-Some.next c.in_ok-push-in-Some.ensures.items) l.invariant
