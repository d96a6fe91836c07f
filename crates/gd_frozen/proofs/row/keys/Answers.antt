use Rattle.std.proofs.Common.{◌≡◌, ◌+◌, ◌-◌, ◌++◌, ◌∷◌, [], arith, length, length-append, ap, ℕ, List, Option}
use Rattle.gd_bytes.specs.Cursor.{place_at}
use Rattle.gd_grammar.specs.Grammar.{more_at}
use Rattle.gd_grammar.proofs.Loops.{more_ends, more_step, more_done}
use Rattle.gd_frozen.proofs.Loops.{more_stops}
use Rattle.gd_frozen.proofs.row.keys.Goals as goal

pub returns-in-None : goal.returns-in-None
returns-in-None c = let l = c.loop-place in more_ends 44 (4 - l._place) place_at l.places l.rest.now (more_at 4 44 place_at c.args.bytes.now) c.in-None.ensures l.invariant.left

pub returns : goal.returns
returns c = let l = c.loop-place in more_done 44 (4 - l._place) place_at l.places l.rest.now (more_at 4 44 place_at c.args.bytes.now) (omega arith) l.invariant.left

pub loop-place-preserved : goal.loop-place-preserved
loop-place-preserved c =
    let l = c.loop-place in
    let more : c.push.new.self ≡ l.places ++ c.in_ok-key-in-Some.key ∷ [] = search (c.push.ensures, c.id_of.ensures) in
    let longer : length c.push.new.self ≡ length (l.places ++ c.in_ok-key-in-Some.key ∷ []) = ap length more in
    record {
      count = omega (arith, longer, l.invariant.count, length-append l.places (c.in_ok-key-in-Some.key ∷ []));
      left = more_step 44 (4 - l._place) (4 - (l._place + 1)) place_at l.places c.push.new.self c.in_ok-key-in-Some.key l.rest.now c.in-Some.behind.now c.in_ok-key-in-Some.after.now (more_at 4 44 place_at c.args.bytes.now) (omega (arith, c.loop-place-test.true)) c.in-Some.ensures c.in_ok-key-in-Some.ensures more l.invariant.left;
    }
