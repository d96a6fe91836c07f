use Rattle.std.proofs.Common.{◌≡◌, ◌∙◌, ◌-◌, ◌+◌, ◌++◌, ◌∷◌, [], Option, ℕ, arith, sym, ap, length-append, length}
use Rattle.std.proofs.lemmas.Result.{err_from_is_err_and}
use Rattle.gd_grammar.specs.Grammar.{more_at}
use Rattle.gd_bytes.specs.Cursor.{place_at}
use Rattle.gd_frozen.proofs.Steps.{places_end, places_done, places_more, places_stop}
use Rattle.gd_frozen.proofs.place.places.Goals as goal

pub returns-then-not-is_colon_next : goal.returns-then-not-is_colon_next
returns-then-not-is_colon_next c =
    let l = c.loop-place in
    places_end (4 - l._place) l.places l.rest.now (more_at 4 58 place_at c.args.bytes.now) (sym c.is_colon_next.ensures ∙ c.if-not-is_colon_next.true) l.invariant.left

pub returns-in_err-place : goal.returns-in_err-place
returns-in_err-place c =
    let l = c.loop-place in
    let p = err_from_is_err_and c.from_residual.result c.from_residual.ensures.1 in
    let stopped = places_stop c.in_err-place.field-0.0 (4 - l._place) (3 - l._place) l.places l.rest.now (more_at 4 58 place_at c.args.bytes.now) (omega (arith, c.loop-place-test.true))
    (sym c.is_colon_next.ensures ∙ c.if-not-is_colon_next.false) c.in_err-place.ensures l.invariant.left in
    rw (p.1, p.2) stopped

pub loop-place-preserved : goal.loop-place-preserved
loop-place-preserved c =
    let l = c.loop-place in
    let more : c.push.new.self ≡ l.places ++ c.in_ok-place.place ∷ [] = c.push.ensures ∙ ap (λ (p : Option ℕ). l.places ++ p ∷ []) c.id_of.ensures in
    let longer : length c.push.new.self ≡ length (l.places ++ c.in_ok-place.place ∷ []) = ap length more in
    record {
      count = omega (arith, longer, l.invariant.count, length-append l.places (c.in_ok-place.place ∷ []));
      left = places_more (4 - l._place) (4 - (l._place + 1)) l.places c.push.new.self c.in_ok-place.place l.rest.now c.in_ok-place.behind.now (more_at 4 58 place_at c.args.bytes.now) (omega (arith, c.loop-place-test.true))
          (sym c.is_colon_next.ensures ∙ c.if-not-is_colon_next.false) c.in_ok-place.ensures more l.invariant.left;
    }

pub returns : goal.returns
returns c = let l = c.loop-place in places_done (4 - l._place) l.places l.rest.now (more_at 4 58 place_at c.args.bytes.now) (omega arith) l.invariant.left
