use Rattle.std.proofs.Common.{◌≡◌, ◌+◌, ◌<◌, List, length, get_or, drop, take, sym, ap, ◌∙◌, subst}
use Rattle.std.specs.Prelude.{find}
use Rattle.gd_prim.specs.declared.Primitive.{Primitive}
use Rattle.gd_prim.specs.History.{prims_of}
use Rattle.gd_prim.specs.Keys.{is_key_of}
use Rattle.gd_store.specs.Scan.{places_from}
use Rattle.gd_growing.specs.State.{so_far}
use Rattle.gd_growing.specs.Scan.{names}
use Rattle.gd_growing.proofs.Naming.{rest_found, rest_passed, rest_other}
use Rattle.gd_growing.proofs.up.naming_made.Goals as goal
use Rattle.gd_growing.proofs.up.naming_made.Goals.{then-is_key_of+else-names, else-is_key_of}

pub returns-then-names : goal.returns-then-names
returns-then-names c =
    let state = c.args.growing.now in
    let i = c.loop-i.i in
    let prim = c.prim-item.result in
    let first = ap (λ n. n + i) c.first_made-first.ensures.first in
    let within = subst (λ (xs : List Primitive). i < length xs) c.made-prim-items.ensures c.loop-i-test.true in
    let is = subst (λ (xs : List Primitive). prim ≡ get_or xs i prim) c.made-prim-items.ensures c.prim-item.is in
    sym (c.loop-i.invariant ∙ rest_found (names (so_far state)) (is_key_of c.args.object) state.made (length (prims_of state.batches)) i (c.first_made-first.result + i) c.loop-i.left prim
    first within is c.if-left-eq0.false (sym c.is_key_of.ensures ∙ c.if-is_key_of.true) (sym c.names.ensures ∙ c.if-names.true))

pub loop-i-preserved : goal.loop-i-preserved
loop-i-preserved c =
    let state = c.args.growing.now in
    let i = c.loop-i.i in
    let prim = c.prim-item.result in
    let first = ap (λ n. n + i) c.first_made-first.ensures.first in
    let within = subst (λ (xs : List Primitive). i < length xs) c.made-prim-items.ensures c.loop-i-test.true in
    let is = subst (λ (xs : List Primitive). prim ≡ get_or xs i prim) c.made-prim-items.ensures c.prim-item.is in
    let rest = places_from (is_key_of c.args.object) (length (prims_of state.batches) + (i + 1)) (drop (i + 1) state.made) in
    elim c.if-is_key_of.branch [
      | then-is_key_of+else-names w ↦ c.loop-i.invariant
          ∙ rest_passed (names (so_far state)) (is_key_of c.args.object) state.made (length (prims_of state.batches)) i (c.first_made-first.result + i) c.loop-i.left prim
          first within is c.if-left-eq0.false (sym c.is_key_of.ensures ∙ w.if-is_key_of.true) (sym w.names.ensures ∙ w.if-names.false)
          ∙ ap (λ m. find (names (so_far state)) (take m rest)) (sym w.left-is)
      | else-is_key_of w ↦ c.loop-i.invariant
          ∙ rest_other (names (so_far state)) (is_key_of c.args.object) state.made (length (prims_of state.batches)) i c.loop-i.left prim
          within is (sym c.is_key_of.ensures ∙ w.if-is_key_of.false)
          ∙ ap (λ m. find (names (so_far state)) (take m rest)) (sym w.left-is)
    ]
