use Rattle.std.proofs.Common.{◌≡◌, ◌≢◌, ◌+◌, ◌-◌, ◌++◌, List, drop, take, length, Some, None, sym, ap, ◌∙◌, subst, arith}
use Rattle.std.specs.Prelude.{find, slice_get}
use Rattle.std.proofs.lemmas.Option.{slice_get_within}
use Rattle.gd_prim.specs.declared.Batch.{Batch}
use Rattle.gd_prim.specs.History.{prims_of}
use Rattle.gd_prim.specs.Keys.{is_key_of}
use Rattle.gd_prim.specs.Live.{places_where}
use Rattle.gd_store.specs.Scan.{places_from}
use Rattle.gd_growing.specs.State.{so_far}
use Rattle.gd_growing.specs.Scan.{names}
use Rattle.gd_growing.proofs.Behind.{places_behind}
use Rattle.gd_growing.proofs.Naming.{front_found, front_passed, front_ended}
use Rattle.gd_growing.proofs.up.naming_link.Goals as goal

pub loop-k-init : goal.loop-k-init
loop-k-init c =
    let state = c.args.growing.now in
    record {
      left = ap (λ ps. find (names (so_far state)) (take 8 ps)) (places_behind (is_key_of c.args.object) (prims_of state.batches) state.made);
      there = omega arith;
    }

pub returns-in_default : goal.returns-in_default
returns-in_default c =
    let state = c.args.growing.now in
    let front = places_where (is_key_of c.args.object) (prims_of state.batches) in
    let rest = places_from (is_key_of c.args.object) (length (prims_of state.batches)) state.made in
    let none = subst (λ (b : List Batch). slice_get (places_where (is_key_of c.args.object) (prims_of b)) c.loop-k.k ≡ None) c.below-below.ensures (sym c.in_default.ensures.place) in
    c.naming_made.ensures
    ∙ sym (c.loop-k.invariant.left ∙ ap (λ ps. find (names (so_far state)) (take (8 - c.loop-k.k) ps)) (front_ended front rest c.loop-k.k c.loop-k.invariant.there none))

pub returns-then-names : goal.returns-then-names
returns-then-names c =
    let state = c.args.growing.now in
    let front = places_where (is_key_of c.args.object) (prims_of state.batches) in
    let rest = places_from (is_key_of c.args.object) (length (prims_of state.batches)) state.made in
    let at = subst (λ (b : List Batch). slice_get (places_where (is_key_of c.args.object) (prims_of b)) c.loop-k.k ≡ Some c.in-Some.link) c.below-below.ensures (sym c.in-Some.ensures.place) in
    let some : 8 - c.loop-k.k ≢ 0 = omega arith in
    sym (c.loop-k.invariant.left ∙ front_found (names (so_far state)) front rest c.loop-k.k c.in-Some.link (8 - c.loop-k.k) at some (sym c.names.ensures ∙ c.if-names.true))

pub loop-k-preserved : goal.loop-k-preserved
loop-k-preserved c =
    let state = c.args.growing.now in
    let front = places_where (is_key_of c.args.object) (prims_of state.batches) in
    let rest = places_from (is_key_of c.args.object) (length (prims_of state.batches)) state.made in
    let at = subst (λ (b : List Batch). slice_get (places_where (is_key_of c.args.object) (prims_of b)) c.loop-k.k ≡ Some c.in-Some.link) c.below-below.ensures (sym c.in-Some.ensures.place) in
    let some : 8 - c.loop-k.k ≢ 0 = omega arith in
    let fewer : 8 - c.loop-k.k - 1 ≡ 8 - (c.loop-k.k + 1) = omega arith in
    let within = slice_get_within front c.loop-k.k c.in-Some.link at in
    record {
      left = c.loop-k.invariant.left
          ∙ front_passed (names (so_far state)) front rest c.loop-k.k c.in-Some.link (8 - c.loop-k.k) at some (sym c.names.ensures ∙ c.if-names.false)
          ∙ ap (λ n. find (names (so_far state)) (take n (drop (c.loop-k.k + 1) (front ++ rest)))) fewer;
      there = omega (arith, within);
    }

pub returns : goal.returns
returns c =
    let state = c.args.growing.now in
    let front = places_where (is_key_of c.args.object) (prims_of state.batches) in
    let rest = places_from (is_key_of c.args.object) (length (prims_of state.batches)) state.made in
    let ended : 8 - c.loop-k.k ≡ 0 = omega arith in
    sym (c.loop-k.invariant.left ∙ ap (λ n. find (names (so_far state)) (take n (drop c.loop-k.k (front ++ rest)))) ended)
