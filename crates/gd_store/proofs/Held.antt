-- What the primitives of a history keep, and how many there are.
use Rattle.std.proofs.Common.{◌≡◌, ℕ, ◌+◌, ◌<◌, ◌≤◌, List, [], ◌∷◌, ◌++◌, length, take, refl, sym, ap, ◌∙◌, append_assoc, subst, length-append, arith}
use Rattle.std.specs.Prelude.{Bool, true, ◌&&◌, ◌==◌, flat_map, Some, None, nat_le, not, is_some, slice_get}
use Rattle.std.specs.List.{AllPass, list_all}
use Rattle.std.proofs.lemmas.Bool.{eqb-true, leb-true}
use Rattle.std.proofs.lemmas.List.{append-nil}
use Rattle.std.proofs.lemmas.Option.{slice_get_within, get_or_from_slice_get}
use Rattle.std.proofs.lemmas.List.Elements.{All-append, All-get_or}
use Rattle.std.proofs.lemmas.List.Sums.{AllPass-from_list_all}
use Rattle.gd_prim.specs.declared.Primitive.{Primitive}
use Rattle.gd_prim.specs.declared.Batch.{Batch}
use Rattle.gd_prim.specs.Builtin.{builtin}
use Rattle.gd_prim.specs.History.{prims_of, is_history, AreHeld, AreTimed}
use Rattle.gd_prim.specs.Limits.{limits, first_full, max_prims, max_requests}
use Rattle.gd_prim.specs.WellFormed.{may_hold, max_moment, is_well_placed, first_bad, bad_place, may_follow, all_follow}
use Rattle.gd_store.proofs.Follows.{first, second, both, nothing, not_bad, Room, room, follows_take}

-- a primitive may hold its value, and is of a moment of a clock
abbrev is_in_range : Primitive → Bool
is_in_range p = may_hold p.value && nat_le p.moment max_moment

-- one that keeps the rules is in range
placed_in_range : (before : List Primitive) (moment i : ℕ) (p : Primitive) → is_well_placed before moment i p ≡ true → is_in_range p ≡ true
placed_in_range before moment i p placed =
    let holds : may_hold p.value ≡ true = second _ _ (first _ _ (first _ _ (first _ _ (first _ _ (first _ _ (first _ _ placed)))))) in
    let same : (p.moment == moment) ≡ true = second _ _ (first _ _ (first _ _ (first _ _ (first _ _ placed)))) in
    let early : nat_le moment max_moment ≡ true = second _ _ (first _ _ (first _ _ (first _ _ placed))) in
    both _ _ holds (ap (λ m. nat_le m max_moment) (eqb-true p.moment moment same) ∙ early)

-- so is each of a well-formed batch
good_in_range : (before : List Primitive) (moment i : ℕ) (ps : List Primitive) → first_bad before moment i ps ≡ None → list_all is_in_range ps ≡ true
good_in_range before moment i [] good = refl
good_in_range before moment i (p ∷ ps) good =
    let parts : (is_well_placed before moment i p ≡ true) × (first_bad (before ++ p ∷ []) moment (i + 1) ps ≡ None) =
    not_bad (is_well_placed before moment i p) (first_bad (before ++ p ∷ []) moment (i + 1) ps) (length before) good in
    both _ _ (placed_in_range before moment i p parts.0) (good_in_range (before ++ p ∷ []) moment (i + 1) ps parts.1)

-- what batches that follow a list make of it
record Followed (prims : List Primitive) (count : ℕ) (bs : List Batch) : Type 0 where
  in_range : AllPass is_in_range (prims ++ flat_map (λ b. b.prims) bs)
  few_prims : length (prims ++ flat_map (λ b. b.prims) bs) ≤ max_prims
  few : count + length bs ≤ max_requests

followed : (prims : List Primitive) (count : ℕ) (bs : List Batch) → AllPass is_in_range prims → length prims ≤ max_prims → count ≤ max_requests → all_follow prims count bs ≡ true → Followed prims count bs
followed prims count [] in_range few_prims few follow =
    let same : prims ≡ prims ++ [] = sym (append-nil prims) in
    record {
      in_range = subst (AllPass is_in_range) same in_range;
      few_prims = subst (λ ps. length ps ≤ max_prims) same few_prims;
      few = omega (arith, few);
    }
followed prims count (b ∷ bs) in_range few_prims few follow =
    let may : may_follow prims count b ≡ true = first (may_follow prims count b) (all_follow (prims ++ b.prims) (count + 1) bs) follow in
    let after : all_follow (prims ++ b.prims) (count + 1) bs ≡ true = second (may_follow prims count b) (all_follow (prims ++ b.prims) (count + 1) bs) follow in
    let good : bad_place prims b ≡ None = nothing (bad_place prims b) (first (not (is_some (bad_place prims b))) (not (is_some (first_full (limits prims count b.prims)))) may) in
    let fits : first_full (limits prims count b.prims) ≡ None =
    nothing (first_full (limits prims count b.prims)) (second (not (is_some (bad_place prims b))) (not (is_some (first_full (limits prims count b.prims)))) may) in
    let space : Room prims count b.prims = room prims count b.prims fits in
    let rest : Followed (prims ++ b.prims) (count + 1) bs = followed (prims ++ b.prims) (count + 1) bs
    (All-append (λ p. is_in_range p ≡ true) prims b.prims in_range (AllPass-from_list_all is_in_range b.prims (good_in_range prims b.moment 0 b.prims good)))
    (omega (arith, space.prims_fit, length-append prims b.prims)) space.requests after in
    let same : (prims ++ b.prims) ++ flat_map (λ b. b.prims) bs ≡ prims ++ (b.prims ++ flat_map (λ b. b.prims) bs) = append_assoc prims b.prims (flat_map (λ b. b.prims) bs) in
    record {
      in_range = subst (AllPass is_in_range) same rest.in_range;
      few_prims = subst (λ ps. length ps ≤ max_prims) same rest.few_prims;
      few = omega (arith, rest.few);
    }

of_history : (bs : List Batch) → is_history bs ≡ true → Followed builtin 0 bs
unfolding is_history
of_history bs history = followed builtin 0 bs (AllPass-from_list_all is_in_range builtin refl) (omega arith) (omega arith) history

-- one of a list is in range where all are
one_in_range : (prims : List Primitive) (k : ℕ) (p : Primitive) → AllPass is_in_range prims → slice_get prims k ≡ Some p → is_in_range p ≡ true
one_in_range prims k p all at =
    subst (λ q. is_in_range q ≡ true) (get_or_from_slice_get prims k p p at) (All-get_or (λ q. is_in_range q ≡ true) prims k p (slice_get_within prims k p at) all)

-- each primitive of a history may hold its value
pub history_held : (bs : List Batch) → is_history bs ≡ true → AreHeld (prims_of bs)
unfolding prims_of
history_held bs history k p at = first _ _ (one_in_range (builtin ++ flat_map (λ b. b.prims) bs) k p (of_history bs history).in_range at)

-- and is of a moment of a clock
pub history_timed : (bs : List Batch) → is_history bs ≡ true → AreTimed (prims_of bs)
unfolding prims_of
history_timed bs history k p at = leb-true p.moment max_moment (second _ _ (one_in_range (builtin ++ flat_map (λ b. b.prims) bs) k p (of_history bs history).in_range at))

-- a history has few primitives
pub history_few_prims : (bs : List Batch) → is_history bs ≡ true → length (prims_of bs) ≤ 2_097_151
unfolding prims_of
history_few_prims bs history = (of_history bs history).few_prims

-- and few batches
pub history_few : (bs : List Batch) → is_history bs ≡ true → length bs ≤ 4_194_303
history_few bs history = let few = (of_history bs history).few in omega (arith, few)

-- the first batches of a history are one
pub history_front : (bs : List Batch) (n : ℕ) → is_history bs ≡ true → is_history (take n bs) ≡ true
unfolding is_history
history_front bs n history = follows_take builtin 0 bs n history

-- there are always some
pub history_some : (bs : List Batch) → 0 < length (prims_of bs)
unfolding prims_of
history_some bs = let front : 0 < length builtin = omega arith in omega (arith, length-append builtin (flat_map (λ (b : Batch). b.prims) bs))
