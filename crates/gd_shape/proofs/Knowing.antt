-- Ids that are known, and one that is learned.
use Rattle.std.proofs.Common.{◌≡◌, ◌≢◌, ◌≤◌, ◌+◌, ◌*◌, ℕ, suc, List, [], ◌∷◌, length, filter, Bool, true, false, not, cond, Option, Some, None, IsNone, is_some, refl, sym, subst, ◌∙◌, arith}
use Rattle.std.specs.Option.{ForSome}
use Rattle.std.specs.Ordering.{nat_cmp}
use Rattle.std.specs.Cmp.{unsigned_tied}
use Rattle.std.specs.Map.{lookup}
use Rattle.std.specs.BTreeMap.{is_at}
use Rattle.std.proofs.lemmas.Bool.{eqb-true, eqb-false}
use Rattle.gd_prim.specs.declared.Primitive.{Primitive}
use Rattle.gd_frozen.specs.Meaning.{walk_of}
use Rattle.gd_frozen.specs.declared.frozen.Walk.{Walk as WalkAt}
use Rattle.gd_order_laws.specs.Window.{In}
use Rattle.gd_left_laws.specs.Left.{ids_left}
use Rattle.gd_left_laws.proofs.Laws.{ids_lower}
use Rattle.gd_shape.specs.Knowing.{known_at, IsKnownOf, TellsId, unknown_of}

same_id : (a b : ℕ) → is_at (nat_cmp a) b ≡ true → a ≡ b
same_id a b is = eqb-true a b (sym (unsigned_tied a b) ∙ is)

other_id : (a b : ℕ) → is_at (nat_cmp a) b ≡ false → a ≢ b
other_id a b is = eqb-false a b (sym (unsigned_tied a b) ∙ is)

-- the new ids are the old ones and that of the object
abbrev Sets : List (ℕ × WalkAt) → List (ℕ × WalkAt) → ℕ → WalkAt → Type 0
Sets old new object walk = (q : ℕ) → lookup (is_at (nat_cmp q)) new ≡ cond (is_at (nat_cmp object) q) (Some walk) (lookup (is_at (nat_cmp q)) old)

-- once the id of an object was learned, the known ids are those of the objects
pub learned : (prims : List Primitive) (old new : List (ℕ × WalkAt)) (object : ℕ) (walk : WalkAt) → IsKnownOf prims old → TellsId prims object (walk_of walk)
    → Sets old new object walk → IsKnownOf prims new
learned prims old new object walk known is sets q =
    subst (λ (o : Option WalkAt). ForSome o (λ w. TellsId prims q (walk_of w))) (sym (sets q)) (either (is_at (nat_cmp object) q) refl)
  where
    either : (b : Bool) → is_at (nat_cmp object) q ≡ b → ForSome (cond b (Some walk) (known_at old q)) (λ w. TellsId prims q (walk_of w))
    either true here = let e : object ≡ q = same_id object q here in λ w some. let same : walk ≡ w = cc in subst (λ v. TellsId prims q (walk_of v)) same (subst (λ o. TellsId prims o (walk_of walk)) e is)
    either false here = known q

-- where nothing changed they are
pub kept : (prims : List Primitive) (old new : List (ℕ × WalkAt)) → IsKnownOf prims old → new ≡ old → IsKnownOf prims new
kept prims old new known is = subst (IsKnownOf prims) (sym is) known

-- ---- how many of objects are not known

none_false : (o : Option WalkAt) → IsNone o → is_some o ≡ false
none_false None none = refl
none_false (Some t) none = absurd (cc)

-- an object has its own place
at_itself : (object : ℕ) → is_at (nat_cmp object) object ≡ true
at_itself object = by (is_at (nat_cmp object) object) refl
  where
    by : (b : Bool) → is_at (nat_cmp object) object ≡ b → b ≡ true
    by true is = refl
    by false is = absurd (other_id object object is refl)

-- what was known stays known, and the object is
still_some : (b : Bool) (o : Option WalkAt) (walk : WalkAt) → is_some o ≡ true → is_some (cond b (Some walk) o) ≡ true
still_some true o walk some = refl
still_some false o walk some = some

now_some : (b : Bool) (o : Option WalkAt) (walk : WalkAt) → b ≡ true → is_some (cond b (Some walk) o) ≡ true
now_some true o walk is = refl
now_some false o walk is = absurd (cc)

-- once the id of one of objects was learned, fewer of them are left
pub fewer_unknown : (old new : List (ℕ × WalkAt)) (object : ℕ) (walk : WalkAt) → Sets old new object walk
    → (os : List ℕ) → In object os → IsNone (known_at old object) → unknown_of new os + 1 ≤ unknown_of old os
fewer_unknown old new object walk sets os here unknown =
    ids_lower (λ o. is_some (known_at old o)) (λ o. is_some (known_at new o)) os object here (none_false (known_at old object) unknown)
    (rw (sets object) (now_some (is_at (nat_cmp object) object) (known_at old object) walk (at_itself object)))
    (λ x some. rw (sets x) (still_some (is_at (nat_cmp object) x) (known_at old x) walk some))

-- one of objects that is not known is left of them
pub some_unknown : (ids : List (ℕ × WalkAt)) (object : ℕ) → IsNone (known_at ids object) → (os : List ℕ) → In object os → 1 ≤ unknown_of ids os
some_unknown ids object unknown os here =
    let less : ids_left (λ o. true) os + 1 ≤ ids_left (λ o. is_some (known_at ids o)) os =
    ids_lower (λ o. is_some (known_at ids o)) (λ o. true) os object here (none_false (known_at ids object) unknown) refl (λ x some. refl) in
    omega (arith, less)

few_left : (known : ℕ → Bool) (os : List ℕ) → ids_left known os ≤ length os
few_left known [] = omega arith
few_left known (x ∷ xs) = by (known x) (few_left known xs)
  where
    by : (b : Bool) → ids_left known xs ≤ length xs → length (cond (not b) (x ∷ filter (λ o. not (known o)) xs) (filter (λ o. not (known o)) xs)) ≤ suc (length xs)
    by true few = omega (arith, few)
    by false few = omega (arith, few)

-- so no more steps are due than for all
pub most_due : (ids : List (ℕ × WalkAt)) (os : List ℕ) (places : ℕ) → places + 785 * unknown_of ids os ≤ places + 785 * length os
most_due ids os places = let less : unknown_of ids os ≤ length os = few_left (λ o. is_some (known_at ids o)) os in omega (arith, less)
