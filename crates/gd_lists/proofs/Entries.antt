-- What a list is with an identity more, and without its last one.
use Rattle.std.proofs.Common.{◌≡◌, ℕ, zero, suc, ◌<◌, ◌+◌, ◌-◌, Bool, false, List, [], ◌∷◌, ◌++◌, length, take, Option, Some, None, IfSome, true, refl, sym, ap, ◌∙◌, subst, arith, length-append}
use Rattle.std.specs.Prelude.{IfNone, slice_get}
use Rattle.std.proofs.Math.Seq.{take-append_seam}
use Rattle.gd_postings.specs.Postings.{Places, IsAbove}
use Rattle.gd_lists.specs.Entries.{without_entry, with_entry, last_of}

-- an identity that was added and then taken away leaves the list as it was
pub without-with : (test : Bool) (ids : List ℕ) (id : ℕ) → without_entry test (with_entry test id ids) ≡ ids
without-with false ids id = refl
without-with true ids id =
    let count : length (ids ++ id ∷ []) - 1 ≡ length ids = omega (arith, length-append ids (id ∷ [])) in
    ap (λ n. take n (ids ++ id ∷ [])) count ∙ take-append_seam ids (id ∷ [])

-- and it is the last one
pub last_of-with : (ids : List ℕ) (id : ℕ) → last_of (with_entry true id ids) ≡ Some id
last_of-with ids id =
    let count : length (ids ++ id ∷ []) - 1 ≡ length ids = omega (arith, length-append ids (id ∷ [])) in
    ap (λ n. slice_get (ids ++ id ∷ []) n) count ∙ behind ids id
  where
    behind : (ids : List ℕ) (id : ℕ) → slice_get (ids ++ id ∷ []) (length ids) ≡ Some id
    behind [] id = refl
    behind (x ∷ xs) id = behind xs id

-- a list whose last identity was taken away
pub popped : (old new : Places) (last : Option ℕ) → IfSome last (λ id. (old.ids ≡ new.ids ++ id ∷ []) × (new.spare ≡ old.spare + 1)) → IfNone last ((old.ids ≡ []) × (new ≡ old))
    → new.ids ≡ without_entry true old.ids
popped old new (Some id) some none = sym (without-with true new.ids id) ∙ ap (without_entry true) (sym some.0)
popped old new None some none = ap (λ (p : Places). p.ids) none.1 ∙ none.0 ∙ sym (ap (without_entry true) none.0)

-- each identity is above an empty list
pub above_none : (ids : List ℕ) (id : ℕ) → ids ≡ [] → IsAbove ids id
above_none ids id is i there = let count = ap length is in absurd (omega (arith, count, there))

above_more : (ids : List ℕ) (last id : ℕ) → IsAbove ids id → last < id → IsAbove (ids ++ last ∷ []) id
above_more [] last id above less zero there = less
above_more [] last id above less (suc i) there = absurd (omega (arith, there))
above_more (x ∷ xs) last id above less zero there = above 0 (omega arith)
above_more (x ∷ xs) last id above less (suc i) there = above_more xs last id (λ j within. above (suc j) (omega (arith, within))) less i (omega (arith, there))

-- an identity that is above a list and above what is entered is above the list then
pub above_with : (test : Bool) (ids new : List ℕ) (last id : ℕ) → new ≡ with_entry test last ids → IsAbove ids id → last < id → IsAbove new id
above_with false ids new last id is above less = subst (λ (more : List ℕ). IsAbove more id) (sym is) above
above_with true ids new last id is above less = subst (λ (more : List ℕ). IsAbove more id) (sym is) (above_more ids last id above less)
