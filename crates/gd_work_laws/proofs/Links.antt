-- The links of a property from an object: how many are looked at, and what they add.
use Rattle.std.proofs.Common.{◌≡◌, ◌∙◌, ℕ, ◌+◌, ◌≤◌, List, ◌∷◌, length, filter, Bool, true, false, ◌&&◌, Option, Some, None, ◌⊎◌, inl, inr, refl, sym, ap, arith}
use Rattle.std.specs.Prelude.{sum_by, min}
use Rattle.std.specs.Option.{option_map_or}
use Rattle.std.specs.List.{list_all}
use Rattle.std.proofs.lemmas.List.Sums.{sum_by-le-sum_by}
use Rattle.gd_prim.specs.declared.Primitive.{Primitive}
use Rattle.gd_prim.specs.declared.End.TheVariants.{Typ}
use Rattle.gd_prim.specs.End.{places_with}
use Rattle.gd_prim.specs.Live.{refers, passes_at, is_live}
use Rattle.gd_defs.specs.Property.{Property, near_of, far_end}
use Rattle.gd_defs.specs.Plan.{asked_end}
use Rattle.gd_defs.specs.Template.{Constraint, end_is, links_by, led_to, meets_constraints, holds, template, Clauses}
use Rattle.gd_match_laws.specs.PassedOn.{with_typ, near, few, with_near, each_far}
use Rattle.gd_list_laws.proofs.Places.{places_where-places}
use Rattle.gd_template_laws.proofs.Places.{places, passes_at-and}
use Rattle.gd_template_laws.proofs.Bools.{and-false}
use Rattle.gd_work_laws.specs.Turns.{looked_at}
use Rattle.gd_work_laws.proofs.Sums.{sum_kept, count_kept}

known : (o : Option ℕ) → (o ≡ None) ⊎ ((x : ℕ) × (o ≡ Some x))
known None = inl refl
known (Some x) = inr (x, refl)

-- the work at the other ends of links
pub far_work : (prims : List Primitive) (p : Property) (s : ℕ) (f g : ℕ → ℕ) → ((k : ℕ) → g k ≤ 1 + option_map_or f (far_end prims p k) 0) → sum_by g (near prims p s) ≤ each_far prims p s f
far_work prims p s f g less = sum_by-le-sum_by g _ (near prims p s) (λ k. elim (known (far_end prims p k)) [
  | inl none ↦ let one = less k in (rw none (rw none at one))
  | inr some ↦ let one = less k in (rw (some.1) (rw (some.1) at one))
])

both_true : (a b : Bool) → (a && b) ≡ true → (a ≡ true) × (b ≡ true)
both_true true b is = (refl, is)
both_true false b is = absurd (cc)

module _ (prims : List Primitive) (p : Property) where
  near_end : (s : ℕ) → places_with (asked_end p) s prims ≡ with_near prims p s
  near_end s = by p.reversed refl
    where
      by : (b : Bool) → p.reversed ≡ b → places_with (asked_end p) s prims ≡ with_near prims p s
      by true is = rw is refl
      by false is = rw is refl

  led_near : (s : ℕ) → led_to prims (links_by (asked_end p)) s ≡ filter (passes_at (λ k. refers (near_of p k) s) prims) (places prims)
  led_near s = near_end s ∙ places_where-places (λ k. refers (near_of p k) s) prims

  near_kept : (s : ℕ) → near prims p s ≡ filter (passes_at (λ k. refers k.typ p.stored && refers (near_of p k) s) prims) (places prims)
  near_kept s = places_where-places (λ k. refers k.typ p.stored && refers (near_of p k) s) prims

  -- for a template of the links of the property as many are looked at as there are few
  pub looked_few : (s : ℕ) (cs : List Constraint) (inner : Clauses) → looked_at prims (links_by (asked_end p)) (template (end_is Typ p.stored ∷ cs) inner) s ≡ few prims p s
  looked_few s cs inner = ap (λ (l : List ℕ). min (length (with_typ prims p)) (length l)) (near_end s)

  both_at : (s x : ℕ) → passes_at (λ k. refers k.typ p.stored && refers (near_of p k) s) prims x ≡ (passes_at (λ k. refers k.typ p.stored) prims x && passes_at (λ k. refers (near_of p k) s) prims x)
  both_at s x = passes_at-and (λ k. refers k.typ p.stored) (λ k. refers (near_of p k) s) prims x

  near_typ : (s : ℕ) → length (near prims p s) ≤ length (with_typ prims p)
  near_typ s = rw (near_kept s, places_where-places (λ (k : Primitive). refers k.typ p.stored) prims)
      (count_kept (passes_at (λ k. refers k.typ p.stored && refers (near_of p k) s) prims) (passes_at (λ k. refers k.typ p.stored) prims) (places prims)
      (λ x is. (both_true _ _ (sym (both_at s x) ∙ is)).0))

  near_near : (s : ℕ) → length (near prims p s) ≤ length (with_near prims p s)
  near_near s = rw (near_kept s, places_where-places (λ (k : Primitive). refers (near_of p k) s) prims)
      (count_kept (passes_at (λ k. refers k.typ p.stored && refers (near_of p k) s) prims) (passes_at (λ k. refers (near_of p k) s) prims) (places prims)
      (λ x is. (both_true _ _ (sym (both_at s x) ∙ is)).1))

  -- the links of the property are no more than the few
  pub near_few : (s : ℕ) → length (near prims p s) ≤ few prims p s
  near_few s = least _ _ _ (near_typ s) (near_near s)
    where
      least : (n a b : ℕ) → n ≤ a → n ≤ b → n ≤ min a b
      least n a b one two = omega (arith, one, two)

  -- what the links that meet a template of the property's links add, is what its links add
  pub links_sum : (s : ℕ) (cs : List Constraint) (g f : ℕ → ℕ) → ((x : ℕ) → meets_constraints prims (end_is Typ p.stored ∷ cs) x ≡ false → g x ≡ 0) → ((x : ℕ) → g x ≤ f x)
      → sum_by g (led_to prims (links_by (asked_end p)) s) ≤ sum_by f (near prims p s)
  links_sum s cs g f none less = rw (led_near s, near_kept s)
      (sum_kept (passes_at (λ k. refers (near_of p k) s) prims) (passes_at (λ k. refers k.typ p.stored && refers (near_of p k) s) prims) g f (places prims) other (λ x is. less x))
    where
      typ_fails : (a b c : Bool) → c ≡ (a && b) → b ≡ true → c ≡ false → a ≡ false
      typ_fails true true c is near not = cc
      typ_fails true false c is near not = cc
      typ_fails false b c is near not = refl

      unmet : (x : ℕ) (t : Bool) → passes_at (λ k. refers k.typ p.stored) prims x ≡ false → meets_constraints prims (end_is Typ p.stored ∷ cs) x ≡ false
      unmet x t is = ap (λ b. is_live prims x && (b && list_all (λ c. holds prims c x) cs)) is ∙ and-false (is_live prims x)

      other : (x : ℕ) → passes_at (λ k. refers (near_of p k) s) prims x ≡ true → passes_at (λ k. refers k.typ p.stored && refers (near_of p k) s) prims x ≡ false → g x ≡ 0
      other x here not = none x (unmet x true (typ_fails _ _ _ (both_at s x) here not))
