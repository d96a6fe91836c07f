-- What is wanted is among the places that lead from its object.
use Rattle.std.proofs.Common.{◌≡◌, ℕ, zero, suc, ◌+◌, arith, List, [], ◌∷◌, length, drop, Bool, true, false, cond, ◌&&◌, Option, Some, None, refl, ap, sym, ◌∙◌, subst}
use Rattle.std.specs.Prelude.{slice_get, find, if◌then◌else◌}
use Rattle.std.specs.Option.{option_map_or}
use Rattle.std.specs.List.{filter_map, enumerate_from, cons_option, range_with_len}
use Rattle.gd_prim.specs.declared.Primitive.{Primitive}
use Rattle.gd_prim.specs.declared.End.TheVariants.{Left}
use Rattle.gd_prim.specs.Builtin.{type_link_place, key_place, unique_place}
use Rattle.gd_prim.specs.End.{places_with}
use Rattle.gd_prim.specs.Live.{refers, is_live, passes_at}
use Rattle.gd_resolve.specs.Found.{is_link, is_wanted, is_found, first_found, left_of}
use Rattle.gd_resolve.specs.declared.property.Wanted.{Wanted}
use Rattle.gd_resolve.specs.declared.property.Wanted.TheVariants as wanted

first_of : (a b : Bool) → (a && b) ≡ true → a ≡ true
first_of true b is = refl
first_of false b is = is

second_of : (a b : Bool) → (a && b) ≡ true → b ≡ true
second_of true b is = is
second_of false b is = cc

-- it leads from its object
wanted_left : (w : Wanted) (p : Primitive) → is_wanted w p ≡ true → refers p.left (left_of w) ≡ true
wanted_left (wanted.Link typ o) p is = second_of _ _ is
wanted_left (wanted.TypeLink o type) p is = second_of (refers p.typ type_link_place) (refers p.left o) (first_of (is_link type_link_place o p) _ is)
wanted_left (wanted.Language o) p is = second_of (refers p.typ key_place) (refers p.left o) (first_of (is_link key_place o p) _ is)
wanted_left (wanted.Mark property) p is = second_of (refers p.typ unique_place) (refers p.left property) (first_of (is_link unique_place property p) _ is)

-- the places from one on whose primitive passes
abbrev from : (Primitive → Bool) → ℕ → List Primitive → List ℕ
from s k xs = filter_map (λ e. if s e.1 then Some e.0 else None) (enumerate_from k xs)

one_place : (t : ℕ → Bool) (b c : Bool) (k : ℕ) (ys : List ℕ) (rest : Option ℕ) → t k ≡ b → (b ≡ true → c ≡ true) → rest ≡ find t ys
    → cond b (Some k) rest ≡ find t (cons_option (if c then Some k else None) ys)
one_place t true true k ys rest is go same = sym (ap (λ b. cond b (Some k) (find t ys)) is)
one_place t true false k ys rest is go same = let never : false ≡ true = go refl in cc
one_place t false true k ys rest is go same = same ∙ sym (ap (λ b. cond b (Some k) (find t ys)) is)
one_place t false false k ys rest is go same = same

-- a search over all places finds what one over these finds, where nothing else passes
found_from : (t : ℕ → Bool) (s : Primitive → Bool) (k : ℕ) (xs : List Primitive) → ((i : ℕ) (x : Primitive) → slice_get xs i ≡ Some x → t (k + i) ≡ true → s x ≡ true)
    → find t (range_with_len k (length xs)) ≡ find t (from s k xs)
found_from t s k [] go = refl
found_from t s k (x ∷ xs) go =
    one_place t (t k) (s x) k (from s (k + 1) xs) (find t (range_with_len (k + 1) (length xs))) refl
    (λ is. let same : k ≡ k + 0 = omega arith in go 0 x refl (subst (λ n. t n ≡ true) same is))
    (found_from t s (k + 1) xs (λ i y there is. let same : k + 1 + i ≡ k + suc i = omega arith in go (suc i) y there (subst (λ n. t n ≡ true) same is)))

there_passes : (test : Primitive → Bool) (prims : List Primitive) (k : ℕ) (x : Primitive) → slice_get prims k ≡ Some x → is_found test prims k ≡ true → test x ≡ true
there_passes test prims k x is found =
    let passes : passes_at test prims k ≡ true = first_of (passes_at test prims k) (is_live prims k) found in
    sym (ap (λ (o : Option Primitive). option_map_or test o false) is) ∙ passes

pub found_left : (w : Wanted) (prims : List Primitive) → first_found (is_wanted w) prims ≡ find (is_found (is_wanted w) prims) (places_with Left (left_of w) prims)
found_left w prims =
    found_from (is_found (is_wanted w) prims) (λ p. refers p.left (left_of w)) 0 prims
    (λ i x there is. let same : 0 + i ≡ i = omega arith in
    wanted_left w x (there_passes (is_wanted w) prims i x there (subst (λ n. is_found (is_wanted w) prims n ≡ true) same is)))

-- a search goes on behind a place
pub find_next : (t : ℕ → Bool) (xs : List ℕ) (k x : ℕ) → slice_get xs k ≡ Some x → find t (drop k xs) ≡ cond (t x) (Some x) (find t (drop (k + 1) xs))
find_next t [] k x is = cc
find_next t (y ∷ xs) zero x is =
    let same : y ≡ x = cc in
    ap (λ z. cond (t z) (Some z) (find t xs)) same
find_next t (y ∷ xs) (suc k) x is =
    let next : suc k + 1 ≡ suc (k + 1) = omega arith in
    rw next (find_next t xs k x is)
