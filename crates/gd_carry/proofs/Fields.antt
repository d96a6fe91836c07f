-- Members and items that are printed.
use Rattle.std.proofs.Common.{◌≡◌, ℕ, List, [], ◌∷◌, ◌++◌, refl, ap, ◌∙◌, map, length, zero, suc, ◌≤◌, arith}
use Rattle.std.specs.Prelude.{take}
use Rattle.gd_prim.specs.declared.Primitive.{Primitive}
use Rattle.gd_tree.specs.Json as tree
use Rattle.gd_json.specs.View.{view, items_of, members_of, members_view, member_view}
use Rattle.gd_json.specs.declared.value.Json.{Json}
use Rattle.gd_carry.specs.Printed.{Field, printed_view, pair_view, pairs_before, fields_view, many_view}
use Rattle.gd_carry.specs.declared.print.Printed.{Printed}

-- the members of an object, one in front of the others
pub members_in_front : (ms : List (List ℕ × tree.Json)) → members_of ms ≡ pairs_before ms tree.no_members
members_in_front [] = refl
members_in_front (m ∷ ms) = ap (tree.member m.0 m.1) (members_in_front ms)

-- what members print is what they are made of
pub fields_seen : (final : List Primitive) (fs : List (Field Printed)) (ms : List (List ℕ × Json)) → map member_view ms ≡ map (pair_view final) fs → members_view ms ≡ fields_view final fs
fields_seen final fs ms same = ap members_of same ∙ by fs
  where
    by : (fs : List (Field Printed)) → members_of (map (pair_view final) fs) ≡ fields_view final fs
    by [] = refl
    by (f ∷ fs) = ap (tree.member f.0.now (printed_view final f.1)) (by fs)

-- what items print is what they are made of
pub items_seen : (final : List Primitive) (ps : List Printed) (js : List Json) → map view js ≡ map (printed_view final) ps → items_of (map view js) ≡ many_view final ps
items_seen final ps js same = ap items_of same ∙ by ps
  where
    by : (ps : List Printed) → items_of (map (printed_view final) ps) ≡ many_view final ps
    by [] = refl
    by (p ∷ ps) = ap (tree.item (printed_view final p)) (by ps)

-- one member more in front
pub pair_added : (before new : List (List ℕ × tree.Json)) (m : List ℕ × tree.Json) (rest : tree.Members) → new ≡ before ++ m ∷ [] → pairs_before new rest ≡ pairs_before before (tree.member m.0 m.1 rest)
pair_added before new m rest added = ap (λ (ms : List (List ℕ × tree.Json)). pairs_before ms rest) added ∙ by before
  where
    by : (ms : List (List ℕ × tree.Json)) → pairs_before (ms ++ m ∷ []) rest ≡ pairs_before ms (tree.member m.0 m.1 rest)
    by [] = refl
    by (x ∷ ms) = ap (tree.member x.0 x.1) (by ms)

-- and several
pub pairs_added : (before new more : List (List ℕ × tree.Json)) → new ≡ before ++ more → members_of new ≡ pairs_before before (members_of more)
pairs_added before new more added = ap members_of added ∙ by before
  where
    by : (ms : List (List ℕ × tree.Json)) → members_of (ms ++ more) ≡ pairs_before ms (members_of more)
    by [] = refl
    by (x ∷ ms) = ap (tree.member x.0 x.1) (by ms)

-- the whole list is its front up to the end
pub take_all : {A : Type 0} (xs : List A) (i : ℕ) → length xs ≤ i → take i xs ≡ xs
take_all [] zero end = refl
take_all [] (suc i) end = refl
take_all (x ∷ xs) zero end = absurd (omega (arith, end))
take_all (x ∷ xs) (suc i) end = ap (λ ys. x ∷ ys) (take_all xs i (omega (arith, end)))
