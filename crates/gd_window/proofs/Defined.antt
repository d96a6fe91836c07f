-- Rows that carry their values, and rows of a query.
use Rattle.std.proofs.Common.{◌≡◌, ◌∙◌, List, [], ◌∷◌, refl, ap}
use Rattle.std.specs.Prelude.{option_map}
use Rattle.std.specs.Ordering.{nat_cmp, ordering_then}
use Rattle.gd_prim.specs.declared.Primitive.{Primitive}
use Rattle.gd_defs.specs.Asked.{SortKey}
use Rattle.gd_defs.specs.Rows.{key_cmp, key_value, first_key, later_keys}
use Rattle.gd_defs.specs.Rows as defs
use Rattle.gd_window.specs.declared.keys.Key.{Key}
use Rattle.gd_window.specs.Rows.{first_value, later_values, keys_cmp}
use Rattle.gd_window.specs.Laws.{places, directions, CarriesKeys, RowsAreAsDefined}

later_places : (ks : List Key) → places (later_values ks) ≡ later_keys (places ks)
later_places [] = refl
later_places (k ∷ ks) = refl

keys_same : (prims : List Primitive) (sort : List SortKey) (ks ls : List Key) → CarriesKeys prims sort ks → CarriesKeys prims sort ls → keys_cmp (directions sort) ks ls ≡ defs.keys_cmp prims sort (places ks) (places ls)
keys_same prims [] ks ls one two = refl
keys_same prims (s ∷ sort) ks ls one two =
    let value = key_value prims s in
    let rest = keys_same prims sort (later_values ks) (later_values ls) one.1 two.1 in
    ap (λ v. ordering_then (key_cmp s.descending v (first_value ls)) (keys_cmp (directions sort) (later_values ks) (later_values ls))) one.0
    ∙ (ap (λ v. ordering_then (key_cmp s.descending (option_map value (first_key (places ks))) v) (keys_cmp (directions sort) (later_values ks) (later_values ls))) two.0
    ∙ ap (λ o. ordering_then (key_cmp s.descending (option_map value (first_key (places ks))) (option_map value (first_key (places ls)))) o)
    (rest ∙ (ap (λ l. defs.keys_cmp prims sort l (places (later_values ls))) (later_places ks) ∙ ap (λ l. defs.keys_cmp prims sort (later_keys (places ks)) l) (later_places ls))))

pub row_same : RowsAreAsDefined
row_same prims sort a b one two = ap (λ o. ordering_then o (nat_cmp a.id b.id)) (keys_same prims sort a.keys b.keys one two)
