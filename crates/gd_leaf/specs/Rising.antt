-- What leaves walk rises, and is bounded.
use Rattle.std.proofs.Common.{◌+◌, ◌<◌, ◌≤◌, ℕ, zero, suc, List, [], ◌∷◌, length, arith}
use Rattle.std.specs.Prelude.{Option, Some, None, nat_lt, slice_get, slice_index}
use Rattle.std.specs.List.{range_with_len}
use Rattle.std.specs.Option.{option_map_or}
use Rattle.std.proofs.lemmas.List.FromFn.{length-range_with_len}
use Rattle.gd_base.specs.declared.datum.Datum.{Datum}
use Rattle.gd_prim.specs.declared.Batch.{Batch}
use Rattle.gd_prim.specs.declared.Primitive.{Primitive}
use Rattle.gd_prim.specs.End.{end_of}
use Rattle.gd_prim.specs.History.{prims_of}
use Rattle.gd_prim.specs.Live.{refers, places_where}
use Rattle.gd_postings.specs.Postings.{IsRising}
use Rattle.gd_store.specs.Valued.{has_value, values_of}
use Rattle.gd_iter_core.specs.Owed.{RisesFrom, ids_from}
use Rattle.gd_iter_core.specs.Rising.{rises_from, rises_weaker, rises_filter, length-filter}
use Rattle.gd_leaf.specs.declared.kind.Kind.{Kind}
use Rattle.gd_leaf.specs.declared.kind.Kind.TheVariants as kind
use Rattle.gd_leaf.specs.Leaf.{leaf_set, leaf_bound}
use Rattle.gd_leaf.specs.Places.{places_rise, length-places_where}

range_rises : (a n : ℕ) → RisesFrom a (range_with_len a n)
range_rises a zero = tt
range_rises a (suc n) = (omega arith, range_rises (a + 1) n)

rises_of_from : (f : ℕ) (ids : List ℕ) → ((i : ℕ) → i < length ids → f ≤ slice_index ids i) → IsRising ids → RisesFrom f ids
rises_of_from f [] low rising = tt
rises_of_from f (x ∷ xs) low rising = (
  low 0 (omega arith),
  rises_of_from (x + 1) xs
      (λ i there. let less : x < slice_index xs i = rising 0 (suc i) (omega arith) (omega (arith, there)) in omega (arith, less))
      (λ i j less there. rising (suc i) (suc j) (omega (arith, less)) (omega (arith, there))),
)

-- a posting list rises
pub rises_of : (ids : List ℕ) → IsRising ids → RisesFrom 0 ids
rises_of ids rising = rises_of_from 0 ids (λ i there. omega arith) rising

value_rises : (prims : List Primitive) (o : Option Datum) → RisesFrom 0 (option_map_or (λ value. places_where (has_value value) prims) o [])
value_rises prims None = tt
value_rises prims (Some value) = places_rise (has_value value) prims

pub leaf_rises : (kind : Kind) (batches : List Batch) → RisesFrom 0 (leaf_set kind batches)
leaf_rises kind.All batches = range_rises 0 (length (prims_of batches))
leaf_rises (kind.Linkage end node) batches = places_rise (λ p. refers (end_of end p) node) (prims_of batches)
leaf_rises (kind.Value number) batches = value_rises (prims_of batches) (slice_get (values_of (prims_of batches)) number)
leaf_rises (kind.Fixed list) batches = rises_filter 0 (λ id. nat_lt id (length (prims_of batches))) list.ids.ids (rises_of list.ids.ids list.rises)

pub leaf_owed_rises : (kind : Kind) (batches : List Batch) (place : ℕ) → RisesFrom 0 (ids_from place (leaf_set kind batches))
leaf_owed_rises kind batches place = rises_weaker 0 place (ids_from place (leaf_set kind batches)) (omega arith) (rises_from place 0 (leaf_set kind batches) (leaf_rises kind batches))

value_short : (prims : List Primitive) (o : Option Datum) → length (option_map_or (λ value. places_where (has_value value) prims) o []) ≤ length prims
value_short prims None = omega arith
value_short prims (Some value) = length-places_where (has_value value) prims

pub leaf_bounded : (kind : Kind) (batches : List Batch) → length (leaf_set kind batches) ≤ leaf_bound kind batches
leaf_bounded kind.All batches = omega (arith, length-range_with_len 0 (length (prims_of batches)))
leaf_bounded (kind.Linkage end node) batches = length-places_where (λ p. refers (end_of end p) node) (prims_of batches)
leaf_bounded (kind.Value number) batches = value_short (prims_of batches) (slice_get (values_of (prims_of batches)) number)
leaf_bounded (kind.Fixed list) batches = length-filter (λ id. nat_lt id (length (prims_of batches))) list.ids.ids
