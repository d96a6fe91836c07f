-- What a leaf walks.
use Rattle.std.specs.Prelude.{ℕ, List, length, false}
use Rattle.std.specs.List.{range_with_len}
use Rattle.gd_prim.specs.declared.Batch.{Batch}
use Rattle.gd_prim.specs.End.{places_with}
use Rattle.gd_prim.specs.History.{prims_of}
use Rattle.gd_postings.specs.Postings.{ids_below}
use Rattle.gd_store.specs.Valued.{places_of_number}
use Rattle.gd_iter_core.specs.Owed.{Walk}
use Rattle.gd_leaf.specs.declared.kind.Kind.{Kind}
use Rattle.gd_leaf.specs.declared.kind.Kind.TheVariants as kind

-- all places of these batches and the built-in primitives
abbrev pub all_places : List Batch → List ℕ
all_places batches = range_with_len 0 (length (prims_of batches))

-- all places below the dateline, or those with a node at an end, or those with a value, or those of a list
abbrev pub leaf_set : Kind → List Batch → List ℕ
leaf_set kind.All batches = all_places batches
leaf_set (kind.Linkage end node) batches = places_with end node (prims_of batches)
leaf_set (kind.Value number) batches = places_of_number number (prims_of batches)
leaf_set (kind.Fixed list) batches = ids_below (length (prims_of batches)) list.ids.ids

-- no set has more places
abbrev pub leaf_bound : Kind → List Batch → ℕ
leaf_bound kind.All batches = length (prims_of batches)
leaf_bound (kind.Linkage end node) batches = length (prims_of batches)
leaf_bound (kind.Value number) batches = length (prims_of batches)
leaf_bound (kind.Fixed list) batches = length list.ids.ids

-- a leaf has no members
abbrev pub leaf_walk : Kind → Walk (List Batch)
leaf_walk kind = record {
  set = leaf_set kind;
  bound = leaf_bound kind;
  accepts = λ world m id. false;
  members = 0;
  leaves = 1;
}
