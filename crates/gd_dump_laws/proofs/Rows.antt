-- Rows: the dumps of lists of batches, byte by byte.
use Rattle.std.proofs.Common.{◌≡◌, refl, List, ℕ, [], ◌∷◌, ◌++◌, flat_map, None, Some, true, false, pos, negsuc, codes}
use Rattle.std.specs.Fmt.{digits}
use Rattle.gd_base.specs.declared.datum.Datum.TheVariants as datum
use Rattle.gd_base.specs.declared.datum.Precision.TheVariants.{Day}
use Rattle.gd_prim.specs.declared.Batch.{Batch}
use Rattle.gd_dump_laws.specs.Dump.{spelling}

-- lines of a text
abbrev lines : List (List ℕ) → List ℕ
lines ls = flat_map (λ l. l ++ 10 ∷ []) ls

-- an object and its name
abbrev ann : Batch
ann = record {
  moment = 0;
  prims = record { left = None; right = None; typ = None; scope = None; value = datum.Empty; name = None; previous = None; live = true; moment = 0; lang = None }
      ∷ record { left = Some 70; right = None; typ = Some 13; scope = None; value = datum.Text (codes "Ann"); name = None; previous = None; live = true; moment = 0; lang = None } ∷ [];
}

pub one_object : spelling (record { first = 0; batches = ann ∷ [] }) ≡ lines (codes "graphd-dump 1 0" ∷ codes "batch 0 2" ∷ codes "- - - - - - + e -" ∷ codes "70 - 13 - - - + t416e6e -" ∷ codes "end 1" ∷ [])
unfolding digits
one_object = refl

-- a batch without primitives, from number 7 on
pub empty_batch : spelling (record { first = 7; batches = record { moment = 5; prims = [] } ∷ [] }) ≡ lines (codes "graphd-dump 1 7" ∷ codes "batch 5 0" ∷ codes "end 1" ∷ [])
unfolding digits
empty_batch = refl

-- each kind of value, a name, a scope, a language, a version that ends
pub values : spelling (record {
  first = 0;
  batches = record {
    moment = 12;
    prims = record { left = Some 1; right = Some 2; typ = Some 3; scope = Some 4; value = datum.Int (negsuc 41); name = Some (codes "n"); previous = Some 5; live = false; moment = 12; lang = Some 6 }
        ∷ record { left = None; right = None; typ = None; scope = None; value = datum.Bool true; name = None; previous = None; live = true; moment = 12; lang = None }
        ∷ record { left = None; right = None; typ = None; scope = None; value = datum.Moment (pos 86_400_000) Day; name = None; previous = None; live = true; moment = 12; lang = None } ∷ [];
  } ∷ [];
})
    ≡ lines (codes "graphd-dump 1 0" ∷ codes "batch 12 3" ∷ codes "1 2 3 4 5 6 - i-42 t6e" ∷ codes "- - - - - - + b1 -" ∷ codes "- - - - - - + md86400000 -" ∷ codes "end 1" ∷ [])
unfolding digits
values = refl

-- no batch
pub nothing : spelling (record { first = 0; batches = [] }) ≡ lines (codes "graphd-dump 1 0" ∷ codes "end 0" ∷ [])
unfolding digits
nothing = refl
