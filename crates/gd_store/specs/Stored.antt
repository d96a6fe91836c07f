-- How a store keeps its batches: one list of primitives, and for each request where it ends.
use Rattle.std.specs.Prelude.{◌≡◌, ℕ, zero, suc, ◌-◌, ◌≤◌, List, [], ◌∷◌, length, take, drop, sum_by, IsTrue}
use Rattle.gd_prim.specs.declared.Primitive.{Primitive}
use Rattle.gd_prim.specs.declared.Batch.{Batch}
use Rattle.gd_prim.specs.Builtin.{builtin}
use Rattle.gd_prim.specs.Limits.{text_bytes, max_prims, max_text, max_requests}
use Rattle.gd_prim.specs.WellFormed.{all_follow}
use Rattle.gd_store.specs.declared.store.Request.{Request}

-- the batches that the requests cut out of the list, the first one from this place on
abbrev pub cut : ℕ → List Primitive → List Request → List Batch
cut start prims [] = []
cut start prims (r ∷ rs) = record { moment = r.moment; prims = take (r.end - start) (drop start prims) } ∷ cut r.end prims rs

-- the ends do not fall, from this place to the last
abbrev pub Rises : ℕ → List Request → ℕ → Type 0
Rises start [] last = start ≡ last
Rises start (r ∷ rs) last = (start ≤ r.end) × Rises r.end rs last

-- where the first n requests end
abbrev pub end_after : ℕ → List Request → ℕ → ℕ
end_after start rs zero = start
end_after start [] (suc n) = start
end_after start (r ∷ rs) (suc n) = end_after r.end rs n

-- the batches of a store
abbrev pub batches : List Primitive → List Request → List Batch
batches prims requests = cut 70 prims requests

-- the list begins with the built-in primitives, the rest is cut whole, each batch may follow those before it, and the bytes of texts are counted
pub record IsStored (prims : List Primitive) (requests : List Request) (text : ℕ) : Type 0 where
  pub begins : take 70 prims ≡ builtin
  pub whole : Rises 70 requests (length prims)
  pub follows : IsTrue (all_follow builtin 0 (batches prims requests))
  pub counted : text ≡ sum_by text_bytes prims
  pub few_prims : length prims ≤ max_prims
  pub few_requests : length requests ≤ max_requests
  pub little_text : text ≤ max_text
