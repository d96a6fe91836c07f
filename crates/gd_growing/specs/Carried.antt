-- What carrying out a connect form gives.
use Rattle.std.specs.Prelude.{◌≡◌, ◌≢◌, ℕ, List, [], ◌∷◌, ◌++◌, Option, Some, None, Result, Ok, Err, MatchResult, codes}
use Rattle.gd_prim.specs.declared.Primitive.{Primitive}
use Rattle.gd_defs.specs.Asked.{bad_query}
use Rattle.gd_defs.specs.Query.{bad_connect, bad_previous}
use Rattle.gd_defs.specs.Property.{Property}
use Rattle.gd_defs.specs.Write.Links.{ChangeFault, unknown, not_unique, key_taken, stale_version, Stamp, Done, unless_taken, updated, updated_from}
use Rattle.gd_defs.specs.Write.Parts.{Target}
use Rattle.gd_growing.specs.declared.fault.LinkFault.{LinkFault}
use Rattle.gd_growing.specs.declared.fault.LinkFault.TheVariants as fault
use Rattle.gd_growing.specs.declared.links.Answer.{Answer}
use Rattle.gd_growing.specs.Seen.{answer_word}

-- the fault at a path; for want of memory none stands, and clauses leave it out
abbrev pub fault_at : List (List ℕ) → LinkFault → ChangeFault
fault_at path fault.NotUnique = not_unique path
fault_at path (fault.KeyTaken key holder) = key_taken key holder
fault_at path (fault.StaleVersion previous successor) = stale_version previous successor
fault_at path fault.BadConnect = unknown (bad_query bad_connect (path ++ codes "connect" ∷ []))
fault_at path fault.BadPrevious = unknown (bad_query bad_previous (path ++ codes "previous" ∷ []))
fault_at path fault.Memory = not_unique path

-- the call gives what is expected at any path, with this list afterwards, or for want of memory nothing
abbrev pub Gives : (List (List ℕ) → Result Done ChangeFault) → List Primitive → Result Answer LinkFault → Type 0
Gives expected now result = MatchResult result (λ answer. (path : List (List ℕ)) → expected path ≡ Ok (now, answer_word answer))
    (λ refused. refused ≢ fault.Memory → (path : List (List ℕ)) → expected path ≡ Err (fault_at path refused))

-- the call says whether another object that holds the key of the target is in the way
abbrev pub IsFree : {A : Type 0} → Option ℕ → Target → Result A LinkFault → Type 0
IsFree holder t result = MatchResult result (λ _. (r : Result Done ChangeFault) → unless_taken holder t r ≡ r)
    (λ refused. refused ≢ fault.Memory → (path : List (List ℕ)) (r : Result Done ChangeFault) → unless_taken holder t r ≡ Err (fault_at path refused))

-- updating the link that is named, or else the one answer
abbrev pub update_at : Stamp → List (List ℕ) → List Primitive → Property → ℕ → Target → Option ℕ → Result Done ChangeFault
update_at s path prims p o t None = updated s path prims p o t
update_at s path prims p o t (Some k) = updated_from s path prims p o t k
