-- Updating what is no key.
use Rattle.std.proofs.Common.{◌≡◌, ℕ, List, Option, Some, None, Result, Ok, Err, refl, ◌∙◌}
use Rattle.gd_prim.specs.declared.Primitive.{Primitive}
use Rattle.gd_defs.specs.Change.{update}
use Rattle.gd_defs.specs.Property.{Property}
use Rattle.gd_defs.specs.Write.Links.{ChangeFault, Stamp, Done, connected}
use Rattle.gd_growing.specs.declared.fault.LinkFault.{LinkFault}
use Rattle.gd_growing.specs.declared.links.Answer.{Answer}
use Rattle.gd_growing.specs.declared.target.Target.{Target}
use Rattle.gd_growing.specs.declared.target.Target.TheVariants as target
use Rattle.gd_growing.specs.Seen.{target_view}
use Rattle.gd_growing.specs.Carried.{Gives, update_at}

updates : (s : Stamp) (path : List (List ℕ)) (prims : List Primitive) (p : Property) (o : ℕ) (t : Target) (previous : Option ℕ) → ((namespace : ℕ) (key : List ℕ) → t ≡ target.Key namespace key → ⊥)
    → connected s path prims p o update (target_view t) previous ≡ update_at s path prims p o (target_view t) previous
updates s path prims p o (target.Object x) None other = refl
updates s path prims p o (target.Object x) (Some k) other = refl
updates s path prims p o (target.Value v) None other = refl
updates s path prims p o (target.Value v) (Some k) other = refl
updates s path prims p o (target.Key namespace key) previous other = absurd (other namespace key refl)

given : (f g : List (List ℕ) → Result Done ChangeFault) (now : List Primitive) (result : Result Answer LinkFault) → ((path : List (List ℕ)) → f path ≡ g path) → Gives g now result → Gives f now result
given f g now (Ok answer) same gives = λ path. same path ∙ gives path
given f g now (Err refused) same gives = λ other path. same path ∙ gives other path

-- what updating gives, a connect form that updates gives
pub updates_so : (s : Stamp) (prims now : List Primitive) (p : Property) (o : ℕ) (t : Target) (previous : Option ℕ) (result : Result Answer LinkFault) → ((namespace : ℕ) (key : List ℕ) → t ≡ target.Key namespace key → ⊥)
    → Gives (λ path. update_at s path prims p o (target_view t) previous) now result → Gives (λ path. connected s path prims p o update (target_view t) previous) now result
updates_so s prims now p o t previous result other gives =
    given (λ path. connected s path prims p o update (target_view t) previous) (λ path. update_at s path prims p o (target_view t) previous) now result (λ path. updates s path prims p o t previous other) gives
