-- The template of a query is not too deep, and means the query.
use Rattle.std.proofs.Common.{◌≡◌, ◌≤◌, ℕ, ◌+◌, List, Result, Ok, Err, IfOk, MatchResult, refl, sym, ap, subst, arith}
use Rattle.gd_prim.specs.declared.Primitive.{Primitive}
use Rattle.gd_defs.specs.Query as query
use Rattle.gd_defs.specs.Query.{Query}
use Rattle.gd_defs.specs.Asked.{Asked, asked_query}
use Rattle.gd_defs.specs.Plan.{template_of}
use Rattle.gd_defs.specs.Template.{depth}
use Rattle.gd_form_laws.specs.Spelled.{form_depth, forms_depth}
use Rattle.gd_template_laws.specs.Laws.{AreHeld, TemplateMeans}
use Rattle.gd_template_laws.proofs.Laws.{templates_mean}
use Rattle.gd_template_laws.specs.Depth.{forms_below, forms_in}
use Rattle.gd_template_laws.proofs.Depths.{query-depth}
use Rattle.gd_plan.specs.Asked.{asked_view}
use Rattle.gd_plan.specs.declared.asked.Asked.{Asked as Found}
use Rattle.gd_compile.specs.declared.fault.Unknown.{Unknown}
use Rattle.gd_compile.specs.declared.fault.Unknown.TheVariants as fault

-- both count the same forms
mutual
  members-same : (ms : query.Members) → forms_below ms ≡ forms_depth ms
  members-same query.no_members = refl
  members-same (query.sort_by ws ms) = members-same ms
  members-same (query.member n f ms) = let inner = form-same f in let others = members-same ms in cc

  form-same : (f : query.Form) → forms_in f ≡ form_depth f
  form-same query.ask = refl
  form-same query.ask_all = refl
  form-same (query.literal j) = refl
  form-same (query.operand j) = refl
  form-same (query.one d ms) = ap (λ (n : ℕ). 1 + n) (members-same ms)
  form-same (query.many d ms) = ap (λ (n : ℕ). 1 + n) (members-same ms)

-- at most 14 forms one within the other make at most 31 templates
pub template_flat : (prims : List Primitive) (written : Query) (q : Asked) → 1 + forms_depth written.members ≤ 14 → asked_query prims written ≡ Ok q → depth (template_of q) ≤ 31
template_flat prims written q shallow is = omega (arith, query-depth prims written q is, members-same written.members)

-- the template of a plan means what is asked
pub plan_means : (prims : List Primitive) (written : Query) (q : Found) (r : Result Found Unknown) → AreHeld prims → asked_query prims written ≡ Ok (asked_view q)
    → MatchResult r (λ plan. plan ≡ q) (λ refused. refused ≡ fault.Memory) → IfOk r (λ plan. TemplateMeans prims (asked_view plan))
plan_means prims written q (Ok plan) held is made = subst (λ (a : Found). TemplateMeans prims (asked_view a)) (sym made) (templates_mean prims written (asked_view q) held is)
plan_means prims written q (Err refused) held is made = tt
