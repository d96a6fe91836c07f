-- The members of a clause, one part after another.
use Rattle.std.proofs.Common.{◌≡◌, ℕ, max, List, Bool, true, false, ◌&&◌, Option, Some, Result, Ok, Err, refl, sym, ap, ◌∙◌, arith, codes}
use Rattle.std.specs.Prelude.{if◌then◌else◌, bytes_eq}
use Rattle.std.specs.Option.{option_map_or}
use Rattle.gd_grammar.specs.Chain.{◌>>=◌}
use Rattle.gd_tree.specs.Json.{Json}
use Rattle.gd_defs.specs.Query as query
use Rattle.gd_defs.specs.Data.{Test}
use Rattle.gd_defs.specs.Property.{Property, Expects, expects_of}
use Rattle.gd_defs.specs.Asked as defs
use Rattle.gd_defs.specs.Asked.Tests.{checked_test}
use Rattle.gd_defs.specs.Asked.Forms.{operand_form}
use Rattle.gd_prim.specs.declared.Primitive.{Primitive}
use Rattle.gd_form_laws.specs.Spelled.{forms_depth}
use Rattle.gd_mql.specs.Clauses.{with_part}
use Rattle.gd_mql.specs.declared.clause.Part.{Part}
use Rattle.gd_mql.specs.declared.clause.Part.TheVariants as part
use Rattle.gd_plan.specs.declared.asked.Member.{Member}
use Rattle.gd_compile.specs.declared.fault.Unknown.{Unknown}
use Rattle.gd_compile.specs.Walk.{Outcome, Leads, led, asked_member, tested_form, part_depth}

-- what a part puts in front of the rest stands behind what was gathered
pub part_added : (whole rest : Outcome) (change old new : defs.Clause → defs.Clause) → whole ≡ (rest >>= λ c. Ok (change c)) → ((c : defs.Clause) → new c ≡ old (change c))
    → (whole >>= λ c. Ok (old c)) ≡ (rest >>= λ c. Ok (new c))
part_added whole (Err e) change old new is adds = ap (λ (w : Outcome). w >>= λ c. Ok (old c)) is
part_added whole (Ok c) change old new is adds = ap (λ (w : Outcome). w >>= λ c. Ok (old c)) is ∙ ap Ok (sym (adds c))

-- a member leads the rest where it leads the same rest by another name
leads_same : (whole other : Outcome → Outcome) (r : Result Member Unknown) → ((rest : Outcome) → whole rest ≡ other rest) → Leads other r → Leads whole r
leads_same whole other (Ok m) same leads = λ rest. same rest ∙ leads rest
leads_same whole other (Err e) same leads = λ known rest. same rest ∙ leads known rest

-- a computed word
pub own_leads : (prims : List Primitive) (context : Option ℕ) (path : List (List ℕ)) (n : query.Name) (f : query.Form) (o : defs.Own) (r : Result Member Unknown)
    → Some o ≡ defs.own_of n.word → Leads (defs.own_member path n o f (defs.own_test prims path o n.operator)) r → Leads (asked_member prims context path n f) r
own_leads prims context path n f o r is leads = leads_same (asked_member prims context path n f) (defs.own_member path n o f (defs.own_test prims path o n.operator)) r (λ rest. same rest) leads
  where
    same : (rest : Outcome) → asked_member prims context path n f rest ≡ defs.own_member path n o f (defs.own_test prims path o n.operator) rest
    same rest = ap (λ (own : Option defs.Own). option_map_or (λ o. defs.own_member path n o f (defs.own_test prims path o n.operator) rest) own
        (defs.member_property prims context path n >>= λ p. defs.asked_form prims path n p f >>= λ g. led g rest)) (sym is)

-- the members of a form on a value or a key: its link, its value, its namespace, its language
by_link : (b : Bool) (link other : Outcome) → b ≡ true → (if b then link else other) ≡ link
by_link true link other is = refl
by_link false link other is = cc

not_link : (b : Bool) (link other : Outcome) → b ≡ false → (if b then link else other) ≡ other
not_link false link other is = refl
not_link true link other is = cc

pub link_leads : (prims : List Primitive) (e : Expects) (path : List (List ℕ)) (n : query.Name) (f : query.Form) (r : Result Member Unknown)
    → query.is_link n.word ≡ true → Leads (defs.own_member path n defs.its_link f (defs.own_test prims path defs.its_link n.operator)) r → Leads (defs.value_member prims e path n f) r
link_leads prims e path n f r link leads = leads_same (defs.value_member prims e path n f) (defs.own_member path n defs.its_link f (defs.own_test prims path defs.its_link n.operator)) r
    (λ rest. by_link (query.is_link n.word) _ _ link) leads

pub value_leads : (prims : List Primitive) (e : Expects) (path : List (List ℕ)) (n : query.Name) (f : query.Form) (r : Result Member Unknown)
    → query.is_link n.word ≡ false → bytes_eq n.word (codes "value") ≡ true
    → Leads (defs.own_member path n defs.its_value f (checked_test prims e path n.operator)) r → Leads (defs.value_member prims e path n f) r
value_leads prims e path n f r link value leads = leads_same (defs.value_member prims e path n f) (defs.own_member path n defs.its_value f (checked_test prims e path n.operator)) r
    (λ rest. not_link (query.is_link n.word) _ _ link ∙ by_link (bytes_eq n.word (codes "value")) _ _ value) leads

pub namespace_leads : (prims : List Primitive) (e : Expects) (path : List (List ℕ)) (n : query.Name) (f : query.Form) (r : Result Member Unknown)
    → query.is_link n.word ≡ false → bytes_eq n.word (codes "value") ≡ false → (bytes_eq n.word (codes "namespace") && defs.has_namespace e) ≡ true
    → Leads (defs.own_member path n defs.its_namespace f (defs.own_test prims path defs.its_namespace n.operator)) r → Leads (defs.value_member prims e path n f) r
namespace_leads prims e path n f r link value namespace leads = leads_same (defs.value_member prims e path n f) (defs.own_member path n defs.its_namespace f (defs.own_test prims path defs.its_namespace n.operator)) r
    (λ rest. not_link (query.is_link n.word) _ _ link ∙ (not_link (bytes_eq n.word (codes "value")) _ _ value ∙ by_link (bytes_eq n.word (codes "namespace") && defs.has_namespace e) _ _ namespace)) leads

pub lang_leads : (prims : List Primitive) (e : Expects) (path : List (List ℕ)) (n : query.Name) (f : query.Form) (r : Result Member Unknown)
    → query.is_link n.word ≡ false → bytes_eq n.word (codes "value") ≡ false → (bytes_eq n.word (codes "namespace") && defs.has_namespace e) ≡ false → (bytes_eq n.word (codes "lang") && defs.has_lang e) ≡ true
    → Leads (defs.own_member path n defs.its_lang f (defs.own_test prims path defs.its_lang n.operator)) r → Leads (defs.value_member prims e path n f) r
lang_leads prims e path n f r link value namespace lang leads = leads_same (defs.value_member prims e path n f) (defs.own_member path n defs.its_lang f (defs.own_test prims path defs.its_lang n.operator)) r
    (λ rest. not_link (query.is_link n.word) _ _ link ∙ (not_link (bytes_eq n.word (codes "value")) _ _ value ∙ (not_link (bytes_eq n.word (codes "namespace") && defs.has_namespace e) _ _ namespace ∙ by_link (bytes_eq n.word (codes "lang") && defs.has_lang e) _ _ lang))) leads

-- a literal or an operand with the test that it makes
pub tested : (prims : List Primitive) (path : List (List ℕ)) (name : List ℕ) (p : Property) (operator : query.Operator) (literal : Bool) (j : Json) (e : Expects) (t : Test) (g : defs.Members → defs.Members)
    → e ≡ expects_of p.expected → checked_test prims e path operator j ≡ Ok t → g ≡ operand_form name p e literal j t → tested_form prims path name p operator literal j ≡ Ok g
tested prims path name p operator literal j e t g is passed made =
    ap (λ (x : Expects). checked_test prims x path operator j >>= λ t. Ok (operand_form name p x literal j t)) (sym is)
    ∙ (ap (λ (r : Result Test defs.Unknown). r >>= λ t. Ok (operand_form name p e literal j t)) passed ∙ ap Ok (sym made))

-- or that is refused
pub untested : (prims : List Primitive) (path : List (List ℕ)) (name : List ℕ) (p : Property) (operator : query.Operator) (literal : Bool) (j : Json) (e : Expects) (f : defs.Unknown)
    → e ≡ expects_of p.expected → checked_test prims e path operator j ≡ Err f → tested_form prims path name p operator literal j ≡ Err f
untested prims path name p operator literal j e f is refused =
    ap (λ (x : Expects). checked_test prims x path operator j >>= λ t. Ok (operand_form name p x literal j t)) (sym is)
    ∙ ap (λ (r : Result Test defs.Unknown). r >>= λ t. Ok (operand_form name p e literal j t)) refused

-- forms lie as deep in a part and behind it as in all
pub part_within : (p : Part) (ms : query.Members) → forms_depth (with_part p ms) ≡ max (part_depth p) (forms_depth ms)
part_within (part.Member n f) ms = refl
part_within (part.Sort ws) ms = omega arith
