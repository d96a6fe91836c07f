-- The template of a query means the query.
use Rattle.std.proofs.Common.{◌≡◌, ℕ, List, [], ◌∷◌, Bool, true, false, cond, ◌&&◌, ◌||◌, Option, Some, None, refl, ap, sym, ◌∙◌}
use Rattle.std.specs.Prelude.{filter, unwrap_or}
use Rattle.std.specs.Option.{option_to_list}
use Rattle.std.specs.List.{list_any}
use Rattle.std.proofs.lemmas.Bool.{false≢true, and_parts}
use Rattle.gd_prim.specs.declared.Primitive.{Primitive}
use Rattle.gd_prim.specs.Live.{end_at}
use Rattle.gd_defs.specs.Property.{Expects, a_value, a_key, an_object_of_system, a_plain_object, far_end}
use Rattle.gd_defs.specs.Asked.{its_id, its_guid, its_timestamp, its_link, its_value, its_namespace, its_lang, Asking, Members, no_members, own, asks, Asked}
use Rattle.gd_defs.specs.Rows.{far}
use Rattle.gd_defs.specs.Plan.{property_tests, answer_end, answers_of, link_template, clauses_of}
use Rattle.gd_prim.specs.End.{end_of}
use Rattle.gd_defs.specs.Template.{end_here, is_answer, clause_answers, meets_constraints}
use Rattle.gd_template_laws.specs.Fits.{IsTyped, AreSortKeys, IsAsked, AreAsked}
use Rattle.gd_template_laws.specs.Laws.{far_template, HasFar, OnObjects, MembersMean, TemplateMeans}
use Rattle.gd_template_laws.proofs.Shapes.{link_template-shaped, answer_end-at}
use Rattle.gd_template_laws.proofs.Answers.{member-met, template-answers, template-passes}
use Rattle.gd_template_laws.proofs.Weights.{template-weighs}

-- ---- the object at the other end

-- a link that answers has one, and it stands in its clause
far-stands : (prims : List Primitive) (a : Asking) (c : Members) (x : ℕ) → list_any (is_answer prims (far_template a c)) (option_to_list (end_at (end_of (answer_end a.property)) prims x)) ≡ true
    → clause_answers prims (end_here (answer_end a.property)) (far_template a c) x ≡ far prims a.property x ∷ []
far-stands prims a c x found = by (far_end prims a.property x) refl (sym (ap (λ e. list_any (is_answer prims (far_template a c)) (option_to_list e)) (answer_end-at prims a.property x)) ∙ found)
  where
    or-false : (b : Bool) → (b || false) ≡ b
    or-false true = refl
    or-false false = refl

    by : (end : Option ℕ) → far_end prims a.property x ≡ end → list_any (is_answer prims (far_template a c)) (option_to_list (far_end prims a.property x)) ≡ true
        → clause_answers prims (end_here (answer_end a.property)) (far_template a c) x ≡ far prims a.property x ∷ []
    by None at found = absurd (false≢true (sym (ap (λ e. list_any (is_answer prims (far_template a c)) (option_to_list e)) at) ∙ found))
    by (Some y) at found =
        let here : is_answer prims (far_template a c) y ≡ true = sym (or-false (is_answer prims (far_template a c) y)) ∙ sym (ap (λ e. list_any (is_answer prims (far_template a c)) (option_to_list e)) at) ∙ found in
        ap (λ e. filter (is_answer prims (far_template a c)) (option_to_list e)) (answer_end-at prims a.property x ∙ at)
        ∙ ap (λ b. cond b (y ∷ []) []) here
        ∙ ap (λ e. unwrap_or e 0 ∷ []) (sym at)

pub member-far : (prims : List Primitive) (a : Asking) (c : Members) (x : ℕ) → is_answer prims (link_template a c (clauses_of a.sort c)) x ≡ true → HasFar prims (answers_of a.property) a c x
member-far prims a c x found = by (answers_of a.property) refl
  where
    objects : (is_answer prims (link_template a c (clauses_of a.sort c)) x) ≡ (meets_constraints prims (property_tests a.property) x && (list_any (is_answer prims (far_template a c)) (option_to_list (end_at (end_of (answer_end a.property)) prims x)) && true))
        → clause_answers prims (end_here (answer_end a.property)) (far_template a c) x ≡ far prims a.property x ∷ []
    objects shape = far-stands prims a c x (and_parts _ true (and_parts (meets_constraints prims (property_tests a.property) x) _ (sym shape ∙ found)).1).0

    by : (e : Expects) → answers_of a.property ≡ e → HasFar prims e a c x
    by (a_value k) is = tt
    by a_key is = tt
    by an_object_of_system is = objects (ap (λ t. is_answer prims t x) (link_template-shaped a c (clauses_of a.sort c) an_object_of_system is))
    by a_plain_object is = objects (ap (λ t. is_answer prims t x) (link_template-shaped a c (clauses_of a.sort c) a_plain_object is))

-- ---- each member

on_objects : (e : Expects) (a : Asking) (c : Members) (X : Type 0) → IsAsked e a c (AreAsked c) → (AreAsked c → X) → OnObjects e X
on_objects (a_value k) a c X asked below = tt
on_objects a_key a c X asked below = tt
on_objects an_object_of_system a c X asked below = below asked.clause
on_objects a_plain_object a c X asked below = below asked.clause

pub members-mean : (prims : List Primitive) → IsTyped prims → (c : Members) → AreAsked c → MembersMean prims c
members-mean prims typed no_members are = tt
members-mean prims typed (own name its_id t j ms) are = members-mean prims typed ms are.1
members-mean prims typed (own name its_guid t j ms) are = members-mean prims typed ms are.1
members-mean prims typed (own name its_timestamp t j ms) are = members-mean prims typed ms are.1
members-mean prims typed (own name its_link t j ms) are = members-mean prims typed ms are.1
members-mean prims typed (own name its_value t j ms) are = absurd are
members-mean prims typed (own name its_namespace t j ms) are = absurd are
members-mean prims typed (own name its_lang t j ms) are = absurd are
members-mean prims typed (asks name a c ms) are = (
  record { found = λ o. member-met prims a c typed are.0 o; far_object = λ x found. member-far prims a c x found },
  (on_objects (answers_of a.property) a c (MembersMean prims c) are.0 (λ asked. members-mean prims typed c asked), members-mean prims typed ms are.1),
)

-- ---- the query

-- the template of what is asked means it
pub template-means : (prims : List Primitive) (q : Asked) → IsTyped prims → AreAsked q.members → AreSortKeys q.sort → TemplateMeans prims q
template-means prims q typed are keys = record {
  answers = λ o. template-answers prims q typed are o;
  passes = λ o. template-passes prims q typed are o;
  weighs = λ o. template-weighs prims q typed are keys o;
  members = members-mean prims typed q.members are;
}
