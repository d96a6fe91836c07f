-- What the answers of a property are, and when a fact holds.
use Rattle.std.proofs.Common.{◌≡◌, ℕ, ◌+◌, ◌-◌, ◌<◌, Bool, true, false, ◌&&◌, List, [], ◌∷◌, ◌++◌, length, drop, Option, Some, None, refl, sym, ap, ◌∙◌}
use Rattle.std.specs.Prelude.{slice_get, filter, if◌then◌else◌, ◌||◌}
use Rattle.std.specs.List.{list_any, range_with_len}
use Rattle.std.proofs.lemmas.List.Elements.{filter-append}
use Rattle.std.proofs.lemmas.List.Folds.{list_any-append}
use Rattle.gd_base.specs.declared.datum.Datum.TheVariants as datum
use Rattle.gd_base.specs.Order.{datum_eq}
use Rattle.gd_prim.specs.declared.Primitive.{Primitive}
use Rattle.gd_prim.specs.End.{places_with}
use Rattle.gd_prim.specs.Live.{value_at, object_datum}
use Rattle.gd_defs.specs.Plan as plan
use Rattle.gd_defs.specs.Property.{Property, Expects, a_value, a_key, an_object_of_system, a_plain_object, expects_of, holds_values, answers, answer_datum, far_end}
use Rattle.gd_defs.specs.Write.Parts.{Target, is_target, equal_links, has_fact}
use Rattle.gd_list_laws.proofs.Places.{and-comm, filter-filter, filter-same, list_any-filter}
use Rattle.gd_growing.specs.Scan.{is_answer_at, is_wanted_at, kept}
use Rattle.gd_growing.proofs.Answering.{left_on, range_on, parts}

value_forward : (prims : List Primitive) (stored : ℕ) (expected : Option ℕ) (unique : Bool) (language : Option ℕ) (k : ℕ) (e : Expects) → expects_of expected ≡ e → holds_values e ≡ true
    → answer_datum prims (record { stored = stored; reversed = false; expected = expected; unique = unique; language = language }) k ≡ value_at prims k
value_forward prims stored expected unique language k (a_value v) is holds = rw is refl
value_forward prims stored expected unique language k a_key is holds = rw is refl
value_forward prims stored expected unique language k an_object_of_system is holds = absurd (cc)
value_forward prims stored expected unique language k a_plain_object is holds = absurd (cc)

value_given : (prims : List Primitive) (stored : ℕ) (reversed : Bool) (expected : Option ℕ) (unique : Bool) (language : Option ℕ) (k : ℕ)
    → holds_values (plan.answers_of (record { stored = stored; reversed = reversed; expected = expected; unique = unique; language = language })) ≡ true
    → answer_datum prims (record { stored = stored; reversed = reversed; expected = expected; unique = unique; language = language }) k ≡ value_at prims k
value_given prims stored true expected unique language k holds = absurd (cc)
value_given prims stored false expected unique language k holds = value_forward prims stored expected unique language k (expects_of expected) refl holds

-- values and keys are the value of the link
pub gives_value : (prims : List Primitive) (p : Property) (k : ℕ) → holds_values (plan.answers_of p) ≡ true → answer_datum prims p k ≡ value_at prims k
gives_value prims p k holds = value_given prims p.stored p.reversed p.expected p.unique p.language k holds

object_forward : (prims : List Primitive) (stored : ℕ) (expected : Option ℕ) (unique : Bool) (language : Option ℕ) (k : ℕ) (e : Expects) → expects_of expected ≡ e → holds_values e ≡ false
    → answer_datum prims (record { stored = stored; reversed = false; expected = expected; unique = unique; language = language }) k
    ≡ object_datum (far_end prims (record { stored = stored; reversed = false; expected = expected; unique = unique; language = language }) k)
object_forward prims stored expected unique language k (a_value v) is holds = absurd (cc)
object_forward prims stored expected unique language k a_key is holds = absurd (cc)
object_forward prims stored expected unique language k an_object_of_system is holds = rw is refl
object_forward prims stored expected unique language k a_plain_object is holds = rw is refl

object_given : (prims : List Primitive) (stored : ℕ) (reversed : Bool) (expected : Option ℕ) (unique : Bool) (language : Option ℕ) (k : ℕ)
    → holds_values (plan.answers_of (record { stored = stored; reversed = reversed; expected = expected; unique = unique; language = language })) ≡ false
    → answer_datum prims (record { stored = stored; reversed = reversed; expected = expected; unique = unique; language = language }) k
    ≡ object_datum (far_end prims (record { stored = stored; reversed = reversed; expected = expected; unique = unique; language = language }) k)
object_given prims stored true expected unique language k holds = refl
object_given prims stored false expected unique language k holds = object_forward prims stored expected unique language k (expects_of expected) refl holds

-- other answers are the object at its other end
pub gives_object : (prims : List Primitive) (p : Property) (k : ℕ) → holds_values (plan.answers_of p) ≡ false → answer_datum prims p k ≡ object_datum (far_end prims p k)
gives_object prims p k holds = object_given prims p.stored p.reversed p.expected p.unique p.language k holds

no_text : (o : Option ℕ) (t : List ℕ) → datum_eq (object_datum o) (datum.Text t) ≡ false
no_text None t = refl
no_text (Some x) t = refl

-- which is no text
pub gives_no_text : (prims : List Primitive) (p : Property) (k : ℕ) (t : List ℕ) → holds_values (plan.answers_of p) ≡ false → datum_eq (answer_datum prims p k) (datum.Text t) ≡ false
gives_no_text prims p k t holds = ap (λ d. datum_eq d (datum.Text t)) (gives_object prims p k holds) ∙ no_text (far_end prims p k) t

-- ---- facts

-- a fact holds where some answer leads to the target
pub some_holds : (prims : List Primitive) (p : Property) (o : ℕ) (t : Target) → list_any (is_target prims p t) (answers prims p o) ≡ has_fact prims p o t
some_holds prims p o t = list_any-filter (is_target prims p t) (answers prims p o)

-- below a front, or behind it
pub holds_in_parts : (base made : List Primitive) (p : Property) (o : ℕ) (t : Target)
    → has_fact (base ++ made) p o t
    ≡ (list_any (is_target (base ++ made) p t) (filter (is_answer_at (base ++ made) p o) (places_with (plan.asked_end p) o base))
    || list_any (is_target (base ++ made) p t) (filter (is_answer_at (base ++ made) p o) (range_with_len (length base) (length made))))
holds_in_parts base made p o t =
    sym (some_holds (base ++ made) p o t)
    ∙ ap (list_any (is_target (base ++ made) p t)) (parts base made p o)
    ∙ list_any-append (is_target (base ++ made) p t) (filter (is_answer_at (base ++ made) p o) (places_with (plan.asked_end p) o base)) (filter (is_answer_at (base ++ made) p o) (range_with_len (length base) (length made)))

-- the links that lead to a target, of each part
pub links_in_parts : (base made : List Primitive) (p : Property) (o : ℕ) (t : Target)
    → equal_links (base ++ made) p o t
    ≡ filter (is_wanted_at (base ++ made) p o (Some t)) (places_with (plan.asked_end p) o base) ++ filter (is_wanted_at (base ++ made) p o (Some t)) (range_with_len (length base) (length made))
links_in_parts base made p o t =
    let test = is_answer_at (base ++ made) p o in
    let leads = is_target (base ++ made) p t in
    let links = places_with (plan.asked_end p) o base in
    let places = range_with_len (length base) (length made) in
    ap (filter leads) (parts base made p o)
    ∙ filter-append leads (filter test links) (filter test places)
    ∙ ap (λ ks. ks ++ filter leads (filter test places)) (filter-filter test leads links ∙ filter-same _ (is_wanted_at (base ++ made) p o (Some t)) links (λ k. and-comm (test k) (leads k)))
    ∙ ap (λ ks. filter (is_wanted_at (base ++ made) p o (Some t)) links ++ ks) (filter-filter test leads places ∙ filter-same _ (is_wanted_at (base ++ made) p o (Some t)) places (λ k. and-comm (test k) (leads k)))

any_kept : (test leads : ℕ → Bool) (x : ℕ) (xs : List ℕ) → list_any leads (kept test x ++ xs) ≡ ((leads x && test x) || list_any leads xs)
any_kept test leads x xs = by (test x) ∙ ap (λ b. b || list_any leads xs) (and-comm (test x) (leads x))
  where
    by : (b : Bool) → list_any leads ((if b then x ∷ [] else []) ++ xs) ≡ ((b && leads x) || list_any leads xs)
    by true = refl
    by false = refl

-- the first of what is left decides with what stands behind it
pub left_decides : (test leads : ℕ → Bool) (xs : List ℕ) (k x : ℕ) (b : Bool) → slice_get xs k ≡ Some x → b ≡ (leads x && test x)
    → list_any leads (filter test (drop k xs)) ≡ (b || list_any leads (filter test (drop (k + 1) xs)))
left_decides test leads xs k x b at is =
    ap (list_any leads) (left_on test xs k x at) ∙ any_kept test leads x (filter test (drop (k + 1) xs)) ∙ ap (λ c. c || list_any leads (filter test (drop (k + 1) xs))) (sym is)

pub range_decides : (test leads : ℕ → Bool) (k end : ℕ) (b : Bool) → k < end → b ≡ (leads k && test k)
    → list_any leads (filter test (range_with_len k (end - k))) ≡ (b || list_any leads (filter test (range_with_len (k + 1) (end - (k + 1)))))
range_decides test leads k end b below is =
    ap (list_any leads) (range_on test k end below) ∙ any_kept test leads k (filter test (range_with_len (k + 1) (end - (k + 1))))
    ∙ ap (λ c. c || list_any leads (filter test (range_with_len (k + 1) (end - (k + 1))))) (sym is)
