-- Data that primitives hold, as they print.
use Rattle.std.proofs.Common.{◌≡◌, ◌≤◌, ◌++◌, ℕ, true, false, IsTrue, refl, sym, ap, ◌∙◌, pos, rules, arith, List}
use Rattle.json.specs.Token.{Token}
use Rattle.gd_base.specs.declared.datum.Datum.{Datum}
use Rattle.gd_base.specs.declared.datum.Datum.TheVariants as datum
use Rattle.gd_prim.specs.declared.Primitive.{Primitive}
use Rattle.gd_prim.specs.WellFormed.{may_hold, is_moment}
use Rattle.gd_prim.specs.Live.{value_at, object_datum}
use Rattle.gd_defs.specs.Data.{datum_json}
use Rattle.gd_defs.specs.Plan.{answers_of}
use Rattle.gd_defs.specs.Property.{Property, answer_datum, far_end, holds_values, Expects, a_value, a_key, an_object_of_system, a_plain_object}
use Rattle.gd_bytes.specs.Frozen.{Walk}
use Rattle.gd_json.specs.Tokens.{tokens_of}
use Rattle.gd_tree.specs.Json.{Json}
use Rattle.gd_runs.specs.Shape.{id_json}

-- a value that is held is no object, and prints without a walk
plain : (prims : List Primitive) (d : Datum) (told : List Walk) → IsTrue (may_hold d) → id_json prims d told ≡ (datum_json d, told)
plain prims (datum.Bool b) told held = refl
plain prims (datum.Int n) told held = refl
plain prims (datum.Moment ms precision) told held = refl
plain prims (datum.Text t) told held = refl
plain prims (datum.Object o) told held = cc
plain prims datum.Empty told held = refl

pub no_id : (prims : List Primitive) (d : Datum) (told : List Walk) (old new : List Token) → IsTrue (may_hold d) → new ≡ old ++ tokens_of (datum_json d) → new ≡ old ++ tokens_of (id_json prims d told).0
no_id prims d told old new held printed = printed ∙ ap (λ (p : Json × List Walk). old ++ tokens_of p.0) (sym (plain prims d told held))

pub no_walk : (prims : List Primitive) (d : Datum) (told : List Walk) → IsTrue (may_hold d) → told ≡ (id_json prims d told).1
no_walk prims d told held = ap (λ (p : Json × List Walk). p.1) (sym (plain prims d told held))

-- the answers of a property that holds values are values
pub values_here : (prims : List Primitive) (p : Property) (link : ℕ) → holds_values (answers_of p) ≡ true → answer_datum prims p link ≡ value_at prims link
values_here prims p link holds = by (answers_of p) refl holds
  where
    by : (e : Expects) → answers_of p ≡ e → holds_values e ≡ true → answer_datum prims p link ≡ value_at prims link
    by (a_value k) is here = rw is refl
    by a_key is here = rw is refl
    by an_object_of_system is here = absurd (cc)
    by a_plain_object is here = absurd (cc)

-- those of another are objects
pub objects_here : (prims : List Primitive) (p : Property) (link : ℕ) → holds_values (answers_of p) ≡ false → answer_datum prims p link ≡ object_datum (far_end prims p link)
objects_here prims p link holds = by (answers_of p) refl holds
  where
    by : (e : Expects) → answers_of p ≡ e → holds_values e ≡ false → answer_datum prims p link ≡ object_datum (far_end prims p link)
    by (a_value k) is here = absurd (cc)
    by a_key is here = absurd (cc)
    by an_object_of_system is here = rw is refl
    by a_plain_object is here = rw is refl

-- the moment of a primitive may be held
pub moment_held : (n : ℕ) → n ≤ 253402300799999 → IsTrue (is_moment (pos n))
moment_held n below = search (rules, arith)
