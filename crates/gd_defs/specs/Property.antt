-- Words as properties, and the links that answer them.
use Rattle.std.specs.Prelude.{ℕ, List, Bool, true, false, not, ◌&&◌, ◌==◌, nat_lt, Option, Some, None, is_some, option_map, slice_get, filter_map, unwrap_or, if◌then◌else◌, codes, bytes_eq}
use Rattle.std.specs.List.{list_any, starts_with}
use Rattle.std.specs.Option.{option_map_or}
use Rattle.gd_grammar.specs.Maybe.{◌>>=◌}
use Rattle.gd_base.specs.declared.datum.Datum.{Datum}
use Rattle.gd_base.specs.declared.datum.Datum.TheVariants as datum
use Rattle.gd_prim.specs.declared.Primitive.{Primitive}
use Rattle.gd_prim.specs.Builtin.{lang_place, english_place, property_place, text_place, int_place, boolean_place, datetime_place, key_type_place, name_place, type_link_place, key_place, expected_place, unique_place, master_place, builtin_end}
use Rattle.gd_prim.specs.Live.{refers, is_object, live_where, passes_at, end_at, value_at, object_datum, is_text, language_of}
use Rattle.gd_defs.specs.Ids.{key_leads, object_of}
use Rattle.gd_base.specs.Order.{datum_eq}
use Rattle.gd_defs.specs.Data.{Kind, of_text, of_int, of_boolean, of_datetime, has_kind}

-- what a word asks for: links of a stored property by their left end, or reversed by their right; the type expected at the other end; whether there is one answer at most; and the language of texts, if it asks for those of one alone
pub record Property : Type 0 where
  pub stored : ℕ
  pub reversed : Bool
  pub expected : Option ℕ
  pub unique : Bool
  pub language : Option ℕ

-- what the answers of a property are: values of a kind, keys, objects of a system type, or other objects
pub data Expects : Type 0 where
  a_value : Kind → Expects
  a_key : Expects
  an_object_of_system a_plain_object : Expects

-- what the answers are, by their expected type
abbrev pub expects_of : Option ℕ → Expects
expects_of None = a_plain_object
expects_of (Some t) = if t == text_place then a_value of_text else if t == int_place then a_value of_int else if t == boolean_place then a_value of_boolean
    else if t == datetime_place then a_value of_datetime else if t == key_type_place then a_key
    else if nat_lt t builtin_end then an_object_of_system else a_plain_object

-- the live links of a typ from an object, in order of their places
abbrev pub links_from : List Primitive → ℕ → ℕ → List ℕ
links_from prims typ left = live_where (λ p. refers p.typ typ && refers p.left left) prims

-- the object has this type: a live type link leads to it
abbrev pub has_type : List Primitive → ℕ → ℕ → Bool
has_type prims o type = list_any (λ k. passes_at (λ p. refers p.right type) prims k) (links_from prims type_link_place o)

-- an object is a language: a live key link of it leads into the namespace of languages
abbrev pub is_language : List Primitive → ℕ → Bool
is_language prims o = list_any (λ k. passes_at (λ p. refers p.right lang_place) prims k) (links_from prims key_place o)

-- the first of a list
abbrev pub first : {A : Type 0} → List A → Option A
first xs = slice_get xs 0

-- the right end of the first live link of a typ from an object
abbrev pub first_right : List Primitive → ℕ → ℕ → Option ℕ
first_right prims typ o = first (links_from prims typ o) >>= end_at (λ p. p.right) prims

-- the truth value that a datum is
abbrev pub boolean_of : Datum → Option Bool
boolean_of (datum.Bool b) = Some b
boolean_of _ = None

-- whether a property is unique: the first live mark with a truth value says it
abbrev pub is_unique : List Primitive → ℕ → Bool
is_unique prims p = unwrap_or (first (filter_map (λ k. boolean_of (value_at prims k)) (links_from prims unique_place p))) false

-- the language of the texts that are asked for where nothing is said of it: English; of what is no text none
abbrev pub plain_language : Expects → Option ℕ
plain_language (a_value of_text) = Some english_place
plain_language _ = None

-- the property that an object states: that of its master backwards, or its own
abbrev pub stated : List Primitive → ℕ → Property
stated prims p = record {
  stored = unwrap_or (first_right prims master_place p) p;
  reversed = is_some (first_right prims master_place p);
  expected = first_right prims expected_place p;
  unique = is_unique prims p;
  language = plain_language (expects_of (first_right prims expected_place p));
}

-- a property in the other direction, of which nothing is known
abbrev pub turned : Property → Property
turned p = record { stored = p.stored; reversed = not p.reversed; expected = None; unique = false; language = None }

-- the object that a word leads to: a path is an id, `name`, `type` and `key` are of every object, another key stands in the context type
abbrev pub word_object : List Primitive → Option ℕ → List ℕ → Option ℕ
word_object prims context word = if starts_with ◌==◌ word (codes "/") then object_of prims word
    else if bytes_eq word (codes "name") then Some name_place else if bytes_eq word (codes "type") then Some type_link_place
    else if bytes_eq word (codes "key") then Some key_place else context >>= λ t. key_leads prims t word

-- the object that a word leads to, if it is a property
abbrev pub property_object : List Primitive → Option ℕ → List ℕ → Option ℕ
property_object prims context word = word_object prims context word >>= λ p. if is_object prims p && has_type prims p property_place then Some p else None

-- the property that a word asks for, turned where `!` stands before it
abbrev pub property : List Primitive → Option ℕ → Bool → List ℕ → Option Property
property prims context reversed word = option_map (λ p. if reversed then turned (stated prims p) else stated prims p) (property_object prims context word)

-- the answers are values or keys
abbrev pub holds_values : Expects → Bool
holds_values (a_value k) = true
holds_values a_key = true
holds_values _ = false

-- an object states a value property, and what is asked for is reversed
abbrev pub is_reversed_value : List Primitive → ℕ → Property → Bool
is_reversed_value prims p asked = asked.reversed && holds_values (expects_of (first_right prims expected_place p))

-- an end of a link is there, and an object
abbrev pub leads_to_object : List Primitive → Option ℕ → Bool
leads_to_object prims end = option_map_or (is_object prims) end false

-- a link holds what is expected
abbrev pub holds_expected : List Primitive → Expects → Primitive → Bool
holds_expected prims (a_value k) p = has_kind k p.value
holds_expected prims a_key p = leads_to_object prims p.right && has_kind of_text p.value
holds_expected prims _ p = leads_to_object prims p.right

-- a link is in the language that a property asks for, if it asks for one
abbrev pub in_language : Property → Primitive → Bool
in_language p k = option_map_or (refers (language_of k)) p.language true

-- a primitive is of a property: it has its typ, and is in its language
abbrev pub is_of : Property → Primitive → Bool
is_of p k = refers k.typ p.stored && in_language p k

-- the answers of a property on an object: live links, of texts those in its language, in order of their places
abbrev pub answers : List Primitive → Property → ℕ → List ℕ
answers prims p s = if p.reversed then live_where (λ k. is_of p k && refers k.right s && leads_to_object prims k.left) prims
    else live_where (λ k. is_of p k && refers k.left s && holds_expected prims (expects_of p.expected) k) prims

-- the end of a link by which a property is asked
abbrev pub near_of : Property → Primitive → Option ℕ
near_of p k = if p.reversed then k.right else k.left

-- the other end of a link
abbrev pub far_of : Property → Primitive → Option ℕ
far_of p k = if p.reversed then k.left else k.right

-- the other end of the link at a place
abbrev pub far_end : List Primitive → Property → ℕ → Option ℕ
far_end prims p k = end_at (far_of p) prims k

-- an answer as a datum: the value of a value property or a key, else the object
abbrev pub answer_datum : List Primitive → Property → ℕ → Datum
answer_datum prims p k = by (if p.reversed then a_plain_object else expects_of p.expected)
  where
    by : Expects → Datum
    by (a_value v) = value_at prims k
    by a_key = value_at prims k
    by _ = object_datum (far_end prims p k)

-- a live link of a typ leads from an object to a datum: to an object as its right end, to a text in a language, or to another value
abbrev pub has_link : List Primitive → ℕ → ℕ → Datum → ℕ → Bool
has_link prims s p d language = list_any (λ k. passes_at (leads_to d) prims k) (links_from prims p s)
  where
    leads_to : Datum → Primitive → Bool
    leads_to (datum.Object o) q = refers q.right o
    leads_to (datum.Text t) q = is_text t q.value && refers (language_of q) language
    leads_to v q = datum_eq q.value v
