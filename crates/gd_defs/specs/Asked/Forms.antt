-- What each form of a member asks of its property.
use Rattle.std.specs.Prelude.{ℕ, List, [], Bool, true, false, not, ◌||◌, ◌==◌, Some, None, unwrap_or, if◌then◌else◌, codes}
use Rattle.std.specs.Option.{option_map_or}
use Rattle.gd_prim.specs.Builtin.{name_place, text_place, english_place}
use Rattle.gd_tree.specs.Json.{Json}
use Rattle.gd_defs.specs.Data.{Test, anything}
use Rattle.gd_defs.specs.Query.{Mode, required, optional, Directives}
use Rattle.gd_defs.specs.Property.{Property, Expects, a_value, a_key, an_object_of_system, a_plain_object, expects_of, holds_values}
use Rattle.gd_defs.specs.Asked.Parts.{its_lang, Style, as_operand, as_value, as_name, as_id, as_clause, Asking, Members, no_members, own, asks, Clause}

-- the property `name`, in English
abbrev pub name_property : Property
name_property = record { stored = name_place; reversed = false; expected = Some text_place; unique = true; language = Some english_place }

-- what a member asks of a property where nothing else is said: its answers as they stand, up to 100
abbrev pub bare_asking : Property → Style → Asking
bare_asking p style = record { property = p; test = anything; mode = optional; given = false; counted = true; style = style; listed = false; single = false; sort = []; limit = 100 }

-- the clause whose one member is the name: in a mode, with a test, as a literal or not
abbrev pub name_test : Mode → Bool → Test → Members
name_test mode given t = asks (codes "name") (record (bare_asking name_property as_value) { test = t; mode = mode; given = given }) no_members no_members

-- the clause that asks for the name alone
abbrev pub name_clause : Members
name_clause = name_test optional false anything

-- how answers print that no clause of their own prints
abbrev pub style_of : Expects → Style
style_of (a_value k) = as_value
style_of a_key = as_value
style_of an_object_of_system = as_id
style_of a_plain_object = as_name

-- what null and [] ask of an answer: of a plain object its name
abbrev pub own_clause : Expects → Members
own_clause a_plain_object = name_clause
own_clause _ = no_members

-- the answers are counted one by one, whatever is asked of them: all but plain objects
abbrev pub counts : Expects → Bool
counts a_plain_object = false
counts _ = true

-- the member that null asks, or [] where a list is asked for
abbrev pub ask_form : List ℕ → Property → Bool → Members → Members
ask_form name p listed rest = asks name
    (record (bare_asking p (style_of (expects_of p.expected))) { counted = counts (expects_of p.expected); listed = listed; single = not listed })
    (own_clause (expects_of p.expected)) rest

-- the member that a literal or an operand asks, with its test; of a plain object it tests the name
abbrev pub operand_form : List ℕ → Property → Expects → Bool → Json → Test → Members → Members
operand_form name p a_plain_object literal j t rest = asks name
    (record (bare_asking p (as_operand j)) { mode = required; given = literal; counted = literal })
    (name_test required literal t) rest
operand_form name p e literal j t rest = asks name
    (record (bare_asking p (as_operand j)) { test = t; mode = required; given = literal })
    no_members rest

-- the mode of a form {..} or [{..}]: required, unless it says otherwise
abbrev pub mode_of : Directives → Mode
mode_of d = unwrap_or d.mode required

-- one answer is asked for, and another is one too many: not in a list, nor with the limit 1
abbrev pub asks_single : Bool → Directives → Bool
asks_single listed d = not (listed || option_map_or (λ n. n == 1) d.limit false)

-- a form asks for the language of its texts
abbrev pub asks_language : Members → Bool
asks_language no_members = false
asks_language (own name its_lang t j ms) = true
asks_language (own name w t j ms) = asks_language ms
asks_language (asks name a c ms) = asks_language ms

-- the property that a form asks: of texts in every language, where it asks for their language
abbrev pub spoken : Property → Members → Property
spoken p c = record p { language = if asks_language c then None else p.language }

-- the member that {..} asks, or [{..}] where a list is asked for
abbrev pub clause_form : List ℕ → Property → Directives → Bool → Clause → Members → Members
clause_form name p d listed c rest = asks name
    (record (bare_asking (spoken p c.0) as_clause) {
      mode = mode_of d;
      counted = holds_values (expects_of p.expected);
      listed = listed;
      single = asks_single listed d;
      sort = c.1;
      limit = unwrap_or d.limit 100;
    })
    c.0 rest
