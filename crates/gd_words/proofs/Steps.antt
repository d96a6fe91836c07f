-- What the parser's walk does at one option, whatever came before it.
use Rattle.std.proofs.Common.{◌≡◌, ◌∙◌, ap, subst, sym, refl, inl, inr, true, false, ◌&&◌, ℕ, List, [], ◌∷◌, ◌++◌, Option, Some, None, codes, append-nil, eqb}
use Rattle.std.specs.Str.{bytes_eq}
use Rattle.std.proofs.lemmas.Bool.{or_parts, or_cases}
use Rattle.clap.specs.Words.{Rule, Row, Text, built}
use Rattle.clap.specs.Walk.{Walk, Held, walked, used, idle, option, settled_rows, has_row, at_row, arg_by_id, reading_by, with_values, without, more_values}
use Rattle.clap.specs.Simple.{is_simple, filled, Shape}
use Rattle.clap.specs.Takes.{turn_passes, settle_passes, use_passes}
use Rattle.clap.specs.Lexer.{long_of, short_of}
use Rattle.clap.proofs.OnLiterals.{clap_on_literals}
use Rattle.clap.specs.declared.parser.matches.ValueSource.TheVariants.{CommandLine}
use Rattle.gd_words.specs.Options.{Setting, is_name}
use Rattle.gd_words.specs.Parser.{parser, parser_options, long_rule}
use Rattle.gd_words.proofs.Spelled.{same_text}

abbrev pub top : Shape
top = (built parser).top

abbrev pub rules : List Rule
rules = top.rules

-- the rule of an option
abbrev pub rule : Text → Rule
rule name = filled (long_rule name)

-- an option that waits for its value, or has it and is not a row yet
abbrev pub Pending : Type 0
Pending = Option (Text × List Text)

abbrev pub held : List Row → Pending → Held
held rows pending = record { rows = rows; pending = pending; skip = 0 }

-- the walk between two options
abbrev pub at : List Row → Pending → Walk
at rows pending = record { held = held rows pending; waiting = idle; position = 1; is_trailing = false; stopped = None }

-- the walk behind `--name`
abbrev pub opened : Text → List Row → Walk
opened name rows = record { held = held rows (Some (name, [])); waiting = option name; position = 1; is_trailing = false; stopped = None }

-- the row of a setting
abbrev pub row : Setting → Row
row setting = record { id = setting.0; values = setting.1 ∷ []; count = None; source = Some CommandLine; reading = reading_by (rule setting.0) }

-- the walk at the words of an option of this name
pub record Steps (name : Text) : Type 0 where
  pub same : bytes_eq name name ≡ true
  pub known : arg_by_id rules name ≡ Some (rule name)
  pub attached : (v : Text) (rows : List Row) (p : Pending) → walked rules [] (at rows p) (codes "--" ++ (name ++ (61 ∷ v)))
      ≡ at (used (rule name) (v ∷ []) (settled_rows rules p rows)) None
  pub attached_passes : (v : Text) (rows : List Row) (p : Pending) → turn_passes top [] (at rows p) (codes "--" ++ (name ++ (61 ∷ v)))
      ≡ ((settle_passes rules false (held rows p) && use_passes false (rule name) (v ∷ []) (settled_rows rules p rows)) && true)
  pub opens : (rows : List Row) (p : Pending) → walked rules [] (at rows p) (codes "--" ++ name) ≡ opened name (settled_rows rules p rows)
  pub opens_passes : (rows : List Row) (p : Pending) → turn_passes top [] (at rows p) (codes "--" ++ name) ≡ (settle_passes rules false (held rows p) && true)
  pub fills : (x : ℕ) (xs : Text) (rows : List Row) → eqb x 45 ≡ false
      → walked rules [] (opened name rows) (x ∷ xs) ≡ at rows (Some (name, (x ∷ xs) ∷ []))
  pub fills_passes : (x : ℕ) (xs : Text) (rows : List Row) → eqb x 45 ≡ false
      → turn_passes top [] (opened name rows) (x ∷ xs) ≡ true

-- a word that begins with another byte than `-`
not_dashes : (x : ℕ) (xs : Text) → eqb x 45 ≡ false → bytes_eq (x ∷ xs) (45 ∷ 45 ∷ []) ≡ false
not_dashes x xs h = rw h refl

not_long : (x : ℕ) (xs : Text) → eqb x 45 ≡ false → long_of (x ∷ xs) ≡ None
not_long x xs h = rw h refl

not_short : (x : ℕ) (xs : Text) → eqb x 45 ≡ false → short_of (x ∷ xs) ≡ None
not_short x xs h = rw h refl

file : Steps (codes "file")
unfolding clap_on_literals
file = record {
  same = refl;
  known = refl;
  attached = λ v rows p. refl;
  attached_passes = λ v rows p. refl;
  opens = λ rows p. refl;
  opens_passes = λ rows p. refl;
  fills = λ x xs rows h. rw (not_dashes x xs h, not_long x xs h, not_short x xs h) refl;
  fills_passes = λ x xs rows h. rw (not_dashes x xs h, not_long x xs h, not_short x xs h) refl;
}

workers : Steps (codes "workers")
unfolding clap_on_literals
workers = record {
  same = refl;
  known = refl;
  attached = λ v rows p. refl;
  attached_passes = λ v rows p. refl;
  opens = λ rows p. refl;
  opens_passes = λ rows p. refl;
  fills = λ x xs rows h. rw (not_dashes x xs h, not_long x xs h, not_short x xs h) refl;
  fills_passes = λ x xs rows h. rw (not_dashes x xs h, not_long x xs h, not_short x xs h) refl;
}

budget : Steps (codes "budget")
unfolding clap_on_literals
budget = record {
  same = refl;
  known = refl;
  attached = λ v rows p. refl;
  attached_passes = λ v rows p. refl;
  opens = λ rows p. refl;
  opens_passes = λ rows p. refl;
  fills = λ x xs rows h. rw (not_dashes x xs h, not_long x xs h, not_short x xs h) refl;
  fills_passes = λ x xs rows h. rw (not_dashes x xs h, not_long x xs h, not_short x xs h) refl;
}

cache : Steps (codes "cache")
unfolding clap_on_literals
cache = record {
  same = refl;
  known = refl;
  attached = λ v rows p. refl;
  attached_passes = λ v rows p. refl;
  opens = λ rows p. refl;
  opens_passes = λ rows p. refl;
  fills = λ x xs rows h. rw (not_dashes x xs h, not_long x xs h, not_short x xs h) refl;
  fills_passes = λ x xs rows h. rw (not_dashes x xs h, not_long x xs h, not_short x xs h) refl;
}

from : Steps (codes "from")
unfolding clap_on_literals
from = record {
  same = refl;
  known = refl;
  attached = λ v rows p. refl;
  attached_passes = λ v rows p. refl;
  opens = λ rows p. refl;
  opens_passes = λ rows p. refl;
  fills = λ x xs rows h. rw (not_dashes x xs h, not_long x xs h, not_short x xs h) refl;
  fills_passes = λ x xs rows h. rw (not_dashes x xs h, not_long x xs h, not_short x xs h) refl;
}

number : Steps (codes "number")
unfolding clap_on_literals
number = record {
  same = refl;
  known = refl;
  attached = λ v rows p. refl;
  attached_passes = λ v rows p. refl;
  opens = λ rows p. refl;
  opens_passes = λ rows p. refl;
  fills = λ x xs rows h. rw (not_dashes x xs h, not_long x xs h, not_short x xs h) refl;
  fills_passes = λ x xs rows h. rw (not_dashes x xs h, not_long x xs h, not_short x xs h) refl;
}

count : Steps (codes "count")
unfolding clap_on_literals
count = record {
  same = refl;
  known = refl;
  attached = λ v rows p. refl;
  attached_passes = λ v rows p. refl;
  opens = λ rows p. refl;
  opens_passes = λ rows p. refl;
  fills = λ x xs rows h. rw (not_dashes x xs h, not_long x xs h, not_short x xs h) refl;
  fills_passes = λ x xs rows h. rw (not_dashes x xs h, not_long x xs h, not_short x xs h) refl;
}

-- the parser is one whose matches are exact
pub simple : is_simple parser ≡ true
unfolding clap_on_literals
simple = refl

-- a row of a new id stands at the end
added : (id : Text) (change : Row → List Row) (missing rows : List Row) → has_row id rows ≡ false → at_row id change missing rows ≡ rows ++ missing
added id change missing [] none = refl
added id change missing (r ∷ rows) none =
    let parts = or_parts (bytes_eq r.id id) (has_row id rows) none in rw parts.0 (ap (λ rs. r ∷ rs) (added id change missing rows parts.1))

pub used_once : (name v : Text) (rows : List Row) → has_row name rows ≡ false → used (rule name) (v ∷ []) rows ≡ rows ++ row (name, v) ∷ []
used_once name v rows none =
    let left : without name rows ≡ rows = added name (λ _. []) [] rows none ∙ append-nil rows in
    ap (λ rs. with_values name (reading_by (rule name)) CommandLine (v ∷ []) rs) left
    ∙ added name (more_values CommandLine (v ∷ [])) (row (name, v) ∷ []) rows none

pub use_once : (name v : Text) (rows : List Row) → has_row name rows ≡ false → use_passes false (rule name) (v ∷ []) rows ≡ true
use_once name v rows none = rw none refl

-- each option has its steps
pub steps : (name : Text) → is_name parser_options name ≡ true → Steps name
steps name known = elim (or_cases (bytes_eq name (codes "file")) (is_name (codes "workers" ∷ codes "budget" ∷ codes "cache" ∷ codes "from" ∷ codes "number" ∷ codes "count" ∷ []) name) known) [
  | inl e ↦ subst Steps (sym (same_text _ _ e)) file
  | inr others ↦ elim (or_cases (bytes_eq name (codes "workers")) (is_name (codes "budget" ∷ codes "cache" ∷ codes "from" ∷ codes "number" ∷ codes "count" ∷ []) name) others) [
    | inl e ↦ subst Steps (sym (same_text _ _ e)) workers
    | inr more ↦ elim (or_cases (bytes_eq name (codes "budget")) (is_name (codes "cache" ∷ codes "from" ∷ codes "number" ∷ codes "count" ∷ []) name) more) [
      | inl e ↦ subst Steps (sym (same_text _ _ e)) budget
      | inr kept ↦ elim (or_cases (bytes_eq name (codes "cache")) (is_name (codes "from" ∷ codes "number" ∷ codes "count" ∷ []) name) kept) [
        | inl e ↦ subst Steps (sym (same_text _ _ e)) cache
        | inr later ↦ elim (or_cases (bytes_eq name (codes "from")) (is_name (codes "number" ∷ codes "count" ∷ []) name) later) [
          | inl e ↦ subst Steps (sym (same_text _ _ e)) from
          | inr further ↦ elim (or_cases (bytes_eq name (codes "number")) (is_name (codes "count" ∷ []) name) further) [
            | inl e ↦ subst Steps (sym (same_text _ _ e)) number
            | inr last ↦ elim (or_cases (bytes_eq name (codes "count")) false last) [ inl e ↦ subst Steps (sym (same_text _ _ e)) count | inr never ↦ cc ]
          ]
        ]
      ]
    ]
  ]
]
