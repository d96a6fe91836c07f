-- What the parser makes of words that spell settings: it takes them, and its rows are the settings.
use Rattle.std.proofs.Common.{arith, ◌≡◌, ◌∙◌, ap, subst, sym, refl, inl, inr, ◌≤◌, ◌+◌, Bool, true, false, ◌&&◌, ℕ, List, [], ◌∷◌, ◌++◌, Option, Some, None, codes, map, cond, option_map, append-nil, append_assoc}
use Rattle.std.specs.Prelude.{option_and_then, bytes_eq, find, fold, slice_get, nat_le, if◌then◌else◌}
use Rattle.std.proofs.lemmas.Bool.{and_from, and_parts, cases_Bool, leb-true, or_from, or_cases}
use Rattle.std.proofs.lemmas.List.Sums.{sum_by-append}
use Rattle.std.proofs.lemmas.List.{map-append}
use Rattle.clap.specs.Words.{Rule, Row, Text, built, takes, matches_of, first_of}
use Rattle.clap.specs.Walk.{Walk, used_by_id, default_rows, reading_by, walked, used, settled_rows, has_row, finished, with_default}
use Rattle.clap.specs.Simple.{entered}
use Rattle.std.specs.Option.{option_map_or, is_some}
use Rattle.std.specs.List.{list_all}
use Rattle.clap.specs.Takes.{entered_passes, default_passes, is_valid, walk_passes, turn_passes, settle_passes, use_passes}
use Rattle.clap.proofs.OnLiterals.{clap_on_literals}
use Rattle.gd_words.specs.Options.{Names, Setting, is_name, settings, is_each_once, count_in, options_of, value_of}
use Rattle.gd_words.specs.Parser.{parser, parser_options}
use Rattle.gd_words.proofs.Counted.{count_first}
use Rattle.gd_words.proofs.Spelled.{same_text, chosen, chained, spelled, begins, filled, begun, at_end, not_at_end}
use Rattle.gd_words.proofs.Steps.{top, rules, rule, Pending, held, at, opened, row, Steps, steps, used_once, use_once}

-- no option is set twice, before or later
abbrev pub Once : Names → List Setting → List Setting → Type 0
Once names before later = (name : Text) → is_name names name ≡ true → count_in before name + count_in later name ≤ 1

-- the parser knows these options
abbrev pub IsWithin : Names → Type 0
IsWithin names = (name : Text) → is_name names name ≡ true → is_name parser_options name ≡ true

-- one setting more lies behind
once_more : (names : Names) (before later : List Setting) (s : Setting) → Once names before (s ∷ later) → Once names (before ++ s ∷ []) later
once_more names before later s once name known =
    let sum : count_in (before ++ s ∷ []) name ≡ count_in before name + count_in (s ∷ []) name =
    sum_by-append (λ (setting : Setting). cond (bytes_eq setting.0 name) 1 0) before (s ∷ []) in
    let one = count_first name s [] in
    let all = count_first name s later in
    let here : count_in before name + count_in (s ∷ later) name ≤ 1 = once name known in omega arith

-- an option that was not set has no row
no_row : (name : Text) (before : List Setting) → count_in before name ≤ 0 → has_row name (map row before) ≡ false
no_row name [] none = refl
no_row name (s ∷ before) none =
    let sum = count_first name s before in
    elim (cases_Bool (bytes_eq s.0 name)) [
      | inl e ↦ let one : cond {A = ℕ} (bytes_eq s.0 name) 1 0 ≡ 1 = ap (λ b. cond {A = ℕ} b 1 0) e in absurd (omega arith)
      | inr e ↦ or_from (bytes_eq s.0 name) (has_row name (map row before)) e (no_row name before (omega arith))
    ]

-- the next setting is of an option without a row
free : (names : Names) (before later : List Setting) (s : Setting) → IsWithin names → is_name names s.0 ≡ true → Once names before (s ∷ later) → has_row s.0 (map row before) ≡ false
free names before later s within known once =
    let here : count_in before s.0 + count_in (s ∷ later) s.0 ≤ 1 = once s.0 known in
    let sum = count_first s.0 s later in
    let one : cond {A = ℕ} (bytes_eq s.0 s.0) 1 0 ≡ 1 = ap (λ b. cond {A = ℕ} b 1 0) (steps s.0 (within s.0 known)).same in
    no_row s.0 before (omega arith)

-- the rows and what is pending come to these settings
pub record Ready (before : List Setting) (rows : List Row) (p : Pending) : Type 0 where
  pub settle : settled_rows rules p rows ≡ map row before
  pub pass : settle_passes rules false (held rows p) ≡ true

-- the walk at the start of words, where the value of an option may be due
abbrev start : Option Text → List Row → Pending → Walk
start None rows p = at rows p
start (Some name) rows p = opened name (settled_rows rules p rows)

abbrev IsKnown : Names → Option Text → Type 0
IsKnown names None = Unit {0}
IsKnown names (Some name) = is_name names name ≡ true

-- the walk passes, and comes to the settings
pub record Walks (from : Walk) (words : List Text) (all : List Setting) : Type 0 where
  pub pass : walk_passes top [] from words ≡ true
  pub rows : List Row
  pub p : Pending
  pub ends : fold (walked rules []) from words ≡ at rows p
  pub ready : Ready all rows p

-- one word, and then the rest
pub more : (from to : Walk) (word : Text) (rest : List Text) (all : List Setting) → turn_passes top [] from word ≡ true → walked rules [] from word ≡ to
    → Walks to rest all → Walks from (word ∷ rest) all
unfolding clap_on_literals
more from to word rest all passes step later = record {
  pass = and_from (turn_passes top [] from word) (walk_passes top [] (walked rules [] from word) rest) passes (ap (λ w. walk_passes top [] w rest) step ∙ later.pass);
  rows = later.rows;
  p = later.p;
  ends = ap (λ w. fold (walked rules []) w rest) step ∙ later.ends;
  ready = later.ready;
}

none_left : (rows : List Row) (p : Pending) (before : List Setting) → Ready before rows p → Walks (at rows p) [] before
unfolding clap_on_literals
none_left rows p before ready = record { pass = refl; rows = rows; p = p; ends = refl; ready = ready }

-- the rows behind one more setting
rows_more : (before : List Setting) (s : Setting) → has_row s.0 (map row before) ≡ false → used (rule s.0) (s.1 ∷ []) (map row before) ≡ map row (before ++ s ∷ [])
rows_more before s none = used_once s.0 s.1 (map row before) none ∙ sym (map-append row before (s ∷ []))

-- what is pending becomes a row
ready_pending : (before : List Setting) (s : Setting) → is_name parser_options s.0 ≡ true → has_row s.0 (map row before) ≡ false
    → Ready (before ++ s ∷ []) (map row before) (Some (s.0, s.1 ∷ []))
ready_pending before s known none =
    let name = s.0 in
    record {
      settle = ap (λ a. used_by_id a (s.1 ∷ []) (map row before)) (steps s.0 known).known ∙ rows_more before s none;
      pass = ap (λ a. option_map_or (λ r. use_passes false r (s.1 ∷ []) (map row before)) a true) (steps s.0 known).known
          ∙ use_once s.0 s.1 (map row before) none;
    }

-- the walk over words that spell settings, behind the settings before them
pub walks : (names : Names) (words : List Text) (due : Option Text) (given before : List Setting) (rows : List Row) (p : Pending) → IsWithin names → settings names words due ≡ Some given
    → IsKnown names due → Once names before given → Ready before rows p → Walks (start due rows p) words (before ++ given)
walks names [] None given before rows p within spelt known once ready =
    subst (λ all. Walks (at rows p) [] all) (sym (ap (λ g. before ++ g) (at_end names given spelt) ∙ append-nil before)) (none_left rows p before ready)
walks names [] (Some due) given before rows p within spelt known once ready = absurd (not_at_end names due given spelt)
walks names (word ∷ rest) (Some due) given before rows p within spelt known once ready =
    let first = filled names word rest due given spelt in
    let later = first.0 in
    let s : Setting = (due, word) in
    let once_here : Once names before (s ∷ later) = subst (Once names before) first.3 once in
    let none : has_row due (map row before) ≡ false = free names before later s within known once_here in
    let begin = begins word first.1 in
    let own : Steps due = steps due (within due known) in
    let settles : settled_rows rules p rows ≡ map row before = ready.settle in
    let next : Walks (at (map row before) (Some (due, word ∷ []))) rest ((before ++ s ∷ []) ++ later) =
    walks names rest None later (before ++ s ∷ []) (map row before) (Some (due, word ∷ [])) within first.2 tt (once_more names before later s once_here)
    (ready_pending before s (within due known) none) in
    let all : (before ++ s ∷ []) ++ later ≡ before ++ given = append_assoc before (s ∷ []) later ∙ ap (λ g. before ++ g) (sym first.3) in
    more (opened due (settled_rows rules p rows)) (at (map row before) (Some (due, word ∷ []))) word rest (before ++ given)
    (ap (λ w. turn_passes top [] (opened due (settled_rows rules p rows)) w) begin.2 ∙ own.fills_passes begin.0 begin.1 (settled_rows rules p rows) begin.3)
    (ap (λ w. walked rules [] (opened due (settled_rows rules p rows)) w) begin.2 ∙ own.fills begin.0 begin.1 (settled_rows rules p rows) begin.3
    ∙ ap (λ rs. at rs (Some (due, (begin.0 ∷ begin.1) ∷ []))) settles ∙ ap (λ w. at (map row before) (Some (due, w ∷ []))) (sym begin.2))
    (subst (λ g. Walks (at (map row before) (Some (due, word ∷ []))) rest g) all next)
walks names (word ∷ rest) None given before rows p within spelt known once ready = elim (begun names word rest given spelt) [
  | inl whole ↦
      let s : Setting = (whole.name, whole.value) in
      let is = spelled names word (whole.name, Some whole.value) whole.option in
      let own : Steps whole.name = steps whole.name (within whole.name is.1) in
      let once_here : Once names before (s ∷ whole.later) = subst (Once names before) whole.all once in
      let none : has_row whole.name (map row before) ≡ false = free names before whole.later s within is.1 once_here in
      let settles : settled_rows rules p rows ≡ map row before = ready.settle in
      let rows_now : used (rule whole.name) (whole.value ∷ []) (settled_rows rules p rows) ≡ map row (before ++ s ∷ []) =
      ap (λ rs. used (rule whole.name) (whole.value ∷ []) rs) settles ∙ rows_more before s none in
      let next : Walks (at (map row (before ++ s ∷ [])) None) rest ((before ++ s ∷ []) ++ whole.later) =
      walks names rest None whole.later (before ++ s ∷ []) (map row (before ++ s ∷ [])) None within whole.others tt (once_more names before whole.later s once_here)
      (record { settle = refl; pass = refl }) in
      let all : (before ++ s ∷ []) ++ whole.later ≡ before ++ given = append_assoc before (s ∷ []) whole.later ∙ ap (λ g. before ++ g) (sym whole.all) in
      let uses : use_passes false (rule whole.name) (whole.value ∷ []) (settled_rows rules p rows) ≡ true =
      ap (λ rs. use_passes false (rule whole.name) (whole.value ∷ []) rs) settles ∙ use_once whole.name whole.value (map row before) none in
      more (at rows p) (at (map row (before ++ s ∷ [])) None) word rest (before ++ given)
      (ap (λ w. turn_passes top [] (at rows p) w) is.0 ∙ own.attached_passes whole.value rows p
      ∙ and_from _ true (and_from (settle_passes rules false (held rows p)) _ ready.pass uses) refl)
      (ap (λ w. walked rules [] (at rows p) w) is.0 ∙ own.attached whole.value rows p ∙ ap (λ rs. at rs None) rows_now)
      (subst (λ g. Walks (at (map row (before ++ s ∷ [])) None) rest g) all next)
  | inr first ↦
      let is = spelled names word (first.name, None) first.option in
      let own : Steps first.name = steps first.name (within first.name is.1) in
      more (at rows p) (opened first.name (settled_rows rules p rows)) word rest (before ++ given)
      (ap (λ w. turn_passes top [] (at rows p) w) is.0 ∙ own.opens_passes rows p ∙ and_from (settle_passes rules false (held rows p)) true ready.pass refl)
      (ap (λ w. walked rules [] (at rows p) w) is.0 ∙ own.opens rows p)
      (walks names rest (Some first.name) given before rows p within first.others is.1 once ready)
]

-- no option has a default
without_defaults : (rs : List Row) → fold with_default rs rules ≡ rs
unfolding clap_on_literals
without_defaults rs =
    ap (λ now. with_default (with_default (with_default (with_default (with_default (with_default now workers_rule) budget_rule) cache_rule) from_rule) number_rule) count_rule) (same file_rule refl rs)
    ∙ ap (λ now. with_default (with_default (with_default (with_default (with_default now budget_rule) cache_rule) from_rule) number_rule) count_rule) (same workers_rule refl rs)
    ∙ ap (λ now. with_default (with_default (with_default (with_default now cache_rule) from_rule) number_rule) count_rule) (same budget_rule refl rs)
    ∙ ap (λ now. with_default (with_default (with_default now from_rule) number_rule) count_rule) (same cache_rule refl rs)
    ∙ ap (λ now. with_default (with_default now number_rule) count_rule) (same from_rule refl rs)
    ∙ ap (λ now. with_default now count_rule) (same number_rule refl rs) ∙ same count_rule refl rs
  where
    file_rule : Rule
    file_rule = rule (codes "file")

    workers_rule : Rule
    workers_rule = rule (codes "workers")

    budget_rule : Rule
    budget_rule = rule (codes "budget")

    cache_rule : Rule
    cache_rule = rule (codes "cache")

    from_rule : Rule
    from_rule = rule (codes "from")

    number_rule : Rule
    number_rule = rule (codes "number")

    count_rule : Rule
    count_rule = rule (codes "count")

    chosen_same : (b : Bool) (xs : List Row) → cond b xs xs ≡ xs
    chosen_same true xs = refl
    chosen_same false xs = refl

    same : (r : Rule) → r.defaults ≡ [] → (xs : List Row) → with_default xs r ≡ xs
    same r none xs = ap (λ ds. cond (has_row r.id xs) xs (default_rows r.id (reading_by r) ds xs)) none ∙ chosen_same (has_row r.id xs) xs

-- the value of an option among the rows
first_row : (name : Text) (given : List Setting) → first_of name (map row given) ≡ value_of name given
first_row name [] = refl
first_row name (s ∷ given) = go (bytes_eq s.0 name) (first_row name given)
  where
    go : (b : Bool) → first_of name (map row given) ≡ value_of name given
        → option_and_then (λ (r : Row). slice_get r.values 0) (cond b (Some (row s)) (find (λ r. bytes_eq r.id name) (map row given)))
        ≡ option_map (λ (setting : Setting). setting.1) (cond b (Some s) (find (λ setting. bytes_eq setting.0 name) given))
    go true e = refl
    go false e = e

-- the parser takes words that spell settings, and gives their values
pub record Takes (words : List Text) (given : List Setting) : Type 0 where
  pub takes_them : takes parser words ≡ true
  pub gives : (name : Text) → first_of name (matches_of parser words) ≡ value_of name given

-- a count of a name is at most 1, where that of each is
once_name : (names : Names) (count : Text → ℕ) (name : Text) → is_each_once names count ≡ true → is_name names name ≡ true → count name ≤ 1
once_name [] count name each known = cc
once_name (n ∷ names) count name each known =
    let parts = and_parts (nat_le (count n) 1) (is_each_once names count) each in
    elim (or_cases (bytes_eq name n) (is_name names name) known) [
      | inl e ↦ let is : count name ≡ count n = ap count (same_text name n e) in let small : count n ≤ 1 = leb-true _ _ parts.0 in omega arith
      | inr later ↦ once_name names count name parts.1 later
    ]

-- each option is set at most once
once_of : (names : Names) (given : List Setting) → is_each_once names (count_in given) ≡ true → Once names [] given
once_of names given each name known = let small = once_name names (count_in given) name each known in omega arith

-- the settings of words, and that each is made once
settings_of : (names : Names) (words : List Text) (given : List Setting) → options_of names words ≡ Some given → (settings names words None ≡ Some given) × Once names [] given
unfolding options_of
settings_of names words given e =
    let some = chained (λ (all : List Setting). if is_each_once names (count_in all) then Some all else None) (settings names words None) given e in
    let once = chosen (is_each_once names (count_in some.0)) (Some some.0) given some.2 in
    let is : some.0 ≡ given = cc (once.1) in
    (some.1 ∙ once.1, once_of names given (subst (λ g. is_each_once names (count_in g) ≡ true) is once.0))

-- the walk from the start
whole_walk : (names : Names) (words : List Text) (given : List Setting) → IsWithin names → options_of names words ≡ Some given → Walks (at [] None) words given
whole_walk names words given within e =
    let parts = settings_of names words given e in
    walks names words None given [] [] None within parts.0 tt parts.1 (record { settle = refl; pass = refl })

-- whether the parse passes, by the walk's end
abbrev ended : List Text → Walk → Bool
ended words end = entered_passes (built parser) end.stopped && (walk_passes top [] (at [] None) words && (settle_passes rules false end.held
    && (list_all default_passes rules && is_valid top (finished rules end.held) (is_some (entered (built parser) end.stopped)))))

taken : (words : List Text) (given : List Setting) → Walks (at [] None) words given → takes parser words ≡ true
unfolding clap_on_literals
taken words given w =
    let valid : (list_all default_passes rules && is_valid top (finished rules (held w.rows w.p)) false) ≡ true = refl in
    ap (ended words) w.ends ∙ and_from (walk_passes top [] (at [] None) words) _ w.pass (and_from (settle_passes rules false (held w.rows w.p)) _ w.ready.pass valid)

given_rows : (words : List Text) (given : List Setting) → Walks (at [] None) words given → matches_of parser words ≡ map row given
given_rows words given w = ap (λ (end : Walk). finished rules end.held) w.ends ∙ without_defaults (settled_rows rules w.p w.rows) ∙ w.ready.settle

-- a name among names that all are known is known
within_from : (names : Names) → list_all (is_name parser_options) names ≡ true → IsWithin names
within_from [] all name known = cc
within_from (n ∷ names) all name known =
    let parts = and_parts (is_name parser_options n) (list_all (is_name parser_options) names) all in
    elim (or_cases (bytes_eq name n) (is_name names name) known) [
      | inl e ↦ subst (λ m. is_name parser_options m ≡ true) (sym (same_text name n e)) parts.0
      | inr later ↦ within_from names parts.1 name later
    ]

-- what is in the grammar is taken, with its values
pub reads : (names : Names) (words : List Text) (given : List Setting) → list_all (is_name parser_options) names ≡ true → options_of names words ≡ Some given → Takes words given
reads names words given all e =
    let w = whole_walk names words given (within_from names all) e in
    record { takes_them = taken words given w; gives = λ name. ap (first_of name) (given_rows words given w) ∙ first_row name given }
