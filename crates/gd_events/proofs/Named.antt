-- The event of each name, by the parts of its value.
use Rattle.std.proofs.Common.{◌≡◌, ℕ, List, [], ◌∷◌, ◌++◌, length, ◌==◌, Bool, true, false, ◌&&◌, ◌||◌, Option, Some, None, Result, Ok, Err, bytes_eq, codes, refl, sym, ap, ◌∙◌, arith}
use Rattle.std.specs.Prelude.{if◌then◌else◌, option_and_then, option_map}
use Rattle.std.specs.List.{list_any}
use Rattle.std.proofs.lemmas.Slice.Eq.{bytes_eq-Decides}
use Rattle.gd_json.specs.View.{member_view, members_view}
use Rattle.gd_json.specs.declared.value.Json.{Json as JsonValue}
use Rattle.gd_grammar.proofs.Steps.{ok_same, some_same}
use Rattle.gd_defs.specs.Query.{Fault}
use Rattle.gd_tree.specs.Json.{Json, null, boolean, number, text, list, object, Members, no_members, member}
use Rattle.gd_tree.specs.Look.{get, only, members_in, member_of, text_of}
use Rattle.gd_grammar.specs.Chain.{◌>>=◌, map_err}
use Rattle.gd_runs.specs.Core.{Event, begin, slice, write, learn, freeze, reopen}
use Rattle.gd_runs.specs.Request.{LineFault, bad_line, bad_form, read_of, write_of, session_of}
use Rattle.gd_runs.specs.Input.{InputFault, no_line}
use Rattle.gd_runs.specs.Replay.{number_between, or_bad, of_members}
use Rattle.gd_events.specs.Parts.{sole_of, event_in, sid_in, made_in, or_no_line, begun_of, written_of, thawed_of}

-- ---- names of members

only_same : (ks ls : List (List ℕ)) → ((l : List ℕ) → list_any (bytes_eq l) ks ≡ list_any (bytes_eq l) ls) → (ms : Members) → only ks ms ≡ only ls ms
only_same ks ls same no_members = refl
only_same ks ls same (member l j ms) = ap (λ b. b && only ks ms) (same l) ∙ ap (λ b. list_any (bytes_eq l) ls && b) (only_same ks ls same ms)

one : (x : Bool) → (x || (x || (x || (x || false)))) ≡ (x || false)
one true = refl
one false = refl

two : (x y : Bool) → (x || (y || (y || (y || false)))) ≡ (x || (y || false))
two true y = refl
two false true = refl
two false false = refl

three : (x y z : Bool) → (x || (y || (z || (z || false)))) ≡ (x || (y || (z || false)))
three true y z = refl
three false true z = refl
three false false true = refl
three false false false = refl

only_one : (a : List ℕ) (ms : Members) → only (a ∷ a ∷ a ∷ a ∷ []) ms ≡ only (a ∷ []) ms
only_one a ms = only_same (a ∷ a ∷ a ∷ a ∷ []) (a ∷ []) (λ l. one (bytes_eq l a)) ms

only_two : (a b : List ℕ) (ms : Members) → only (a ∷ b ∷ b ∷ b ∷ []) ms ≡ only (a ∷ b ∷ []) ms
only_two a b ms = only_same (a ∷ b ∷ b ∷ b ∷ []) (a ∷ b ∷ []) (λ l. two (bytes_eq l a) (bytes_eq l b)) ms

only_three : (a b c : List ℕ) (ms : Members) → only (a ∷ b ∷ c ∷ c ∷ []) ms ≡ only (a ∷ b ∷ c ∷ []) ms
only_three a b c ms = only_same (a ∷ b ∷ c ∷ c ∷ []) (a ∷ b ∷ c ∷ []) (λ l. three (bytes_eq l a) (bytes_eq l b) (bytes_eq l c)) ms

-- ---- an event of a session and one part

parted : {A : Type 0} (ks names : List (List ℕ)) (ms : Members) (o : Option A) (f : ℕ → A → Result Event LineFault) → only names ms ≡ only ks ms
    → map_err no_line (of_members ks ms (or_bad (session_of (get (codes "sid") ms)) >>= λ s. or_bad o >>= λ e. f s e)) ≡ made_in (λ s e. map_err no_line (f s e)) (sid_in names (object ms)) o
parted {A = A} ks names ms o f same = by (only ks ms) (session_of (get (codes "sid") ms)) o refl refl
  where
    by : (b : Bool) (s : Option ℕ) (p : Option A) → only ks ms ≡ b → session_of (get (codes "sid") ms) ≡ s
        → map_err no_line (of_members ks ms (or_bad (session_of (get (codes "sid") ms)) >>= λ s. or_bad p >>= λ e. f s e)) ≡ made_in (λ s e. map_err no_line (f s e)) (sid_in names (object ms)) p
    by false s p has sid = rw (same, has) refl
    by true None p has sid = rw (same, has, sid) refl
    by true (Some s) None has sid = rw (same, has, sid) refl
    by true (Some s) (Some e) has sid = rw (same, has, sid) refl

pub begin_parts : (j : Json) → event_in (codes "begin") j ≡ made_in begun_of (sid_in (codes "read" ∷ codes "sid" ∷ codes "sid" ∷ codes "sid" ∷ []) j) (member_of (codes "read") j)
begin_parts null = refl
begin_parts (boolean b) = refl
begin_parts (number n) = refl
begin_parts (text t) = refl
begin_parts (list js) = refl
begin_parts (object ms) = parted (codes "read" ∷ codes "sid" ∷ []) (codes "read" ∷ codes "sid" ∷ codes "sid" ∷ codes "sid" ∷ []) ms (get (codes "read") ms) (λ s e. map_err bad_form (read_of e) >>= λ r. Ok (begin s r)) (only_two (codes "read") (codes "sid") ms)

pub write_parts : (j : Json) → event_in (codes "write") j ≡ made_in written_of (sid_in (codes "sid" ∷ codes "write" ∷ codes "write" ∷ codes "write" ∷ []) j) (member_of (codes "write") j)
write_parts null = refl
write_parts (boolean b) = refl
write_parts (number n) = refl
write_parts (text t) = refl
write_parts (list js) = refl
write_parts (object ms) = parted (codes "sid" ∷ codes "write" ∷ []) (codes "sid" ∷ codes "write" ∷ codes "write" ∷ codes "write" ∷ []) ms (get (codes "write") ms) (λ s e. map_err bad_form (write_of e) >>= λ w. Ok (write s w)) (only_two (codes "sid") (codes "write") ms)

-- a slice of a session with a budget
pub slice_parts : (j : Json) → event_in (codes "slice") j ≡ made_in (λ s n. Ok (slice s n)) (sid_in (codes "budget" ∷ codes "sid" ∷ codes "sid" ∷ codes "sid" ∷ []) j) (number_between 1 1_000_000 (member_of (codes "budget") j))
slice_parts null = refl
slice_parts (boolean b) = refl
slice_parts (number n) = refl
slice_parts (text t) = refl
slice_parts (list js) = refl
slice_parts (object ms) = parted (codes "budget" ∷ codes "sid" ∷ []) (codes "budget" ∷ codes "sid" ∷ codes "sid" ∷ codes "sid" ∷ []) ms (number_between 1 1_000_000 (get (codes "budget") ms)) (λ s n. Ok (slice s n)) (only_two (codes "budget") (codes "sid") ms)

pub learn_parts : (j : Json) → event_in (codes "learn") j ≡ made_in (λ s n. Ok (learn s n)) (sid_in (codes "dateline" ∷ codes "sid" ∷ codes "sid" ∷ codes "sid" ∷ []) j) (number_between 0 4_294_967_295 (member_of (codes "dateline") j))
learn_parts null = refl
learn_parts (boolean b) = refl
learn_parts (number n) = refl
learn_parts (text t) = refl
learn_parts (list js) = refl
learn_parts (object ms) = parted (codes "dateline" ∷ codes "sid" ∷ []) (codes "dateline" ∷ codes "sid" ∷ codes "sid" ∷ codes "sid" ∷ []) ms (number_between 0 4_294_967_295 (get (codes "dateline") ms)) (λ s n. Ok (learn s n)) (only_two (codes "dateline") (codes "sid") ms)

-- ---- of a session alone, of a session with a text and a read, of nothing

pub freeze_parts : (j : Json) → event_in (codes "freeze") j ≡ or_no_line (option_map freeze (sid_in (codes "sid" ∷ codes "sid" ∷ codes "sid" ∷ codes "sid" ∷ []) j))
freeze_parts null = refl
freeze_parts (boolean b) = refl
freeze_parts (number n) = refl
freeze_parts (text t) = refl
freeze_parts (list js) = refl
freeze_parts (object ms) = by (only (codes "sid" ∷ []) ms) (session_of (get (codes "sid") ms)) refl refl
  where
    by : (b : Bool) (s : Option ℕ) → only (codes "sid" ∷ []) ms ≡ b → session_of (get (codes "sid") ms) ≡ s
        → event_in (codes "freeze") (object ms) ≡ or_no_line (option_map freeze (sid_in (codes "sid" ∷ codes "sid" ∷ codes "sid" ∷ codes "sid" ∷ []) (object ms)))
    by false s has sid = rw (only_one (codes "sid") ms, has) refl
    by true None has sid = rw (only_one (codes "sid") ms, has, sid) refl
    by true (Some s) has sid = rw (only_one (codes "sid") ms, has, sid) refl

-- the event by which a session goes on from a text, where both are there
abbrev thawed_in : Option ℕ → Option (List ℕ) → Option Json → Result Event InputFault
thawed_in (Some s) (Some t) (Some e) = thawed_of s t e
thawed_in _ _ _ = Err (no_line bad_line)

thaw_by : (ms : Members) (b : Bool) (s : Option ℕ) (e : Option Json) (t : Option (List ℕ)) → only (codes "read" ∷ codes "sid" ∷ codes "text" ∷ []) ms ≡ b
    → session_of (get (codes "sid") ms) ≡ s → get (codes "read") ms ≡ e → option_and_then text_of (get (codes "text") ms) ≡ t
    → event_in (codes "thaw") (object ms) ≡ thawed_in (sid_in (codes "read" ∷ codes "sid" ∷ codes "text" ∷ codes "text" ∷ []) (object ms)) (option_and_then text_of (get (codes "text") ms)) (get (codes "read") ms)
thaw_by ms false s e t has sid part word = rw (only_three (codes "read") (codes "sid") (codes "text") ms, has) refl
thaw_by ms true None e t has sid part word = rw (only_three (codes "read") (codes "sid") (codes "text") ms, has, sid) refl
thaw_by ms true (Some s) None None has sid part word = rw (only_three (codes "read") (codes "sid") (codes "text") ms, has, sid, part, word) refl
thaw_by ms true (Some s) None (Some t) has sid part word = rw (only_three (codes "read") (codes "sid") (codes "text") ms, has, sid, part, word) refl
thaw_by ms true (Some s) (Some e) None has sid part word = rw (only_three (codes "read") (codes "sid") (codes "text") ms, has, sid, part, word) refl
thaw_by ms true (Some s) (Some e) (Some t) has sid part word = rw (only_three (codes "read") (codes "sid") (codes "text") ms, has, sid, part, word) refl

thaw_parts : (j : Json) → event_in (codes "thaw") j ≡ thawed_in (sid_in (codes "read" ∷ codes "sid" ∷ codes "text" ∷ codes "text" ∷ []) j) (option_and_then text_of (member_of (codes "text") j)) (member_of (codes "read") j)
thaw_parts null = refl
thaw_parts (boolean b) = refl
thaw_parts (number n) = refl
thaw_parts (text t) = refl
thaw_parts (list js) = refl
thaw_parts (object ms) = thaw_by ms _ _ _ _ refl refl refl refl

pub thaw_nobody : (j : Json) → None ≡ sid_in (codes "read" ∷ codes "sid" ∷ codes "text" ∷ codes "text" ∷ []) j → event_in (codes "thaw") j ≡ Err (no_line bad_line)
thaw_nobody j none = thaw_parts j ∙ rw (sym none) refl

pub thaw_wordless : (j : Json) (s : ℕ) → Some s ≡ sid_in (codes "read" ∷ codes "sid" ∷ codes "text" ∷ codes "text" ∷ []) j → None ≡ option_and_then text_of (member_of (codes "text") j)
    → event_in (codes "thaw") j ≡ Err (no_line bad_line)
thaw_wordless j s sid none = thaw_parts j ∙ rw (sym sid, sym none) refl

pub thaw_unasked : (j : Json) (s : ℕ) (t : List ℕ) → Some s ≡ sid_in (codes "read" ∷ codes "sid" ∷ codes "text" ∷ codes "text" ∷ []) j → Some t ≡ option_and_then text_of (member_of (codes "text") j)
    → None ≡ member_of (codes "read") j → event_in (codes "thaw") j ≡ Err (no_line bad_line)
thaw_unasked j s t sid word none = thaw_parts j ∙ rw (sym sid, sym word, sym none) refl

pub thaw_asked : (j e : Json) (s : ℕ) (t : List ℕ) → Some s ≡ sid_in (codes "read" ∷ codes "sid" ∷ codes "text" ∷ codes "text" ∷ []) j → Some t ≡ option_and_then text_of (member_of (codes "text") j)
    → Some e ≡ member_of (codes "read") j → event_in (codes "thaw") j ≡ thawed_of s t e
thaw_asked j e s t sid word there = thaw_parts j ∙ rw (sym sid, sym word, sym there) refl

reopen_bare : (ms : Members) (b : Bool) → only [] ms ≡ b → event_in (codes "reopen") (object ms) ≡ (if b then Ok reopen else Err (no_line bad_line))
reopen_bare ms b is = rw is (by b)
  where
    by : (b : Bool) → map_err no_line (if b then Ok reopen else Err bad_line) ≡ (if b then Ok reopen else Err (no_line bad_line))
    by true = refl
    by false = refl

pub reopen_shut : (j : Json) → None ≡ members_in j → or_no_line None ≡ event_in (codes "reopen") j
reopen_shut null is = refl
reopen_shut (boolean b) is = refl
reopen_shut (number n) is = refl
reopen_shut (text t) is = refl
reopen_shut (list js) is = refl
reopen_shut (object ms) is = cc

pub reopen_of : (j : Json) (ms : Members) (b : Bool) → Some ms ≡ members_in j → b ≡ only [] ms → event_in (codes "reopen") j ≡ (if b then Ok reopen else Err (no_line bad_line))
reopen_of null ms b there is = cc
reopen_of (boolean c) ms b there is = cc
reopen_of (number n) ms b there is = cc
reopen_of (text t) ms b there is = cc
reopen_of (list js) ms b there is = cc
reopen_of (object ns) ms b there is = reopen_bare ns b (sym (is ∙ ap (only []) (some_same ms ns there)))

pub bare : (ms : List (List ℕ × JsonValue)) → (length ms == 0) ≡ only [] (members_view ms)
bare [] = refl
bare (m ∷ ms) = grind arith

-- ---- the one member of an object

pub sole_one : (ms : List (List ℕ × JsonValue)) (m : List ℕ × JsonValue) → (length ms == 0) ≡ true → sole_of (object (members_view (ms ++ m ∷ []))) ≡ Some (member_view m)
sole_one [] m is = refl
sole_one (x ∷ ms) m is = absurd (grind (arith, is))

pub sole_more : (ms : List (List ℕ × JsonValue)) (m : List ℕ × JsonValue) → (length ms == 0) ≡ false → sole_of (object (members_view (ms ++ m ∷ []))) ≡ None
sole_more [] m is = absurd (grind (arith, is))
sole_more (x ∷ []) m is = refl
sole_more (x ∷ y ∷ ms) m is = refl

-- ---- the name of an event

pub named : (name word : List ℕ) (j : Json) → bytes_eq name word ≡ true → event_in word j ≡ event_in name j
named name word j is = ap (λ n. event_in n j) (sym ((bytes_eq-Decides name word).0 is))

-- a name that is none
pub unnamed : (name : List ℕ) (j : Json) → bytes_eq name (codes "begin") ≡ false → bytes_eq name (codes "slice") ≡ false → bytes_eq name (codes "write") ≡ false → bytes_eq name (codes "learn") ≡ false
    → bytes_eq name (codes "freeze") ≡ false → bytes_eq name (codes "thaw") ≡ false → bytes_eq name (codes "reopen") ≡ false → event_in name j ≡ Err (no_line bad_line)
unnamed name null a b c d e f g = refl
unnamed name (boolean t) a b c d e f g = refl
unnamed name (number n) a b c d e f g = refl
unnamed name (text t) a b c d e f g = refl
unnamed name (list js) a b c d e f g = refl
unnamed name (object ms) a b c d e f g = rw (a, b, c, d, e, f, g) refl

-- ---- what each of them gives, by what was found

-- the request of an event, which is faulty or is not
err_same : {A E : Type 0} (x y : E) → ◌≡◌ {A = Result A E} (Err x) (Err y) → x ≡ y
err_same x y is = cc

pub asked_failed : {A : Type 0} (r : Result A Fault) (make : A → Event) (f : InputFault) → map_err no_line (map_err bad_form r) ≡ Err f → map_err no_line (map_err bad_form r >>= λ x. Ok (make x)) ≡ Err f
asked_failed (Ok x) make f is = cc
asked_failed (Err e) make f is = ap Err (err_same _ _ is)

pub asked_made : {A : Type 0} (r : Result A Fault) (make : A → Event) (x : A) → map_err no_line (map_err bad_form r) ≡ Ok x → map_err no_line (map_err bad_form r >>= λ x. Ok (make x)) ≡ Ok (make x)
asked_made (Ok y) make x is = ap (λ y. Ok (make y)) (ok_same y x is)
asked_made (Err e) make x is = cc

pub begin_nobody : (j : Json) → None ≡ sid_in (codes "read" ∷ codes "sid" ∷ codes "sid" ∷ codes "sid" ∷ []) j → event_in (codes "begin") j ≡ Err (no_line bad_line)
begin_nobody j none = begin_parts j ∙ rw (sym none) refl

pub begin_unasked : (j : Json) (s : ℕ) → Some s ≡ sid_in (codes "read" ∷ codes "sid" ∷ codes "sid" ∷ codes "sid" ∷ []) j → None ≡ member_of (codes "read") j → event_in (codes "begin") j ≡ Err (no_line bad_line)
begin_unasked j s sid none = begin_parts j ∙ rw (sym sid, sym none) refl

pub begin_asked : (j e : Json) (s : ℕ) → Some s ≡ sid_in (codes "read" ∷ codes "sid" ∷ codes "sid" ∷ codes "sid" ∷ []) j → Some e ≡ member_of (codes "read") j → event_in (codes "begin") j ≡ begun_of s e
begin_asked j e s sid there = begin_parts j ∙ rw (sym sid, sym there) refl

pub write_nobody : (j : Json) → None ≡ sid_in (codes "sid" ∷ codes "write" ∷ codes "write" ∷ codes "write" ∷ []) j → event_in (codes "write") j ≡ Err (no_line bad_line)
write_nobody j none = write_parts j ∙ rw (sym none) refl

pub write_unasked : (j : Json) (s : ℕ) → Some s ≡ sid_in (codes "sid" ∷ codes "write" ∷ codes "write" ∷ codes "write" ∷ []) j → None ≡ member_of (codes "write") j → event_in (codes "write") j ≡ Err (no_line bad_line)
write_unasked j s sid none = write_parts j ∙ rw (sym sid, sym none) refl

pub write_asked : (j e : Json) (s : ℕ) → Some s ≡ sid_in (codes "sid" ∷ codes "write" ∷ codes "write" ∷ codes "write" ∷ []) j → Some e ≡ member_of (codes "write") j → event_in (codes "write") j ≡ written_of s e
write_asked j e s sid there = write_parts j ∙ rw (sym sid, sym there) refl

pub slice_nobody : (j : Json) → None ≡ sid_in (codes "budget" ∷ codes "sid" ∷ codes "sid" ∷ codes "sid" ∷ []) j → or_no_line None ≡ event_in (codes "slice") j
slice_nobody j none = sym (slice_parts j ∙ rw (sym none) refl)

pub slice_free : (j : Json) (s : ℕ) → Some s ≡ sid_in (codes "budget" ∷ codes "sid" ∷ codes "sid" ∷ codes "sid" ∷ []) j → None ≡ number_between 1 1_000_000 (member_of (codes "budget") j) → or_no_line None ≡ event_in (codes "slice") j
slice_free j s sid none = sym (slice_parts j ∙ rw (sym sid, sym none) refl)

pub slice_made : (j : Json) (s n : ℕ) → Some s ≡ sid_in (codes "budget" ∷ codes "sid" ∷ codes "sid" ∷ codes "sid" ∷ []) j → Some n ≡ number_between 1 1_000_000 (member_of (codes "budget") j)
    → or_no_line (Some (slice s n)) ≡ event_in (codes "slice") j
slice_made j s n sid budget = sym (slice_parts j ∙ rw (sym sid, sym budget) refl)

pub learn_nobody : (j : Json) → None ≡ sid_in (codes "dateline" ∷ codes "sid" ∷ codes "sid" ∷ codes "sid" ∷ []) j → or_no_line None ≡ event_in (codes "learn") j
learn_nobody j none = sym (learn_parts j ∙ rw (sym none) refl)

pub learn_free : (j : Json) (s : ℕ) → Some s ≡ sid_in (codes "dateline" ∷ codes "sid" ∷ codes "sid" ∷ codes "sid" ∷ []) j → None ≡ number_between 0 4_294_967_295 (member_of (codes "dateline") j) → or_no_line None ≡ event_in (codes "learn") j
learn_free j s sid none = sym (learn_parts j ∙ rw (sym sid, sym none) refl)

pub learn_made : (j : Json) (s n : ℕ) → Some s ≡ sid_in (codes "dateline" ∷ codes "sid" ∷ codes "sid" ∷ codes "sid" ∷ []) j → Some n ≡ number_between 0 4_294_967_295 (member_of (codes "dateline") j)
    → or_no_line (Some (learn s n)) ≡ event_in (codes "learn") j
learn_made j s n sid dateline = sym (learn_parts j ∙ rw (sym sid, sym dateline) refl)

pub freeze_nobody : (j : Json) → None ≡ sid_in (codes "sid" ∷ codes "sid" ∷ codes "sid" ∷ codes "sid" ∷ []) j → or_no_line None ≡ event_in (codes "freeze") j
freeze_nobody j none = sym (freeze_parts j ∙ rw (sym none) refl)

pub freeze_made : (j : Json) (s : ℕ) → Some s ≡ sid_in (codes "sid" ∷ codes "sid" ∷ codes "sid" ∷ codes "sid" ∷ []) j → or_no_line (Some (freeze s)) ≡ event_in (codes "freeze") j
freeze_made j s sid = sym (freeze_parts j ∙ rw (sym sid) refl)
