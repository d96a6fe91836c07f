-- The answers of a property on an object, below a dateline and behind it.
use Rattle.std.proofs.Common.{◌≡◌, ℕ, zero, suc, ◌+◌, ◌-◌, ◌<◌, Bool, true, false, cond, ◌&&◌, List, [], ◌∷◌, ◌++◌, length, drop, Option, Some, None, refl, sym, ap, ◌∙◌, arith, length-append, append_assoc}
use Rattle.std.specs.Prelude.{slice_get, filter, if◌then◌else◌}
use Rattle.std.specs.Option.{option_map_or}
use Rattle.std.specs.List.{range_with_len}
use Rattle.std.proofs.lemmas.List.Elements.{filter-append}
use Rattle.std.proofs.lemmas.Option.{slice_get_within}
use Rattle.gd_prim.specs.declared.Primitive.{Primitive}
use Rattle.gd_prim.specs.End.{end_of, places_with}
use Rattle.gd_prim.specs.Live.{refers, is_live, live_where, passes_at}
use Rattle.gd_defs.specs.Plan as plan
use Rattle.gd_defs.specs.Property.{Property, is_of, answers, expects_of, holds_expected, leads_to_object}
use Rattle.gd_list_laws.proofs.Places.{filter_map-places, filter-filter, filter-same, live_where-places}
use Rattle.gd_growing.specs.Scan.{is_answer, is_answer_at, kept}
use Rattle.gd_growing.proofs.Behind.{at_front, drop_get}

-- ---- going on, place by place

one_kept : (test : ℕ → Bool) (x : ℕ) (xs : List ℕ) → filter test (x ∷ xs) ≡ kept test x ++ filter test xs
one_kept test x xs = by (test x)
  where
    by : (b : Bool) → cond b (x ∷ filter test xs) (filter test xs) ≡ (if b then x ∷ [] else []) ++ filter test xs
    by true = refl
    by false = refl

-- what is kept of what is left, where the next one is known
pub left_on : (test : ℕ → Bool) (xs : List ℕ) (k x : ℕ) → slice_get xs k ≡ Some x → filter test (drop k xs) ≡ kept test x ++ filter test (drop (k + 1) xs)
left_on test xs k x is = ap (filter test) (drop_get xs k x is) ∙ one_kept test x (drop (k + 1) xs)

-- what is kept of the places up to an end
pub range_on : (test : ℕ → Bool) (k end : ℕ) → k < end → filter test (range_with_len k (end - k)) ≡ kept test k ++ filter test (range_with_len (k + 1) (end - (k + 1)))
range_on test k end below =
    let more : end - k ≡ suc (end - (k + 1)) = omega arith in
    ap (λ n. filter test (range_with_len k n)) more ∙ one_kept test k (range_with_len (k + 1) (end - (k + 1)))

-- what was kept goes on, place by place
pub left_goes_on : (test : ℕ → Bool) (xs : List ℕ) (k x : ℕ) (before now all : List ℕ) → slice_get xs k ≡ Some x → now ≡ before ++ kept test x → before ++ filter test (drop k xs) ≡ all
    → now ++ filter test (drop (k + 1) xs) ≡ all
left_goes_on test xs k x before now all at more is =
    ap (λ ys. ys ++ filter test (drop (k + 1) xs)) more
    ∙ append_assoc before (kept test x) (filter test (drop (k + 1) xs))
    ∙ ap (λ ys. before ++ ys) (sym (left_on test xs k x at))
    ∙ is

pub range_goes_on : (test : ℕ → Bool) (k end : ℕ) (before now all : List ℕ) → k < end → now ≡ before ++ kept test k → before ++ filter test (range_with_len k (end - k)) ≡ all
    → now ++ filter test (range_with_len (k + 1) (end - (k + 1))) ≡ all
range_goes_on test k end before now all below more is =
    ap (λ ys. ys ++ filter test (range_with_len (k + 1) (end - (k + 1)))) more
    ∙ append_assoc before (kept test k) (filter test (range_with_len (k + 1) (end - (k + 1))))
    ∙ ap (λ ys. before ++ ys) (sym (range_on test k end below))
    ∙ is

-- ---- the parts

-- the answers, as links that pass one test
answers_live : (prims : List Primitive) (p : Property) (o : ℕ) → answers prims p o ≡ live_where (is_answer prims p o) prims
answers_live prims p o = by p.reversed
  where
    by : (b : Bool) → (if b then live_where (λ k. is_of p k && refers k.right o && leads_to_object prims k.left) prims
        else live_where (λ k. is_of p k && refers k.left o && holds_expected prims (expects_of p.expected) k) prims)
        ≡ live_where (λ k. if b then is_of p k && refers k.right o && leads_to_object prims k.left
        else is_of p k && refers k.left o && holds_expected prims (expects_of p.expected) k) prims
    by true = refl
    by false = refl

pub range_split : (k a b : ℕ) → range_with_len k (a + b) ≡ range_with_len k a ++ range_with_len (k + a) b
range_split k zero b =
    let none : 0 + b ≡ b = omega arith in
    let same : k ≡ k + 0 = omega arith in
    ap (λ n. range_with_len k n) none ∙ ap (λ n. range_with_len n b) same
range_split k (suc a) b =
    let more : suc a + b ≡ suc (a + b) = omega arith in
    ap (range_with_len k) more
    ∙ ap (λ xs. k ∷ xs) (range_split (k + 1) a b ∙ ap (λ n. range_with_len (k + 1) a ++ range_with_len n b) (let same : k + 1 + a ≡ k + suc a = omega arith in same))

-- the answers, as a filter of all places
pub answers_all : (prims : List Primitive) (p : Property) (o : ℕ) → answers prims p o ≡ filter (is_answer_at prims p o) (range_with_len 0 (length prims))
answers_all prims p o = answers_live prims p o ∙ live_where-places (is_answer prims p o) prims

-- a place below the end of a front that has the object at the end by which the property is asked
abbrev stands_by : List Primitive → Property → ℕ → ℕ → Bool
stands_by prims p o k = passes_at (λ q. refers (end_of (plan.asked_end p) q) o) prims k

-- the list of an end, as a filter of the places of the front
by_end : (base made : List Primitive) (p : Property) (o : ℕ) → places_with (plan.asked_end p) o base ≡ filter (stands_by (base ++ made) p o) (range_with_len 0 (length base))
by_end base made p o = filter_map-places (λ e. refers (end_of (plan.asked_end p) e.1) o) (stands_by (base ++ made) p o) base [] base 0 refl refl
    (λ k q at. ap (λ (found : Option Primitive). option_map_or (λ r. refers (end_of (plan.asked_end p) r) o) found false) (sym (at_front base made k (slice_get_within base k q at) ∙ at)))

three : (t n r l : Bool) → (n && ((t && n && r) && l)) ≡ ((t && n && r) && l)
three true true r l = refl
three true false r l = refl
three false true r l = refl
three false false r l = refl

-- an answer has the object at that end
asked_by : (prims : List Primitive) (p : Property) (o k : ℕ) → (stands_by prims p o k && is_answer_at prims p o k) ≡ is_answer_at prims p o k
asked_by prims p o k = by (slice_get prims k)
  where
    one : (b live : Bool) (q : Primitive) → (refers (end_of (plan.asked_end (record p { reversed = b })) q) o && (is_answer prims (record p { reversed = b }) o q && live)) ≡ (is_answer prims (record p { reversed = b }) o q && live)
    one true live q = three (is_of p q) (refers q.right o) (leads_to_object prims q.left) live
    one false live q = three (is_of p q) (refers q.left o) (holds_expected prims (expects_of p.expected) q) live

    by : (at : Option Primitive) → (option_map_or (λ q. refers (end_of (plan.asked_end p) q) o) at false && (option_map_or (is_answer prims p o) at false && is_live prims k))
        ≡ (option_map_or (is_answer prims p o) at false && is_live prims k)
    by None = refl
    by (Some q) = one p.reversed (is_live prims k) q

-- the answers are those of the list of an end, and then those behind the front
pub parts : (base made : List Primitive) (p : Property) (o : ℕ)
    → answers (base ++ made) p o ≡ filter (is_answer_at (base ++ made) p o) (places_with (plan.asked_end p) o base) ++ filter (is_answer_at (base ++ made) p o) (range_with_len (length base) (length made))
parts base made p o =
    let prims = base ++ made in
    let test = is_answer_at prims p o in
    let none : 0 + length base ≡ length base = omega arith in
    answers_live prims p o
    ∙ live_where-places (is_answer prims p o) prims
    ∙ ap (λ n. filter test (range_with_len 0 n)) (length-append base made)
    ∙ ap (filter test) (range_split 0 (length base) (length made) ∙ ap (λ n. range_with_len 0 (length base) ++ range_with_len n (length made)) none)
    ∙ filter-append test (range_with_len 0 (length base)) (range_with_len (length base) (length made))
    ∙ ap (λ xs. xs ++ filter test (range_with_len (length base) (length made)))
    (sym (filter-same _ test (range_with_len 0 (length base)) (asked_by prims p o))
    ∙ sym (filter-filter (stands_by prims p o) test (range_with_len 0 (length base)))
    ∙ ap (filter test) (sym (by_end base made p o)))
