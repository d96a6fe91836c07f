-- What histories keep.
use Rattle.std.proofs.Common.{◌≡◌, ◌<◌, ℕ, zero, suc, ◌+◌, List, [], ◌∷◌, ◌++◌, length, Bool, true, not, ◌&&◌, ◌||◌, Option, Some, None, refl, sym, subst, arith, append_assoc, append-nil, length-append}
use Rattle.std.specs.Prelude.{nat_lt, nat_le, nat_eq, is_some, slice_get, take, flat_map, IsTrue}
use Rattle.std.proofs.lemmas.Bool.{and_parts, and_from, ltb-true}
use lib.Utf8.{encode}
use Rattle.std.specs.Str.{is_utf8, chars}
use Rattle.gd_base.specs.declared.datum.Datum.{Datum}
use Rattle.gd_prim.specs.declared.Primitive.{Primitive}
use Rattle.gd_prim.specs.declared.Batch.{Batch}
use Rattle.gd_prim.specs.Builtin.{builtin}
use Rattle.gd_prim.specs.History.{prims_of, is_history}
use Rattle.gd_prim.specs.Limits.{max_prims, max_batch}
use Rattle.gd_prim.specs.WellFormed.{max_moment, refers_below, refers_back, may_hold, may_name_language, is_well_placed, first_bad, bad_place, may_follow, all_follow, succeeds_current}
use Rattle.gd_write_laws.specs.Sound.{Below, RefersBack, IsSound}
use Rattle.gd_write_laws.specs.Values.{MayHold, IsTyped, is_typed}
use Rattle.gd_grammar.proofs.Steps.{not_some, either}
use Rattle.gd_write_laws.proofs.Grows.{sound_push}

-- ---- the tests by their rules

below-is : (n : ℕ) (o : Option ℕ) → refers_below n o ≡ true → Below n o
below-is n None is = tt
below-is n (Some k) is = ltb-true k n is

back-is : (n : ℕ) (p : Primitive) → refers_back n p ≡ true → RefersBack n p
back-is n p is =
    let a = and_parts (refers_below n p.left) _ is in
    let b = and_parts (refers_below n p.right) _ a.1 in
    let c = and_parts (refers_below n p.typ) _ b.1 in
    let d = and_parts (refers_below n p.scope) _ c.1 in
    let e = and_parts (refers_below n p.previous) _ d.1 in
    let f = and_parts (refers_below n p.lang) _ e.1 in
    record { left = below-is n p.left a.0; right = below-is n p.right b.0; typ = below-is n p.typ c.0; scope = below-is n p.scope d.0; previous = below-is n p.previous e.0; lang = below-is n p.lang f.0 }

-- a primitive that keeps the rules refers back, and may hold its value and name its language
kept_rules : (before : List Primitive) (moment i : ℕ) (p : Primitive) → is_well_placed before moment i p ≡ true → RefersBack (length before) p × (MayHold p.value × (may_name_language p ≡ true))
kept_rules before moment i p is =
    let a = and_parts _ (succeeds_current before p.previous) is in
    let b = and_parts _ (nat_lt i max_batch) a.0 in
    let c = and_parts _ (nat_lt (length before) max_prims) b.0 in
    let d = and_parts _ (nat_le moment max_moment) c.0 in
    let e = and_parts _ (nat_eq p.moment moment) d.0 in
    let l = and_parts _ (may_name_language p) e.0 in
    let f = and_parts _ (may_hold p.value) l.0 in
    let g = and_parts (refers_back (length before) p) (p.live || is_some p.previous) f.0 in
    (back-is (length before) p g.0, (f.1, l.1))

none_bad : (before : List Primitive) (moment i : ℕ) (ps : List Primitive) → IsSound MayHold before → first_bad before moment i ps ≡ None → IsSound MayHold (before ++ ps)
none_bad before moment i [] sound none = subst (IsSound MayHold) (sym (append-nil before)) sound
none_bad before moment i (p ∷ ps) sound none = either (is_well_placed before moment i p) (first_bad (before ++ p ∷ []) moment (i + 1) ps) (Some (length before)) None
    (λ well rest. let kept = kept_rules before moment i p well in
    subst (IsSound MayHold) (append_assoc before (p ∷ []) ps) (none_bad (before ++ p ∷ []) moment (i + 1) ps (sound_push MayHold before p sound kept.0 kept.1.0 kept.1.1) rest))
    (λ bad some. not_some (length before) (sym some)) none

is_none : {A : Type 0} (o : Option A) → not (is_some o) ≡ true → o ≡ None
is_none None is = refl
is_none (Some x) is = absurd (cc)

-- a list and a batch that may follow it
sound_more : (prims : List Primitive) (requests : ℕ) (b : Batch) → IsSound MayHold prims → may_follow prims requests b ≡ true → IsSound MayHold (prims ++ b.prims)
sound_more prims requests b sound follows =
    let none = is_none (bad_place prims b) (and_parts (not (is_some (bad_place prims b))) _ follows).0 in
    none_bad prims b.moment 0 b.prims sound none

-- ---- the built-in list

-- each primitive from a place on refers back, its value passes, and it may name its language
abbrev are_sound : (Datum → Bool) → ℕ → List Primitive → Bool
are_sound v i [] = true
are_sound v i (p ∷ ps) = (refers_back i p && (v p.value && may_name_language p)) && are_sound v (i + 1) ps

sound_at : (v : Datum → Bool) (i : ℕ) (prims : List Primitive) → are_sound v i prims ≡ true → (k : ℕ) (p : Primitive) → slice_get prims k ≡ Some p → RefersBack (i + k) p × ((v p.value ≡ true) × (may_name_language p ≡ true))
sound_at v i [] are k p at = not_some p at
sound_at v i (q ∷ ps) are zero p at =
    let both = and_parts (refers_back i q && (v q.value && may_name_language q)) (are_sound v (i + 1) ps) are in
    let here = and_parts (refers_back i q) (v q.value && may_name_language q) both.0 in
    let e : i ≡ i + 0 = omega arith in
    let same : q ≡ p = cc in
    subst (λ (p : Primitive). RefersBack (i + 0) p × ((v p.value ≡ true) × (may_name_language p ≡ true))) same (subst (λ n. RefersBack n q) e (back-is i q here.0), and_parts (v q.value) (may_name_language q) here.1)
sound_at v i (q ∷ ps) are (suc k) p at =
    let both = and_parts (refers_back i q && (v q.value && may_name_language q)) (are_sound v (i + 1) ps) are in
    let e : i + 1 + k ≡ i + suc k = omega arith in
    subst (λ n. RefersBack n p × ((v p.value ≡ true) × (may_name_language p ≡ true))) e (sound_at v (i + 1) ps both.1 k p at)

sound_by_test : (v : Datum → Bool) (prims : List Primitive) → are_sound v 0 prims ≡ true → IsSound (λ d. v d ≡ true) prims
sound_by_test v prims are = record {
  back = λ k p at. let e : 0 + k ≡ k = omega arith in subst (λ n. RefersBack n p) e (sound_at v 0 prims are k p at).0;
  values = λ k p at. (sound_at v 0 prims are k p at).1.0;
  langs = λ k p at. (sound_at v 0 prims are k p at).1.1;
}

pub builtin-sound : IsSound MayHold builtin
builtin-sound = sound_by_test may_hold builtin refl

pub builtin-typed : IsSound (IsTyped is_utf8) builtin
unfolding is_utf8 chars encode
builtin-typed = sound_by_test (is_typed is_utf8) builtin refl

-- ---- histories

follow-sound : (prims : List Primitive) (requests : ℕ) (bs : List Batch) → IsSound MayHold prims → all_follow prims requests bs ≡ true → IsSound MayHold (prims ++ flat_map (λ b. b.prims) bs)
follow-sound prims requests [] sound follow = subst (IsSound MayHold) (sym (append-nil prims)) sound
follow-sound prims requests (b ∷ bs) sound follow =
    let both = and_parts (may_follow prims requests b) (all_follow (prims ++ b.prims) (requests + 1) bs) follow in
    subst (IsSound MayHold) (append_assoc prims b.prims (flat_map (λ b. b.prims) bs))
    (follow-sound (prims ++ b.prims) (requests + 1) bs (sound_more prims requests b sound both.0) both.1)

pub history-sound : (bs : List Batch) → IsTrue (is_history bs) → IsSound MayHold (prims_of bs)
unfolding prims_of is_history
history-sound bs history = follow-sound builtin 0 bs builtin-sound history

follow-more : (prims : List Primitive) (requests : ℕ) (bs : List Batch) (b : Batch) → all_follow prims requests bs ≡ true → may_follow (prims ++ flat_map (λ b. b.prims) bs) (requests + length bs) b ≡ true
    → all_follow prims requests (bs ++ b ∷ []) ≡ true
follow-more prims requests [] b follow here =
    let e : requests + 0 ≡ requests = omega arith in
    and_from (may_follow prims requests b) true (subst (λ n. may_follow prims n b ≡ true) e (subst (λ xs. may_follow xs (requests + 0) b ≡ true) (append-nil prims) here)) refl
follow-more prims requests (c ∷ bs) b follow here =
    let both = and_parts (may_follow prims requests c) (all_follow (prims ++ c.prims) (requests + 1) bs) follow in
    let e : requests + suc (length bs) ≡ requests + 1 + length bs = omega arith in
    and_from (may_follow prims requests c) (all_follow (prims ++ c.prims) (requests + 1) (bs ++ b ∷ [])) both.0
    (follow-more (prims ++ c.prims) (requests + 1) bs b both.1
    (subst (λ n. may_follow ((prims ++ c.prims) ++ flat_map (λ b. b.prims) bs) n b ≡ true) e
    (subst (λ xs. may_follow xs (requests + suc (length bs)) b ≡ true) (sym (append_assoc prims c.prims (flat_map (λ b. b.prims) bs))) here)))

follow-front : (prims : List Primitive) (requests : ℕ) (bs : List Batch) (n : ℕ) → all_follow prims requests bs ≡ true → all_follow prims requests (take n bs) ≡ true
follow-front prims requests [] n follow = by n
  where
    by : (n : ℕ) → all_follow prims requests (take n []) ≡ true
    by zero = refl
    by (suc n) = refl
follow-front prims requests (b ∷ bs) zero follow = refl
follow-front prims requests (b ∷ bs) (suc n) follow =
    let both = and_parts (may_follow prims requests b) (all_follow (prims ++ b.prims) (requests + 1) bs) follow in
    and_from (may_follow prims requests b) (all_follow (prims ++ b.prims) (requests + 1) (take n bs)) both.0 (follow-front (prims ++ b.prims) (requests + 1) bs n both.1)

pub history-front : (bs : List Batch) (n : ℕ) → IsTrue (is_history bs) → IsTrue (is_history (take n bs))
unfolding is_history
history-front bs n history = follow-front builtin 0 bs n history

pub history-more : (bs : List Batch) (b : Batch) → IsTrue (is_history bs) → may_follow (prims_of bs) (length bs) b ≡ true → IsTrue (is_history (bs ++ b ∷ []))
unfolding prims_of is_history
history-more bs b history follows =
    let e : length bs ≡ 0 + length bs = omega arith in
    follow-more builtin 0 bs b history (subst (λ n. may_follow (builtin ++ flat_map (λ b. b.prims) bs) n b ≡ true) e follows)

pub history-some : (bs : List Batch) → 0 < length (prims_of bs)
unfolding prims_of
history-some bs = let front : 0 < length builtin = omega arith in omega (arith, length-append builtin (flat_map (λ (b : Batch). b.prims) bs))
