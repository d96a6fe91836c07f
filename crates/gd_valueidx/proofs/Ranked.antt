-- Laws of the values in their order: one more, one less, and where those before a value end.
use Rattle.std.proofs.Common.{◌≡◌, ◌≢◌, ◌∙◌, ◌+◌, ◌<◌, ◌≤◌, ℕ, zero, suc, List, [], ◌∷◌, ◌++◌, Bool, true, false, cond, Option, Some, None, Ordering, refl, sym, ap, subst, length, drop, arith, get_or}
use Rattle.std.specs.Prelude.{fold, slice_get, not, ◌&&◌, ◌||◌}
use Rattle.std.specs.List.{filter, enumerate_from, AllByRecursion, insert, remove, list_any}
use Rattle.std.specs.List.Sorted.{IsStrictlySortedBy, IsPartitionedBy}
use Rattle.std.specs.Map.{keys_of, values_of}
use Rattle.std.specs.BTreeMap.{insert_entry}
use Rattle.std.specs.Option.{option_map_or}
use Rattle.std.specs.Ordering.{is_lt, is_gt, is_eq, match_ordering, ordering_reverse}
use Rattle.std.specs.declared.cmp.Ordering.TheVariants.{Less, Equal, Greater}
use Rattle.std.proofs.lemmas.List.Sums.{fold-append}
use Rattle.gd_base.specs.declared.datum.Datum.{Datum}
use Rattle.gd_base.specs.Order.{datum_cmp, datum_eq}
use Rattle.gd_base.proofs.Order.{datum_total, same_datum, datum_cmp_itself}
use Rattle.gd_valueidx.specs.Ranked.{ranked, is_between, numbers_between}
use Rattle.gd_valueidx.specs.Runs.{is_before, stands, is_from, is_to, IsSplit}

abbrev step : List (Datum × ℕ) → ℕ × Datum → List (Datum × ℕ)
step ranks numbered = insert_entry datum_cmp ranks numbered.1 numbered.0

-- ---- one value more

enumerate_more : (n : ℕ) (vs : List Datum) (v : Datum) → enumerate_from n (vs ++ v ∷ []) ≡ enumerate_from n vs ++ (n + length vs, v) ∷ []
enumerate_more n [] v = ap (λ k. (k, v) ∷ []) (omega arith)
enumerate_more n (w ∷ vs) v =
    ap (λ es. (n, w) ∷ es) (enumerate_more (n + 1) vs v)
    ∙ ap (λ k. (n, w) ∷ (enumerate_from (n + 1) vs ++ (k, v) ∷ [])) (omega arith)

pub ranked_more : (vs : List Datum) (v : Datum) → ranked (vs ++ v ∷ []) ≡ insert_entry datum_cmp (ranked vs) v (length vs)
unfolding ranked
ranked_more vs v =
    ap (fold step []) (enumerate_more 0 vs v)
    ∙ fold-append step [] (enumerate_from 0 vs) ((0 + length vs, v) ∷ [])
    ∙ ap (λ k. insert_entry datum_cmp (fold step [] (enumerate_from 0 vs)) v k) (omega arith)

-- ---- each number is that of its value

abbrev pub IsNamed : List Datum → Datum × ℕ → Type 0
IsNamed vs e = slice_get vs e.1 ≡ Some e.0

pub all_inserted : (P : Datum × ℕ → Type 0) (es : List (Datum × ℕ)) (v : Datum) (n : ℕ) → AllByRecursion P es → P (v, n) → AllByRecursion P (insert_entry datum_cmp es v n)
all_inserted P [] v n all own = (own, tt)
all_inserted P (e ∷ es) v n all own = either (all_inserted P es v n all.1 own) (datum_cmp v e.0) refl
  where
    either : AllByRecursion P (insert_entry datum_cmp es v n) → (o : Ordering) → datum_cmp v e.0 ≡ o → AllByRecursion P (match_ordering o ((v, n) ∷ e ∷ es) ((e.0, n) ∷ es) (e ∷ insert_entry datum_cmp es v n))
    either rest Less is = (own, all)
    either rest Equal is = (subst (λ (k : Datum). P (k, n)) (same_datum v e.0 is) own, all.1)
    either rest Greater is = (all.0, rest)

named_from : (whole vs : List Datum) (n : ℕ) (r : List (Datum × ℕ)) → ((i : ℕ) → slice_get vs i ≡ slice_get whole (n + i)) → AllByRecursion (IsNamed whole) r
    → AllByRecursion (IsNamed whole) (fold step r (enumerate_from n vs))
named_from whole [] n r same all = all
named_from whole (v ∷ vs) n r same all =
    named_from whole vs (n + 1) (insert_entry datum_cmp r v n)
    (λ i. same (suc i) ∙ ap (slice_get whole) (omega arith))
    (all_inserted (IsNamed whole) r v n all (ap (slice_get whole) (omega arith) ∙ sym (same 0)))

pub named : (vs : List Datum) → AllByRecursion (IsNamed vs) (ranked vs)
unfolding ranked
named vs = named_from vs vs 0 [] (λ i. ap (slice_get vs) (omega arith)) tt

-- ---- the values rise

keys_inserted : (P : Datum → Type 0) (es : List (Datum × ℕ)) (v : Datum) (n : ℕ) → AllByRecursion P (keys_of es) → P v → AllByRecursion P (keys_of (insert_entry datum_cmp es v n))
keys_inserted P [] v n all own = (own, tt)
keys_inserted P (e ∷ es) v n all own = either (keys_inserted P es v n all.1 own) (datum_cmp v e.0)
  where
    either : AllByRecursion P (keys_of (insert_entry datum_cmp es v n)) → (o : Ordering) → AllByRecursion P (keys_of (match_ordering o ((v, n) ∷ e ∷ es) ((e.0, n) ∷ es) (e ∷ insert_entry datum_cmp es v n)))
    either rest Less = (own, all)
    either rest Equal = all
    either rest Greater = (all.0, rest)

flipped : (a b : Datum) → datum_cmp a b ≡ Greater → datum_cmp b a ≡ Less
flipped a b is = datum_total.antisymm b a ∙ ap ordering_reverse is

pub unflipped : (a b : Datum) → datum_cmp a b ≡ Less → datum_cmp b a ≡ Greater
unflipped a b is = datum_total.antisymm b a ∙ ap ordering_reverse is

all_later : (v w : Datum) (ks : List Datum) → datum_cmp v w ≡ Less → AllByRecursion (λ k. datum_cmp w k ≡ Less) ks → AllByRecursion (λ k. datum_cmp v k ≡ Less) ks
all_later v w [] less all = tt
all_later v w (k ∷ ks) less all = (datum_total.trans v w k less all.0, all_later v w ks less all.1)

sorted_inserted : (es : List (Datum × ℕ)) (v : Datum) (n : ℕ) → IsStrictlySortedBy datum_cmp (keys_of es) → IsStrictlySortedBy datum_cmp (keys_of (insert_entry datum_cmp es v n))
unfolding IsStrictlySortedBy
sorted_inserted [] v n sorted = (tt, tt)
sorted_inserted (e ∷ es) v n sorted = either (sorted_inserted es v n sorted.1) (datum_cmp v e.0) refl
  where
    either : IsStrictlySortedBy datum_cmp (keys_of (insert_entry datum_cmp es v n)) → (o : Ordering) → datum_cmp v e.0 ≡ o
        → IsStrictlySortedBy datum_cmp (keys_of (match_ordering o ((v, n) ∷ e ∷ es) ((e.0, n) ∷ es) (e ∷ insert_entry datum_cmp es v n)))
    either rest Less is = ((is, all_later v e.0 (keys_of es) is sorted.0), sorted)
    either rest Equal is = sorted
    either rest Greater is = (keys_inserted (λ k. datum_cmp e.0 k ≡ Less) es v n sorted.0 (flipped v e.0 is), rest)

sorted_from : (ns : List (ℕ × Datum)) (r : List (Datum × ℕ)) → IsStrictlySortedBy datum_cmp (keys_of r) → IsStrictlySortedBy datum_cmp (keys_of (fold step r ns))
sorted_from [] r sorted = sorted
sorted_from (m ∷ ns) r sorted = sorted_from ns (step r m) (sorted_inserted r m.1 m.0 sorted)

pub sorted : (vs : List Datum) → IsStrictlySortedBy datum_cmp (keys_of (ranked vs))
unfolding ranked IsStrictlySortedBy
sorted vs = sorted_from (enumerate_from 0 vs) [] tt

-- ---- those that stand before a value come first

before_down : (a b v : Datum) (with : Bool) → datum_cmp a b ≡ Less → is_before v with b ≡ true → is_before v with a ≡ true
before_down a b v with less passes = either (datum_cmp b v) refl passes
  where
    either : (o : Ordering) → datum_cmp b v ≡ o → match_ordering o true with false ≡ true → is_before v with a ≡ true
    either Less is holds = ap (λ o. match_ordering o true with false) (datum_total.trans a b v less is)
    either Equal is holds = ap (λ o. match_ordering o true with false) (subst (λ (c : Datum). datum_cmp a c ≡ Less) (same_datum b v is) less)
    either Greater is holds = cc

-- what a number's value says
at_named : (vs : List Datum) (q : Datum → Bool) (e : Datum × ℕ) → IsNamed vs e → option_map_or q (slice_get vs e.1) false ≡ q e.0
at_named vs q e is = ap (λ o. option_map_or q o false) is

parted_from : (vs : List Datum) (v : Datum) (with : Bool) (es : List (Datum × ℕ)) → AllByRecursion (IsNamed vs) es → IsStrictlySortedBy datum_cmp (keys_of es) → IsPartitionedBy (stands vs v with) (values_of es)
unfolding IsStrictlySortedBy
parted_from vs v with [] all rising = λ i j d order there passes. absurd (omega (arith, there))
parted_from vs v with (e ∷ es) all rising = at (parted_from vs v with es all.1 rising.1)
  where
    first : (fs : List (Datum × ℕ)) (j d : ℕ) → AllByRecursion (IsNamed vs) fs → AllByRecursion (λ k. datum_cmp e.0 k ≡ Less) (keys_of fs) → j < length (values_of fs) → stands vs v with (get_or (values_of fs) j d) ≡ true → is_before v with e.0 ≡ true
    first [] j d names above there passes = absurd (omega (arith, there))
    first (f ∷ fs) zero d names above there passes = before_down e.0 f.0 v with above.0 (sym (at_named vs (is_before v with) f names.0) ∙ passes)
    first (f ∷ fs) (suc j) d names above there passes = first fs j d names.1 above.1 (omega (arith, there)) passes

    at : IsPartitionedBy (stands vs v with) (values_of es) → IsPartitionedBy (stands vs v with) (values_of (e ∷ es))
    at rest zero zero d order there passes = passes
    at rest zero (suc j) d order there passes = at_named vs (is_before v with) e all.0 ∙ first es j d all.1 rising.0 (omega (arith, there)) passes
    at rest (suc i) zero d order there passes = absurd (omega (arith, order))
    at rest (suc i) (suc j) d order there passes = rest i j d (omega (arith, order)) (omega (arith, there)) passes

pub parted : (vs : List Datum) (v : Datum) (with : Bool) → IsPartitionedBy (stands vs v with) (values_of (ranked vs))
parted vs v with = parted_from vs v with (ranked vs) (named vs) (sorted vs)

-- ---- where a value is put, and where it is taken away

abbrev pub IsAbsent : Datum → List (Datum × ℕ) → Type 0
IsAbsent v es = AllByRecursion (λ e. datum_cmp v e.0 ≢ Equal) es

pub is_less : (k v : Datum) (with : Bool) → datum_cmp v k ≢ Equal → is_before v with k ≡ true → datum_cmp v k ≡ Greater
is_less k v with other passes = either (datum_cmp k v) refl passes
  where
    either : (o : Ordering) → datum_cmp k v ≡ o → match_ordering o true with false ≡ true → datum_cmp v k ≡ Greater
    either Less is holds = unflipped k v is
    either Equal is holds = absurd (other (subst (λ (c : Datum). datum_cmp v c ≡ Equal) (sym (same_datum k v is)) (datum_cmp_itself v)))
    either Greater is holds = cc

pub is_more : (k v : Datum) (with : Bool) → datum_cmp v k ≢ Equal → is_before v with k ≡ false → datum_cmp v k ≡ Less
is_more k v with other fails = either (datum_cmp k v) refl fails
  where
    either : (o : Ordering) → datum_cmp k v ≡ o → match_ordering o true with false ≡ false → datum_cmp v k ≡ Less
    either Less is holds = cc
    either Equal is holds = absurd (other (subst (λ (c : Datum). datum_cmp v c ≡ Equal) (sym (same_datum k v is)) (datum_cmp_itself v)))
    either Greater is holds = flipped k v is

pub tail_split : (p : ℕ → Bool) (x : ℕ) (xs : List ℕ) (k : ℕ) → IsSplit p (x ∷ xs) (suc k) → IsSplit p xs k
tail_split p x xs k s = (omega (arith, s.0), (λ i d low high. s.1.0 (suc i) d (omega arith) (omega (arith, high)), λ i d low high. s.1.1 (suc i) d (omega (arith, low)) (omega (arith, high))))

rest_split : (p : ℕ → Bool) (x : ℕ) (xs : List ℕ) → IsSplit p (x ∷ xs) 0 → IsSplit p xs 0
rest_split p x xs s = (omega arith, (λ i d low high. absurd (omega (arith, high)), λ i d low high. s.1.1 (suc i) d (omega arith) (omega (arith, high))))

head_before : (p : ℕ → Bool) (x : ℕ) (xs : List ℕ) (k : ℕ) → IsSplit p (x ∷ xs) (suc k) → p x ≡ true
head_before p x xs k s = s.1.0 0 0 (omega arith) (omega arith)

head_behind : (p : ℕ → Bool) (x : ℕ) (xs : List ℕ) → IsSplit p (x ∷ xs) 0 → p x ≡ false
head_behind p x xs s = s.1.1 0 0 (omega arith) (omega arith)

pub insert_at : (vs : List Datum) (v : Datum) (with : Bool) (n : ℕ) (es : List (Datum × ℕ)) (k : ℕ) → AllByRecursion (IsNamed vs) es → IsAbsent v es → IsSplit (stands vs v with) (values_of es) k
    → values_of (insert_entry datum_cmp es v n) ≡ insert (values_of es) k n
insert_at vs v with n [] zero names absent split = refl
insert_at vs v with n [] (suc k) names absent split = absurd (omega (arith, split.0))
insert_at vs v with n (e ∷ es) zero names absent split =
    let less = is_more e.0 v with absent.0 (sym (at_named vs (is_before v with) e names.0) ∙ head_behind (stands vs v with) e.1 (values_of es) split) in
    ap (λ o. values_of (match_ordering o ((v, n) ∷ e ∷ es) ((e.0, n) ∷ es) (e ∷ insert_entry datum_cmp es v n))) less
insert_at vs v with n (e ∷ es) (suc k) names absent split =
    let more = is_less e.0 v with absent.0 (sym (at_named vs (is_before v with) e names.0) ∙ head_before (stands vs v with) e.1 (values_of es) k split) in
    ap (λ o. values_of (match_ordering o ((v, n) ∷ e ∷ es) ((e.0, n) ∷ es) (e ∷ insert_entry datum_cmp es v n))) more
    ∙ ap (λ ns. e.1 ∷ ns) (insert_at vs v with n es k names.1 absent.1 (tail_split (stands vs v with) e.1 (values_of es) k split))

-- the value itself counts as before
own_stands : (vs : List Datum) (v : Datum) (n : ℕ) → slice_get vs n ≡ Some v → stands vs v true n ≡ true
own_stands vs v n is = at_named vs (is_before v true) (v, n) is ∙ ap (λ o. match_ordering o true true false) (datum_cmp_itself v)

after_stands_not : (vs : List Datum) (v : Datum) (e : Datum × ℕ) → IsNamed vs e → datum_cmp v e.0 ≡ Less → stands vs v true e.1 ≡ false
after_stands_not vs v e is less = at_named vs (is_before v true) e is ∙ ap (λ o. match_ordering o true true false) (unflipped v e.0 less)

before_stands : (vs : List Datum) (v : Datum) (e : Datum × ℕ) → IsNamed vs e → datum_cmp v e.0 ≡ Greater → stands vs v true e.1 ≡ true
before_stands vs v e is more = at_named vs (is_before v true) e is ∙ ap (λ o. match_ordering o true true false) (flipped v e.0 more)

true_false : true ≡ false → ⊥
true_false is = cc

-- so some number stands before the end of the value
pub some_before : (vs : List Datum) (v : Datum) (n : ℕ) (es : List (Datum × ℕ)) → AllByRecursion (IsNamed vs) es → slice_get vs n ≡ Some v → IsAbsent v es
    → IsSplit (stands vs v true) (values_of (insert_entry datum_cmp es v n)) 0 → ⊥
some_before vs v n [] names own absent split = true_false (sym (own_stands vs v n own) ∙ head_behind (stands vs v true) n [] split)
some_before vs v n (e ∷ es) names own absent split = either (datum_cmp v e.0) refl split
  where
    either : (o : Ordering) → datum_cmp v e.0 ≡ o → IsSplit (stands vs v true) (values_of (match_ordering o ((v, n) ∷ e ∷ es) ((e.0, n) ∷ es) (e ∷ insert_entry datum_cmp es v n))) 0 → ⊥
    either Less is s = true_false (sym (own_stands vs v n own) ∙ head_behind (stands vs v true) n (values_of (e ∷ es)) s)
    either Equal is s = absent.0 is
    either Greater is s = true_false (sym (before_stands vs v e names.0 is) ∙ head_behind (stands vs v true) e.1 (values_of (insert_entry datum_cmp es v n)) s)

pub remove_at : (vs : List Datum) (v : Datum) (n : ℕ) (es : List (Datum × ℕ)) (j : ℕ) → AllByRecursion (IsNamed vs) es → slice_get vs n ≡ Some v → IsAbsent v es
    → IsSplit (stands vs v true) (values_of (insert_entry datum_cmp es v n)) (suc j) → remove (values_of (insert_entry datum_cmp es v n)) j ≡ values_of es
remove_at vs v n [] zero names own absent split = refl
remove_at vs v n [] (suc j) names own absent split = absurd (omega (arith, split.0))
remove_at vs v n (e ∷ es) zero names own absent split = either (datum_cmp v e.0) refl split
  where
    either : (o : Ordering) → datum_cmp v e.0 ≡ o → IsSplit (stands vs v true) (values_of (match_ordering o ((v, n) ∷ e ∷ es) ((e.0, n) ∷ es) (e ∷ insert_entry datum_cmp es v n))) 1
        → remove (values_of (match_ordering o ((v, n) ∷ e ∷ es) ((e.0, n) ∷ es) (e ∷ insert_entry datum_cmp es v n))) 0 ≡ values_of (e ∷ es)
    either Less is s = refl
    either Equal is s = absurd (absent.0 is)
    either Greater is s = absurd (some_before vs v n es names.1 own absent.1 (tail_split (stands vs v true) e.1 (values_of (insert_entry datum_cmp es v n)) 0 s))
remove_at vs v n (e ∷ es) (suc j) names own absent split = either (λ s. remove_at vs v n es j names.1 own absent.1 s) (datum_cmp v e.0) refl split
  where
    either : (IsSplit (stands vs v true) (values_of (insert_entry datum_cmp es v n)) (suc j) → remove (values_of (insert_entry datum_cmp es v n)) j ≡ values_of es)
        → (o : Ordering) → datum_cmp v e.0 ≡ o → IsSplit (stands vs v true) (values_of (match_ordering o ((v, n) ∷ e ∷ es) ((e.0, n) ∷ es) (e ∷ insert_entry datum_cmp es v n))) (suc (suc j))
        → remove (values_of (match_ordering o ((v, n) ∷ e ∷ es) ((e.0, n) ∷ es) (e ∷ insert_entry datum_cmp es v n))) (suc j) ≡ values_of (e ∷ es)
    either rest Less is s = absurd (true_false (sym (head_before (stands vs v true) e.1 (values_of es) j (tail_split (stands vs v true) n (values_of (e ∷ es)) (suc j) s)) ∙ after_stands_not vs v e names.0 is))
    either rest Equal is s = absurd (absent.0 is)
    either rest Greater is s = ap (λ ns. e.1 ∷ ns) (rest (tail_split (stands vs v true) e.1 (values_of (insert_entry datum_cmp es v n)) (suc j) s))

-- ---- a value that has no number

not_any : (v : Datum) (vs : List Datum) (m : ℕ) (w : Datum) → list_any (datum_eq v) vs ≡ false → slice_get vs m ≡ Some w → datum_eq v w ≡ false
not_any v [] m w none is = cc
not_any v (u ∷ vs) zero w none is = either (datum_eq v u) refl none
  where
    either : (b : Bool) → datum_eq v u ≡ b → (b || list_any (datum_eq v) vs) ≡ false → datum_eq v w ≡ false
    either true same holds = cc
    either false same holds = sym (ap (λ o. option_map_or (λ (x : Datum). datum_eq v x) o false) is) ∙ same
not_any v (u ∷ vs) (suc m) w none is = not_any v vs m w (either (datum_eq v u) none) is
  where
    either : (b : Bool) → (b || list_any (datum_eq v) vs) ≡ false → list_any (datum_eq v) vs ≡ false
    either true holds = cc
    either false holds = holds

pub absent_from : (v : Datum) (vs : List Datum) (es : List (Datum × ℕ)) → list_any (datum_eq v) vs ≡ false → AllByRecursion (IsNamed vs) es → IsAbsent v es
absent_from v vs [] none names = tt
absent_from v vs (e ∷ es) none names = (λ same. true_false (sym (ap is_eq same) ∙ not_any v vs e.1 e.0 none names.0), absent_from v vs es none names.1)

-- ---- the numbers of the values between two

pub split_drop : (p : ℕ → Bool) (xs : List ℕ) (k : ℕ) → IsSplit p xs k → drop k xs ≡ filter (λ x. not (p x)) xs
split_drop p [] zero s = refl
split_drop p [] (suc k) s = refl
split_drop p (x ∷ xs) zero s =
    ap (λ ys. x ∷ ys) (split_drop p xs 0 (rest_split p x xs s))
    ∙ sym (ap (λ b. cond (not b) (x ∷ filter (λ y. not (p y)) xs) (filter (λ y. not (p y)) xs)) (head_behind p x xs s))
split_drop p (x ∷ xs) (suc k) s =
    split_drop p xs k (tail_split p x xs k s)
    ∙ sym (ap (λ b. cond (not b) (x ∷ filter (λ y. not (p y)) xs) (filter (λ y. not (p y)) xs)) (head_before p x xs k s))

from_named : (vs : List Datum) (lo : Option Datum) (e : Datum × ℕ) → IsNamed vs e → is_from vs lo e.1 ≡ option_map_or (λ least. not (is_lt (datum_cmp e.0 least))) lo true
from_named vs None e is = refl
from_named vs (Some least) e is = ap not (at_named vs (is_before least false) e is ∙ lt (datum_cmp e.0 least))
  where
    lt : (o : Ordering) → match_ordering o true false false ≡ is_lt o
    lt Less = refl
    lt Equal = refl
    lt Greater = refl

to_named : (vs : List Datum) (hi : Option Datum) (e : Datum × ℕ) → IsNamed vs e → is_to vs hi e.1 ≡ option_map_or (λ greatest. not (is_gt (datum_cmp e.0 greatest))) hi true
to_named vs None e is = refl
to_named vs (Some greatest) e is = at_named vs (is_before greatest true) e is ∙ le (datum_cmp e.0 greatest)
  where
    le : (o : Ordering) → match_ordering o true true false ≡ not (is_gt o)
    le Less = refl
    le Equal = refl
    le Greater = refl

both : (a b : Bool) (n : ℕ) (fs : List (Datum × ℕ)) (e : Datum × ℕ) (p q : ℕ → Bool) (rest : List ℕ) → p e.1 ≡ a → q e.1 ≡ b → filter q rest ≡ values_of fs
    → filter q (cond a (e.1 ∷ rest) rest) ≡ values_of (cond (a && b) (e ∷ fs) fs)
both true true n fs e p q rest isp isq same = ap (λ b. cond b (e.1 ∷ filter q rest) (filter q rest)) isq ∙ ap (λ ns. e.1 ∷ ns) same
both true false n fs e p q rest isp isq same = ap (λ b. cond b (e.1 ∷ filter q rest) (filter q rest)) isq ∙ same
both false true n fs e p q rest isp isq same = same
both false false n fs e p q rest isp isq same = same

between_from : (vs : List Datum) (lo hi : Option Datum) (es : List (Datum × ℕ)) → AllByRecursion (IsNamed vs) es
    → filter (is_to vs hi) (filter (is_from vs lo) (values_of es)) ≡ values_of (filter (λ rank. is_between lo hi rank.0) es)
between_from vs lo hi [] names = refl
between_from vs lo hi (e ∷ es) names =
    ap (λ b. filter (is_to vs hi) (cond b (e.1 ∷ filter (is_from vs lo) (values_of es)) (filter (is_from vs lo) (values_of es)))) (from_named vs lo e names.0)
    ∙ both (option_map_or (λ least. not (is_lt (datum_cmp e.0 least))) lo true) (option_map_or (λ greatest. not (is_gt (datum_cmp e.0 greatest))) hi true) 0
    (filter (λ rank. is_between lo hi rank.0) es) e (is_from vs lo) (is_to vs hi) (filter (is_from vs lo) (values_of es)) (from_named vs lo e names.0) (to_named vs hi e names.0) (between_from vs lo hi es names.1)

pub between_is : (vs : List Datum) (lo hi : Option Datum) → filter (is_to vs hi) (filter (is_from vs lo) (values_of (ranked vs))) ≡ numbers_between lo hi vs
between_is vs lo hi = between_from vs lo hi (ranked vs) (named vs)

-- ---- the order of the values, one more and one less

at_front : (xs ys : List Datum) (i : ℕ) (x : Datum) → slice_get xs i ≡ Some x → slice_get (xs ++ ys) i ≡ Some x
at_front [] ys i x is = cc
at_front (y ∷ xs) ys zero x is = is
at_front (y ∷ xs) ys (suc i) x is = at_front xs ys i x is

at_end : (xs : List Datum) (x : Datum) → slice_get (xs ++ x ∷ []) (length xs) ≡ Some x
at_end [] x = refl
at_end (y ∷ xs) x = at_end xs x

still_named : (ws : List Datum) (v : Datum) (es : List (Datum × ℕ)) → AllByRecursion (IsNamed ws) es → AllByRecursion (IsNamed (ws ++ v ∷ [])) es
still_named ws v [] names = tt
still_named ws v (e ∷ es) names = (at_front ws (v ∷ []) e.1 e.0 names.0, still_named ws v es names.1)

pub ordered_more : (vs : List Datum) (v : Datum) (k : ℕ) (ns new : List ℕ) → list_any (datum_eq v) vs ≡ false → ns ≡ values_of (ranked vs) → IsSplit (stands vs v false) ns k → new ≡ insert ns k (length vs)
    → new ≡ values_of (ranked (vs ++ v ∷ []))
ordered_more vs v k ns new none ordered split is =
    is ∙ ap (λ xs. insert xs k (length vs)) ordered
    ∙ sym (insert_at vs v false (length vs) (ranked vs) k (named vs) (absent_from v vs (ranked vs) none (named vs)) (subst (λ (xs : List ℕ). IsSplit (stands vs v false) xs k) ordered split))
    ∙ sym (ap values_of (ranked_more vs v))

-- where the last value stands
last_split : (ws : List Datum) (v : Datum) (k : ℕ) (ns : List ℕ) → ns ≡ values_of (ranked (ws ++ v ∷ [])) → IsSplit (stands (ws ++ v ∷ []) v true) ns k
    → IsSplit (stands (ws ++ v ∷ []) v true) (values_of (insert_entry datum_cmp (ranked ws) v (length ws))) k
last_split ws v k ns ordered split = subst (λ (xs : List ℕ). IsSplit (stands (ws ++ v ∷ []) v true) xs k) (ordered ∙ ap values_of (ranked_more ws v)) split

pub ordered_some : (ws : List Datum) (v : Datum) (k : ℕ) (ns : List ℕ) → list_any (datum_eq v) ws ≡ false → ns ≡ values_of (ranked (ws ++ v ∷ [])) → IsSplit (stands (ws ++ v ∷ []) v true) ns k → k ≡ 0 → ⊥
ordered_some ws v k ns none ordered split nothing =
    some_before (ws ++ v ∷ []) v (length ws) (ranked ws) (still_named ws v (ranked ws) (named ws)) (at_end ws v) (absent_from v ws (ranked ws) none (named ws))
    (subst (λ (i : ℕ). IsSplit (stands (ws ++ v ∷ []) v true) (values_of (insert_entry datum_cmp (ranked ws) v (length ws))) i) nothing (last_split ws v k ns ordered split))

pub ordered_less : (ws : List Datum) (v : Datum) (k j : ℕ) (ns : List ℕ) → list_any (datum_eq v) ws ≡ false → ns ≡ values_of (ranked (ws ++ v ∷ [])) → IsSplit (stands (ws ++ v ∷ []) v true) ns k → k ≡ suc j
    → remove ns j ≡ values_of (ranked ws)
ordered_less ws v k j ns none ordered split at =
    ap (λ xs. remove xs j) (ordered ∙ ap values_of (ranked_more ws v))
    ∙ remove_at (ws ++ v ∷ []) v (length ws) (ranked ws) j (still_named ws v (ranked ws) (named ws)) (at_end ws v) (absent_from v ws (ranked ws) none (named ws))
    (subst (λ (i : ℕ). IsSplit (stands (ws ++ v ∷ []) v true) (values_of (insert_entry datum_cmp (ranked ws) v (length ws))) i) at (last_split ws v k ns ordered split))

-- those that stand before a value come first
pub ordered_parted : (vs : List Datum) (v : Datum) (with : Bool) (ns : List ℕ) → ns ≡ values_of (ranked vs) → IsPartitionedBy (stands vs v with) ns
ordered_parted vs v with ns ordered = subst (λ (xs : List ℕ). IsPartitionedBy (stands vs v with) xs) (sym ordered) (parted vs v with)

-- ---- the walk from a least value to a greatest one

pub all_from : (vs : List Datum) (ns : List ℕ) → filter (is_from vs None) ns ≡ ns
all_from vs [] = refl
all_from vs (n ∷ ns) = ap (λ xs. n ∷ xs) (all_from vs ns)

-- one number that stands
pub step_yes : (p : ℕ → Bool) (ns : List ℕ) (k m n : ℕ) → slice_get ns k ≡ Some n → m ≡ k + 1 → p n ≡ true → filter p (drop k ns) ≡ n ∷ filter p (drop m ns)
step_yes p [] k m n is next passes = cc
step_yes p (x ∷ ns) zero m n is next passes =
    ap (λ b. cond b (x ∷ filter p ns) (filter p ns)) (ap (λ o. option_map_or p o false) is ∙ passes)
    ∙ ap (λ y. y ∷ filter p ns) (ap (λ o. option_map_or (λ (y : ℕ). y) o 0) is)
    ∙ ap (λ i. n ∷ filter p (drop i (x ∷ ns))) (sym next)
step_yes p (x ∷ ns) (suc k) m n is next passes =
    let at : suc (k + 1) ≡ m = omega (arith, next) in
    step_yes p ns k (k + 1) n is refl passes
    ∙ ap (λ i. n ∷ filter p (drop i (x ∷ ns))) at

none_pass : (p : ℕ → Bool) (ns : List ℕ) → ((i d : ℕ) → i < length ns → p (get_or ns i d) ≡ false) → filter p ns ≡ []
none_pass p [] fails = refl
none_pass p (x ∷ ns) fails =
    ap (λ b. cond b (x ∷ filter p ns) (filter p ns)) (fails 0 0 (omega arith)) ∙ none_pass p ns (λ i d there. fails (suc i) d (omega (arith, there)))

not_true : (b : Bool) → (b ≡ true → ⊥) → b ≡ false
not_true true no_more = absurd (no_more refl)
not_true false no_more = refl

-- one that does not, and so none behind it
pub step_no : (p : ℕ → Bool) (ns : List ℕ) (k n : ℕ) → IsPartitionedBy p ns → slice_get ns k ≡ Some n → p n ≡ false → filter p (drop k ns) ≡ []
step_no p [] k n parts is fails = cc
step_no p (x ∷ ns) zero n parts is fails =
    none_pass p (x ∷ ns) (λ i d there. not_true (p (get_or (x ∷ ns) i d)) (λ passes. true_false (sym (parts 0 i d (omega arith) there passes) ∙ ap (λ o. option_map_or p o false) is ∙ fails)))
step_no p (x ∷ ns) (suc k) n parts is fails =
    step_no p ns k n (λ i j d order there passes. parts (suc i) (suc j) d (omega (arith, order)) (omega (arith, there)) passes) is fails

pub step_end : (p : ℕ → Bool) (ns : List ℕ) (k : ℕ) → length ns ≤ k → filter p (drop k ns) ≡ []
step_end p [] zero past = refl
step_end p [] (suc k) past = refl
step_end p (x ∷ ns) zero past = absurd (omega (arith, past))
step_end p (x ∷ ns) (suc k) past = step_end p ns k (omega (arith, past))

-- the numbers up to a greatest value come first
pub parted_to : (vs : List Datum) (hi : Option Datum) (ns : List ℕ) → ns ≡ values_of (ranked vs) → IsPartitionedBy (is_to vs hi) ns
parted_to vs None ns ordered = λ i j d order there passes. refl
parted_to vs (Some greatest) ns ordered = ordered_parted vs greatest true ns ordered

no_ranks : ranked [] ≡ []
unfolding ranked
no_ranks = refl

-- no values
pub ordered_none : (ns : List ℕ) (vs : List Datum) → ns ≡ [] → vs ≡ [] → ns ≡ values_of (ranked vs)
ordered_none ns vs is none = is ∙ ap values_of (sym (ap ranked none ∙ no_ranks))
