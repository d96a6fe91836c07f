-- How objects are named: the key link of an object, and the way up to the root.
use Rattle.std.proofs.Common.{◌≡◌, ◌≢◌, ℕ, zero, suc, ◌+◌, ◌-◌, ◌<◌, ◌≤◌, Bool, true, false, cond, List, [], ◌∷◌, ◌++◌, length, get_or, drop, take, Option, Some, None, refl, sym, ap, ◌∙◌, arith, codes}
use Rattle.std.specs.Prelude.{slice_get, find, if◌then◌else◌, unwrap_or, nat_eq}
use Rattle.std.proofs.lemmas.Option.{slice_get_within}
use Rattle.gd_grammar.specs.Maybe.{◌>>=◌}
use Rattle.gd_prim.specs.declared.Primitive.{Primitive}
use Rattle.gd_prim.specs.Builtin.{root_place}
use Rattle.gd_prim.specs.Live.{value_at, end_at, text_of}
use Rattle.gd_store.specs.Scan.{places_from}
use Rattle.gd_defs.specs.Ids.{naming_link, path_up, id_text, guid}
use Rattle.gd_resolve.specs.Way.{key_from}
use Rattle.gd_growing.proofs.Behind.{at_front, drop_get, places_on}

-- ---- the first of so many that passes

-- the first one is looked at
next_found : (test : ℕ → Bool) (m x : ℕ) (xs : List ℕ) → m ≢ 0 → test x ≡ true → find test (take m (x ∷ xs)) ≡ Some x
next_found test zero x xs some passes = absurd (some refl)
next_found test (suc m) x xs some passes = ap (λ b. cond b (Some x) (find test (take m xs))) passes

next_passed : (test : ℕ → Bool) (m x : ℕ) (xs : List ℕ) → m ≢ 0 → test x ≡ false → find test (take m (x ∷ xs)) ≡ find test (take (m - 1) xs)
next_passed test zero x xs some passes = absurd (some refl)
next_passed test (suc m) x xs some passes = ap (λ b. cond b (Some x) (find test (take m xs))) passes ∙ ap (λ n. find test (take n xs)) (let same : m ≡ suc m - 1 = omega arith in same)

-- over the rest of a list, place by place: a link that passes, one that does not, and none
pub rest_found : (test : ℕ → Bool) (key : Primitive → Bool) (xs : List Primitive) (n i k m : ℕ) (x : Primitive) → k ≡ n + i → i < length xs → x ≡ get_or xs i x → m ≢ 0 → key x ≡ true → test k ≡ true
    → find test (take m (places_from key (n + i) (drop i xs))) ≡ Some k
rest_found test key xs n i k m x at within is some link passes =
    ap (λ ps. find test (take m ps)) (places_on key xs n i x true within is (sym link))
    ∙ next_found test m (n + i) (places_from key (n + (i + 1)) (drop (i + 1) xs)) some (ap test (sym at) ∙ passes)
    ∙ ap Some (sym at)

pub rest_passed : (test : ℕ → Bool) (key : Primitive → Bool) (xs : List Primitive) (n i k m : ℕ) (x : Primitive) → k ≡ n + i → i < length xs → x ≡ get_or xs i x → m ≢ 0 → key x ≡ true → test k ≡ false
    → find test (take m (places_from key (n + i) (drop i xs))) ≡ find test (take (m - 1) (places_from key (n + (i + 1)) (drop (i + 1) xs)))
rest_passed test key xs n i k m x at within is some link passes =
    ap (λ ps. find test (take m ps)) (places_on key xs n i x true within is (sym link))
    ∙ next_passed test m (n + i) (places_from key (n + (i + 1)) (drop (i + 1) xs)) some (ap test (sym at) ∙ passes)

pub rest_other : (test : ℕ → Bool) (key : Primitive → Bool) (xs : List Primitive) (n i m : ℕ) (x : Primitive) → i < length xs → x ≡ get_or xs i x → key x ≡ false
    → find test (take m (places_from key (n + i) (drop i xs))) ≡ find test (take m (places_from key (n + (i + 1)) (drop (i + 1) xs)))
rest_other test key xs n i m x within is link = ap (λ ps. find test (take m ps)) (places_on key xs n i x false within is (sym link))

-- over the front of two lists
front_left : (xs ys : List ℕ) (k x : ℕ) → slice_get xs k ≡ Some x → drop k (xs ++ ys) ≡ x ∷ drop (k + 1) (xs ++ ys)
front_left xs ys k x at = drop_get (xs ++ ys) k x (at_front xs ys k (slice_get_within xs k x at) ∙ at)

pub front_found : (test : ℕ → Bool) (xs ys : List ℕ) (k x m : ℕ) → slice_get xs k ≡ Some x → m ≢ 0 → test x ≡ true → find test (take m (drop k (xs ++ ys))) ≡ Some x
front_found test xs ys k x m at some passes = ap (λ ps. find test (take m ps)) (front_left xs ys k x at) ∙ next_found test m x (drop (k + 1) (xs ++ ys)) some passes

pub front_passed : (test : ℕ → Bool) (xs ys : List ℕ) (k x m : ℕ) → slice_get xs k ≡ Some x → m ≢ 0 → test x ≡ false
    → find test (take m (drop k (xs ++ ys))) ≡ find test (take (m - 1) (drop (k + 1) (xs ++ ys)))
front_passed test xs ys k x m at some passes = ap (λ ps. find test (take m ps)) (front_left xs ys k x at) ∙ next_passed test m x (drop (k + 1) (xs ++ ys)) some passes

-- at the end of the front the rest is left
pub front_ended : (xs ys : List ℕ) (k : ℕ) → k ≤ length xs → slice_get xs k ≡ None → drop k (xs ++ ys) ≡ ys
front_ended [] ys zero within none = refl
front_ended [] ys (suc k) within none = absurd (omega (arith, within))
front_ended (x ∷ xs) ys zero within none = absurd (cc)
front_ended (x ∷ xs) ys (suc k) within none = front_ended xs ys k (omega (arith, within)) none

-- ---- the way up

-- a key and its namespace
abbrev keyed : List ℕ → ℕ → Option (List ℕ × ℕ)
keyed key namespace = Some (key, namespace)

path_more : (prims : List Primitive) (n o : ℕ) (text : List ℕ) → nat_eq o root_place ≡ false
    → path_up prims (suc n) o text ≡ (naming_link prims o >>= λ k. text_of (value_at prims k) >>= λ key. end_at (λ p. p.right) prims k >>= λ namespace. path_up prims n namespace (codes "/" ++ key ++ text))
path_more prims n o text other = ap (λ b. if b then Some text else (naming_link prims o >>= λ k. text_of (value_at prims k) >>= λ key. end_at (λ p. p.right) prims k >>= λ namespace. path_up prims n namespace (codes "/" ++ key ++ text))) other

path_step : (prims : List Primitive) (levels o k : ℕ) (text : List ℕ) → nat_eq o root_place ≡ false → levels ≢ 0 → naming_link prims o ≡ Some k
    → path_up prims levels o text ≡ (text_of (value_at prims k) >>= λ key. end_at (λ p. p.right) prims k >>= λ namespace. path_up prims (levels - 1) namespace (codes "/" ++ key ++ text))
path_step prims zero o k text other some link = absurd (some refl)
path_step prims (suc n) o k text other some link =
    path_more prims n o text other
    ∙ ap (λ l. l >>= λ k. text_of (value_at prims k) >>= λ key. end_at (λ p. p.right) prims k >>= λ namespace. path_up prims n namespace (codes "/" ++ key ++ text)) link
    ∙ ap (λ m. text_of (value_at prims k) >>= λ key. end_at (λ p. p.right) prims k >>= λ namespace. path_up prims m namespace (codes "/" ++ key ++ text)) (let same : n ≡ suc n - 1 = omega arith in same)

same_pair : (a b : List ℕ × ℕ) → Some a ≡ Some b → a ≡ b
same_pair a b is = cc

-- where the link that names the object has no key, there is none
pub path_unkeyed : (prims : List Primitive) (levels o k : ℕ) (text : List ℕ) → nat_eq o root_place ≡ false → levels ≢ 0 → naming_link prims o ≡ Some k → key_from prims k ≡ None
    → path_up prims levels o text ≡ None
path_unkeyed prims levels o k text other some link none = path_step prims levels o k text other some link ∙ by (text_of (value_at prims k)) (end_at (λ p. p.right) prims k) none
  where
    by : (t : Option (List ℕ)) (n : Option ℕ) → (t >>= λ key. n >>= λ namespace. keyed key namespace) ≡ None → (t >>= λ key. n >>= λ namespace. path_up prims (levels - 1) namespace (codes "/" ++ key ++ text)) ≡ None
    by None n is = refl
    by (Some t) None is = refl
    by (Some t) (Some n) is = absurd (cc)

-- else it goes on from the namespace
pub path_on : (prims : List Primitive) (levels o k : ℕ) (text key : List ℕ) (namespace : ℕ) → nat_eq o root_place ≡ false → levels ≢ 0 → naming_link prims o ≡ Some k → key_from prims k ≡ Some (key, namespace)
    → path_up prims levels o text ≡ path_up prims (levels - 1) namespace (codes "/" ++ key ++ text)
path_on prims levels o k text key namespace other some link named = path_step prims levels o k text other some link ∙ by (text_of (value_at prims k)) (end_at (λ p. p.right) prims k) named
  where
    by : (t : Option (List ℕ)) (n : Option ℕ) → (t >>= λ key. n >>= λ namespace. keyed key namespace) ≡ keyed key namespace
        → (t >>= λ key. n >>= λ namespace. path_up prims (levels - 1) namespace (codes "/" ++ key ++ text)) ≡ path_up prims (levels - 1) namespace (codes "/" ++ key ++ text)
    by None n is = absurd (cc)
    by (Some t) None is = absurd (cc)
    by (Some t) (Some n) is =
        let same = same_pair (t, n) (key, namespace) is in
        ap (λ (p : List ℕ × ℕ). path_up prims (levels - 1) p.1 (codes "/" ++ p.0 ++ text)) same

-- the id of an object that has a path, and of one that has none
id_text_other : (prims : List Primitive) (o : ℕ) → nat_eq o root_place ≡ false → id_text prims o ≡ unwrap_or (path_up prims 16 o []) (guid o)
id_text_other prims o other = ap (λ b. if b then codes "/" else unwrap_or (path_up prims 16 o []) (guid o)) other

pub id_text_path : (prims : List Primitive) (o : ℕ) (path : List ℕ) → nat_eq o root_place ≡ false → path_up prims 16 o [] ≡ Some path → path ≡ id_text prims o
id_text_path prims o path other is = sym (id_text_other prims o other ∙ ap (λ p. unwrap_or p (guid o)) is)

pub id_text_guid : (prims : List Primitive) (o : ℕ) → nat_eq o root_place ≡ false → path_up prims 16 o [] ≡ None → guid o ≡ id_text prims o
id_text_guid prims o other is = sym (id_text_other prims o other ∙ ap (λ p. unwrap_or p (guid o)) is)
