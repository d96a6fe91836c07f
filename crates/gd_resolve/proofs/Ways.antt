-- The link by which an object is named, and the way up from it.
use Rattle.std.proofs.Common.{◌≡◌, ◌<◌, ℕ, zero, suc, ◌+◌, ◌-◌, List, [], ◌∷◌, ◌++◌, take, drop, Bool, true, false, cond, Option, Some, None, option_map, refl, ap, sym, ◌∙◌, arith, add-one, append_assoc, append-nil}
use Rattle.std.specs.Prelude.{slice_get, find, if◌then◌else◌, nat_eq}
use Rattle.gd_grammar.specs.Maybe.{◌>>=◌}
use Rattle.gd_prim.specs.declared.Primitive.{Primitive}
use Rattle.gd_prim.specs.Builtin.{root_place}
use Rattle.gd_prim.specs.Live.{value_at, end_at, text_of}
use Rattle.gd_defs.specs.Ids.{naming_link}
use Rattle.gd_resolve.specs.Way.{namespace_from, links_up}

-- ---- the first eight

at_front : (n k : ℕ) (xs : List ℕ) (x : ℕ) → k < n → slice_get xs k ≡ Some x → drop k (take n xs) ≡ x ∷ drop (suc k) (take n xs)
at_front zero k xs x below is = absurd (omega arith)
at_front (suc n) k [] x below is = cc
at_front (suc n) zero (y ∷ xs) x below is = let same : y ≡ x = cc in rw same refl
at_front (suc n) (suc k) (y ∷ xs) x below is = at_front n k xs x (omega arith) is

-- a search among the first of a list looks at the one at a place, and then at those behind it
pub find-place : (test : ℕ → Bool) (n k : ℕ) (xs : List ℕ) (x : ℕ) → k < n → slice_get xs k ≡ Some x → test x ≡ false → find test (drop k (take n xs)) ≡ find test (drop (k + 1) (take n xs))
find-place test n k xs x below is other =
    ap (find test) (at_front n k xs x below is) ∙ ap (λ b. cond b (Some x) (find test (drop (suc k) (take n xs)))) other ∙ rw add-one refl

-- ---- the way

-- links in front of those that lead up from a place
abbrev pub Led : List Primitive → ℕ → ℕ → ℕ → List ℕ → Type 0
Led prims o left place links = links_up prims 16 o ≡ option_map (λ ks. links ++ ks) (links_up prims left place)

-- at first there are none
pub led_first : (prims : List Primitive) (o left place : ℕ) (links : List ℕ) → left ≡ 16 → place ≡ o → links ≡ [] → Led prims o left place links
led_first prims o left place links full same none = rw (full, same, none) (by (links_up prims 16 o))
  where
    by : (found : Option (List ℕ)) → found ≡ option_map (λ ks. [] ++ ks) found
    by None = refl
    by (Some ks) = refl

-- the root has the empty way
at_root : (prims : List Primitive) (n o : ℕ) → nat_eq o root_place ≡ true → links_up prims n o ≡ Some []
at_root prims zero o root = rw root refl
at_root prims (suc n) o root = rw root refl

-- so at the root the links are those of the object
pub led_all : (prims : List Primitive) (o left place : ℕ) (links : List ℕ) → Led prims o left place links → nat_eq place root_place ≡ true → Some links ≡ links_up prims 16 o
led_all prims o left place links led root = ap Some (sym (append-nil links)) ∙ sym (led ∙ ap (option_map (λ ks. links ++ ks)) (at_root prims left place root))

-- where no step is left, there is no way from another place
pub led_far : (prims : List Primitive) (o left place : ℕ) (links : List ℕ) → Led prims o left place links → left ≡ 0 → nat_eq place root_place ≡ false → None ≡ links_up prims 16 o
led_far prims o left place links led spent other =
    sym (led ∙ ap (λ n. option_map (λ ks. links ++ ks) (links_up prims n place)) spent ∙ ap (λ b. option_map (λ ks. links ++ ks) (if b then Some [] else None)) other)

-- another place has the way of its namespace behind its link
up_step : (prims : List Primitive) (n o : ℕ) → nat_eq o root_place ≡ false → links_up prims (suc n) o ≡ (naming_link prims o >>= λ k. namespace_from prims k >>= λ namespace. option_map (λ ks. k ∷ ks) (links_up prims n namespace))
up_step prims n o other = rw other (by (naming_link prims o))
  where
    each : (k : ℕ) (key : Option (List ℕ)) (namespace : Option ℕ) → (key >>= λ key. namespace >>= λ namespace. option_map (λ ks. k ∷ ks) (links_up prims n namespace))
        ≡ ((key >>= λ key. namespace) >>= λ namespace. option_map (λ ks. k ∷ ks) (links_up prims n namespace))
    each k None namespace = refl
    each k (Some key) namespace = refl

    by : (link : Option ℕ) → (link >>= λ k. text_of (value_at prims k) >>= λ key. end_at (λ p. p.right) prims k >>= λ namespace. option_map (λ ks. k ∷ ks) (links_up prims n namespace))
        ≡ (link >>= λ k. namespace_from prims k >>= λ namespace. option_map (λ ks. k ∷ ks) (links_up prims n namespace))
    by None = refl
    by (Some k) = each k (text_of (value_at prims k)) (end_at (λ p. p.right) prims k)

before : (left : ℕ) → 0 < left → left ≡ suc (left - 1)
before left some = omega (arith, some)

up_next : (prims : List Primitive) (left place : ℕ) → 0 < left → nat_eq place root_place ≡ false
    → links_up prims left place ≡ (naming_link prims place >>= λ k. namespace_from prims k >>= λ namespace. option_map (λ ks. k ∷ ks) (links_up prims (left - 1) namespace))
up_next prims left place some other = ap (λ n. links_up prims n place) (before left some) ∙ up_step prims (left - 1) place other

-- without a link, and without a text or a namespace there, there is none
pub led_unlinked : (prims : List Primitive) (o left place : ℕ) (links : List ℕ) → Led prims o left place links → 0 < left → nat_eq place root_place ≡ false → naming_link prims place ≡ None → None ≡ links_up prims 16 o
led_unlinked prims o left place links led some other link =
    sym (led ∙ ap (option_map (λ ks. links ++ ks)) (up_next prims left place some other
    ∙ ap (λ l. l >>= λ k. namespace_from prims k >>= λ namespace. option_map (λ ks. k ∷ ks) (links_up prims (left - 1) namespace)) link))

pub led_unnamed : (prims : List Primitive) (o left place k : ℕ) (links : List ℕ) → Led prims o left place links → 0 < left → nat_eq place root_place ≡ false → naming_link prims place ≡ Some k → namespace_from prims k ≡ None → None ≡ links_up prims 16 o
led_unnamed prims o left place k links led some other link namespace =
    sym (led ∙ ap (option_map (λ ks. links ++ ks)) (up_next prims left place some other
    ∙ ap (λ l. l >>= λ k. namespace_from prims k >>= λ namespace. option_map (λ ks. k ∷ ks) (links_up prims (left - 1) namespace)) link
    ∙ ap (λ l. l >>= λ namespace. option_map (λ ks. k ∷ ks) (links_up prims (left - 1) namespace)) namespace))

-- with both, the way goes on from the namespace
pub led_on : (prims : List Primitive) (o left place k above : ℕ) (links more : List ℕ) → Led prims o left place links → 0 < left → nat_eq place root_place ≡ false → naming_link prims place ≡ Some k → namespace_from prims k ≡ Some above
    → more ≡ links ++ k ∷ [] → Led prims o (left - 1) above more
led_on prims o left place k above links more led some other link namespace pushed =
    led ∙ ap (option_map (λ ks. links ++ ks)) (up_next prims left place some other
    ∙ ap (λ l. l >>= λ k. namespace_from prims k >>= λ namespace. option_map (λ ks. k ∷ ks) (links_up prims (left - 1) namespace)) link
    ∙ ap (λ l. l >>= λ namespace. option_map (λ ks. k ∷ ks) (links_up prims (left - 1) namespace)) namespace)
    ∙ by (links_up prims (left - 1) above)
    ∙ ap (λ xs. option_map (λ ks. xs ++ ks) (links_up prims (left - 1) above)) (sym pushed)
  where
    by : (found : Option (List ℕ)) → option_map (λ ks. links ++ ks) (option_map (λ ks. k ∷ ks) found) ≡ option_map (λ ks. (links ++ k ∷ []) ++ ks) found
    by None = refl
    by (Some ks) = ap Some (sym (append_assoc links (k ∷ []) ks))
