-- The keys of a path.
use Rattle.std.proofs.Common.{◌≡◌, ◌≤◌, ℕ, List, [], ◌∷◌, length, map, take, drop, Bool, true, false, ◌&&◌, Option, Some, None, is_some, refl, ap, ◌∙◌, arith, codes, Bor}
use Rattle.std.specs.Prelude.{if◌then◌else◌, bytes_eq, nat_le, nat_eq}
use Rattle.std.specs.List.{list_all, slice_split, starts_with}
use Rattle.std.proofs.lemmas.Bool.Decides.{nat_tests}
use Rattle.std.proofs.lemmas.List.{take_all, length-take-le, length-map}
use Rattle.std.proofs.lemmas.List.Folds.{list_all-map}
use Rattle.std.proofs.lemmas.Slice.Eq.{bytes_eq-Decides}
use Rattle.gd_grammar.specs.Maybe.{◌>>=◌}
use Rattle.gd_defs.specs.Ids.{is_key, is_slash, id_keys, path_keys}

-- of parts that all are keys, at most 16
abbrev at_most_16 : List (List ℕ) → Option (List (List ℕ))
at_most_16 parts = (if list_all is_key parts then Some parts else None) >>= λ keys. if nat_le (length keys) 16 then Some keys else None

-- tested in the other order
turned : (parts : List (List ℕ)) (all few : Bool) → list_all is_key parts ≡ all → nat_le (length parts) 16 ≡ few → at_most_16 parts ≡ (if few && all then Some parts else None)
turned parts true few keys is = rw (keys, is) (chosen few)
  where
    chosen : (b : Bool) → (if b then Some parts else None) ≡ (if b && true then Some parts else None)
    chosen true = refl
    chosen false = refl
turned parts false true keys is = rw keys refl
turned parts false false keys is = rw keys refl

-- the first 17 of the parts say whether there are at most 16 keys, and which
few_keys : (parts : List (List ℕ)) (few : Bool) → nat_le (length parts) 16 ≡ few
    → at_most_16 parts ≡ (if nat_le (length (take 17 parts)) 16 && list_all is_key (take 17 parts) then Some (take 17 parts) else None)
few_keys parts true is =
    let short : length parts ≤ 17 = grind (arith, nat_tests) in
    rw (take_all 17 parts short) (turned parts (list_all is_key parts) (nat_le (length parts) 16) refl refl)
few_keys parts false is =
    let long : 17 ≤ length parts = grind (arith, nat_tests) in
    let count : length (take 17 parts) ≡ 17 = length-take-le 17 parts long in
    rw count (turned parts (list_all is_key parts) false refl is)

-- the keys of a text behind a slash
behind_slash : (text : List ℕ) (keys : List (List ℕ)) → bytes_eq (47 ∷ text) (codes "/") ≡ false → keys ≡ take 17 (slice_split is_slash text)
    → id_keys (47 ∷ text) ≡ (if nat_le (length keys) 16 && list_all is_key keys then Some keys else None)
behind_slash [] keys other is = cc
behind_slash (c ∷ text) keys other is = rw is (few_keys (slice_split is_slash (c ∷ text)) (nat_le (length (slice_split is_slash (c ∷ text))) 16) refl)

slash_first : (c : ℕ) (text : List ℕ) → starts_with nat_eq (c ∷ text) (codes "/") ≡ true → c ≡ 47
slash_first c text starts = let first : codes "/" ≡ c ∷ [] = (bytes_eq-Decides (codes "/") (c ∷ [])).0 starts in cc

-- the keys of a text that begins with a slash and is no slash alone
pub id_keys-parts : (text : List ℕ) (keys : List (List ℕ)) → bytes_eq text (codes "/") ≡ false → starts_with nat_eq text (codes "/") ≡ true → keys ≡ take 17 (drop 1 (slice_split is_slash text))
    → id_keys text ≡ (if nat_le (length keys) 16 && list_all is_key keys then Some keys else None)
id_keys-parts [] keys other starts is = cc
id_keys-parts (c ∷ text) keys other starts is = by c (slash_first c text starts) other is
  where
    by : (c : ℕ) → c ≡ 47 → bytes_eq (c ∷ text) (codes "/") ≡ false → keys ≡ take 17 (drop 1 (slice_split is_slash (c ∷ text)))
        → id_keys (c ∷ text) ≡ (if nat_le (length keys) 16 && list_all is_key keys then Some keys else None)
    by c slash = rw slash (behind_slash text keys)

-- the same over borrowed keys
pub id_keys-tested : (text : List ℕ) (keys : List (Bor (List ℕ))) (passed : Bool) → bytes_eq text (codes "/") ≡ false → starts_with nat_eq text (codes "/") ≡ true
    → map (λ k. k.now) keys ≡ take 17 (drop 1 (slice_split is_slash text)) → (nat_le (length keys) 16 && list_all (λ k. is_key k.now) keys) ≡ passed
    → id_keys text ≡ (if passed then Some (map (λ k. k.now) keys) else None)
id_keys-tested text keys passed other starts is test =
    id_keys-parts text (map now_of keys) other starts is
    ∙ rw (length-map, list_all-map is_key now_of keys, test) refl
  where
    now_of : Bor (List ℕ) → List ℕ
    now_of k = k.now

-- whether there are such keys
pub is_path-parts : (text : List ℕ) → bytes_eq text (codes "/") ≡ false → starts_with nat_eq text (codes "/") ≡ true
    → (let keys = take 17 (drop 1 (slice_split is_slash text)) in is_some (id_keys text) ≡ (nat_le (length keys) 16 && list_all is_key keys))
is_path-parts text other starts = ap is_some (id_keys-parts text keys other starts refl) ∙ there (nat_le (length keys) 16 && list_all is_key keys)
  where
    keys : List (List ℕ)
    keys = take 17 (drop 1 (slice_split is_slash text))

    there : (b : Bool) → is_some (if b then Some keys else None) ≡ b
    there true = refl
    there false = refl

-- ---- paths of any number of keys

-- what begins with a slash is a path of keys where the parts behind it are
pub key_path-parts : (text : List ℕ) → starts_with nat_eq text (codes "/") ≡ true → is_some (path_keys text) ≡ list_all is_key (drop 1 (slice_split is_slash text))
key_path-parts [] starts = cc
key_path-parts (c ∷ text) starts = by c (slash_first c text starts)
  where
    there : (b : Bool) (keys : List (List ℕ)) → is_some (if b then Some keys else None) ≡ b
    there true keys = refl
    there false keys = refl

    by : (c : ℕ) → c ≡ 47 → is_some (path_keys (c ∷ text)) ≡ list_all is_key (drop 1 (slice_split is_slash (c ∷ text)))
    by c slash = rw slash (there (list_all is_key (slice_split is_slash text)) (slice_split is_slash text))

-- what does not is none
pub key_path-other : (text : List ℕ) → starts_with nat_eq text (codes "/") ≡ false → is_some (path_keys text) ≡ false
key_path-other [] starts = refl
key_path-other (c ∷ text) starts = by (is_slash c) refl
  where
    by : (b : Bool) → is_slash c ≡ b → is_some (path_keys (c ∷ text)) ≡ false
    by true slash = absurd (let is : c ≡ 47 = grind (arith, nat_tests) in other is starts)
      where
        other : {c : ℕ} → c ≡ 47 → starts_with nat_eq (c ∷ text) (codes "/") ≡ false → ⊥
        other is starts = let given = rw is at starts in cc
    by false slash = rw slash refl
