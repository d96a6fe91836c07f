-- The walk of an object spells its id.
use Rattle.std.proofs.Common.{◌≡◌, ◌≤◌, ◌<◌, ℕ, zero, suc, List, [], ◌∷◌, ◌++◌, length, Bool, true, false, Option, Some, None, is_some, option_map, unwrap_or, refl, ap, sym, ◌∙◌, codes, arith}
use Rattle.std.specs.Prelude.{if◌then◌else◌, ◌==◌, ◌&&◌, nat_lt}
use Rattle.std.specs.List.{list_all}
use Rattle.std.proofs.lemmas.Bool.{and_parts, and_from, le-leb, lt-ltb, ltb-true}
use Rattle.gd_grammar.specs.Maybe.{◌>>=◌}
use Rattle.gd_prim.specs.declared.Primitive.{Primitive}
use Rattle.gd_prim.specs.Builtin.{root_place}
use Rattle.gd_prim.specs.Limits.{max_prims}
use Rattle.gd_prim.specs.Live.{value_at, end_at, text_of}
use Rattle.gd_bytes.specs.Frozen.{is_root, place_in_bounds}
use Rattle.gd_defs.specs.Ids.{naming_link, path_up, id_text, guid}
use Rattle.gd_runs.specs.Shape.{links_text, walk_text}
use Rattle.gd_plan.specs.PassedOn.{links_up}
use Rattle.gd_runs.specs.Fitting.{is_inside}
use Rattle.gd_shape.specs.Knowing.{TellsId}
use Rattle.gd_shape.specs.WalkUp.{by_links_or, walk_up, WalksUpSpell}

module _ (prims : List Primitive) where
  -- the links of a way up spell it
  abbrev Spell : ℕ → Type 0
  Spell n = (o : ℕ) (below : List ℕ) → path_up prims n o below ≡ option_map (λ ks. links_text prims ks below) (links_up prims n o)

  one-more : (k : ℕ) (key below : List ℕ) (above : Option (List ℕ)) → text_of (value_at prims k) ≡ Some key
      → option_map (λ ks. links_text prims ks (codes "/" ++ key ++ below)) above ≡ option_map (λ ks. links_text prims ks below) (option_map (λ ks. k ∷ ks) above)
  one-more k key below None is = refl
  one-more k key below (Some ks) is = ap (λ t. Some (links_text prims ks (codes "/" ++ unwrap_or t [] ++ below))) (sym is)

  through : (n k : ℕ) (below : List ℕ) (key : Option (List ℕ)) (namespace : Option ℕ) → text_of (value_at prims k) ≡ key → Spell n
      → (key >>= λ key. namespace >>= λ namespace. path_up prims n namespace (codes "/" ++ key ++ below))
      ≡ option_map (λ ks. links_text prims ks below) (key >>= λ key. namespace >>= λ namespace. option_map (λ ks. k ∷ ks) (links_up prims n namespace))
  through n k below None namespace is above = refl
  through n k below (Some key) None is above = refl
  through n k below (Some key) (Some namespace) is above = above namespace (codes "/" ++ key ++ below) ∙ one-more k key below (links_up prims n namespace) is

  links-spell : (n : ℕ) → Spell n
  links-spell zero o below = by (o == root_place)
    where
      by : (b : Bool) → (if b then Some below else None) ≡ option_map (λ ks. links_text prims ks below) (if b then Some [] else None)
      by true = refl
      by false = refl
  links-spell (suc n) o below = by (o == root_place) (naming_link prims o) (λ namespace behind. links-spell n namespace behind)
    where
      by : (b : Bool) (link : Option ℕ) → Spell n
          → (if b then Some below else link >>= λ k. text_of (value_at prims k) >>= λ key. end_at (λ p. p.right) prims k >>= λ namespace. path_up prims n namespace (codes "/" ++ key ++ below))
          ≡ option_map (λ ks. links_text prims ks below) (if b then Some [] else link >>= λ k. text_of (value_at prims k) >>= λ key.
          end_at (λ p. p.right) prims k >>= λ namespace. option_map (λ ks. k ∷ ks) (links_up prims n namespace))
      by true link above = refl
      by false None above = refl
      by false (Some k) above = through n k below (text_of (value_at prims k)) (end_at (λ p. p.right) prims k) refl above

  found : (o : ℕ) (path : Option (List ℕ)) (links : Option (List ℕ)) → path ≡ option_map (λ ks. links_text prims ks []) links → walk_text prims o (by_links_or links) ≡ unwrap_or path (guid o)
  found o path None is = sym (ap (λ p. unwrap_or p (guid o)) is)
  found o path (Some ks) is = sym (ap (λ p. unwrap_or p (guid o)) is)

-- LAW: the walk of an object spells its id
pub walks_up_spell : WalksUpSpell
walks_up_spell prims o = by (o == root_place)
  where
    by : (b : Bool) → walk_text prims o (if b then is_root else by_links_or (links_up prims 16 o)) ≡ (if b then codes "/" else unwrap_or (path_up prims 16 o []) (guid o))
    by true = refl
    by false = found prims o (path_up prims 16 o []) (links_up prims 16 o) (links-spell prims 16 o [])

-- ---- it fits, and lies within bounds

-- a text stands at a place that is there
text_there : (prims : List Primitive) (k : ℕ) (key : List ℕ) → text_of (value_at prims k) ≡ Some key → k < length prims
text_there [] k key is = absurd (cc)
text_there (p ∷ ps) zero key is = omega arith
text_there (p ∷ ps) (suc k) key is = let less = text_there ps k key is in omega (arith, less)

module _ (prims : List Primitive) where
  -- a link of a walk that fits
  abbrev link_fits : ℕ → Bool
  link_fits k = is_inside prims k && is_some (text_of (value_at prims k))

  -- links that fit and are not too many, where there are any
  abbrev Fit : ℕ → Option (List ℕ) → Type 0
  Fit n None = Unit {0}
  Fit n (Some ks) = (list_all link_fits ks ≡ true) × (length ks ≤ n)

  -- and one at least
  abbrev Some-Fit : ℕ → Option (List ℕ) → Type 0
  Some-Fit n None = Unit {0}
  Some-Fit n (Some ks) = (list_all link_fits ks ≡ true) × ((length ks ≤ n) × (0 < length ks))

  more_fit : (n k : ℕ) (key : List ℕ) (above : Option (List ℕ)) → text_of (value_at prims k) ≡ Some key → Fit n above → Some-Fit (suc n) (option_map (λ ks. k ∷ ks) above)
  more_fit n k key None is fit = tt
  more_fit n k key (Some ks) is fit =
      let few = fit.1 in
      (and_from (link_fits k) (list_all link_fits ks) (and_from (is_inside prims k) (is_some (text_of (value_at prims k))) (lt-ltb k (length prims) (text_there prims k key is)) (ap is_some is)) fit.0, (omega (arith, few), omega arith))

  next_fits : (n k : ℕ) (key : Option (List ℕ)) (namespace : Option ℕ) → text_of (value_at prims k) ≡ key → ((o : ℕ) → Fit n (links_up prims n o))
      → Some-Fit (suc n) (key >>= λ key. namespace >>= λ namespace. option_map (λ ks. k ∷ ks) (links_up prims n namespace))
  next_fits n k None namespace is above = tt
  next_fits n k (Some key) None is above = tt
  next_fits n k (Some key) (Some namespace) is above = more_fit n k key (links_up prims n namespace) is (above namespace)

  step_fits : (n : ℕ) (link : Option ℕ) → ((o : ℕ) → Fit n (links_up prims n o))
      → Some-Fit (suc n) (link >>= λ k. text_of (value_at prims k) >>= λ key. end_at (λ p. p.right) prims k >>= λ namespace. option_map (λ ks. k ∷ ks) (links_up prims n namespace))
  step_fits n None above = tt
  step_fits n (Some k) above = next_fits n k (text_of (value_at prims k)) (end_at (λ p. p.right) prims k) refl above

  less_fit : (n : ℕ) (found : Option (List ℕ)) → Some-Fit n found → Fit n found
  less_fit n None fit = tt
  less_fit n (Some ks) fit = (fit.0, fit.1.0)

  links_fit : (n o : ℕ) → Fit n (links_up prims n o)
  links_fit zero o = by (o == root_place)
    where
      by : (b : Bool) → Fit zero (if b then Some [] else None)
      by true = (refl, omega arith)
      by false = tt
  links_fit (suc n) o = by (o == root_place) _ (step_fits n (naming_link prims o) (links_fit n))
    where
      by : (b : Bool) (found : Option (List ℕ)) → Some-Fit (suc n) found → Fit (suc n) (if b then Some [] else found)
      by true found fit = (refl, omega arith)
      by false found fit = less_fit (suc n) found fit

  -- places that are there lie within their bounds
  all_bounded : length prims ≤ max_prims → (ks : List ℕ) → list_all link_fits ks ≡ true → list_all place_in_bounds ks ≡ true
  all_bounded few [] fit = refl
  all_bounded few (k ∷ ks) fit = and_from (place_in_bounds k) (list_all place_in_bounds ks) (low (nat_lt k (length prims)) refl (and_parts _ _ (and_parts _ _ fit).0).0) (all_bounded few ks (and_parts _ _ fit).1)
    where
      low : (b : Bool) → nat_lt k (length prims) ≡ b → nat_lt k (length prims) ≡ true → place_in_bounds k ≡ true
      low b is inside = let less : k < length prims = ltb-true k (length prims) inside in le-leb k max_prims (omega (arith, less, few))

  links_tell : (o : ℕ) (found : Option (List ℕ)) → walk_text prims o (by_links_or found) ≡ id_text prims o → Some-Fit 16 found → TellsId prims o (by_links_or found)
  links_tell o None spells fit = record { spells = spells; fits = refl; bounds = λ few. refl }
  links_tell o (Some ks) spells fit = record {
    spells = spells;
    fits = fit.0;
    bounds = λ few. and_from _ _ (and_from _ _ (lt-ltb 0 (length ks) fit.1.1) (le-leb (length ks) 16 fit.1.0)) (all_bounded few ks fit.0);
  }

-- LAW: the walk of an object tells its id
pub walk_up_tells : (prims : List Primitive) (o : ℕ) → TellsId prims o (walk_up prims o)
walk_up_tells prims o = by (o == root_place) refl (walks_up_spell prims o)
  where
    by : (b : Bool) → (o == root_place) ≡ b → walk_text prims o (if b then is_root else by_links_or (links_up prims 16 o)) ≡ id_text prims o → TellsId prims o (if b then is_root else by_links_or (links_up prims 16 o))
    by true is spells = record { spells = spells; fits = refl; bounds = λ few. refl }
    by false is spells = links_tell prims o (links_up prims 16 o) spells (other is)
      where
        other : (o == root_place) ≡ false → Some-Fit prims 16 (links_up prims 16 o)
        other is = rw is (step_fits prims 15 (naming_link prims o) (links_fit prims 15))
