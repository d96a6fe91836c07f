-- A key that is longer than each text leads nowhere.
use Rattle.std.proofs.Common.{◌≡◌, ◌∙◌, ℕ, ◌+◌, List, [], ◌∷◌, Bool, true, false, ◌&&◌, Some, None, refl, sym, ap}
use Rattle.std.specs.Prelude.{if◌then◌else◌}
use Rattle.std.specs.List.{last_or, list_any, cons_option}
use Rattle.std.proofs.lemmas.Bool.{or_parts}
use Rattle.gd_grammar.specs.Maybe.{◌>>=◌}
use Rattle.gd_prim.specs.declared.Primitive.{Primitive}
use Rattle.gd_prim.specs.Builtin.{key_place}
use Rattle.gd_prim.specs.Live.{is_live, is_text, end_at, refers}
use Rattle.gd_store.specs.Scan.{places_from}
use Rattle.gd_defs.specs.Ids.{is_key_link, key_leads, object_at}

none_of : (a b c : Bool) → c ≡ false → (a && b && c) ≡ false
none_of true true c is = is
none_of true false c is = refl
none_of false b c is = refl

-- where no primitive has the key as its value there is no link of it
none_from : (namespace : ℕ) (key : List ℕ) (k : ℕ) (prims : List Primitive) → list_any (λ p. is_text key p.value) prims ≡ false → places_from (is_key_link namespace key) k prims ≡ []
none_from namespace key k [] none = refl
none_from namespace key k (p ∷ ps) none =
    let parts = or_parts (is_text key p.value) (list_any (λ q. is_text key q.value) ps) none in
    ap (λ b. cons_option (if b then Some k else None) (places_from (is_key_link namespace key) (k + 1) ps))
    (none_of (refers p.typ key_place) (refers p.right namespace) (is_text key p.value) parts.0)
    ∙ none_from namespace key (k + 1) ps parts.1

-- so it leads nowhere
pub no_key_leads : (prims : List Primitive) (namespace : ℕ) (key : List ℕ) → list_any (λ p. is_text key p.value) prims ≡ false → None ≡ key_leads prims namespace key
no_key_leads prims namespace key none =
    sym (ap (λ (ks : List ℕ). last_or None ks >>= λ k. if is_live prims k then (end_at (λ p. p.left) prims k >>= object_at prims) else None)
    (none_from namespace key 0 prims none))
