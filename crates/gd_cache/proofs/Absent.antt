-- A key that is not in.
use Rattle.std.proofs.Common.{◌≡◌, refl, ◌-◌, List, [], ◌∷◌, take, Bool, true, false, cond, Option, Some, None}
use Rattle.std.specs.Prelude.{is_some}
use Rattle.std.specs.Map.{lookup, lookup_entry}
use Rattle.lru.specs.LruCache.{LruCache, put_entries, promoted}

absent : {K V : Type 0} (test : K → Bool) (es : List (K × V)) → lookup test es ≡ None → lookup_entry test es ≡ None
absent test [] h = refl
absent test (e ∷ es) h = by (test e.0) (λ g. absent test es g) h
  where
    by : (b : Bool) → (lookup test es ≡ None → lookup_entry test es ≡ None) → cond b (Some e.1) (lookup test es) ≡ None → cond b (Some e) (lookup_entry test es) ≡ None
    by true ih g = cc
    by false ih g = ih g

-- it goes to the front, and past the greatest number the last pair goes
pub put-absent : {K V : Type 0} (eq : K → K → Bool) (c : LruCache K V) (k : K) (v : V) → lookup (eq k) c.entries ≡ None → put_entries eq c k v ≡ (k, v) ∷ take (c.cap - 1) c.entries
put-absent eq c k v h = rw (absent (eq k) c.entries h) refl

-- to bring it to the front changes nothing
pub promoted-absent : {K V : Type 0} (test : K → Bool) (es : List (K × V)) → lookup test es ≡ None → promoted test es ≡ es
promoted-absent test es h = rw (absent test es h) refl

-- it is told apart by whether it is there
pub not_there : {X : Type 0} (o : Option X) → is_some o ≡ false → o ≡ None
not_there None h = refl
not_there (Some x) h = cc
