-- What the new list of one value means for the list of every value.
use Rattle.std.proofs.Common.{◌≡◌, ℕ, zero, suc, ◌<◌, ◌-◌, sym, ◌∙◌, ap, subst, List, [], ◌∷◌, ◌++◌, Bool, true, false, cond, Option, Some, None, refl, length, take, length-append, arith}
use Rattle.std.specs.Prelude.{unwrap_or, slice_get, position, option_map, is_some, if◌then◌else◌, ◌||◌, ◌==◌, IfSome, IsSome, Result, Ok, Err, OnErr}
use Rattle.std.specs.List.{list_any}
use Rattle.std.specs.HashMap.{HashMap}
use Rattle.indexmap.specs.IndexMap.{insert_entry}
use Rattle.indexmap.proofs.CallerLemmas.{insert_entry-new}
use Rattle.std.specs.Map.{lookup, keys_of}
use Rattle.std.specs.Option.{option_to_list, option_map_or}
use Rattle.std.proofs.lemmas.Bool.{ne_eqb}
use Rattle.std.proofs.lemmas.List.{map-append, length-take-le}
use Rattle.std.proofs.Math.Seq.{take-append_seam}
use Rattle.gd_base.specs.declared.datum.Datum.{Datum}
use Rattle.gd_base.specs.Order.{datum_eq}
use Rattle.gd_base.specs.contracts.datum.DatumPartialEq.TheImpl as equality
use Rattle.gd_base.proofs.Order.{datum_eq_decides, eq_is}
use Rattle.gd_postings.specs.Postings.{Places}
use Rattle.gd_lists.specs.Lists.{nothing}
use Rattle.gd_lists.specs.Entries.{without_entry}
use Rattle.gd_valueidx.specs.Values.{value_list, number_list, with_value}

-- the new entries have this at the value, and at every other value what the old ones have
abbrev pub Sets : (Datum → Datum → Bool) → List (Datum × Places) → List (Datum × Places) → Datum → Option Places → Type 0
Sets eq old new key w = (q : Datum) → lookup (eq q) new ≡ cond (eq key q) w (lookup (eq q) old)

-- what holds at the value, and of a list with itself where the value is another, holds at each value
pub each_value : (R : Bool → Places → Places → Type 0) → ((p : Places) → R false p p) → (old new : List (Datum × Places)) (key : Datum) (w : Option Places) → Sets datum_eq old new key w
    → R true (value_list key old) (unwrap_or w nothing) → (v : Datum) → R (datum_eq key v) (value_list v old) (value_list v new)
each_value R same old new key w sets here v =
    subst (λ (o : Option Places). R (datum_eq key v) (value_list v old) (unwrap_or o nothing)) (sym (sets v)) (either (datum_eq key v) refl)
  where
    either : (b : Bool) → datum_eq key v ≡ b → R b (value_list v old) (unwrap_or (cond b w (lookup (datum_eq v) old)) nothing)
    either true is = subst (λ (k : Datum). R true (value_list k old) (unwrap_or w nothing)) ((datum_eq_decides key v).0 is) here
    either false is = same (value_list v old)

-- the value has it then
pub own_list : (old new : List (Datum × Places)) (key : Datum) (w : Option Places) → Sets datum_eq old new key w → value_list key new ≡ unwrap_or w nothing
own_list old new key w sets =
    let itself : datum_eq key key ≡ true = (datum_eq_decides key key).1 refl in
    ap (λ o. unwrap_or o nothing) (sets key ∙ ap (λ b. cond b w (lookup (datum_eq key) old)) itself)

-- ---- the derived comparison is that of data

pub as_sets : (old new : List (Datum × Places)) (key : Datum) (w : Option Places) → Sets (equality.ghosts).eq old new key w → Sets datum_eq old new key w
as_sets old new key w = subst (λ (eq : Datum → Datum → Bool). Sets eq old new key w) eq_is

-- what a look-up gives
pub found_as : (es : List (Datum × Places)) (v : Datum) (o : Option Places) → o ≡ lookup ((equality.ghosts).eq v) es → o ≡ lookup (datum_eq v) es
found_as es v o is = is ∙ ap (λ (eq : Datum → Datum → Bool). lookup (eq v) es) eq_is

pub found_list : (es : List (Datum × Places)) (v : Datum) (o : Option Places) → o ≡ lookup ((equality.ghosts).eq v) es → unwrap_or o nothing ≡ value_list v es
found_list es v o is = ap (λ o. unwrap_or o nothing) (found_as es v o is)

pub not_empty : (es : List (Datum × Places)) (v : Datum) → None ≡ lookup ((equality.ghosts).eq v) es → 0 < length (value_list v es).ids → ⊥
not_empty es v is some = let none = ap (λ (p : Places). length p.ids) (found_list es v None is) in absurd (omega (arith, none, some))

pub number_is : (es : List (Datum × Places)) (v : Datum) → position ((equality.ghosts).eq v) (keys_of es) ≡ position (datum_eq v) (keys_of es)
number_is es v = ap (λ (eq : Datum → Datum → Bool). position (eq v) (keys_of es)) eq_is

-- ---- the values

-- a value has a list where it has a number
any_key : (b : Bool) (p : Places) (o : Option Places) (r : Bool) → is_some o ≡ r → is_some (cond b (Some p) o) ≡ (b || r)
any_key true p o r is = refl
any_key false p o r is = is

pub has_number : (es : List (Datum × Places)) (v : Datum) → is_some (lookup (datum_eq v) es) ≡ list_any (datum_eq v) (keys_of es)
has_number [] v = refl
has_number (e ∷ es) v = any_key (datum_eq v e.0) e.1 (lookup (datum_eq v) es) (list_any (datum_eq v) (keys_of es)) (has_number es v)

-- one that has a number keeps it
pub old_value : (es new : List (Datum × Places)) (v : Datum) (p : Places) → Some p ≡ lookup ((equality.ghosts).eq v) es → keys_of new ≡ keys_of es → keys_of new ≡ with_value v (keys_of es)
old_value es new v p is same =
    same ∙ sym (ap (λ b. if b then keys_of es else keys_of es ++ v ∷ []) (sym (has_number es v) ∙ ap is_some (sym (found_as es v (Some p) is))))

-- one that has none gets the next
pub as_new : (es : List (Datum × Places)) (v : Datum) → list_any (datum_eq v) (keys_of es) ≡ false → keys_of es ++ v ∷ [] ≡ with_value v (keys_of es)
as_new es v none = sym (ap (λ b. if b then keys_of es else keys_of es ++ v ∷ []) none)

pub keys_get : (es : List (Datum × Places)) (n : ℕ) → slice_get (keys_of es) n ≡ option_map (λ e. e.0) (slice_get es n)
keys_get [] n = refl
keys_get (e ∷ es) zero = refl
keys_get (e ∷ es) (suc n) = keys_get es n

-- the list of a number
pub number_there : (es : List (Datum × Places)) (n : ℕ) (v : Datum) (p : Places) → Some (v, p) ≡ slice_get es n → lookup ((equality.ghosts).eq v) es ≡ Some p → p ≡ number_list n es
number_there es n v p is has =
    found_list es v (Some p) (sym has)
    ∙ sym (ap (λ o. option_map_or (λ value. value_list value es) o nothing) (keys_get es n ∙ ap (option_map (λ (e : Datum × Places). e.0)) (sym is)))

pub number_absent : (es : List (Datum × Places)) (n : ℕ) → None ≡ slice_get es n → nothing ≡ number_list n es
number_absent es n is =
    sym (ap (λ o. option_map_or (λ value. value_list value es) o nothing) (keys_get es n ∙ ap (option_map (λ (e : Datum × Places). e.0)) (sym is)))

-- where more than one place was there, the value keeps its number
pub not_one : (ids ys : List ℕ) (n : ℕ) → ys ≡ without_entry true ids → n ≡ length ys → (n ≡ 0 → ⊥) → (length ids == 1) ≡ false
not_one [] ys n is count some = absurd (some (count ∙ ap length is))
not_one (x ∷ []) ys n is count some = absurd (some (count ∙ ap length is))
not_one (x ∷ y ∷ ids) ys n is count some = ne_eqb (length (x ∷ y ∷ ids)) 1 (λ same. absurd (omega (arith, same)))

-- ---- answers

pub always : {T E : Type 0} (r : Result T E) (P : Type 0) → P → OnErr r P
always (Ok x) P p = tt
always (Err e) P p = p

pub weaker : {X : Type 0} (A B : X → Type 0) (o : Option X) → ((x : X) → A x → B x) → IfSome o A → IfSome o B
weaker A B None go is = tt
weaker A B (Some x) go is = go x is

-- ---- the last value

at_end : {X : Type 0} (xs : List X) (x : X) → slice_get (xs ++ x ∷ []) (length xs) ≡ Some x
at_end [] x = refl
at_end (y ∷ xs) x = at_end xs x

last_there : {X : Type 0} (xs : List X) (x : X) → slice_get (xs ++ x ∷ []) (length (xs ++ x ∷ []) - 1) ≡ Some x
last_there xs x =
    let count : length (xs ++ x ∷ []) - 1 ≡ length xs = omega (arith, length-append xs (x ∷ [])) in
    ap (slice_get (xs ++ x ∷ [])) count ∙ at_end xs x

pub all_but_last : {X : Type 0} (xs : List X) (x : X) → xs ≡ take (length (xs ++ x ∷ []) - 1) (xs ++ x ∷ [])
all_but_last xs x =
    let count : length (xs ++ x ∷ []) - 1 ≡ length xs = omega (arith, length-append xs (x ∷ [])) in
    sym (ap (λ n. take n (xs ++ x ∷ [])) count ∙ take-append_seam xs (x ∷ []))

keys_more : (es : List (Datum × Places)) (e : Datum × Places) → keys_of (es ++ e ∷ []) ≡ keys_of es ++ e.0 ∷ []
keys_more es e = map-append (λ (p : Datum × Places). p.0) es (e ∷ [])

-- once it is gone, the others stay
pub popped_values : (old new : List (Datum × Places)) (last : Option (Datum × Places)) → old ≡ new ++ option_to_list last → (0 < length old → IsSome last)
    → keys_of new ≡ take (length (keys_of old) - 1) (keys_of old)
popped_values [] [] None is some = refl
popped_values [] (e ∷ es) None is some = cc
popped_values (e ∷ es) new None is some = let none = some (omega arith) in cc none
popped_values old new (Some e) is some =
    all_but_last (keys_of new) e.0
    ∙ ap (λ ks. take (length ks - 1) ks) (sym (ap keys_of is ∙ keys_more new e))

-- and where its list was empty, so do all lists
pub popped_lists : (old new : List (Datum × Places)) (last : Option (Datum × Places)) → old ≡ new ++ option_to_list last → (0 < length old → IsSome last)
    → IfSome last (λ e. Sets datum_eq old new e.0 None)
    → ((v : Datum) → slice_get (keys_of old) (length (keys_of old) - 1) ≡ Some v → (value_list v old).ids ≡ [])
    → (v : Datum) → (value_list v new).ids ≡ (value_list v old).ids
popped_lists [] [] None is some sets empty = λ v. refl
popped_lists [] (e ∷ es) None is some sets empty = cc
popped_lists (e ∷ es) new None is some sets empty = λ v. let none = some (omega arith) in cc none
popped_lists old new (Some e) is some sets empty =
    let last : slice_get (keys_of old) (length (keys_of old) - 1) ≡ Some e.0 =
    ap (λ ks. slice_get ks (length ks - 1)) (ap keys_of is ∙ keys_more new e) ∙ last_there (keys_of new) e.0 in
    each_value (λ b p q. q.ids ≡ p.ids) (λ p. refl) old new e.0 None sets (sym (empty e.0 last))

-- ---- a value that gets a number, and one that loses it

some_none : (o : Option Places) → is_some o ≡ false → o ≡ None
some_none None is = refl
some_none (Some p) is = cc

none_found : (es : List (Datum × Places)) (v : Datum) → list_any (datum_eq v) (keys_of es) ≡ false → lookup ((equality.ghosts).eq v) es ≡ None
none_found es v none = ap (λ (eq : Datum → Datum → Bool). lookup (eq v) es) eq_is ∙ some_none (lookup (datum_eq v) es) (has_number es v ∙ none)

pub new_entries : {S : Type 0} (m : HashMap Datum Places S) (new : List (Datum × Places)) (v : Datum) (w : Places) → list_any (datum_eq v) (keys_of m.entries) ≡ false
    → new ≡ insert_entry (equality.ghosts).eq m.entries v w → new ≡ m.entries ++ (v, w) ∷ []
new_entries m new v w none inserted = inserted ∙ insert_entry-new (equality.ghosts).eq m v w (none_found m.entries v none)

pub new_keys : (es new : List (Datum × Places)) (v : Datum) (w : Places) → new ≡ es ++ (v, w) ∷ [] → keys_of new ≡ keys_of es ++ v ∷ []
new_keys es new v w is = ap keys_of is ∙ keys_more es (v, w)

pub undone : (old new es : List (Datum × Places)) (e : Datum × Places) (last : Option (Datum × Places)) → old ≡ new ++ option_to_list last → (0 < length old → IsSome last) → old ≡ es ++ e ∷ [] → new ≡ es
undone old new es e None is some grown = let none = some (omega (arith, ap length grown, length-append es (e ∷ []))) in cc none
undone old new es e (Some f) is some grown =
    let cut = λ (xs : List (Datum × Places)). take (length xs - 1) xs in
    all_but new f ∙ ap cut (sym is ∙ grown) ∙ sym (all_but es e)
  where
    all_but : (xs : List (Datum × Places)) (x : Datum × Places) → xs ≡ take (length (xs ++ x ∷ []) - 1) (xs ++ x ∷ [])
    all_but xs x = all_but_last xs x

same_some : (o : Option Datum) (v w : Datum) → o ≡ Some v → o ≡ Some w → v ≡ w
same_some o v w is also = ap (λ p. unwrap_or p v) (sym is ∙ also)

pub popped_last : (old new : List (Datum × Places)) (last : Option (Datum × Places)) (v : Datum) → old ≡ new ++ option_to_list last → (0 < length old → IsSome last)
    → IfSome last (λ e. Sets datum_eq old new e.0 None) → slice_get (keys_of old) (length (keys_of old) - 1) ≡ Some v → Sets datum_eq old new v None × (keys_of old ≡ keys_of new ++ v ∷ [])
popped_last [] new None v is some sets end = cc
popped_last (e ∷ es) new None v is some sets end = let none = some (omega arith) in cc none
popped_last old new (Some e) v is some sets end =
    let there : slice_get (keys_of old) (length (keys_of old) - 1) ≡ Some e.0 = ap (λ ks. slice_get ks (length ks - 1)) (ap keys_of is ∙ keys_more new e) ∙ last_there (keys_of new) e.0 in
    let key : e.0 ≡ v = same_some (slice_get (keys_of old) (length (keys_of old) - 1)) e.0 v there end in
    (subst (λ (k : Datum). Sets datum_eq old new k None) key sets, ap keys_of is ∙ keys_more new e ∙ ap (λ k. keys_of new ++ k ∷ []) key)

pub gone : (old new : List (Datum × Places)) (v : Datum) → Sets datum_eq old new v None → list_any (datum_eq v) (keys_of new) ≡ false
gone old new v sets =
    let itself : datum_eq v v ≡ true = (datum_eq_decides v v).1 refl in
    sym (has_number new v) ∙ ap is_some (sets v ∙ ap (λ b. cond b None (lookup (datum_eq v) old)) itself)

pub no_number : (es : List (Datum × Places)) (v : Datum) → None ≡ lookup ((equality.ghosts).eq v) es → list_any (datum_eq v) (keys_of es) ≡ false
no_number es v is = sym (has_number es v) ∙ ap is_some (sym (found_as es v None is))

pub is_one : (ids ys : List ℕ) (n : ℕ) → ys ≡ without_entry true ids → n ≡ length ys → n ≡ 0 → 0 < length ids → length ids ≡ 1
is_one [] ys n is count none some = absurd (omega (arith, some))
is_one (x ∷ []) ys n is count none some = refl
is_one (x ∷ y ∷ ids) ys n is count none some =
    let long = length-take-le (length (x ∷ y ∷ ids) - 1) (x ∷ y ∷ ids) (omega arith) in
    let same = ap length is in
    absurd (omega (arith, long, same, count, none))

pub is_empty : (xs : List ℕ) (n : ℕ) → n ≡ length xs → n ≡ 0 → xs ≡ []
is_empty [] n count none = refl
is_empty (x ∷ xs) n count none = absurd (omega (arith, count, none))
