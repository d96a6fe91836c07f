-- The laws of unions.
use Rattle.std.proofs.Common.{◌≡◌, ◌∙◌, ◌+◌, ◌<◌, ◌≤◌, ℕ, Bool, true, false, List, [], ◌∷◌, ◌++◌, Option, Some, None, refl, sym, ap, subst, arith, map, ◌⊎◌, ⊎_elim}
use Rattle.std.specs.Prelude.{nat_le, ◌==◌, ◌||◌, min}
use Rattle.std.specs.List.{list_all}
use Rattle.std.proofs.lemmas.Bool.{cases_lt, cases_order, le-leb, lt-leb, eq-eqb, leb-false, and_parts}
use Rattle.std.proofs.Math.Bool.{or-true}
use Rattle.gd_iter_core.specs.Owed.{RisesFrom, ids_from, has_id, id_if}
use Rattle.gd_iter_core.specs.Rising.{from_yes, from_no, from_from, from_low, from_all, rises_from, front_split, first_from}
use Rattle.gd_or.specs.declared.branch.Head.{Head}
use Rattle.gd_or.specs.declared.branch.Head.TheVariants as head
use Rattle.gd_or.specs.Or.{insert_id, sorted_set, joined, union, any_has, part, is_known, head_from, lesser, least}
use Rattle.gd_or.specs.Union.{insert_less, insert_same, insert_more, insert_rises}

-- a low identity that is entered is not from a place on
from_insert_low : (p x : ℕ) (ys : List ℕ) → x < p → ids_from p (insert_id x ys) ≡ ids_from p ys
from_insert_low p x [] h = from_no p x [] h
from_insert_low p x (y ∷ ys) h = ⊎_elim
    (λ (same : x ≡ y). ap (ids_from p) (insert_same x y ys same))
    (λ (apart : (x < y) ⊎ (y < x)). ⊎_elim
    (λ (less : x < y). ap (ids_from p) (insert_less x y ys less) ∙ from_no p x (y ∷ ys) h)
    (λ (more : y < x). ap (ids_from p) (insert_more x y ys more) ∙ (from_no p y (insert_id x ys) (omega (arith, more, h))
    ∙ (from_insert_low p x ys h ∙ sym (from_no p y ys (omega (arith, more, h))))))
    apart)
    (cases_order x y)

-- and another one is entered there
from_insert_high : (p x : ℕ) (ys : List ℕ) → p ≤ x → ids_from p (insert_id x ys) ≡ insert_id x (ids_from p ys)
from_insert_high p x [] h = from_yes p x [] h
from_insert_high p x (y ∷ ys) h = ⊎_elim
    (λ (same : x ≡ y). ap (ids_from p) (insert_same x y ys same) ∙ (from_yes p y ys (omega (arith, h, same))
    ∙ (sym (insert_same x y (ids_from p ys) same) ∙ ap (insert_id x) (sym (from_yes p y ys (omega (arith, h, same)))))))
    (λ (apart : (x < y) ⊎ (y < x)). ⊎_elim
    (λ (less : x < y). ap (ids_from p) (insert_less x y ys less) ∙ (from_yes p x (y ∷ ys) h ∙ (ap (λ l. x ∷ l) (from_yes p y ys (omega (arith, h, less)))
    ∙ (sym (insert_less x y (ids_from p ys) less) ∙ ap (insert_id x) (sym (from_yes p y ys (omega (arith, h, less))))))))
    (λ (more : y < x). ap (ids_from p) (insert_more x y ys more) ∙ ⊎_elim
    (λ (low : y < p). from_no p y (insert_id x ys) low ∙ (from_insert_high p x ys h ∙ ap (insert_id x) (sym (from_no p y ys low))))
    (λ (high : p ≤ y). from_yes p y (insert_id x ys) high ∙ (ap (λ l. y ∷ l) (from_insert_high p x ys h)
    ∙ (sym (insert_more x y (ids_from p ys) more) ∙ ap (insert_id x) (sym (from_yes p y ys high)))))
    (cases_lt y p))
    apart)
    (cases_order x y)

from_sorted : (p : ℕ) (xs : List ℕ) → ids_from p (sorted_set xs) ≡ sorted_set (ids_from p xs)
from_sorted p [] = refl
from_sorted p (x ∷ xs) = ⊎_elim
    (λ (low : x < p). from_insert_low p x (sorted_set xs) low ∙ (from_sorted p xs ∙ ap sorted_set (sym (from_no p x xs low))))
    (λ (high : p ≤ x). from_insert_high p x (sorted_set xs) high ∙ (ap (insert_id x) (from_sorted p xs) ∙ ap sorted_set (sym (from_yes p x xs high))))
    (cases_lt x p)

from_append : (p : ℕ) (xs ys : List ℕ) → ids_from p (xs ++ ys) ≡ ids_from p xs ++ ids_from p ys
from_append p [] ys = refl
from_append p (x ∷ xs) ys = ⊎_elim
    (λ (low : x < p). from_no p x (xs ++ ys) low ∙ (from_append p xs ys ∙ ap (λ l. l ++ ids_from p ys) (sym (from_no p x xs low))))
    (λ (high : p ≤ x). from_yes p x (xs ++ ys) high ∙ (ap (λ l. x ∷ l) (from_append p xs ys) ∙ ap (λ l. l ++ ids_from p ys) (sym (from_yes p x xs high))))
    (cases_lt x p)

from_joined : (p : ℕ) (ls : List (List ℕ)) → ids_from p (joined ls) ≡ joined (map (ids_from p) ls)
from_joined p [] = refl
from_joined p (l ∷ ls) = from_append p l (joined ls) ∙ ap (λ m. ids_from p l ++ m) (from_joined p ls)

-- the part of a union from a place on is the union of the parts
pub from_union : (p : ℕ) (ls : List (List ℕ)) → ids_from p (union ls) ≡ union (map (ids_from p) ls)
from_union p ls = from_sorted p (joined ls) ∙ ap sorted_set (from_joined p ls)

-- ---- what a branch owes

part_high : (p id : ℕ) (owed : List ℕ) → p ≤ id → part p owed (head.At id) ≡ id ∷ ids_from (id + 1) owed
part_high p id owed h = rw (le-leb p id h) refl

part_low : (p id : ℕ) (owed : List ℕ) → id < p → part p owed (head.At id) ≡ ids_from p owed
part_low p id owed h = rw (lt-leb p id h) refl

-- what a branch owes from a later place on
pub part_later : (p q : ℕ) (owed : List ℕ) (h : Head) → p ≤ q → ids_from q (part p owed h) ≡ part q owed h
part_later p q owed head.Unknown up = from_from p q owed up
part_later p q owed (head.At id) up = ⊎_elim
    (λ (low : id < p). ap (ids_from q) (part_low p id owed low) ∙ (from_from p q owed up ∙ sym (part_low q id owed (omega (arith, low, up)))))
    (λ (high : p ≤ id). ap (ids_from q) (part_high p id owed high) ∙ ⊎_elim
    (λ (passed : id < q). from_no q id (ids_from (id + 1) owed) passed ∙ (from_from (id + 1) q owed (omega (arith, passed)) ∙ sym (part_low q id owed passed)))
    (λ (ahead : q ≤ id). from_yes q id (ids_from (id + 1) owed) ahead ∙ (ap (λ l. id ∷ l) (from_low (id + 1) q owed (omega (arith, ahead))) ∙ sym (part_high q id owed ahead)))
    (cases_lt id q))
    (cases_lt id p)
part_later p q owed head.Ended up = refl

-- ---- a branch whose iterator was asked

pub not_known : (p : ℕ) (owed : List ℕ) (h : Head) → is_known p h ≡ false → part p owed h ≡ ids_from p owed
not_known p owed head.Unknown e = refl
not_known p owed (head.At id) e = part_low p id owed (leb-false p id e)
not_known p owed head.Ended e = absurd (cc e)

pub part_found : (p id : ℕ) (owed new : List ℕ) (h : Head) → is_known p h ≡ false → RisesFrom 0 owed → ids_from p owed ≡ id ∷ new → part p new (head.At id) ≡ part p owed h
part_found p id owed new h e r gives =
    let all : RisesFrom p (id ∷ new) = subst (RisesFrom p) gives (rises_from p 0 owed r) in
    let low : p ≤ id = all.0 in
    part_high p id new low ∙ (ap (λ l. id ∷ l) (from_all (id + 1) (id + 1) new (omega arith) all.1) ∙ (sym gives ∙ sym (not_known p owed h e)))

pub part_unfinished : (p q : ℕ) (owed new : List ℕ) (h : Head) → is_known p h ≡ false → q ≤ p → new ≡ ids_from q owed → ids_from p new ≡ part p owed h
part_unfinished p q owed new h e low gives = ap (ids_from p) gives ∙ (from_from q p owed low ∙ sym (not_known p owed h e))

pub known_found : (p id : ℕ) (owed new : List ℕ) → ids_from p owed ≡ id ∷ new → nat_le p id ≡ true
known_found p id owed new gives = le-leb p id (first_from p id owed new gives)

-- ---- the least of the heads

-- all of the list is at least `m`
abbrev AllFrom : ℕ → List ℕ → Type 0
AllFrom m [] = Unit {0}
AllFrom m (x ∷ xs) = (m ≤ x) × AllFrom m xs

all_weaker : (m n : ℕ) (xs : List ℕ) → m ≤ n → AllFrom n xs → AllFrom m xs
all_weaker m n [] h a = tt
all_weaker m n (x ∷ xs) h a = let low : n ≤ x = a.0 in (omega (arith, h, low), all_weaker m n xs h a.1)

all_rising : (f : ℕ) (xs : List ℕ) → RisesFrom f xs → AllFrom f xs
all_rising f [] r = tt
all_rising f (x ∷ xs) r = let low : f ≤ x = r.0 in (low, all_weaker f (x + 1) xs (omega (arith, low)) (all_rising (x + 1) xs r.1))

all_append : (m : ℕ) (xs ys : List ℕ) → AllFrom m xs → AllFrom m ys → AllFrom m (xs ++ ys)
all_append m [] ys a b = b
all_append m (x ∷ xs) ys a b = (a.0, all_append m xs ys a.1 b)

sorted_rises_from : (m : ℕ) (xs : List ℕ) → AllFrom m xs → RisesFrom m (sorted_set xs)
sorted_rises_from m [] a = tt
sorted_rises_from m (x ∷ xs) a = insert_rises m x (sorted_set xs) a.0 (sorted_rises_from m xs a.1)

or_swap : (a b c : Bool) → (a || (b || c)) ≡ (b || (a || c))
or_swap true true c = refl
or_swap true false c = refl
or_swap false b c = refl

has_insert : (x id : ℕ) (ys : List ℕ) → has_id (insert_id x ys) id ≡ ((x == id) || has_id ys id)
has_insert x id [] = refl
has_insert x id (y ∷ ys) = ⊎_elim
    (λ (same : x ≡ y). ap (λ l. has_id l id) (insert_same x y ys same) ∙ (or_same (y == id) (has_id ys id) ∙ ap (λ z. (z == id) || ((y == id) || has_id ys id)) (sym same)))
    (λ (apart : (x < y) ⊎ (y < x)). ⊎_elim
    (λ (less : x < y). ap (λ l. has_id l id) (insert_less x y ys less))
    (λ (more : y < x). ap (λ l. has_id l id) (insert_more x y ys more) ∙ (ap (λ b. (y == id) || b) (has_insert x id ys) ∙ or_swap (y == id) (x == id) (has_id ys id)))
    apart)
    (cases_order x y)
  where
    or_same : (a b : Bool) → (a || b) ≡ (a || (a || b))
    or_same true b = refl
    or_same false b = refl

has_sorted : (id : ℕ) (xs : List ℕ) → has_id (sorted_set xs) id ≡ has_id xs id
has_sorted id [] = refl
has_sorted id (x ∷ xs) = has_insert x id (sorted_set xs) ∙ ap (λ b. (x == id) || b) (has_sorted id xs)

or_assoc3 : (a b c : Bool) → (a || (b || c)) ≡ ((a || b) || c)
or_assoc3 true b c = refl
or_assoc3 false b c = refl

has_append : (id : ℕ) (xs ys : List ℕ) → has_id (xs ++ ys) id ≡ (has_id xs id || has_id ys id)
has_append id [] ys = refl
has_append id (x ∷ xs) ys = ap (λ b. (x == id) || b) (has_append id xs ys) ∙ or_assoc3 (x == id) (has_id xs id) (has_id ys id)

-- a place is in the union where some list has it
pub has_union : (id : ℕ) (ls : List (List ℕ)) → has_id (union ls) id ≡ any_has id ls
has_union id ls = has_sorted id (joined ls) ∙ joins ls
  where
    joins : (ls : List (List ℕ)) → has_id (joined ls) id ≡ any_has id ls
    joins [] = refl
    joins (l ∷ ls) = has_append id l (joined ls) ∙ ap (λ b. has_id l id || b) (joins ls)

-- what is said of a list by its least
pub record StartsAt (m : ℕ) (xs : List ℕ) : Type 0 where
  pub has : has_id xs m ≡ true
  pub all : AllFrom m xs

-- what the least head says of the rest
abbrev pub Says : Option ℕ → List ℕ → Type 0
Says None xs = xs ≡ []
Says (Some m) xs = StartsAt m xs

-- of a known branch
part_says : (p : ℕ) (owed : List ℕ) (h : Head) → is_known p h ≡ true → RisesFrom 0 owed → Says (head_from p h) (part p owed h)
part_says p owed head.Unknown e r = absurd (cc e)
part_says p owed (head.At id) e r =
    let start : id ≤ id = omega arith in
    rw e (record {
      has = rw (eq-eqb id id refl) refl;
      all = all_rising id (id ∷ ids_from (id + 1) owed) (start, rises_from (id + 1) 0 owed r);
    })
part_says p owed head.Ended e r = refl

-- of one list and then of more
says_more : (a b : Option ℕ) (xs ys : List ℕ) → Says a xs → Says b ys → Says (lesser a b) (xs ++ ys)
says_more None None xs ys sa sb = rw (sa, sb) refl
says_more None (Some b) xs ys sa sb = rw sa sb
says_more (Some a) None xs ys sa sb = record {
  has = has_append a xs ys ∙ ap (λ c. c || has_id ys a) sa.has;
  all = all_append a xs ys sa.all (rw sb tt);
}
says_more (Some a) (Some b) xs ys sa sb = ⊎_elim
    (λ (less : a < b).
    let low : min a b ≡ a = omega (arith, less) in
    rw low (record {
      has = has_append a xs ys ∙ ap (λ c. c || has_id ys a) sa.has;
      all = all_append a xs ys sa.all (all_weaker a b ys (omega (arith, less)) sb.all);
    }))
    (λ (more : b ≤ a).
    let low : min a b ≡ b = omega (arith, more) in
    rw low (record {
      has = has_append b xs ys ∙ (ap (λ c. has_id xs b || c) sb.has ∙ or-true (has_id xs b));
      all = all_append b xs ys (all_weaker b a xs more sa.all) sb.all;
    }))
    (cases_lt a b)

-- of all branches, where each is known
pub heads_say : {B : Type 0} (owed : B → List ℕ) (h : B → Head) (p : ℕ) (bs : List B) → ((b : B) → RisesFrom 0 (owed b))
    → list_all (λ b. is_known p (h b)) bs ≡ true → Says (least p (map h bs)) (joined (map (λ b. part p (owed b) (h b)) bs))
heads_say owed h p [] r known = refl
heads_say owed h p (b ∷ bs) r known =
    let parts = and_parts (is_known p (h b)) (list_all (λ b. is_known p (h b)) bs) known in
    says_more (head_from p (h b)) (least p (map h bs)) (part p (owed b) (h b)) (joined (map (λ b. part p (owed b) (h b)) bs))
    (part_says p (owed b) (h b) parts.0 (r b)) (heads_say owed h p bs r parts.1)

-- the union begins with its least
pub union_starts : (m : ℕ) (ls : List (List ℕ)) → StartsAt m (joined ls) → union ls ≡ m ∷ ids_from (m + 1) (union ls)
union_starts m ls s =
    let r : RisesFrom m (union ls) = sorted_rises_from m (joined ls) s.all in
    let has : has_id (union ls) m ≡ true = has_sorted m (joined ls) ∙ s.has in
    sym (from_all m m (union ls) (omega arith) r) ∙ (front_split m m (union ls) r ∙ ap (λ b. id_if b m ++ ids_from (m + 1) (union ls)) has)

pub union_empty : (ls : List (List ℕ)) → joined ls ≡ [] → union ls ≡ []
union_empty ls e = ap sorted_set e

-- the branches from a later place on
pub parts_later : {B : Type 0} (owed : B → List ℕ) (h : B → Head) (p q : ℕ) (bs : List B) → p ≤ q
    → ids_from q (union (map (λ b. part p (owed b) (h b)) bs)) ≡ union (map (λ b. part q (owed b) (h b)) bs)
parts_later {B = B} owed h p q bs up = from_union q (map (λ b. part p (owed b) (h b)) bs) ∙ ap union (maps bs)
  where
    maps : (bs : List B) → map (ids_from q) (map (λ b. part p (owed b) (h b)) bs) ≡ map (λ b. part q (owed b) (h b)) bs
    maps [] = refl
    maps (b ∷ bs) = ap (λ l. l ∷ map (ids_from q) (map (λ b. part p (owed b) (h b)) bs)) (part_later p q (owed b) (h b) up) ∙ ap (λ ls. part q (owed b) (h b) ∷ ls) (maps bs)
