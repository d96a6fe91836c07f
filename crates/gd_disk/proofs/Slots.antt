-- The slot of a path by its place.
use Rattle.std.proofs.Common.{◌≡◌, ◌≢◌, ℕ, zero, suc, ◌<◌, ◌≤◌, List, [], ◌∷◌, ◌++◌, length, get_or, Option, Some, None, Bool, true, false, refl, sym, ◌∙◌, ap, subst, arith, inl, inr}
use Rattle.std.proofs.Math.ListN.{set}
use Rattle.std.proofs.lemmas.Bool.{cases_Bool, cases_lt, lt-ltb}
use Rattle.std.proofs.lemmas.List.Quantifiers.{position-Some}
use Rattle.std.proofs.lemmas.Slice.Eq.{bytes_eq-Decides}
use Rattle.std.specs.Prelude.{bytes_eq}
use Rattle.std.specs.List.{position, position_or_len}
use Rattle.gd_disk.specs.Recorded.{Recorded}
use Rattle.gd_bytes.specs.Disk.{HoldsSame}
use Rattle.gd_disk.specs.Shelved.{slot_at, content_in, images_in, is_out_in}
use Rattle.gd_disk.specs.declared.memory_shelf.Slot.{Slot}

-- whether a slot is of a path
abbrev is_of : List ℕ → Slot → Bool
is_of path slot = bytes_eq slot.path path

-- a path is not another
other_path : (p path other : List ℕ) → bytes_eq p path ≡ true → other ≢ path → bytes_eq p other ≡ false
other_path p path other is apart = elim (cases_Bool (bytes_eq p other)) [
  | inl same ↦ absurd (apart (sym ((bytes_eq-Decides p other).0 same) ∙ (bytes_eq-Decides p path).0 is))
  | inr differs ↦ differs
]

at_place : (path : List ℕ) (slots : List Slot) (i : ℕ) (d : Slot) → i < length slots → is_of path (get_or slots i d) ≡ true → ((k : ℕ) → k < i → is_of path (get_or slots k d) ≡ false) → slot_at slots path ≡ Some (get_or slots i d).disk
at_place path [] i d lt is none = absurd (omega arith)
at_place path (s ∷ slots) zero d lt is none = rw is refl
at_place path (s ∷ slots) (suc i) d lt is none =
    let first : bytes_eq s.path path ≡ false = none 0 (omega arith) in
    rw first (at_place path slots i d (omega arith) is (λ k le. none (suc k) (omega arith)))

set_place : (path : List ℕ) (slots : List Slot) (i : ℕ) (d new : Slot) → i < length slots → is_of path (get_or slots i d) ≡ true → ((k : ℕ) → k < i → is_of path (get_or slots k d) ≡ false) → new.path ≡ (get_or slots i d).path → slot_at (set slots i new) path ≡ Some new.disk
set_place path [] i d new lt is none same = absurd (omega arith)
set_place path (s ∷ slots) zero d new lt is none same = rw (same, is) refl
set_place path (s ∷ slots) (suc i) d new lt is none same =
    let first : bytes_eq s.path path ≡ false = none 0 (omega arith) in
    rw first (set_place path slots i d new (omega arith) is (λ k le. none (suc k) (omega arith)) same)

set_other : (path other : List ℕ) (slots : List Slot) (i : ℕ) (d new : Slot) → other ≢ path → i < length slots → is_of path (get_or slots i d) ≡ true → new.path ≡ (get_or slots i d).path → slot_at (set slots i new) other ≡ slot_at slots other
set_other path other [] i d new apart lt is same = absurd (omega arith)
set_other path other (s ∷ slots) zero d new apart lt is same =
    let old : bytes_eq s.path other ≡ false = other_path s.path path other is apart in
    rw (same, old) refl
set_other path other (s ∷ slots) (suc i) d new apart lt is same = elim (cases_Bool (bytes_eq s.path other)) [
  | inl found ↦ rw found refl
  | inr differs ↦ rw differs (set_other path other slots i d new apart (omega arith) is same)
]

no_slot : (path : List ℕ) (slots : List Slot) → length slots ≤ position_or_len (is_of path) slots → slot_at slots path ≡ None
no_slot path [] le = refl
no_slot path (s ∷ slots) le = elim (cases_Bool (bytes_eq s.path path)) [
  | inl found ↦ absurd (omega (arith, rw found at le))
  | inr differs ↦ rw differs (no_slot path slots (omega (arith, rw differs at le)))
]

-- ---- by what `position` answers

pub none_of : (path : List ℕ) (slots : List Slot) → position (is_of path) slots ≡ None → slot_at slots path ≡ None
none_of path slots is = elim (cases_lt (position_or_len (is_of path) slots) (length slots)) [
  | inl lt ↦ absurd (some_none (position_or_len (is_of path) slots) (sym (rw (lt-ltb _ _ lt) at is)))
  | inr le ↦ no_slot path slots le
]
  where
    some_none : (n : ℕ) → None ≡ Some n → ⊥
    some_none n e = cc

pub slot_some : (path : List ℕ) (slots : List Slot) (i : ℕ) (d : Slot) → position (is_of path) slots ≡ Some i → slot_at slots path ≡ Some (get_or slots i d).disk
slot_some path slots i d is = let at = position-Some (is_of path) slots i d is in at_place path slots i d at.0 at.1 at.2

pub slot_set : (path : List ℕ) (slots : List Slot) (i : ℕ) (d new : Slot) → position (is_of path) slots ≡ Some i → new.path ≡ (get_or slots i d).path → slot_at (set slots i new) path ≡ Some new.disk
slot_set path slots i d new is same = let at = position-Some (is_of path) slots i d is in set_place path slots i d new at.0 at.1 at.2 same

pub slot_other : (path other : List ℕ) (slots : List Slot) (i : ℕ) (d new : Slot) → other ≢ path → position (is_of path) slots ≡ Some i → new.path ≡ (get_or slots i d).path → slot_at (set slots i new) other ≡ slot_at slots other
slot_other path other slots i d new apart is same = let at = position-Some (is_of path) slots i d is in set_other path other slots i d new apart at.0 at.1 same

-- ---- a slot more, at the end

push_slot : (path : List ℕ) (slots : List Slot) (new : Slot) → slot_at slots path ≡ None → new.path ≡ path → slot_at (slots ++ new ∷ []) path ≡ Some new.disk
push_slot path [] new none same = rw (same, (bytes_eq-Decides path path).1 refl) refl
push_slot path (s ∷ slots) new none same = elim (cases_Bool (bytes_eq s.path path)) [
  | inl found ↦ absurd (some_is_none s.disk (rw found at none))
  | inr differs ↦ rw differs (push_slot path slots new (rw differs at none) same)
]
  where
    some_is_none : (o : Option Recorded) → Some o ≡ None → ⊥
    some_is_none o e = cc

push_other : (path other : List ℕ) (slots : List Slot) (new : Slot) → other ≢ path → new.path ≡ path → slot_at (slots ++ new ∷ []) other ≡ slot_at slots other
push_other path other [] new apart same = rw (same, other_path path path other ((bytes_eq-Decides path path).1 refl) apart) refl
push_other path other (s ∷ slots) new apart same = elim (cases_Bool (bytes_eq s.path other)) [
  | inl found ↦ rw found refl
  | inr differs ↦ rw differs (push_other path other slots new apart same)
]

pub slot_push : (path : List ℕ) (slots more : List Slot) (new : Slot) → slot_at slots path ≡ None → new.path ≡ path → more ≡ slots ++ new ∷ [] → slot_at more path ≡ Some new.disk
slot_push path slots more new none same is = ap (λ (l : List Slot). slot_at l path) is ∙ push_slot path slots new none same

pub other_push : (path other : List ℕ) (slots more : List Slot) (new : Slot) → other ≢ path → new.path ≡ path → more ≡ slots ++ new ∷ [] → slot_at more other ≡ slot_at slots other
other_push path other slots more new apart same is = ap (λ (l : List Slot). slot_at l other) is ∙ push_other path other slots new apart same

-- what a slot tells, when it stayed
pub still_there : (old new : Option (Option Recorded)) → new ≡ old → HoldsSame (content_in old) (content_in new) (images_in old) (images_in new) × (is_out_in new ≡ is_out_in old)
still_there old new is =
    subst (λ (o : Option (Option Recorded)). HoldsSame (content_in old) (content_in o) (images_in old) (images_in o) × (is_out_in o ≡ is_out_in old)) (sym is)
    (record { content = refl; fewer = λ c has. has; more = λ c has. has }, refl)
