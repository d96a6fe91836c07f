-- What files tell, and the mark.
use Rattle.std.proofs.Common.{◌≡◌, ◌≢◌, inl, inr, ℕ, ◌+◌, ◌<◌, ◌≤◌, List, [], ◌∷◌, ◌++◌, length, true, false, Some, None, refl, sym, ◌∙◌, ap, arith}
use Rattle.std.specs.Prelude.{if◌then◌else◌, nat_le, bytes_eq, ◌||◌, Option, Bool}
use Rattle.std.specs.List.{AllByRecursion, list_any}
use Rattle.std.specs.Option.{option_map}
use Rattle.std.proofs.lemmas.Bool.{cases_lt}
use Rattle.std.proofs.lemmas.Slice.Eq.{bytes_eq-Decides}
use Rattle.std.proofs.lemmas.Bool.Decides.{nat_tests}
use Rattle.gd_bytes.specs.File.{Version, first, second, version_of, is_marked, mark, Payloads, payloads}
use Rattle.gd_journal.specs.Meaning.{held_by, located, whole, StandsFor, marked_by, with_mark, told, Told, told_of, told_by}
use Rattle.gd_journal.specs.Shape.{IsPayload, IsDoubtful}
use Rattle.gd_journal.proofs.Headers.{cases_bool}
use Rattle.gd_journal.proofs.Means.{held_short, held_long, doubtful_stands}

-- the mark is a payload
pub mark_fits : IsPayload mark
mark_fits = record { some = omega arith; short = omega arith }

-- ---- what is told

abbrev nothing : Told
nothing = record { list = []; damaged = None }

pub told_short : (file : List ℕ) → length file ≤ 9 → told_by file ≡ Some nothing
unfolding told_by
told_short file short =
    let test : nat_le (length file) 9 ≡ true = grind (arith, nat_tests) in
    ap (λ (b : Bool). if b then Some nothing else option_map (told_of (payloads file)) (version_of file)) test

pub told_long : (file : List ℕ) (v : Version) → 9 < length file → version_of file ≡ Some v → told_by file ≡ Some (told_of (payloads file) v)
unfolding told_by
told_long file v long is =
    let test : nat_le (length file) 9 ≡ false = grind (arith, nat_tests) in
    ap (λ (b : Bool). if b then Some nothing else option_map (told_of (payloads file)) (version_of file)) test
    ∙ ap (λ (o : Option Version). option_map (told_of (payloads file)) o) is

one_found : (a b : Payloads) (o : Option Payloads) → o ≡ Some a → o ≡ Some b → a ≡ b
one_found a b o p q = cc

-- of a file that stands for some payloads
pub told_stands : (v : Version) (ps : List (List ℕ)) (file : List ℕ) → StandsFor v ps file → told_by file ≡ Some (told_of (whole ps) v)
told_stands v ps file (held, begins) = elim (cases_lt 9 (length file)) [
  | inr short ↦
      let same = one_found _ (whole ps) (held_by file) (held_short file short) held in
      told_short file short ∙ ap (λ (found : Payloads). Some (told_of found v)) same
  | inl long ↦
      let is = begins long in
      let same = one_found (payloads file) (whole ps) (held_by file) (held_long file v long is) held in
      told_long file v long is ∙ ap (λ (found : Payloads). Some (told_of found v)) same
]

-- ---- the mark behind payloads of which none is it

or_none : (a b : Bool) → (a || b) ≡ false → (a ≡ false) × (b ≡ false)
or_none false b none = (refl, none)
or_none true b none = cc

told_last : (at : ℕ) (ps : List (List ℕ)) → list_any (λ p. bytes_eq p mark) ps ≡ false → told false (located at (ps ++ mark ∷ [])) ≡ told false (located at ps)
told_last at [] none = refl
told_last at (p ∷ ps) none =
    let parts = or_none (bytes_eq p mark) (list_any (λ q. bytes_eq q mark) ps) none in
    let longer = located (at + 5 + length p) (ps ++ mark ∷ []) in
    let shorter = located (at + 5 + length p) ps in
    ap (λ (b : Bool). if b then told true longer else (false, (at, p)) ∷ told false longer) parts.0
    ∙ ap (λ (l : List (Bool × (ℕ × List ℕ))). (false, (at, p)) ∷ l) (told_last (at + 5 + length p) ps parts.1)
    ∙ sym (ap (λ (b : Bool). if b then told true shorter else (false, (at, p)) ∷ told false shorter) parts.0)

pub told_marked : (v : Version) (ps : List (List ℕ)) → marked_by v ps ≡ false → told_of (whole (ps ++ mark ∷ [])) v ≡ told_of (whole ps) v
told_marked first ps none = ap (λ (l : List (Bool × (ℕ × List ℕ))). record { list = l; damaged = None }) (told_last 8 ps none)
told_marked second ps none = cc

-- while it is written
pub told_doubtful : (v : Version) (ps : List (List ℕ)) (c : List ℕ) → AllByRecursion IsPayload ps → marked_by v ps ≡ false → IsDoubtful v ps mark c → told_by c ≡ Some (told_of (whole ps) v)
told_doubtful v ps c each none there = elim (doubtful_stands v ps mark c each mark_fits there) [
  | inl without ↦ told_stands v ps c without
  | inr with ↦ told_stands v (ps ++ mark ∷ []) c with ∙ ap (λ (t : Told). Some t) (told_marked v ps none)
]

-- ---- whether it is due

-- what is not as long is not the mark
pub not_mark : (p : List ℕ) → length p ≢ 4 → bytes_eq p mark ≡ false
not_mark p other = elim (cases_bool (bytes_eq p mark)) [
  | inl same ↦ absurd (other (ap length ((bytes_eq-Decides p mark).0 same)))
  | inr none ↦ none
]

any_push : (ps : List (List ℕ)) (p : List ℕ) → list_any (λ q. bytes_eq q mark) (ps ++ p ∷ []) ≡ (list_any (λ q. bytes_eq q mark) ps || bytes_eq p mark)
any_push [] p = or_last (bytes_eq p mark)
  where
    or_last : (b : Bool) → (b || false) ≡ b
    or_last true = refl
    or_last false = refl
any_push (q ∷ ps) p = ap (λ (b : Bool). bytes_eq q mark || b) (any_push ps p) ∙ or_joined (bytes_eq q mark) _ _
  where
    or_joined : (a b c : Bool) → (a || (b || c)) ≡ ((a || b) || c)
    or_joined true b c = refl
    or_joined false b c = refl

-- of no payloads
pub marked_none : (v : Version) → is_marked v ≡ marked_by v []
marked_none first = refl
marked_none second = refl

-- with one payload more
pub marked_push : (v : Version) (ps : List (List ℕ)) (p : List ℕ) (m now : Bool) → m ≡ marked_by v ps → now ≡ (m || bytes_eq p mark) → now ≡ marked_by v (ps ++ p ∷ [])
marked_push first ps p m now is more = more ∙ ap (λ (b : Bool). b || bytes_eq p mark) is ∙ sym (any_push ps p)
marked_push second ps p m now is more = more ∙ ap (λ (b : Bool). b || bytes_eq p mark) is

pub with_none : (v : Version) (ps : List (List ℕ)) → marked_by v ps ≡ true → with_mark v ps ≡ ps
with_none v ps there = ap (λ (b : Bool). if b then ps else ps ++ mark ∷ []) there

pub with_one : (v : Version) (ps : List (List ℕ)) → marked_by v ps ≡ false → with_mark v ps ≡ ps ++ mark ∷ []
with_one v ps none = ap (λ (b : Bool). if b then ps else ps ++ mark ∷ []) none
