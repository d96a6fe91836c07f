-- A write job is a line of the round, behind the write line before it of its session.
use Rattle.std.proofs.Common.{◌≡◌, refl, ℕ, zero, suc, ◌+◌, ◌<◌, ◌==◌, List, [], ◌∷◌, ◌++◌, length, map, take, drop, Option, Some, None, Ok, slice_get, sym, subst, ap, ◌∙◌, arith, append_assoc}
use Rattle.std.specs.Prelude.{filter}
use Rattle.std.specs.List.{last_or}
use Rattle.std.proofs.lemmas.List.{map-append}
use Rattle.gd_defs.specs.Write.{WriteRequest}
use Rattle.gd_runs.specs.Request.{write}
use Rattle.gd_runs.specs.Explained.{Numbered}
use Rattle.gd_runs.specs.Side.{WriteLine, Begun, session_lines}
use Rattle.gd_runs.proofs.Rounds.{no_some, some_same, get_right}
use Rattle.gd_core_laws.specs.Round.{one_write, write_lines}
use Rattle.gd_core_laws.specs.Writes.{RisesBy}
use Rattle.gd_core_laws.proofs.Lock.{same_numbers}
use Rattle.gd_core_laws.proofs.RoundAfter.{equal}
use Rattle.gd_core_laws.proofs.Sorted.{from_filter, passes_filter, filter_rises, map_rises, write_lines_rise}
use Rattle.gd_crew.specs.Round.{IsOfRound}
use Rattle.gd_crew.specs.Runs.{JobValue, writes, last_write, AreOfRound}

-- ---- the last of the front of a list

last_at : (o : Option ℕ) (xs : List ℕ) (q : ℕ) → q + 1 ≡ length xs → last_or o xs ≡ slice_get xs q
last_at o [] q is = absurd (omega (arith, is))
last_at o (x ∷ []) zero is = refl
last_at o (x ∷ y ∷ ys) zero is = absurd (omega (arith, is))
last_at o (x ∷ xs) (suc q) is = last_at (Some x) xs q (omega (arith, is))

get_front : (xs ys : List ℕ) (q : ℕ) → q < length xs → slice_get (xs ++ ys) q ≡ slice_get xs q
get_front [] ys q less = absurd (omega (arith, less))
get_front (x ∷ xs) ys zero less = refl
get_front (x ∷ xs) ys (suc q) less = get_front xs ys q (omega (arith, less))

-- in a list that rises a number stands at one place
place_of : (xs ys : List ℕ) (x q : ℕ) → RisesBy (λ (n : ℕ). n) (xs ++ x ∷ ys) → slice_get (xs ++ x ∷ ys) q ≡ Some x → q ≡ length xs
place_of xs ys x q rises at =
    let here : slice_get (xs ++ x ∷ ys) (length xs + 0) ≡ Some x = get_right xs (x ∷ ys) 0 x refl in
    equal q (length xs)
    (λ less. let above = rises q (length xs + 0) x x (omega (arith, less)) at here in omega (arith, above))
    (λ more. let above = rises (length xs + 0) q x x (omega (arith, more)) here at in omega (arith, above))

none_before : (xs ys : List ℕ) (x : ℕ) → RisesBy (λ (n : ℕ). n) (xs ++ x ∷ ys) → slice_get (xs ++ x ∷ ys) 0 ≡ Some x → last_or None xs ≡ None
none_before [] ys x rises at = refl
none_before (z ∷ zs) ys x rises at = let no = place_of (z ∷ zs) ys x 0 rises at in absurd (omega (arith, no))

one_before : (xs ys : List ℕ) (x q : ℕ) → RisesBy (λ (n : ℕ). n) (xs ++ x ∷ ys) → slice_get (xs ++ x ∷ ys) (q + 1) ≡ Some x → last_or None xs ≡ slice_get (xs ++ x ∷ ys) q
one_before xs ys x q rises at = let place = place_of xs ys x (q + 1) rises at in last_at None xs q place ∙ sym (get_front xs (x ∷ ys) q (omega (arith, place)))

-- ---- the write lines of jobs

-- a job that is a write stands among the write lines, behind those of the jobs before it
writes_split : (jobs : List JobValue) (n : ℕ) (j : JobValue) (a : WriteLine) → slice_get jobs n ≡ Some j → one_write j.line j.bytes (Ok j.work) ≡ a ∷ [] → writes jobs ≡ writes (take n jobs) ++ a ∷ writes (drop (suc n) jobs)
writes_split [] n j a at is = no_some at
writes_split (x ∷ xs) zero j a at is = ap (λ (ls : List WriteLine). ls ++ writes xs) (ap (λ (i : JobValue). one_write i.line i.bytes (Ok i.work)) (some_same at) ∙ is)
writes_split (x ∷ xs) (suc n) j a at is =
    ap (λ (ls : List WriteLine). one_write x.line x.bytes (Ok x.work) ++ ls) (writes_split xs n j a at is) ∙ sym (append_assoc (one_write x.line x.bytes (Ok x.work)) (writes (take n xs)) (a ∷ writes (drop (suc n) xs)))

abbrev lines_of : List WriteLine → List ℕ
lines_of ls = map (λ a. a.line) ls

-- the write job that is next is a line of the round, behind the last write line of the jobs before it
pub of_round : (l : Begun) (first : ℕ) (given : List Numbered) → l.lines ≡ write_lines first given → (sid : ℕ) (jobs : List JobValue) → AreOfRound l sid jobs → (n : ℕ) (j : JobValue) → slice_get jobs n ≡ Some j
    → (s : ℕ) (w : WriteRequest) → j.work ≡ write s w → IsOfRound l j.line (last_write (take n jobs)) w j.bytes
of_round l first given lines sid jobs of n j at s w asks = record {
  place = (from_filter (λ (b : WriteLine). b.session == sid) l.lines (length done + 0) this here).0;
  session = s;
  there = (from_filter (λ (b : WriteLine). b.session == sid) l.lines (length done + 0) this here).1;
  before_is = record {
    first = λ is. none_before (lines_of done) (lines_of rest) j.line rises (subst (λ (ns : List ℕ). slice_get ns 0 ≡ Some j.line) numbers is);
    later = λ q is. one_before (lines_of done) (lines_of rest) j.line q rises (subst (λ (ns : List ℕ). slice_get ns (q + 1) ≡ Some j.line) numbers is) ∙ sym (ap (λ (ns : List ℕ). slice_get ns q) numbers);
  };
}
  where
    this : WriteLine
    this = record { line = j.line; session = s; request = w; bytes = j.bytes }

    done : List WriteLine
    done = writes (take n jobs)

    rest : List WriteLine
    rest = writes (drop (suc n) jobs)

    split : filter (λ (b : WriteLine). b.session == sid) l.lines ≡ done ++ this ∷ rest
    split = sym of.writes ∙ writes_split jobs n j this at (ap (λ x. one_write j.line j.bytes (Ok x)) asks)

    here : slice_get (filter (λ (b : WriteLine). b.session == sid) l.lines) (length done + 0) ≡ Some this
    here = subst (λ (ls : List WriteLine). slice_get ls (length done + 0) ≡ Some this) (sym split) (get_right done (this ∷ rest) 0 this refl)

    its_session : s ≡ sid
    its_session = same_numbers s sid (passes_filter (λ (b : WriteLine). b.session == sid) l.lines (length done + 0) this here)

    numbers : session_lines l s ≡ lines_of done ++ j.line ∷ lines_of rest
    numbers = ap (λ (i : ℕ). session_lines l i) its_session ∙ (ap lines_of split ∙ map-append (λ (a : WriteLine). a.line) done (this ∷ rest))

    all_rise : RisesBy (λ (a : WriteLine). a.line) l.lines
    all_rise = subst (λ (ls : List WriteLine). RisesBy (λ (a : WriteLine). a.line) ls) (sym lines) (write_lines_rise first given)

    rises : RisesBy (λ (n : ℕ). n) (lines_of done ++ j.line ∷ lines_of rest)
    rises = subst (λ (ns : List ℕ). RisesBy (λ (n : ℕ). n) ns) numbers
        (subst (λ (i : ℕ). RisesBy (λ (n : ℕ). n) (session_lines l i)) (sym its_session) (map_rises (λ (a : WriteLine). a.line) _ (filter_rises (λ (a : WriteLine). a.line) (λ (b : WriteLine). b.session == sid) l.lines all_rise)))
