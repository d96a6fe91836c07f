-- The orders in which a program scans links and rows, and what pays for them.
use Rattle.std.proofs.Common.{◌≡◌, ◌∙◌, ℕ, zero, suc, ◌+◌, ◌<◌, ◌≤◌, List, [], ◌∷◌, ◌++◌, length, map, Bool, true, false, cond, inl, inr, Option, Some, None, refl, sym, ap, subst, arith, append_assoc, length-append}
use Rattle.std.specs.Prelude.{sum_by, slice_get, option_and_then}
use Rattle.std.specs.List.{enumerate_from, range_with_len, cons_option}
use Rattle.std.specs.Option.{option_map_or}
use Rattle.std.specs.Ordering.{nat_cmp}
use Rattle.std.proofs.lemmas.List.Sums.{sum_by-cons}
use Rattle.std.proofs.lemmas.Option.{slice_get-get_or, slice_get_within}
use Rattle.std.proofs.Math.Seq.{get_or-append_seam}
use Rattle.gd_prim.specs.declared.Primitive.{Primitive}
use Rattle.gd_prim.specs.declared.End.{End}
use Rattle.gd_prim.specs.End.{end_of}
use Rattle.gd_prim.specs.Live.{end_at}
use Rattle.gd_defs.specs.Property.{Property, near_of}
use Rattle.gd_defs.specs.Asked.{Asking, Members, Asked}
use Rattle.gd_defs.specs.Plan.{asked_end, link_template, clauses_of, template_of}
use Rattle.gd_defs.specs.Template.{Template, passes_template}
use Rattle.gd_runs.specs.RootSets.{links_of}
use Rattle.gd_order_laws.specs.Window.{In, Rising}
use Rattle.gd_work_laws.specs.PassedOn.{is_first, link_if, passing_links, link_order}
use Rattle.gd_work_laws.proofs.PassedOn.{links_rise}
use Rattle.gd_work_laws.specs.Turns.{build_turns}
use Rattle.gd_work_laws.specs.Scan.{candidate_turns, first_turns}
use Rattle.gd_left_laws.specs.Left.{members_from, member_turns, row_turns, Pays}
use Rattle.gd_left_laws.proofs.Moves.{all_from}
use Rattle.gd_left_laws.proofs.Scans.{tree_paid}

-- ---- links

near_same : (prims : List Primitive) (p : Property) (k : ℕ) → end_at (end_of (asked_end p)) prims k ≡ end_at (near_of p) prims k
near_same prims p k = by p.reversed refl (slice_get prims k)
  where
    by : (b : Bool) → p.reversed ≡ b → (o : Option Primitive) → option_and_then (end_of (asked_end p)) o ≡ option_and_then (near_of p) o
    by b is None = refl
    by true is (Some x) = rw is refl
    by false is (Some x) = rw is refl

links_in : (prims : List Primitive) (end : End) (t : Template) (links : List ℕ) (c : ℕ × ℕ) → In c (link_order prims end t links) → In c.0 links × (end_at (end_of end) prims c.0 ≡ Some c.1)
links_in prims end t [] c here = absurd here
links_in prims end t (k ∷ links) c here = by (end_at (end_of end) prims k) refl here (links_in prims end t links c)
  where
    behind : (In c (link_order prims end t links) → In c.0 links × (end_at (end_of end) prims c.0 ≡ Some c.1)) → In c (link_order prims end t links) → In c.0 (k ∷ links) × (end_at (end_of end) prims c.0 ≡ Some c.1)
    behind rest there = let found = rest there in (inr found.0, found.1)

    one : (b : Bool) (place : ℕ) → end_at (end_of end) prims k ≡ Some place → In c (cons_option (link_if b k place) (link_order prims end t links))
        → (In c (link_order prims end t links) → In c.0 links × (end_at (end_of end) prims c.0 ≡ Some c.1)) → In c.0 (k ∷ links) × (end_at (end_of end) prims c.0 ≡ Some c.1)
    one true place at (inl same) rest = (inl (ap (λ (e : ℕ × ℕ). e.0) same), subst (λ (e : ℕ × ℕ). end_at (end_of end) prims e.0 ≡ Some e.1) same at)
    one true place at (inr there) rest = behind rest there
    one false place at there rest = behind rest there

    by : (o : Option ℕ) → end_at (end_of end) prims k ≡ o
        → In c (cons_option (option_and_then (λ place. link_if (is_first (passing_links prims end t place) k) k place) o) (link_order prims end t links))
        → (In c (link_order prims end t links) → In c.0 links × (end_at (end_of end) prims c.0 ≡ Some c.1)) → In c.0 (k ∷ links) × (end_at (end_of end) prims c.0 ≡ Some c.1)
    by None at there rest = behind rest there
    by (Some place) at there rest = one (is_first (passing_links prims end t place) k) place at there rest

pub links_pay : (prims : List Primitive) (q : Asked) (a : Asking) (c : Members) (links : List ℕ) → Rising nat_cmp links
    → Pays prims (template_of q) (link_order prims (asked_end a.property) (link_template a c (clauses_of a.sort c)) links) (member_turns prims q (links_of a c links)) links
links_pay prims q a c links rises = record {
  rises = links_rise prims (asked_end a.property) (link_template a c (clauses_of a.sort c)) links rises;
  there = λ e here. (links_in prims (asked_end a.property) (link_template a c (clauses_of a.sort c)) links e here).0;
  turns = λ e here passes. paid e (links_in prims (asked_end a.property) (link_template a c (clauses_of a.sort c)) links e here).1 passes;
}
  where
    more : (f b n : ℕ) → 1 + b ≤ 1 + n → 1 + b ≤ 1 + (f + n)
    more f b n less = omega (arith, less)

    paid : (e : ℕ × ℕ) → end_at (end_of (asked_end a.property)) prims e.0 ≡ Some e.1 → passes_template prims (template_of q) e.1 ≡ true → 1 + build_turns prims (template_of q) e.1 ≤ member_turns prims q (links_of a c links) e.0
    paid e at passes =
        subst (λ (o : Option ℕ). 1 + build_turns prims (template_of q) e.1 ≤ 1 + option_map_or (λ o. first_turns prims a c o + candidate_turns prims q o) o 0) (sym (sym (near_same prims a.property e.0) ∙ at))
        (more (first_turns prims a c e.1) _ _ (tree_paid prims q e.1 passes))

-- ---- rows

-- what stands behind a front
behind_front : (pre : List ℕ) (x : ℕ) (xs all : List ℕ) (i : ℕ) → i ≡ length pre → pre ++ x ∷ xs ≡ all → slice_get all i ≡ Some x
behind_front pre x xs all i at is =
    let within : length pre < length (pre ++ x ∷ xs) = omega (arith, length-append pre (x ∷ xs)) in
    rw (← is, at) (slice_get-get_or (pre ++ x ∷ xs) (length pre) x within ∙ ap Some (get_or-append_seam pre x xs x))

next_at : (pre : List ℕ) (x : ℕ) (i : ℕ) → i ≡ length pre → i + 1 ≡ length (pre ++ x ∷ [])
next_at pre x i at = omega (arith, at, length-append pre (x ∷ []))

numbered_at : (all pre xs : List ℕ) (i : ℕ) → i ≡ length pre → pre ++ xs ≡ all → (c : ℕ × ℕ) → In c (enumerate_from i xs) → slice_get all c.0 ≡ Some c.1
numbered_at all pre [] i at is c here = absurd here
numbered_at all pre (x ∷ xs) i at is c (inl same) = subst (λ (e : ℕ × ℕ). slice_get all e.0 ≡ Some e.1) same (behind_front pre x xs all i at is)
numbered_at all pre (x ∷ xs) i at is c (inr there) = numbered_at all (pre ++ x ∷ []) xs (i + 1) (next_at pre x i at) (append_assoc pre (x ∷ []) xs ∙ is) c there

rows_sum : (prims : List Primitive) (q : Asked) (all pre xs : List ℕ) (i : ℕ) → i ≡ length pre → pre ++ xs ≡ all → sum_by (row_turns prims q all) (range_with_len i (length xs)) ≡ sum_by (λ o. 1 + candidate_turns prims q o) xs
rows_sum prims q all pre [] i at is = refl
rows_sum prims q all pre (x ∷ xs) i at is =
    sum_by-cons (row_turns prims q all) i (range_with_len (i + 1) (length xs))
    ∙ (ap (λ o. option_map_or (λ o. 1 + candidate_turns prims q o) o 0 + sum_by (row_turns prims q all) (range_with_len (i + 1) (length xs))) (behind_front pre x xs all i at is)
    ∙ (ap (λ n. 1 + candidate_turns prims q x + n) (rows_sum prims q all (pre ++ x ∷ []) xs (i + 1) (next_at pre x i at) (append_assoc pre (x ∷ []) xs ∙ is))
    ∙ sym (sum_by-cons (λ o. 1 + candidate_turns prims q o) x xs)))

in_range : (n i x : ℕ) → i ≤ x → x < i + n → In x (range_with_len i n)
in_range zero i x low high = absurd (omega (arith, low, high))
in_range (suc n) i x low high = Rattle.std.proofs.Common.⊎_elim
    (λ (same : i ≡ x). inl same)
    (λ (rest : Rattle.std.proofs.Common.◌⊎◌ (i < x) (x < i)). Rattle.std.proofs.Common.⊎_elim
    (λ (less : i < x). inr (in_range n (i + 1) x (omega (arith, less)) (omega (arith, high))))
    (λ (more : x < i). absurd (omega (arith, low, more)))
    rest)
    (Rattle.std.proofs.lemmas.Bool.cases_order i x)

pub rows_pay : (prims : List Primitive) (q : Asked) (os : List ℕ) → Pays prims (template_of q) (enumerate_from 0 os) (row_turns prims q os) (range_with_len 0 (length os))
rows_pay prims q os = record { rises = rises 0 os; there = there; turns = turns }
  where
    at : (c : ℕ × ℕ) → In c (enumerate_from 0 os) → slice_get os c.0 ≡ Some c.1
    at c here = numbered_at os [] os 0 refl refl c here

    there : (c : ℕ × ℕ) → In c (enumerate_from 0 os) → In c.0 (range_with_len 0 (length os))
    there c here = in_range (length os) 0 c.0 (omega arith) (inside (slice_get_within os c.0 c.1 (at c here)))
      where
        inside : c.0 < length os → c.0 < 0 + length os
        inside less = omega (arith, less)

    turns : (c : ℕ × ℕ) → In c (enumerate_from 0 os) → passes_template prims (template_of q) c.1 ≡ true → 1 + build_turns prims (template_of q) c.1 ≤ row_turns prims q os c.0
    turns c here passes = subst (λ (o : Option ℕ). 1 + build_turns prims (template_of q) c.1 ≤ option_map_or (λ o. 1 + candidate_turns prims q o) o 0) (sym (at c here)) (tree_paid prims q c.1 passes)

    numbers : (i : ℕ) (xs : List ℕ) → map (λ (c : ℕ × ℕ). c.0) (enumerate_from i xs) ≡ range_with_len i (length xs)
    numbers i [] = refl
    numbers i (x ∷ xs) = ap (λ l. i ∷ l) (numbers (i + 1) xs)

    rises : (i : ℕ) (xs : List ℕ) → Rising nat_cmp (map (λ c. c.0) (enumerate_from i xs))
    rises i xs = subst (Rising nat_cmp) (sym (numbers i xs)) (range_rises (length xs) i)
      where
        above : (n i j : ℕ) → i < j → Rattle.gd_order_laws.specs.Window.Each (λ y. nat_cmp i y ≡ Rattle.std.specs.declared.cmp.Ordering.TheVariants.Less) (range_with_len j n)
        above zero i j less = tt
        above (suc n) i j less = (Rattle.gd_order_laws.proofs.Places.nat_less i j less, above n i (j + 1) (omega (arith, less)))

        range_rises : (n i : ℕ) → Rising nat_cmp (range_with_len i n)
        range_rises zero i = tt
        range_rises (suc n) i = (above n i (i + 1) (omega arith), range_rises n (i + 1))

pub rows_all : (prims : List Primitive) (q : Asked) (os : List ℕ) → members_from (row_turns prims q os) (range_with_len 0 (length os)) 0 ≡ sum_by (λ o. 1 + candidate_turns prims q o) os
rows_all prims q os = ap (sum_by (row_turns prims q os)) (all_from (range_with_len 0 (length os))) ∙ rows_sum prims q os [] os 0 refl refl
