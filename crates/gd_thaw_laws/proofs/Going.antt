-- A reading that goes on scanning from a position that fits owes what it owed there.
use Rattle.std.proofs.Common.{◌≡◌, ◌∙◌, inl, inr, ◌⊎◌, ⊎_elim, refl, sym, ap, subst, ℕ, suc, ◌<◌, List, [], ◌∷◌, ◌++◌, Bool, true, false, ◌&&◌, Option, None, Some, length, take, map, filter, append_assoc}
use Rattle.std.specs.Prelude.{option_map, if◌then◌else◌, nat_le}
use Rattle.std.specs.List.{list_any, list_all}
use Rattle.std.proofs.lemmas.Bool.{and_parts}
use Rattle.gd_prim.specs.declared.Primitive.{Primitive}
use Rattle.gd_prim.specs.Live.{is_live, is_current, passes_at}
use Rattle.gd_tree.specs.Trees.{Tree, tree, place_of}
use Rattle.gd_defs.specs.Asked.{Asked}
use Rattle.gd_defs.specs.Plan.{template_of}
use Rattle.gd_defs.specs.Reply.{Mark, mark_row}
use Rattle.gd_defs.specs.Rows.{Row, row_of}
use Rattle.gd_defs.specs.Template.{tree_of, Constraint, Template, template, is_answer, passes_template, meets_constraints, holds}
use Rattle.gd_bytes.specs.Frozen.{Frame, Scan}
use Rattle.gd_runs.specs.Owed.{ScanOrder, Candidate, candidate, candidates_from, tried, finished, owed_by, weighs_too_much, MembersOf, iter_fits, frames_fit, frame_lists_fit, stack_fits, scan_fits}
use Rattle.gd_runs.specs.Thawed.{window, answering}
use Rattle.gd_order_laws.specs.Window.{In}
use Rattle.gd_order_laws.proofs.Rows.{In-map}
use Rattle.gd_match_laws.proofs.PassedOn.{passes_there}
use Rattle.gd_match_laws.specs.Moves.{Runs, stays}
use Rattle.gd_match_laws.proofs.Bodies.{filter_map-append, map-append}
use Rattle.gd_match_laws.proofs.Scans.{run-keeps}
use Rattle.gd_suspended_laws.proofs.Scanning.{scan_goes, got, inside}
use Rattle.gd_thaw_laws.specs.Thawing.{offered_since, best_since, ThawedScansOwe, KeptStand}
use Rattle.gd_thaw_laws.proofs.Kept.{first_of_any, in_best, IsAgain, all_again, mark_again, row_again}

-- ---- what is owed lies inside

pub in_either : {A : Type 0} (xs ys : List A) (x : A) → In x (xs ++ ys) → In x xs ⊎ In x ys
in_either [] ys x here = inr here
in_either (y ∷ xs) ys x (inl same) = inl (inl same)
in_either (y ∷ xs) ys x (inr there) = ⊎_elim (λ h. inl (inr h)) (λ h. inr h) (in_either xs ys x there)

in_front : {A : Type 0} (xs ys : List A) (x : A) → In x xs → In x (xs ++ ys)
in_front [] ys x here = absurd here
in_front (y ∷ xs) ys x (inl same) = inl same
in_front (y ∷ xs) ys x (inr there) = inr (in_front xs ys x there)

-- what meets constraints is a place of the list
pub met_inside : (prims : List Primitive) (cs : List Constraint) (o : ℕ) → meets_constraints prims cs o ≡ true → o < length prims
met_inside prims cs o meets =
    let live = and_parts (is_live prims o) (list_all (λ c. holds prims c o) cs) meets in
    let placed = and_parts (passes_at (λ p. p.live) prims o) (is_current prims o) live.0 in
    let at = passes_there (λ p. p.live) prims o placed.0 in
    got prims o at.0 at.1

tree_place : (prims : List Primitive) (t : Template) (p : ℕ) → place_of (tree_of prims t p) ≡ p
tree_place prims (template cs below) p = refl

module _ (prims : List Primitive) (members : MembersOf) where
  -- the place that frames try
  tried_inside : (t : Template) (w : ℕ) (fs : List Frame) → stack_fits prims members t fs ≡ true → (o : ℕ) → In o (answering (tried prims t w fs)) → o < length prims
  tried_inside t w [] fits o here = absurd here
  tried_inside (template cs asked) w (f ∷ fs) fits o here = by (finished prims (template cs asked) f fs) (named (Rattle.gd_runs.specs.Owed.finished_lists prims asked f f.lists fs)) here
    where
      there : f.place < length prims
      there = met_inside prims cs f.place (and_parts (meets_constraints prims cs f.place) (frame_lists_fit prims members (length prims) asked f f.lists fs) fits).0

      Named : Option Tree → Type 0
      Named None = Unit {0}
      Named (Some u) = place_of u ≡ f.place

      named : (ls : Option Rattle.gd_tree.specs.Trees.TreeLists) → Named (option_map (tree f.place) ls)
      named None = tt
      named (Some ls) = refl

      by : (a : Option Tree) → Named a → In o (answering (record { weight = w; answer = a } ∷ [])) → o < length prims
      by None n here = absurd here
      by (Some u) n (inl same) = subst (λ x. x < length prims) (sym n ∙ same) there
      by (Some u) n (inr none) = absurd none

  -- the candidates behind it
  later_inside : (t : Template) (ps : ScanOrder) (o : ℕ) → In o (answering (map (λ c. candidate prims t c.1) ps)) → o < length prims
  later_inside t [] o here = absurd here
  later_inside t (p ∷ ps) o here = by (is_answer prims t p.1) refl (later_inside t ps o) here
    where
      by : (b : Bool) → is_answer prims t p.1 ≡ b → (In o (answering (map (λ c. candidate prims t c.1) ps)) → o < length prims)
          → In o (Rattle.std.specs.List.cons_option (option_map place_of (if b then Some (tree_of prims t p.1) else None)) (answering (map (λ c. candidate prims t c.1) ps))) → o < length prims
      by true is rest (inl same) = subst (λ x. x < length prims) (sym (tree_place prims t p.1) ∙ same) (inside prims p.1 t is)
      by true is rest (inr there) = rest there
      by false is rest there = rest there

  owed_inside : (t : Template) (order : ScanOrder) (s : Scan) → scan_fits prims members t s ≡ true → (o : ℕ) → In o (answering (owed_by prims t order s)) → o < length prims
  owed_inside t order s fits o here =
      ⊎_elim (λ there. tried_inside t s.weight s.frames (and_parts (iter_fits (length prims) (members prims None t) s.iter) (stack_fits prims members t s.frames) fits).1 o there)
      (λ there. later_inside t (filter (λ c. nat_le s.iter.place c.0 && passes_template prims t c.1) order) o there)
      (in_either (answering (tried prims t s.weight s.frames)) (answering (candidates_from prims t order s.iter.place)) o
      (subst (In o) (filter_map-append _ (tried prims t s.weight s.frames) (candidates_from prims t order s.iter.place)) here))

  -- what a run gave, too
  pub given_inside : (t : Template) (order : ScanOrder) (s m : Scan) (cs : List Candidate) → scan_fits prims members t s ≡ true → Runs prims order t s cs m → (o : ℕ) → In o (answering cs) → o < length prims
  given_inside t order s m cs fits run o here =
      owed_inside t order s fits o
      (subst (In o) (sym (ap answering (run-keeps prims order t s cs m run) ∙ filter_map-append _ cs (owed_by prims t order m)))
      (in_front (answering cs) (answering (owed_by prims t order m)) o here))

module _ (prims : List Primitive) (q : Asked) (after : Option Mark) (kept : List Mark) (cs : List Candidate) (placed : (o : ℕ) → In o (answering cs) → o < length prims) where
  offered_again : (r : Row) → In r (offered_since prims q kept cs) → IsAgain prims q r
  offered_again r here = ⊎_elim
      (λ there. let from = In-map (mark_row prims q.sort) kept r there in subst (IsAgain prims q) from.2 (mark_again prims q from.0))
      (λ there. let from = In-map (row_of prims q.sort 0) (answering cs) r there in subst (IsAgain prims q) from.2 (row_again prims q from.0 (placed from.0 from.1)))
      (in_either (map (mark_row prims q.sort) kept) (map (row_of prims q.sort 0) (answering cs)) r here)

  -- the best rows are those of their marks
  pub best_again : map (mark_row prims q.sort) (best_since prims q after kept cs) ≡ take (suc q.limit) (window prims q after (offered_since prims q kept cs))
  best_again = all_again prims q (take (suc q.limit) (window prims q after (offered_since prims q kept cs)))
      (λ r here. offered_again r (in_best prims q after (suc q.limit) (offered_since prims q kept cs) r here))

  -- and stand for all of them
  pub best_stand : (ds : List Candidate) → take (suc q.limit) (window prims q after (map (mark_row prims q.sort) kept ++ map (row_of prims q.sort 0) (answering (cs ++ ds))))
      ≡ take (suc q.limit) (window prims q after (map (mark_row prims q.sort) (best_since prims q after kept cs) ++ map (row_of prims q.sort 0) (answering ds)))
  best_stand ds =
      ap (λ l. take (suc q.limit) (window prims q after (map (mark_row prims q.sort) kept ++ l)))
      (ap (map (row_of prims q.sort 0)) (filter_map-append _ cs ds) ∙ map-append (row_of prims q.sort 0) (answering cs) (answering ds))
      ∙ ap (λ l. take (suc q.limit) (window prims q after l)) (sym (append_assoc (map (mark_row prims q.sort) kept) (map (row_of prims q.sort 0) (answering cs)) (map (row_of prims q.sort 0) (answering ds))))
      ∙ sym (first_of_any prims q after (suc q.limit) (offered_since prims q kept cs) (map (row_of prims q.sort 0) (answering ds)))
      ∙ ap (λ l. take (suc q.limit) (window prims q after (l ++ map (row_of prims q.sort 0) (answering ds)))) (sym best_again)

-- ---- LAWS

pub thawed_scans_owe : ThawedScansOwe
thawed_scans_owe prims members q order dateline with_cursor after kept s m cs some fits run light =
    scan_goes prims q order dateline with_cursor after kept (best_since prims q after kept cs) s m cs run light some
    (best_stand prims q after kept cs (given_inside prims members (template_of q) order s m cs fits run) (owed_by prims (template_of q) order m))

pub kept_stand : KeptStand
kept_stand prims q order dateline with_cursor after kept s some =
    scan_goes prims q order dateline with_cursor after kept (best_since prims q after kept []) s s [] (stays s) refl some
    (best_stand prims q after kept [] (λ o none. absurd none) (owed_by prims (template_of q) order s))
