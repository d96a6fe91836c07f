-- Readings that are told: they owe what they did, and what they are told as fits.
use Rattle.std.proofs.Common.{◌≡◌, ◌∙◌, refl, sym, ap, subst, arith, ◌+◌, ◌-◌, ◌≤◌, List, [], ◌∷◌, true, false, None, length}
use Rattle.std.proofs.lemmas.Bool.{and_parts, and_from, le-leb}
use Rattle.std.proofs.lemmas.List.{append-nil}
use Rattle.gd_prim.specs.declared.Primitive.{Primitive}
use Rattle.gd_tree.specs.Trees.{TreeLists, no_lists, and_list, append, trees_of, list_of}
use Rattle.gd_defs.specs.Plan.{template_of}
use Rattle.gd_defs.specs.Template.{Constraint, Template, template, no_clauses, clause, meets_constraints}
use Rattle.gd_bytes.specs.Frozen.{Frame, Scan, building}
use Rattle.gd_runs.specs.Owed.{ScanOrder, iter_fits, stack_fits, owed_by}
use Rattle.gd_runs.specs.Thawed.{built_trees}
use Rattle.gd_runs.specs.Fitting.{tried_count, body_fits}
use Rattle.gd_match_laws.specs.Best.{page_of}
use Rattle.gd_match_laws.specs.Moves.{Runs}
use Rattle.gd_match_laws.specs.Rows.{rows_order}
use Rattle.gd_match_laws.proofs.Scans.{run-keeps}
use Rattle.gd_suspended_laws.specs.Standing.{marks_of}
use Rattle.gd_suspended_laws.proofs.Given.{runs_join}
use Rattle.gd_thaw_laws.specs.Grown.{StackGrows, StackPlaced}
use Rattle.gd_thaw_laws.specs.Spelled.{one_member}
use Rattle.gd_thaw_laws.specs.Told.{last_told, above_told, led, frames_told, scan_told, told, ToldWeighs, PlacedOwes, PlacedFits, GoneToldOwes, GoneToldFits, BuildsToldOwes, BuildsToldFit}
use Rattle.gd_thaw_laws.proofs.Freezing.{built_grows, built_few, built_fit, builds_fit}
use Rattle.gd_thaw_laws.proofs.Gone.{gone_owes}
use Rattle.gd_thaw_laws.proofs.Grown.{runs_grow, fits_grow}
use Rattle.gd_thaw_laws.proofs.Thawed.{scans_alike, builds_alike}
use Rattle.gd_thaw_laws.proofs.Told.{scans_to_told, told_is, told_owes, told_placed, told_fits}

pub told_weighs : ToldWeighs
told_weighs t s = by s.frames (frames_told t s.frames)
  where
    by : (l ks : List Frame) → (scan_told s l ks).weight ≤ s.weight
    by [] ks = omega arith
    by (f ∷ fs) [] = omega arith
    by (f ∷ fs) (h ∷ hs) = omega arith

-- ---- frames that are told by none

-- nothing is asked of their place
asks_nothing : (t : Template) (f : Frame) (fs : List Frame) → frames_told t (f ∷ fs) ≡ [] → (ds : List Constraint) × (t ≡ template ds no_clauses)
asks_nothing (template ds no_clauses) f [] is = (ds, refl)
asks_nothing (template ds (clause mode hop t rest)) f [] is = absurd (by f.lists is)
  where
    by : (ls : TreeLists) → last_told (clause mode hop t rest) f ls ≡ [] → ⊥
    by no_lists e = cc e
    by (and_list ts ls) e = cc e
asks_nothing (template ds asked) f (g ∷ gs) is = absurd (by (frames_told (led (template ds asked) f.lists) (g ∷ gs)) is)
  where
    by : (ks : List Frame) → above_told f g.place ks ≡ [] → ⊥
    by [] e = cc e
    by (h ∷ hs) e = cc e

-- where nothing is asked no frame fits
none_fits : (prims : List Primitive) (t : Template) (ds : List Constraint) (fs : List Frame) → t ≡ template ds no_clauses → stack_fits prims one_member t fs ≡ true → fs ≡ []
none_fits prims t ds [] is fit = refl
none_fits prims t ds (f ∷ fs) is fit =
    let never = (and_parts (meets_constraints prims ds f.place) false (sym (ap (λ (u : Template). stack_fits prims one_member u (f ∷ fs)) is) ∙ fit)).1 in absurd (cc never)

-- a scan that tries nothing is told as it is
told_idle : (t : Template) (s : Scan) → s.frames ≡ [] → told t s ≡ s
told_idle t s is = ap (λ (l : List Frame). scan_told s l (frames_told t s.frames)) is

-- one whose candidate is told by no frame, as the scan before it
told_before : (t : Template) (s : Scan) (f : Frame) (fs : List Frame) → s.frames ≡ f ∷ fs → frames_told t (f ∷ fs) ≡ [] → told t s ≡ record { iter = record { place = s.iter.place - 1; accepted = None }; weight = 0; frames = [] }
told_before t s f fs is so = ap (λ (l : List Frame). scan_told s l (frames_told t l)) is ∙ ap (scan_told s (f ∷ fs)) so

-- ---- scans

pub placed_owes : PlacedOwes
placed_owes prims order t from s cs fit run inside = by s.frames refl
  where
    grown : StackGrows prims t s.frames
    grown = runs_grow prims order t from s cs run (fits_grow prims one_member t from.frames fit)

    by : (l : List Frame) → s.frames ≡ l → owed_by prims t order (told t s) ≡ owed_by prims t order s
    by [] is = ap (owed_by prims t order) (told_idle t s is)
    by (f ∷ fs) is = with_told (frames_told t (f ∷ fs)) refl
      where
        with_told : (ks : List Frame) → frames_told t (f ∷ fs) ≡ ks → owed_by prims t order (told t s) ≡ owed_by prims t order s
        with_told (h ∷ hs) so = sym (run-keeps prims order t s [] (told t s) (scans_to_told prims order t s h hs grown (ap (frames_told t) is ∙ so)))
        with_told [] so =
            let none = asks_nothing t f fs so in
            told_owes prims order order t from s cs (none_fits prims t none.0 from.frames none.1 fit) run (inside.picked none.0 none.1)

pub placed_fits : PlacedFits
placed_fits prims order t from s cs fit run inside at =
    told_fits prims t s (runs_grow prims order t from s cs run (fits_grow prims one_member t from.frames (and_parts (iter_fits (length prims) 1 from.iter) (stack_fits prims one_member t from.frames) fit).1)) inside.frames at inside.accepted

-- ---- readings that scan

pub gone_told_owes : GoneToldOwes
gone_told_owes law prims q after order kept from s w some fit has inside dateline with_cursor =
    gone_owes law prims one_member q after order kept from s w some fit has dateline with_cursor
    ∙ scans_alike prims q dateline with_cursor after (marks_of w) order order s (told (template_of q) s)
    (sym (placed_owes prims order (template_of q) from s has.given (and_parts (iter_fits (length prims) 1 from.iter) (stack_fits prims one_member (template_of q) from.frames) fit).1 has.runs inside))

pub gone_told_fits : GoneToldFits
gone_told_fits prims q after order kept from s w fit has inside at = placed_fits prims order (template_of q) from s has.given fit has.runs inside at

-- ---- readings that build

pub builds_told_owes : BuildsToldOwes
builds_told_owes prims q order dateline with_cursor after kept w ts from s cs listed fit run inside =
    builds_alike prims q dateline with_cursor after kept order w ts (told (template_of q) s) s listed
    (placed_owes prims (rows_order (page_of prims q after kept)) (template_of q) from s cs fit run inside)

pub builds_told_fit : BuildsToldFit
builds_told_fit prims q page rows w v ts s m cs listed fit run inside up at = by m.frames refl
  where
    Fit : Scan → Type 0
    Fit x = body_fits prims one_member q rows (building v (append ts (trees_of (built_trees cs))) x) ≡ true

    grown : StackGrows prims (template_of q) m.frames
    grown = built_grows prims one_member q page rows w ts s m cs listed fit run up at

    by : (l : List Frame) → m.frames ≡ l → Fit (told (template_of q) m)
    by [] is =
        subst Fit (sym (told_idle (template_of q) m is))
        (builds_fit prims one_member q page rows w v ts s m cs listed fit run up at inside.accepted (subst (StackPlaced prims one_member (template_of q)) (sym is) tt))
    by (f ∷ fs) is = with_told (frames_told (template_of q) (f ∷ fs)) refl
      where
        with_told : (ks : List Frame) → frames_told (template_of q) (f ∷ fs) ≡ ks → Fit (told (template_of q) m)
        with_told (h ∷ hs) so =
            let whole : frames_told (template_of q) m.frames ≡ h ∷ hs = ap (frames_told (template_of q)) is ∙ so in
            let same = told_is (template_of q) m f fs h hs is whole in
            let all : Runs prims (rows_order page) (template_of q) s cs (told (template_of q) m)
            = subst (λ (ds : List Rattle.gd_runs.specs.Owed.Candidate). Runs prims (rows_order page) (template_of q) s ds (told (template_of q) m)) (append-nil cs)
            (runs_join prims (rows_order page) (template_of q) s m (told (template_of q) m) cs [] run (scans_to_told prims (rows_order page) (template_of q) m h hs grown whole)) in
            builds_fit prims one_member q page rows w v ts s (told (template_of q) m) cs listed fit all
            (subst (λ (x : Scan). s.iter.place ≤ x.iter.place) (sym same) up)
            (subst (λ (x : Scan). x.iter.place ≤ rows) (sym same) at)
            (subst (λ (x : Scan). x.iter.accepted ≡ None) (sym same) inside.accepted)
            (told_placed prims (template_of q) m grown inside.frames).1
        with_told [] so =
            let few = built_few prims one_member q page rows w ts s m cs listed fit run up at in
            let one : tried_count m.frames ≡ 1 = ap tried_count is in
            subst Fit (sym (told_before (template_of q) m f fs is so))
            (and_from _ _
            (and_from _ _ (and_from _ _ (and_from _ _ (built_fit prims one_member q page rows w ts s m cs listed fit run up at) (le-leb (m.iter.place - 1) rows (omega (arith, at)))) refl) refl)
            (le-leb (length (list_of (append ts (trees_of (built_trees cs)))) + 0) (m.iter.place - 1) (omega (arith, few, one))))
