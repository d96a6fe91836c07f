-- Positions that fit, without how many members accept a place.
use Rattle.std.proofs.Common.{◌≡◌, ◌∙◌, refl, ap, arith, ℕ, ◌+◌, ◌≤◌, List, [], ◌∷◌, true, ◌&&◌, not, Some, None, map, length}
use Rattle.std.specs.Prelude.{nat_le, is_some}
use Rattle.std.proofs.lemmas.Bool.{and_parts}
use Rattle.gd_prim.specs.declared.Primitive.{Primitive}
use Rattle.gd_tree.specs.Trees.{Trees, TreeLists, no_lists, and_list, list_of}
use Rattle.gd_defs.specs.Asked.{Asked}
use Rattle.gd_defs.specs.Plan.{template_of}
use Rattle.gd_defs.specs.Template.{Template, template, Clauses, no_clauses, clause, meets_constraints, led_to}
use Rattle.gd_bytes.specs.Frozen.{IterAt, Frame, Scan, building}
use Rattle.gd_runs.specs.Fitting.{tried_count, body_fits}
use Rattle.gd_runs.specs.Owed.{MembersOf, is_among, iter_fits, frames_fit, frame_lists_fit, stack_fits, scan_fits}
use Rattle.gd_scan_laws.proofs.Objects.{true_both}
use Rattle.gd_roots.specs.PassedOn.{plain_iter, plain_frame, plain_weight, plain}

plain_at : (end members : ℕ) (i : IterAt) → iter_fits end members i ≡ true → iter_fits end members (plain_iter i) ≡ true
plain_at end members i fits = ap (λ b. b && true) (and_parts _ _ fits).0

module _ (prims : List Primitive) (members : MembersOf) (end : ℕ) where
  mutual
    frames_plain : (t : Template) (f : Frame) (fs : List Frame) → frames_fit prims members end t f fs ≡ true → frames_fit prims members end t (plain_frame f) (map plain_frame fs) ≡ true
    frames_plain (template cs clauses) f fs fits =
        let both = and_parts (meets_constraints prims cs f.place) _ fits in
        true_both (meets_constraints prims cs f.place) _ both.0 (lists_plain clauses f f.lists fs both.1)

    lists_plain : (clauses : Clauses) (f : Frame) (ls : TreeLists) (fs : List Frame) → frame_lists_fit prims members end clauses f ls fs ≡ true → frame_lists_fit prims members end clauses (plain_frame f) ls (map plain_frame fs) ≡ true
    lists_plain no_clauses f ls fs fits = fits
    lists_plain (clause mode hop t rest) f no_lists fs fits = fits
    lists_plain (clause mode hop t rest) f (and_list ts no_lists) [] fits =
        let both = and_parts _ (iter_fits end (members prims (Some hop) t) f.iter) fits in
        true_both _ (iter_fits end (members prims (Some hop) t) (plain_iter f.iter)) both.0 (plain_at end (members prims (Some hop) t) f.iter both.1)
    lists_plain (clause mode hop t rest) f (and_list ts no_lists) (g ∷ gs) fits =
        let one = and_parts _ (frames_fit prims members end t g gs) fits in
        let two = and_parts _ (is_among (led_to prims hop f.place) g.place) one.0 in
        let three = and_parts _ (iter_fits end (members prims (Some hop) t) f.iter) two.0 in
        true_both _ (frames_fit prims members end t (plain_frame g) (map plain_frame gs))
        (true_both _ (is_among (led_to prims hop f.place) g.place) (true_both _ (iter_fits end (members prims (Some hop) t) (plain_iter f.iter)) three.0 (plain_at end (members prims (Some hop) t) f.iter three.1)) two.1)
        (frames_plain t g gs one.1)
    lists_plain (clause mode hop t rest) f (and_list ts (and_list us ls)) fs fits =
        let both = and_parts _ (frame_lists_fit prims members end rest f (and_list us ls) fs) fits in
        true_both _ (frame_lists_fit prims members end rest (plain_frame f) (and_list us ls) (map plain_frame fs)) both.0 (lists_plain rest f (and_list us ls) fs both.1)

-- LAW: frames that fit do so without them
pub plain_stack : (prims : List Primitive) (members : MembersOf) (t : Template) (fs : List Frame) → stack_fits prims members t fs ≡ true → stack_fits prims members t (map plain_frame fs) ≡ true
plain_stack prims members t [] fits = fits
plain_stack prims members t (f ∷ fs) fits = frames_plain prims members (length prims) t f fs fits

-- LAW: so does a position
pub plain_fits : (prims : List Primitive) (members : MembersOf) (t : Template) (s : Scan) → scan_fits prims members t s ≡ true → scan_fits prims members t (plain s) ≡ true
plain_fits prims members t s fits =
    let both = and_parts (iter_fits (length prims) (members prims None t) s.iter) (stack_fits prims members t s.frames) fits in
    true_both _ _ (plain_at (length prims) (members prims None t) s.iter both.0) (plain_stack prims members t s.frames both.1)

-- LAW: and a body that builds, whatever its trees weigh
pub plain_builds : (prims : List Primitive) (members : MembersOf) (q : Asked) (rows weight : ℕ) (ts : Trees) (s : Scan) → body_fits prims members q rows (building weight ts s) ≡ true → body_fits prims members q rows (building 0 ts (plain s)) ≡ true
plain_builds prims members q rows weight ts s fits =
    let whole = and_parts _ (nat_le (length (list_of ts) + tried_count s.frames) s.iter.place) fits in
    let framed = and_parts _ (stack_fits prims members (template_of q) s.frames) whole.0 in
    let placed = and_parts _ (not (is_some s.iter.accepted)) framed.0 in
    true_both _ _ (true_both _ _ (true_both _ _ placed.0 refl) (plain_stack prims members (template_of q) s.frames framed.1))
    (ap (λ n. nat_le (length (list_of ts) + n) s.iter.place) (as_many s.frames) ∙ whole.1)
  where
    as_many : (fs : List Frame) → tried_count (map plain_frame fs) ≡ tried_count fs
    as_many [] = refl
    as_many (f ∷ fs) = refl

-- LAW: it weighs no more
pub plain_light : (s : Scan) → (plain s).weight ≤ s.weight
plain_light s = by s.frames
  where
    by : (fs : List Frame) → plain_weight s.weight fs ≤ s.weight
    by [] = omega arith
    by (f ∷ fs) = omega arith
