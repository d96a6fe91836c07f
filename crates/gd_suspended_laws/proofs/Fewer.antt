-- The order in which fewer members of a query are scanned has each candidate of the query, once.
use Rattle.std.proofs.Common.{◌≡◌, ◌↔◌, ℕ, List, map, true, sym, ◌∙◌}
use Rattle.std.specs.Ordering.{nat_cmp}
use Rattle.std.proofs.lemmas.Cmp.{nat_cmp_total}
use Rattle.gd_prim.specs.declared.Primitive.{Primitive}
use Rattle.gd_prim.specs.Live.{objects, is_object}
use Rattle.gd_defs.specs.Asked.{Asked, Members}
use Rattle.gd_defs.specs.Rows.{meets_given, candidates}
use Rattle.gd_defs.specs.Template.{passes_template}
use Rattle.gd_defs.specs.Plan.{template_of}
use Rattle.gd_runs.specs.Scanned.{scan_order}
use Rattle.gd_order_laws.specs.Window.{In}
use Rattle.gd_order_laws.proofs.Sorted.{Apart-filter, In-filter, In-filtered}
use Rattle.gd_match_laws.specs.PassedOn.{scanned, Planned}
use Rattle.gd_match_laws.proofs.PassedOn.{planned, both_true, true_both, object_is, is_object_in, scanned_once, scanned_all}
use Rattle.gd_suspended_laws.specs.Laws.{FewerAre}

fewer_candidate : (prims : List Primitive) (q : Asked) (ms : Members) → Planned prims q → ((o : ℕ) → meets_given prims q.members 0 o ≡ true → meets_given prims ms 0 o ≡ true) → (o : ℕ)
    → In o (scanned prims q (scan_order prims (record q { members = ms }))) ↔ In o (candidates prims q)
fewer_candidate prims q ms planned fewer o = (there, back)
  where
    few : Asked
    few = record q { members = ms }

    there : In o (scanned prims q (scan_order prims (record q { members = ms }))) → In o (candidates prims q)
    there here =
        let passed = In-filter (passes_template prims (template_of q)) (map (λ (c : ℕ × ℕ). c.1) (scan_order prims few)) o here in
        let both = both_true (is_object prims o) (meets_given prims q.members 0 o) (sym (planned.passes o) ∙ passed.1) in
        In-filtered (meets_given prims q.members 0) (objects prims) o (is_object_in prims o both.0) both.1

    back : In o (candidates prims q) → In o (scanned prims q (scan_order prims (record q { members = ms })))
    back here =
        let both = In-filter (meets_given prims q.members 0) (objects prims) o here in
        In-filtered (passes_template prims (template_of q)) (map (λ (c : ℕ × ℕ). c.1) (scan_order prims few)) o
        (scanned_all prims few o (In-filtered (meets_given prims ms 0) (objects prims) o both.0 (fewer o both.1)))
        (planned.passes o ∙ true_both (is_object prims o) (meets_given prims q.members 0 o) (object_is prims o both.0) both.1)

pub fewer_are : FewerAre
fewer_are prims written q ms held asked fewer = record {
  once = Apart-filter nat_cmp nat_cmp_total (passes_template prims (template_of q)) (map (λ (c : ℕ × ℕ). c.1) (scan_order prims (record q { members = ms }))) (scanned_once prims (record q { members = ms }));
  all = fewer_candidate prims q ms (planned prims written q held asked) fewer;
}
