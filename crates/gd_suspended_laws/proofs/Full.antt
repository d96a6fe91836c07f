-- An order that has each place once, and each that passes, has each candidate of a query once.
use Rattle.std.proofs.Common.{◌≡◌, ◌↔◌, ℕ, List, map, true, sym, ◌∙◌}
use Rattle.std.specs.Ordering.{nat_cmp}
use Rattle.std.proofs.lemmas.Cmp.{nat_cmp_total}
use Rattle.gd_prim.specs.declared.Primitive.{Primitive}
use Rattle.gd_prim.specs.Live.{objects, is_object}
use Rattle.gd_defs.specs.Asked.{Asked}
use Rattle.gd_defs.specs.Rows.{meets_given, candidates}
use Rattle.gd_defs.specs.Template.{passes_template}
use Rattle.gd_defs.specs.Plan.{template_of}
use Rattle.gd_runs.specs.Owed.{ScanOrder}
use Rattle.gd_order_laws.specs.Window.{In}
use Rattle.gd_order_laws.proofs.Sorted.{Apart-filter, In-filter, In-filtered}
use Rattle.gd_match_laws.specs.PassedOn.{scanned, Planned}
use Rattle.gd_match_laws.proofs.PassedOn.{planned, both_true, true_both, object_is, is_object_in}
use Rattle.gd_suspended_laws.specs.Laws.{FullAre}

full_candidate : (prims : List Primitive) (q : Asked) (order : ScanOrder) → Planned prims q → ((o : ℕ) → passes_template prims (template_of q) o ≡ true → In o (map (λ c. c.1) order)) → (o : ℕ)
    → In o (scanned prims q order) ↔ In o (candidates prims q)
full_candidate prims q order planned has o = (there, back)
  where
    there : In o (scanned prims q order) → In o (candidates prims q)
    there here =
        let passed = In-filter (passes_template prims (template_of q)) (map (λ (c : ℕ × ℕ). c.1) order) o here in
        let both = both_true (is_object prims o) (meets_given prims q.members 0 o) (sym (planned.passes o) ∙ passed.1) in
        In-filtered (meets_given prims q.members 0) (objects prims) o (is_object_in prims o both.0) both.1

    back : In o (candidates prims q) → In o (scanned prims q order)
    back here =
        let both = In-filter (meets_given prims q.members 0) (objects prims) o here in
        let passes : passes_template prims (template_of q) o ≡ true = planned.passes o ∙ true_both (is_object prims o) (meets_given prims q.members 0 o) (object_is prims o both.0) both.1 in
        In-filtered (passes_template prims (template_of q)) (map (λ (c : ℕ × ℕ). c.1) order) o (has o passes) passes

pub full_are : FullAre
full_are prims written q order held asked once has = record {
  once = Apart-filter nat_cmp nat_cmp_total (passes_template prims (template_of q)) (map (λ (c : ℕ × ℕ). c.1) order) once;
  all = full_candidate prims q order (planned prims written q held asked) has;
}
