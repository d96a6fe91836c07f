-- A reading that has settled nothing owes the answer to its query, where the template of the query stands for it.
use Rattle.std.proofs.Common.{◌≡◌, ◌↔◌, ℕ, List, [], Bool, Option, map, sym, ◌∙◌}
use Rattle.gd_prim.specs.declared.Primitive.{Primitive}
use Rattle.gd_prim.specs.Live.{objects, is_object}
use Rattle.gd_defs.specs.Asked.{Asked}
use Rattle.gd_defs.specs.Rows.{meets_given, candidates}
use Rattle.gd_defs.specs.Reply.{Mark, asked_answer}
use Rattle.gd_defs.specs.Template.{passes_template}
use Rattle.gd_defs.specs.Plan.{template_of}
use Rattle.gd_page_laws.specs.PassedOn.{scanning, scan_order, body_answer}
use Rattle.gd_order_laws.specs.Window.{In}
use Rattle.gd_order_laws.proofs.Sorted.{In-filter, In-filtered}
use Rattle.gd_scan_laws.specs.Ordered.{start, scanned}
use Rattle.gd_scan_laws.specs.Planned.{Planned}
use Rattle.gd_scan_laws.proofs.Objects.{both_true, true_both, object_is, is_object_in}
use Rattle.gd_scan_laws.proofs.Orders.{scanned_all, scanned_apart}
use Rattle.gd_scan_laws.proofs.Replies.{start_replies}

-- the order of a query has its candidates, and no others that pass
pub scanned_is : (prims : List Primitive) (q : Asked) → Planned prims q → (o : ℕ) → In o (scanned prims q (scan_order prims q)) ↔ In o (candidates prims q)
scanned_is prims q planned o = (there, back)
  where
    there : In o (scanned prims q (scan_order prims q)) → In o (candidates prims q)
    there here =
        let passed = In-filter (passes_template prims (template_of q)) (map (λ c. c.1) (scan_order prims q)) o here in
        let both = both_true (is_object prims o) (meets_given prims q.members 0 o) (sym (planned.passes o) ∙ passed.1) in
        In-filtered (meets_given prims q.members 0) (objects prims) o (is_object_in prims o both.0) both.1

    back : In o (candidates prims q) → In o (scanned prims q (scan_order prims q))
    back here =
        let both = In-filter (meets_given prims q.members 0) (objects prims) o here in
        In-filtered (passes_template prims (template_of q)) (map (λ c. c.1) (scan_order prims q)) o (scanned_all prims q o here)
        (planned.passes o ∙ true_both (is_object prims o) (meets_given prims q.members 0 o) (object_is prims o both.0) both.1)

pub begun_replies : (prims : List Primitive) (q : Asked) → Planned prims q → (dateline : ℕ) (with_cursor : Bool) (after : Option Mark)
    → body_answer prims q (scan_order prims q) dateline with_cursor after [] (scanning start) ≡ asked_answer prims dateline with_cursor after q
begun_replies prims q planned dateline with_cursor after =
    start_replies prims q planned (scan_order prims q) (scanned_apart prims q) (scanned_is prims q planned) dateline with_cursor after
