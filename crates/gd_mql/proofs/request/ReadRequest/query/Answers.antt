use Rattle.std.proofs.Common.{◌≤◌, ◌+◌, ◌∙◌, sym, arith}
use Rattle.gd_tree.specs.Bounds.{json_depth}
use Rattle.gd_json.specs.View.{view, items_view, members_view}
use Rattle.gd_form_laws.specs.Faults.{query_fault}
use Rattle.gd_form_laws.specs.Spelled.{spelled_query, forms_depth}
use Rattle.gd_form_laws.proofs.Nesting.{query-depth}
use Rattle.gd_mql.proofs.Shown.{nothing, root_right, root_shown, list_root_right, list_root_shown, root_other}
use Rattle.gd_mql.proofs.request.ReadRequest.query.Goals as goal

pub of_root-requires : goal.of_root-requires
of_root-requires c = let q = view c.args.self.now.query in root_right q (members_view c.in-Some.members.now) c.in-Some.ensures (nothing (query_fault q) c.args.self.now.spells)

pub returns-in-Some-clause-shown : goal.returns-in-Some-clause-shown
returns-in-Some-clause-shown c = let q = view c.args.self.now.query in c.of_root.ensures ∙ sym (root_shown q (members_view c.in-Some.members.now) c.in-Some.ensures (nothing (query_fault q) c.args.self.now.spells))

pub returns-in-Some-clause-depth : goal.returns-in-Some-clause-depth
returns-in-Some-clause-depth c =
    let deep : json_depth (view c.args.self.now.query) ≤ 14 = c.args.self.now.shallow in
    let below : 1 + forms_depth (spelled_query (view c.args.self.now.query)).members ≤ json_depth (view c.args.self.now.query) = query-depth (view c.args.self.now.query) in
    omega arith

pub of_list-requires : goal.of_list-requires
of_list-requires c = let q = view c.args.self.now.query in list_root_right q (items_view c.in-Some-as_list.items.now) c.in-Some-as_list.ensures (nothing (query_fault q) c.args.self.now.spells)

pub unreachable-requires : goal.unreachable-requires
unreachable-requires c = let q = view c.args.self.now.query in root_other q c.in_default.ensures c.in-None.ensures (nothing (query_fault q) c.args.self.now.spells)

pub returns-clause-shown : goal.returns-clause-shown
returns-clause-shown c = c.of_list.ensures ∙ sym (list_root_shown (view c.args.self.now.query) (items_view c.in-Some-as_list.items.now) c.in-Some-as_list.ensures)

pub returns-clause-depth : goal.returns-clause-depth
returns-clause-depth c =
    let deep : json_depth (view c.args.self.now.query) ≤ 14 = c.args.self.now.shallow in
    let below : 1 + forms_depth (spelled_query (view c.args.self.now.query)).members ≤ json_depth (view c.args.self.now.query) = query-depth (view c.args.self.now.query) in
    omega arith
