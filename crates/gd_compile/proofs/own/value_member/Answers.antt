use Rattle.std.proofs.Common.{sym, map, Bor, List, ℕ}
use Rattle.gd_prim.specs.History.{prims_of}
use Rattle.gd_mql.specs.Names.{name_view}
use Rattle.gd_mql.specs.Clauses.{form_view}
use Rattle.gd_plan.specs.Seen.{expects_view}
use Rattle.gd_compile.proofs.Looked.{part_link, part_value, part_namespace, part_lang}
use Rattle.gd_compile.proofs.Walks.{link_leads, value_leads, namespace_leads, lang_leads}
use Rattle.gd_compile.proofs.own.value_member.Goals as goal

pub returns-then-is_link-clause-member : goal.returns-then-is_link-clause-member
returns-then-is_link-clause-member g c =
    link_leads (prims_of c.args.view.now) (expects_view c.args.expects) (map (λ (n : Bor (List ℕ)). n.now) c.args.path.now) (name_view c.args.name.now) (form_view c.args.form.now) c.own_member.result
    (sym c.if-is_link.ensures) c.own_member.ensures.member

pub returns-then-is_value-clause-member : goal.returns-then-is_value-clause-member
returns-then-is_value-clause-member g c =
    value_leads (prims_of c.args.view.now) (expects_view c.args.expects) (map (λ (n : Bor (List ℕ)). n.now) c.args.path.now) (name_view c.args.name.now) (form_view c.args.form.now) c.value_itself.result
    (sym c.if-is_link.ensures) (sym c.if-is_value.ensures) c.value_itself.ensures.member

pub returns-then-is_namespace-clause-member : goal.returns-then-is_namespace-clause-member
returns-then-is_namespace-clause-member g c =
    namespace_leads (prims_of c.args.view.now) (expects_view c.args.expects) (map (λ (n : Bor (List ℕ)). n.now) c.args.path.now) (name_view c.args.name.now) (form_view c.args.form.now) c.own_member-then-is_namespace.result
    (sym c.if-is_link.ensures) (sym c.if-is_value.ensures) (sym c.if-is_namespace.ensures) c.own_member-then-is_namespace.ensures.member

pub returns-then-is_lang-clause-member : goal.returns-then-is_lang-clause-member
returns-then-is_lang-clause-member g c =
    lang_leads (prims_of c.args.view.now) (expects_view c.args.expects) (map (λ (n : Bor (List ℕ)). n.now) c.args.path.now) (name_view c.args.name.now) (form_view c.args.form.now) c.own_member-then-is_lang.result
    (sym c.if-is_link.ensures) (sym c.if-is_value.ensures) (sym c.if-is_namespace.ensures) (sym c.if-is_lang.ensures) c.own_member-then-is_lang.ensures.member

pub returns-then-is_link-clause-looks : goal.returns-then-is_link-clause-looks
returns-then-is_link-clause-looks g c = part_link (prims_of c.args.view.now) (expects_view c.args.expects) (name_view c.args.name.now) (form_view c.args.form.now) c.args.steps.now c.own_member.new.steps
    (sym c.if-is_link.ensures) c.own_member.ensures.looks

pub returns-then-is_value-clause-looks : goal.returns-then-is_value-clause-looks
returns-then-is_value-clause-looks g c = part_value (prims_of c.args.view.now) (expects_view c.args.expects) (name_view c.args.name.now) (form_view c.args.form.now) c.args.steps.now c.value_itself.new.steps
    (sym c.if-is_link.ensures) (sym c.if-is_value.ensures) c.value_itself.ensures.looks

pub returns-then-is_namespace-clause-looks : goal.returns-then-is_namespace-clause-looks
returns-then-is_namespace-clause-looks g c = part_namespace (prims_of c.args.view.now) (expects_view c.args.expects) (name_view c.args.name.now) (form_view c.args.form.now) c.args.steps.now c.own_member-then-is_namespace.new.steps
    (sym c.if-is_link.ensures) (sym c.if-is_value.ensures) (sym c.if-is_namespace.ensures) c.own_member-then-is_namespace.ensures.looks

pub returns-then-is_lang-clause-looks : goal.returns-then-is_lang-clause-looks
returns-then-is_lang-clause-looks g c = part_lang (prims_of c.args.view.now) (expects_view c.args.expects) (name_view c.args.name.now) (form_view c.args.form.now) c.args.steps.now c.own_member-then-is_lang.new.steps
    (sym c.if-is_link.ensures) (sym c.if-is_value.ensures) (sym c.if-is_namespace.ensures) (sym c.if-is_lang.ensures) c.own_member-then-is_lang.ensures.looks
