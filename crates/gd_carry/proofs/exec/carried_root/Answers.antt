use Rattle.std.proofs.Common.{sym, subst, map, Bor, List, ℕ, Result, Vec, Global}
use Rattle.std.proofs.lemmas.Result.{err_from_is_err_and}
use Rattle.gd_prim.specs.declared.Primitive.{Primitive}
use Rattle.gd_tree.specs.Json as tree
use Rattle.gd_defs.specs.Write.Carried as defined
use Rattle.gd_defs.specs.Write.Carried.{Made}
use Rattle.gd_defs.specs.Write.Links.{ChangeFault}
use Rattle.gd_growing.specs.State.{so_far}
use Rattle.gd_intent.specs.declared.intent.Entry.{Entry}
use Rattle.gd_intent.specs.declared.intent.Item.{Item}
use Rattle.gd_intent.specs.Seen.{members_view, resolved_view}
use Rattle.gd_carry.specs.Outcome.{Makes, fault_of, subject_view}
use Rattle.gd_carry.specs.Printed.{Field, fields_view}
use Rattle.gd_carry.specs.declared.print.Printed.{Printed}
use Rattle.gd_carry.proofs.Whole.{rooted, unrooted}
use Rattle.gd_carry.proofs.exec.carried_root.Goals as goal

pub returns-clause-root : goal.returns-clause-root
returns-clause-root c =
    let s = c.args.stamp.now in
    let r = resolved_view c.args.change.now in
    let then = so_far c.root_subject.new.growing in
    let o = subject_view c.in_ok-subject.subject in
    let same = rooted s (so_far c.args.growing.now) then r c.in_ok-subject.subject.object c.in_ok-subject.subject.existed c.in_ok-subject.ensures.subject in
    let made = subst (λ (names : List (Bor (List ℕ))). Makes (λ (final : List Primitive) (fields : Vec (Field Printed) Global). fields_view final fields.items)
    (defined.carried s (map (λ (n : Bor (List ℕ)). n.now) names) then o (members_view c.deref-2.result.now)) (so_far c.carried.new.growing) c.carried.result) c.deref.ensures.value c.carried.ensures.members in
    let all = subst (λ (es : List (Entry Item)). Makes (λ (final : List Primitive) (fields : Vec (Field Printed) Global). fields_view final fields.items)
    (defined.carried s r.path then o (members_view es)) (so_far c.carried.new.growing) c.carried.result) c.deref-2.ensures.value made in
    subst (λ (w : Result (Made tree.Members) ChangeFault). Makes (λ (final : List Primitive) (fields : Vec (Field Printed) Global). fields_view final fields.items) w (so_far c.carried.new.growing) c.carried.result)
    (sym same) all

pub returns-in_err-subject-clause-root : goal.returns-in_err-subject-clause-root
returns-in_err-subject-clause-root c =
    let p = err_from_is_err_and c.from_residual.result c.from_residual.ensures.1 in
    rw (p.1, p.2) (λ known. unrooted c.args.stamp.now (so_far c.args.growing.now) (resolved_view c.args.change.now) (fault_of c.in_err-subject.field-0.0) (c.in_err-subject.ensures.subject known))
