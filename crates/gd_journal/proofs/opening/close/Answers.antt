use Rattle.std.proofs.Common.{◌+◌, List, ℕ, refl, sym, ◌∙◌, subst, arith}
use Rattle.gd_bytes.specs.File.{mark}
use Rattle.gd_journal.specs.Shape.{IsAtRest}
use Rattle.gd_journal.specs.State.{AtGate, IsSettled}
use Rattle.gd_journal.proofs.Kept.{settle, added}
use Rattle.gd_journal.proofs.Marks.{mark_fits, with_none, with_one}
use Rattle.gd_journal.proofs.Runs.{closed_tells, marked_tells}
use Rattle.gd_journal.proofs.opening.close.Goals as goal

pub returns-in_err-clear-clause-tells : goal.returns-in_err-clear-clause-tells
returns-in_err-clear-clause-tells g c = λ v ps each due s. closed_tells c.args.disk.now c.clear.new.disk v ps each (c.clear.ensures.closed v ps s)

pub returns-then-marked-clause-tells : goal.returns-then-marked-clause-tells
returns-then-marked-clause-tells g c = λ v ps each due s. closed_tells c.args.disk.now c.clear.new.disk v ps each (c.clear.ensures.closed v ps s)

pub returns-in_err-write_record-clause-tells : goal.returns-in_err-write_record-clause-tells
returns-in_err-write_record-clause-tells g c = λ v ps each due s.
    let d = g.D.Disk in
    let mid = c.clear.new.disk in
    let there : AtGate (d.content mid) (d.images mid) c.args.gate v ps (IsAtRest v ps) = record { told = c.clear.ensures.told ∙ s.told; place = s.place; left = c.in_ok-clear.ensures.rests v ps s } in
    marked_tells c.args.disk.now mid c.write_record.new.disk v ps each (sym due ∙ c.if-marked.false) (c.clear.ensures.closed v ps s) (c.write_record.ensures.doubtful v ps mark refl there)

pub returns-clause-tells : goal.returns-clause-tells
returns-clause-tells g c = λ v ps each due s.
    let d = g.D.Disk in
    let mid = c.clear.new.disk in
    let there : AtGate (d.content mid) (d.images mid) c.args.gate v ps (IsAtRest v ps) = record { told = c.clear.ensures.told ∙ s.told; place = s.place; left = c.in_ok-clear.ensures.rests v ps s } in
    marked_tells c.args.disk.now mid c.write_record.new.disk v ps each (sym due ∙ c.if-marked.false) (c.clear.ensures.closed v ps s) (c.write_record.ensures.doubtful v ps mark refl there)

pub returns-then-marked-clause-settled : goal.returns-then-marked-clause-settled
returns-then-marked-clause-settled g c = λ v ps each due s.
    let d = g.D.Disk in
    let after = c.clear.new.disk in
    subst (λ (l : List (List ℕ)). IsSettled (d.content after) (d.images after) c.args.gate v l) (sym (with_none v ps (sym due ∙ c.if-marked.true)))
    (settle (d.content after) (d.images after) c.args.gate v ps each (record { told = c.clear.ensures.told ∙ s.told; place = s.place; left = c.in_ok-clear.ensures.rests v ps s }))

pub returns-clause-settled : goal.returns-clause-settled
returns-clause-settled g c = λ v ps each due s.
    let d = g.D.Disk in
    let mid = c.clear.new.disk in
    let after = c.write_record.new.disk in
    let there : AtGate (d.content mid) (d.images mid) c.args.gate v ps (IsAtRest v ps) = record { told = c.clear.ensures.told ∙ s.told; place = s.place; left = c.in_ok-clear.ensures.rests v ps s } in
    subst (λ (l : List (List ℕ)). IsSettled (d.content after) (d.images after) (c.args.gate + 9) v l) (sym (with_one v ps (sym due ∙ c.if-marked.false)))
    (added (d.content after) (d.images after) c.args.gate (c.args.gate + 9) v ps mark each mark_fits s.place (omega arith) (c.write_record.ensures.told ∙ c.clear.ensures.told ∙ s.told) (c.in_ok-write_record.ensures.opened v ps mark refl there))
