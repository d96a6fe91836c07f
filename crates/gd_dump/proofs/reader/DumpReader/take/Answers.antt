use Rattle.std.proofs.Common.{◌≡◌, ◌∙◌, ◌+◌, ◌-◌, ◌++◌, [], length, None, sym, ap, subst, rules}
use Rattle.std.proofs.lemmas.List.{append-nil}
use Rattle.gd_dump.specs.Progress.{first_at}
use Rattle.gd_dump.specs.Read.{IsStuck}
use Rattle.gd_dump.proofs.Taken.{take_read, take_stuck}
use Rattle.gd_dump.proofs.reader.DumpReader.take.Goals as goal

pub returns-in-Ok-clause-takes : goal.returns-in-Ok-clause-takes
returns-in-Ok-clause-takes c =
    let held : c.as_slice.result.now ≡ c.args.self.now.held ++ c.args.piece.now = search rules in
    let rest : c.extend_from_slice-in-Ok.new.self.items ≡ c.in-Ok.rest.now = search rules in
    let total : c.in_ok-total.total ≡ c.args.self.now.read + length c.as_slice.result.now = search rules in
    let fault : c.self.inside.fault ≡ None = search rules in
    take_read c.args.self.now _ c.args.piece.now c.as_slice.result.now c.in-Ok.rest.now c.new-given.result.items c.run.new.given.items c.in_ok-total.total c.new-given.ensures.items held rest total (search rules) c.saturating_sub-self-inside.ensures fault (search rules)

pub returns-then-is_empty-clause-takes : goal.returns-then-is_empty-clause-takes
returns-then-is_empty-clause-takes c text batches i =
    let held : c.as_slice.result.now ≡ c.args.self.now.held ++ c.args.piece.now = search rules in
    let total : c.in_ok-total.total ≡ c.args.self.now.read + length c.as_slice.result.now = search rules in
    let none : c.run.new.given.items ≡ [] = search rules in
    let left : c.saturating_sub.result ≡ c.in_ok-total.total - c.in-Err-Bad.left = search rules in
    let s = take_stuck c.args.self.now c.run.new.self c.args.piece.now c.as_slice.result.now c.new-given.result.items c.run.new.given.items c.in_ok-total.total c.in-Err-Bad.left c.new-given.ensures.items held total (search rules) text batches i in
    subst (λ n. IsStuck (first_at c.run.new.self.stage) (text ++ c.args.piece.now) batches n) (sym left) (subst (λ l. IsStuck (first_at c.run.new.self.stage) (text ++ c.args.piece.now) l (c.in_ok-total.total - c.in-Err-Bad.left)) (ap (λ l. batches ++ l) none ∙ append-nil batches) s)

pub returns-in-Err-Bad-clause-takes : goal.returns-in-Err-Bad-clause-takes
returns-in-Err-Bad-clause-takes c text batches i =
    let held : c.as_slice.result.now ≡ c.args.self.now.held ++ c.args.piece.now = search rules in
    let total : c.in_ok-total.total ≡ c.args.self.now.read + length c.as_slice.result.now = search rules in
    let some : c.run.new.given.items ≡ [] → ⊥ = search rules in
    let left : c.saturating_sub.result ≡ c.in_ok-total.total - c.in-Err-Bad.left = search rules in
    let s = take_stuck c.args.self.now c.run.new.self c.args.piece.now c.as_slice.result.now c.new-given.result.items c.run.new.given.items c.in_ok-total.total c.in-Err-Bad.left c.new-given.ensures.items held total (search rules) text batches i in
    (subst (λ n. IsStuck (first_at c.run.new.self.stage) (text ++ c.args.piece.now) (batches ++ c.run.new.given.items) n) (sym left) s, λ e. absurd (some e))
