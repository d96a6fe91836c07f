use Rattle.std.proofs.Common.{List, ℕ, reverse, sym, ◌∙◌, ap, subst}
use Rattle.gd_disk.specs.Recorded.{Told, left}
use Rattle.gd_disk.specs.Calls.{Kept, kept}
use Rattle.gd_disk.specs.Images.{filled, filled_of, after_steps}
use Rattle.gd_disk.specs.declared.kept_file.Call.{Call}
use Rattle.gd_disk.proofs.Images.{same_file, filled_told, filled_left}
use Rattle.gd_disk.proofs.kept_file.KeptFile.filled.Goals as goal

pub returns-clause-value : goal.returns-clause-value
returns-clause-value c =
    let s = c.self.inside in
    let x = c.args.byte in
    let file = same_file c.in_ok-file.file s.bytes.items c.deref.result.now s.replaced.items c.deref-2.result.now s.numbers.items c.deref-3.result.now s.stop c.in_ok-file.ensures c.deref.ensures.value c.deref-2.ensures.value c.deref-3.ensures.value in
    let k : Kept = kept s.bytes.items s.stop s.replaced.items s.numbers.items in
    c.in_ok-bytes.ensures
    ∙ ap (λ (l : List ℕ). after_steps x c.in_ok-steps.steps.items l) c.into_bytes.ensures
    ∙ sym (c.in_ok-steps.ensures.filled x)
    ∙ ap (λ (f : Kept). filled_of x f (reverse c.in_ok-copied.field-0.items)) file
    ∙ ap (λ (l : List Call). filled_of x k (reverse l)) (c.in_ok-copied.ensures ∙ c.deref-4.ensures.value)
    ∙ filled_told x k (reverse s.calls.items) c.self.invariant.1 c.self.invariant.2
    ∙ ap (λ (t : Told). filled x t.first t.made) c.self.view_is

pub returns-clause-left : goal.returns-clause-left
returns-clause-left c =
    let s = c.self.inside in
    let k : Kept = kept s.bytes.items s.stop s.replaced.items s.numbers.items in
    let there = subst (λ (t : Told). left t.first t.made (filled c.args.byte t.first t.made)) c.self.view_is (filled_left c.args.byte k (reverse s.calls.items) c.self.invariant.2) in
    subst (λ (l : List ℕ). left c.args.self.now.first c.args.self.now.made l) (sym (returns-clause-value c)) there
