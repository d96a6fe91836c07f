use Rattle.std.proofs.Common.{◌≡◌, List, ℕ, reverse, sym, ◌∙◌, ap, subst}
use Rattle.gd_disk.specs.Recorded.{Told, left}
use Rattle.gd_disk.specs.Calls.{Kept, kept}
use Rattle.gd_disk.specs.Images.{dropped, dropped_of}
use Rattle.gd_disk.specs.declared.kept_file.Call.{Call}
use Rattle.gd_disk.proofs.Images.{same_file, dropped_told, dropped_left}
use Rattle.gd_disk.proofs.kept_file.KeptFile.dropped.Goals as goal

is_dropped : (c : goal.After-into_bytes) → c.into_bytes.result.items ≡ dropped c.args.self.now.first c.args.self.now.made
is_dropped c =
    let s = c.self.inside in
    let file = same_file c.in_ok-file.file s.bytes.items c.deref.result.now s.replaced.items c.deref-2.result.now s.numbers.items c.deref-3.result.now s.stop c.in_ok-file.ensures c.deref.ensures.value c.deref-2.ensures.value c.deref-3.ensures.value in
    let k : Kept = kept s.bytes.items s.stop s.replaced.items s.numbers.items in
    c.into_bytes.ensures ∙ sym c.in_ok-undo_unsynced.ensures.dropped
    ∙ ap (λ (f : Kept). dropped_of f (reverse c.in_ok-copied.field-0.items)) file
    ∙ ap (λ (l : List Call). dropped_of k (reverse l)) (c.in_ok-copied.ensures ∙ c.deref-4.ensures.value)
    ∙ dropped_told k (reverse s.calls.items) c.self.invariant.1 c.self.invariant.2
    ∙ ap (λ (t : Told). dropped t.first t.made) c.self.view_is

pub returns-clause-value : goal.returns-clause-value
returns-clause-value c = is_dropped c

pub returns-clause-left : goal.returns-clause-left
returns-clause-left c = subst (λ (l : List ℕ). left c.args.self.now.first c.args.self.now.made l) (sym (is_dropped c)) (dropped_left c.args.self.now.first c.args.self.now.made)
