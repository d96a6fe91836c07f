use Rattle.std.proofs.Common.{◌≡◌, ◌≤◌, ℕ, List, ◌∷◌, ◌++◌, length, reverse, sym, ◌∙◌, ap, subst, arith, length-take}
use Rattle.gd_disk.specs.Recorded.{Told, wrote, held}
use Rattle.gd_disk.specs.Calls.{IsWrite, kept, made_of, first_of}
use Rattle.gd_disk.proofs.Undone.{IsWritten, is_written, more_made, more_first, file_written, range_part}
use Rattle.gd_disk.proofs.Images.{more_held}
use Rattle.gd_disk.proofs.kept_file.KeptFile.write.Goals as goal

-- the write is at an offset within the file
within : (c : goal.After-self-1) → c.args.at ≤ c.self.inside.stop
within c =
    let s = c.self.inside in
    let there = subst (λ (t : Told). c.args.at ≤ length (held t.first t.made)) (sym c.self.view_is) c.requires.within in
    omega (arith, there, ap length c.self.invariant.1, length-take s.stop s.bytes.items, c.self.invariant.0)

wrote_it : (c : goal.After-self-1) → IsWritten (kept c.self.inside.bytes.items c.self.inside.stop c.self.inside.replaced.items c.self.inside.numbers.items)
    (kept c.overwrite-end.new.file.items c.max-self-inside.result c.keep.new.kept.items c.keep_numbers.new.numbers.items) c.write_call-call.result c.args.at c.min-over.result c.args.bytes.now
wrote_it c =
    let s = c.self.inside in
    let all : c.len-2.result ≡ length s.bytes.items = omega arith in
    is_written s.bytes.items c.overwrite-end.new.file.items s.replaced.items c.keep.new.kept.items s.numbers.items c.keep_numbers.new.numbers.items c.args.bytes.now s.stop c.max-self-inside.result c.args.at c.min-over.result c.write_call-call.result
    (subst (λ (n : ℕ). IsWrite c.write_call-call.result c.args.at (length c.args.bytes.now) s.stop n) all c.write_call-call.ensures) (within c) c.self.invariant.0 (omega arith) c.overwrite-end.ensures.items (omega arith)
    (c.keep.ensures.items ∙ ap (λ (l : List ℕ). s.replaced.items ++ l) (range_part s.bytes.items c.deref.result.now c.args.at c.min-over.result c.deref.ensures.value))
    c.keep_numbers.ensures.items

first_is : (c : goal.After-self-1) → first_of (kept c.overwrite-end.new.file.items c.max-self-inside.result c.keep.new.kept.items c.keep_numbers.new.numbers.items) (reverse c.note.new.calls.items)
    ≡ first_of (kept c.self.inside.bytes.items c.self.inside.stop c.self.inside.replaced.items c.self.inside.numbers.items) (reverse c.self.inside.calls.items)
first_is c = more_first _ _ c.self.inside.calls.items c.note.new.calls.items c.write_call-call.result (wrote_it c).back c.note.ensures.items

made_is : (c : goal.After-self-1) → made_of (kept c.overwrite-end.new.file.items c.max-self-inside.result c.keep.new.kept.items c.keep_numbers.new.numbers.items) (reverse c.note.new.calls.items)
    ≡ wrote c.args.at c.args.bytes.now ∷ made_of (kept c.self.inside.bytes.items c.self.inside.stop c.self.inside.replaced.items c.self.inside.numbers.items) (reverse c.self.inside.calls.items)
made_is c = more_made _ _ c.self.inside.calls.items c.note.new.calls.items c.write_call-call.result (wrote c.args.at c.args.bytes.now) (wrote_it c).told (wrote_it c).back c.note.ensures.items

pub invariant_of-self : goal.invariant_of-self
invariant_of-self c =
    let s = c.self.inside in
    let file = file_written _ _ s.bytes.items c.overwrite-end.new.file.items c.args.bytes.now _ _ c.args.at s.stop c.max-self-inside.result (within c) c.self.invariant.0 c.self.invariant.1 c.overwrite-end.ensures.items (omega arith) (first_is c) (made_is c) in
    (file.0, file.1, more_held _ _ s.calls.items c.note.new.calls.items c.write_call-call.result (wrote c.args.at c.args.bytes.now) (wrote_it c).told (wrote_it c).back c.note.ensures.items c.self.invariant.0 c.self.invariant.1 (within c) c.self.invariant.2)

pub returns-clause-first : goal.returns-clause-first
returns-clause-first c = rw (← c.self.view_is) (first_is c)

pub returns-clause-made : goal.returns-clause-made
returns-clause-made c = rw (← c.self.view_is) (made_is c)
