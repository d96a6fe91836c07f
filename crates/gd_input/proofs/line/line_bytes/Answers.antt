use Rattle.std.proofs.Common.{◌≡◌, ◌∙◌, sym, ap, refl, length, true, false}
use Rattle.gd_input.proofs.Returns.{has_return, pop-dropped, no_return-kept}
use Rattle.gd_input.proofs.line.line_bytes.Goals as goal
use Rattle.gd_input.proofs.line.line_bytes.Goals.{else-by_newline-via-then-by_newline+else-ends_with_return, else-by_newline-via-else-by_newline}

pub returns-then-ends_with_return : goal.returns-then-ends_with_return
returns-then-ends_with_return c =
    let has : has_return c.args.piece.items ≡ true = sym (c.if-ends_with_return.ensures ∙ ap has_return c.deref.ensures.value) in
    rw c.if-by_newline.true (c.pop.ensures.rest ∙ pop-dropped c.args.piece.items _ (sym c.deref.ensures.len ∙ ap length c.deref.ensures.value) has)

pub returns-else-by_newline : goal.returns-else-by_newline
returns-else-by_newline c = elim c.else-by_newline.branch [
  | else-by_newline-via-then-by_newline+else-ends_with_return w ↦
      let has : has_return c.args.piece.items ≡ false = sym (w.if-ends_with_return.ensures ∙ ap has_return w.deref.ensures.value) in
      rw w.if-by_newline.true (no_return-kept c.args.piece.items has)
  | else-by_newline-via-else-by_newline w ↦ rw w.if-by_newline.false refl
]
