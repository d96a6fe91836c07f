use Rattle.std.proofs.Common.{◌≡◌, [], ◌∙◌, sym, refl}
use Rattle.gd_gen.proofs.Parted.{no_line}
use Rattle.gd_gen.proofs.replies.Lines.next.Goals as goal

pub returns-then-is_empty-clause-line : goal.returns-then-is_empty-clause-line
returns-then-is_empty-clause-line c = sym c.self.view_is ∙ no_line _ c.if-is_empty.ensures

pub returns-then-is_empty-clause-later : goal.returns-then-is_empty-clause-later
returns-then-is_empty-clause-later c = let none : c.args.self.now ≡ [] = sym c.self.view_is ∙ no_line _ c.if-is_empty.ensures in rw none refl
