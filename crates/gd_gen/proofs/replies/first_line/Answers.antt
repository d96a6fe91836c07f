use Rattle.std.proofs.Common.{◌∙◌, sym}
use Rattle.gd_gen.proofs.Parted.{line_and_more, one_line}
use Rattle.gd_gen.proofs.replies.first_line.Goals as goal

pub returns-in-Some : goal.returns-in-Some
returns-in-Some c = line_and_more _ _ (sym c.newline_in.ensures ∙ c.in-Some.is)

pub returns-in-None : goal.returns-in-None
returns-in-None c = one_line _ (sym c.newline_in.ensures ∙ c.in-None.is) c.requires
