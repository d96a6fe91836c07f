use Rattle.gd_input.proofs.Newlines.{first_newline}
use Rattle.gd_input.proofs.piece.newline_in.Goals as goal

pub returns-clause-first : goal.returns-clause-first
returns-clause-first c = first_newline c.args.bytes.now c.memchr.result c.memchr.ensures
