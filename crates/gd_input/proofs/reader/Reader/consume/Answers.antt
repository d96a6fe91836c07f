use Rattle.gd_input.proofs.Buffers.{let_go}
use Rattle.gd_input.proofs.reader.Reader.consume.Goals as goal

pub returns : goal.returns
returns c = let_go c.self.inside.buffer c.self.inside.start c.self.inside.end c.self.inside.consumed c.args.count c.args.self.now c.self.view_is c.self.invariant.ordered c.requires
