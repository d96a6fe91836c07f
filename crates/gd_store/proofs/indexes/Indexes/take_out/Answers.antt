use Rattle.gd_store.proofs.LeftEnds.{lefts_less}
use Rattle.gd_store.proofs.indexes.Indexes.take_out.Goals as goal

pub returns : goal.returns
returns c = record {
  successors = c.take_out_version.ensures;
  keys = c.take_out_key.ensures;
  links = c.take_out_links.ensures;
  values = c.take_out_value.ensures;
  lefts = lefts_less c.args.self.now.lefts c.args.prims.now c.args.place c.requires.before.lefts;
}
