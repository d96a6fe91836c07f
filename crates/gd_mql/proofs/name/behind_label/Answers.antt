use Rattle.std.proofs.lemmas.Str.Pattern.{split_once_first}
use Rattle.std.proofs.Common.{None, lit<}
use Rattle.gd_mql.proofs.Spelling.{unlabelled}
use Rattle.gd_mql.proofs.name.behind_label.Goals as goal

pub returns-in-None : goal.returns-in-None
returns-in-None c = unlabelled c.args.name.now (split_once_first 58 c.args.name.now None c.in-None.ensures.cases (lit< tt))
