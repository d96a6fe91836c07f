use Rattle.gd_left_laws.proofs.Laws.{scans_give_pages}
use Rattle.gd_left_laws.proofs.scans_give_pages.Goals as goal

pub returns : goal.returns
returns c = scans_give_pages
