use Rattle.gd_window.proofs.Pages.{pages_given}
use Rattle.gd_window.proofs.laws.windows_give_pages.Goals as goal

pub returns : goal.returns
returns c = pages_given
