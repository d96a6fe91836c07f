-- The laws, proved.
use Rattle.gd_paging_laws.specs.Laws.{PagesAreWhole, ShownPagesAreWhole}
use Rattle.gd_paging_laws.proofs.Whole.{whole}
use Rattle.gd_paging_laws.proofs.Shown.{shown_whole}

pub pages_are_whole : PagesAreWhole
pages_are_whole = whole

pub shown_pages_are_whole : ShownPagesAreWhole
shown_pages_are_whole = shown_whole
