-- The laws, proved.
use Rattle.gd_template_laws.proofs.AskedQuery.{query-asked}
use Rattle.gd_template_laws.proofs.Results.{held-typed}
use Rattle.gd_page_laws.specs.Laws.{ObjectsPrint, PagesPrint}
use Rattle.gd_page_laws.proofs.Pages.{clause-untold, page-prints}

pub objects_print : ObjectsPrint
objects_print prims written q o held asked = clause-untold prims (held-typed prims held) q.members (query-asked prims written q asked).0 q.sort 0 o

pub pages_print : PagesPrint
pages_print prims written q page held asked = page-prints prims (held-typed prims held) q (query-asked prims written q asked).0 page
