use Rattle.std.proofs.Common.{◌∙◌}
use Rattle.gd_prim.specs.End.{end_of}
use Rattle.gd_flat.proofs.Fitting.{leads_links}
use Rattle.gd_flat.proofs.fits.leads.Goals as goal

pub returns-in-LinksBy-clause-leads : goal.returns-in-LinksBy-clause-leads
returns-in-LinksBy-clause-leads g c = rw c.in-LinksBy.is (c.names.ensures ∙ leads_links _ (end_of c.in-LinksBy.end) _ _ _ c.end_there-found.ensures.there)
