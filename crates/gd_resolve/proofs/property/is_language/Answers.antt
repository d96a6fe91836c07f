use Rattle.std.proofs.Common.{is_some, ap, sym, ◌∙◌}
use Rattle.gd_prim.specs.History.{prims_of}
use Rattle.gd_resolve.proofs.Scans.{is_language-found}
use Rattle.gd_resolve.proofs.property.is_language.Goals as goal

pub returns-clause-language : goal.returns-clause-language
returns-clause-language g c = c.is_some.ensures ∙ ap is_some c.first_found.ensures.first ∙ sym (is_language-found (prims_of c.args.view.now) c.args.object)
