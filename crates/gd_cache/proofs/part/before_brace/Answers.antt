use Rattle.std.proofs.Common.{rules}
use Rattle.gd_cache.proofs.Parts.{ended}
use Rattle.gd_cache.proofs.part.before_brace.Goals as goal

pub returns-clause-found : goal.returns-clause-found
returns-clause-found c = search (rules, ended)
