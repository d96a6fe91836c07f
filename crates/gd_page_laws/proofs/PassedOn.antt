-- The laws of the crates below that crates above name from here, so that they name those crates no more.
pub use Rattle.gd_template_laws.proofs.AskedQuery.{query-asked}
pub use Rattle.gd_template_laws.proofs.Laws.{templates_mean, answers_pass}
pub use Rattle.gd_template_laws.proofs.Literals.{literal-passes}
pub use Rattle.gd_template_laws.proofs.PassedOn.{take_longer, more_than}
pub use Rattle.gd_template_laws.proofs.Results.{answer-passes, held-typed}
