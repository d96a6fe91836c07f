use Rattle.std.proofs.Common.{◌∙◌, sym, ap, subst}
use Rattle.gd_dump_laws.specs.Dump.{Whole}
use Rattle.gd_dump.specs.Progress.{first_at}
use Rattle.gd_dump.proofs.Taken.{read_whole}
use Rattle.gd_dump.proofs.reader.DumpReader.first.Goals as goal

pub returns : goal.returns
returns c text batches read sound =
    subst (λ f. Whole text f batches) (ap (λ v. first_at v.progress.stage) (sym c.self.view_is) ∙ sym c.first.ensures) (read_whole c.args.self.now text batches read sound)
