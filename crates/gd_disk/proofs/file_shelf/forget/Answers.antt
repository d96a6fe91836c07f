use Rattle.std.proofs.Common.{rules, bytes_eq}
use Rattle.std.specs.Prelude.{not}
use Rattle.std.proofs.lemmas.Fn.{filter_same}
use Rattle.gd_disk.proofs.file_shelf.forget.Goals as goal

pub returns : goal.returns
returns c =
    filter_same _ (λ name. not (bytes_eq name c.args.path.now)) _ (λ x b q called. (search (rules, called), search (rules, called))) _ _ c.retain.ensures.filtered
