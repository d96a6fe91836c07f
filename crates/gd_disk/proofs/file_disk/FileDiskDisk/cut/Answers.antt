use Rattle.gd_disk.proofs.Steps.{still_cut}
use Rattle.gd_disk.proofs.file_disk.FileDiskDisk.cut.Goals as goal

pub returns-clause-images : goal.returns-clause-images
returns-clause-images c = λ file _. (file, tt, still_cut c.args.len file)
