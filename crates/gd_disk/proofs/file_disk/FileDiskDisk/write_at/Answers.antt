use Rattle.std.proofs.Common.{length}
use Rattle.gd_disk.proofs.Steps.{still_torn}
use Rattle.gd_disk.proofs.file_disk.FileDiskDisk.write_at.Goals as goal

pub returns-clause-images : goal.returns-clause-images
returns-clause-images c = λ file _. (file, tt, still_torn c.args.at (length c.args.bytes.now) file)
