use Rattle.std.proofs.Common.{◌≡◌, rules}
use Rattle.gd_bytes.specs.Group.{spelling, Fits}
use Rattle.gd_codec.proofs.Meaning.{spelled_meant}
use Rattle.gd_codec.proofs.write.encode_group.Goals as goal

pub returns-clause-meant : goal.returns-clause-meant
returns-clause-meant c =
    let fits : Fits c.args.batches.now = search rules in
    let written : c.write_batches.new.out.items ≡ spelling c.args.batches.now = search rules in
    spelled_meant c.args.batches.now c.write_batches.new.out.items (fits, written)
