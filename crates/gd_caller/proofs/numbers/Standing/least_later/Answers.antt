use Rattle.std.proofs.Common.{map, arith}
use Rattle.gd_round_lines.specs.Works.{write_of}
use Rattle.gd_caller.proofs.Least.{least_shown}
use Rattle.gd_caller.proofs.numbers.Standing.least_later.Goals as goal

pub loop-write-init : goal.loop-write-init
loop-write-init c = record {
  shown = omega arith;
  least = λ outs are. let below = least_shown (map write_of c.args.self.now.writes.now) outs c.args.read.now.line c.args.read.now.session c.args.self.now.shown in omega (arith, below);
}
