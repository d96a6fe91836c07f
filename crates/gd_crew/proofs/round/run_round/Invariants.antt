use Rattle.gd_crew.proofs.Joined.{named}
use Rattle.gd_crew.proofs.round.run_round.Given as goal

-- what stands when the round begins, and its lines
abbrev pub ghosts-run_named : goal.ghosts-run_named
ghosts-run_named g a = record { named = named g.D.Disk.content g.D.Disk.moment g.D.Disk.faults g.C.Clock.may a.side a.first a.lines.now }
