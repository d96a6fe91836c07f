use Rattle.std.proofs.Common.{◌++◌, decimal, codes}
use Rattle.std.proofs.KnownBytes.{Appends-trans}
use Rattle.gd_outside.proofs.Fronts.{at_err, front_first, front_second}
use Rattle.gd_reply.proofs.printing.print_late_front.Goals as goal

pub returns-in_err-write_all-clause-front : goal.returns-in_err-write_all-clause-front
returns-in_err-write_all-clause-front g c =
    let old = g.K.Sink.held c.args.sink.now in
    let new = g.K.Sink.held c.write_all.new.sink in
    let begun = codes "{\"code\":\"/api/status/error\",\"error\":\"MemoryLate\",\"info\":{\"entry\":" in
    at_err c.from_residual.result (front_first old new begun (decimal c.args.entry ++ codes "},\"line\":") c.in_err-write_all.ensures.front)

pub returns-in_err-print_entry-clause-front : goal.returns-in_err-print_entry-clause-front
returns-in_err-print_entry-clause-front g c =
    let old = g.K.Sink.held c.args.sink.now in
    let mid = g.K.Sink.held c.write_all.new.sink in
    let new = g.K.Sink.held c.print_entry.new.sink in
    let begun = codes "{\"code\":\"/api/status/error\",\"error\":\"MemoryLate\",\"info\":{\"entry\":" in
    at_err c.from_residual-in_err-print_entry.result (front_second old mid new begun (decimal c.args.entry ++ codes "},\"line\":") c.in_ok-write_all.ensures.all c.in_err-print_entry.ensures.front)

pub returns-clause-all : goal.returns-clause-all
returns-clause-all g c =
    Appends-trans (g.K.Sink.held c.args.sink.now) (g.K.Sink.held c.write_all.new.sink) (g.K.Sink.held c.print_entry.new.sink) (codes "{\"code\":\"/api/status/error\",\"error\":\"MemoryLate\",\"info\":{\"entry\":") (decimal c.args.entry ++ codes "},\"line\":")
    c.in_ok-write_all.ensures.all c.in_ok-print_entry.ensures.all
