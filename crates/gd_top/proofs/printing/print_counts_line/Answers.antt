use Rattle.std.proofs.Common.{[], ◌∷◌, ◌++◌, codes, decimal, subst}
use Rattle.std.specs.Io.KnownBytes.{Appends}
use Rattle.std.proofs.KnownBytes.{Appends-trans}
use Rattle.gd_outside.specs.Gains.{GainsFront}
use Rattle.gd_outside.proofs.Fronts.{at_err, front_first, front_second}
use Rattle.gd_top.proofs.Counted.{hits_text, refused_text, line_end}
use Rattle.gd_top.proofs.printing.print_counts_line.Goals as goal

pub returns-in_err-print_hits-clause-front : goal.returns-in_err-print_hits-clause-front
returns-in_err-print_hits-clause-front g c =
    let old = g.K.Sink.held c.args.sink.now in
    let new = g.K.Sink.held c.print_hits.new.sink in
    let hits = hits_text c.args.hits c.args.reads in
    let refused = refused_text c.args.refused in
    at_err c.from_residual.result (subst (GainsFront old new) (line_end hits refused (codes "}}"))
    (front_first old new hits (refused ++ (codes "}}" ++ 10 ∷ [])) c.in_err-print_hits.ensures.front))

pub returns-in_err-print_refused-clause-front : goal.returns-in_err-print_refused-clause-front
returns-in_err-print_refused-clause-front g c =
    let old = g.K.Sink.held c.args.sink.now in
    let mid = g.K.Sink.held c.print_hits.new.sink in
    let new = g.K.Sink.held c.print_refused.new.sink in
    let hits = hits_text c.args.hits c.args.reads in
    let refused = refused_text c.args.refused in
    at_err c.from_residual-in_err-print_refused.result (subst (GainsFront old new) (line_end hits refused (codes "}}"))
    (front_second old mid new hits (refused ++ (codes "}}" ++ 10 ∷ [])) c.in_ok-print_hits.ensures.all c.in_err-print_refused.ensures.front))

pub returns-clause-all : goal.returns-clause-all
returns-clause-all g c =
    let old = g.K.Sink.held c.args.sink.now in
    let mid = g.K.Sink.held c.print_hits.new.sink in
    let new = g.K.Sink.held c.print_refused.new.sink in
    let hits = hits_text c.args.hits c.args.reads in
    let refused = refused_text c.args.refused in
    subst (Appends old new) (line_end hits refused (codes "}}"))
    (Appends-trans old mid new hits (refused ++ (codes "}}" ++ 10 ∷ [])) c.in_ok-print_hits.ensures.all c.in_ok-print_refused.ensures.all)
