use Rattle.std.proofs.Common.{arith, subst, sym, ap, length}
use Rattle.std.specs.List.{All}
use Rattle.gd_crew.specs.declared.worker.Worker.{Worker}
use Rattle.gd_crew.specs.Ready.{IsReady}
use Rattle.gd_crew.proofs.Hired.{hired_lent, hired_manned, seated_manned, lent_set}
use Rattle.gd_crew.proofs.assign.seat.Goals as goal

pub returns-in_err-place-clause-manned : goal.returns-in_err-place-clause-manned
returns-in_err-place-clause-manned c = hired_manned c.args.shown.history c.args.works.now c.args.budget c.args.hired.now.items c.place_for.new.hired.items c.requires.budget.0 c.requires.budget.1 c.in_err-place.ensures.hired c.requires.manned

pub returns-in_err-place-clause-count : goal.returns-in_err-place-clause-count
returns-in_err-place-clause-count c = let same = hired_lent c.args.budget c.args.hired.now.items c.place_for.new.hired.items c.in_err-place.ensures.hired in omega (arith, same)

pub seat_among-requires-clause-ready : goal.seat_among-requires-clause-ready
seat_among-requires-clause-ready c =
    let all = hired_manned c.args.shown.history c.args.works.now c.args.budget c.args.hired.now.items c.place_for.new.hired.items c.requires.budget.0 c.requires.budget.1 c.in_ok-place.ensures.hired c.requires.manned in
    subst (λ (w : Worker). All (IsReady c.args.shown.history c.args.works.now) w.seated.items) (sym c.index_mut-worker.ensures.value) (all c.in_ok-place.place c.index_mut-worker.result.now c.in_ok-place.ensures.there).sessions

pub returns-clause-manned : goal.returns-clause-manned
returns-clause-manned c =
    let all = hired_manned c.args.shown.history c.args.works.now c.args.budget c.args.hired.now.items c.place_for.new.hired.items c.requires.budget.0 c.requires.budget.1 c.in_ok-place.ensures.hired c.requires.manned in
    seated_manned c.args.shown.history c.args.works.now c.place_for.new.hired.items c.in_ok-place.place c.index_mut-worker.result.now _ c.in_ok-place.ensures.there all (ap (λ (w : Worker). w.budget) c.index_mut-worker.ensures.value) c.seat_among.ensures.ready

pub returns-clause-count : goal.returns-clause-count
returns-clause-count c =
    let w = c.index_mut-worker.result.now in
    let same = hired_lent c.args.budget c.args.hired.now.items c.place_for.new.hired.items c.in_ok-place.ensures.hired in
    let set = lent_set c.place_for.new.hired.items c.in_ok-place.place w (record w { seated = c.seat_among.new.seated }) c.in_ok-place.ensures.there in
    let was = ap (λ (v : Worker). length v.seated.items) c.index_mut-worker.ensures.value in
    let count = c.seat_among.ensures.count in
    omega (arith, same, set, was, count)
