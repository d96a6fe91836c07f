use Rattle.std.proofs.Common.{rules, ◌≡◌, ◌↔◌, IsTrue}
use Rattle.std.specs.Cmp.{both_ways}
use Rattle.gd_base.specs.Order.{datum_eq}
use Rattle.gd_base.proofs.Order.{datum_eq_decides}
use Rattle.gd_base.proofs.datum.Datum.is.Goals as goal

pub returns-clause-eq : goal.returns-clause-eq
returns-clause-eq c =
    let a = c.args.self.now in
    let b = c.args.other.now in
    let same : IsTrue c.eq.result ↔ (a ≡ b) = search rules in
    both_ways c.eq.result (datum_eq a b) (λ is. (datum_eq_decides a b).1 (same.0 is)) (λ is. same.1 ((datum_eq_decides a b).0 is))
