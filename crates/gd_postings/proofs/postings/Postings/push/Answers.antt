use Rattle.std.proofs.Common.{sym, subst}
use Rattle.gd_postings.specs.Ids.{ids_of}
use Rattle.gd_postings.specs.Postings.{Places, IsAbove}
use Rattle.gd_postings.proofs.Split.{rising_more, still_few}
use Rattle.gd_postings.proofs.postings.Postings.push.Goals as goal

pub invariant_of-self : goal.invariant_of-self
invariant_of-self c =
    let (short, rising) = c.self.invariant in
    let above = subst (λ (p : Places). IsAbove p.ids c.args.id) (sym c.self.view_is) c.requires.above in
    (still_few (ids_of c.self.inside.ids) _ c.args.id rising above c.requires.small c.push.ensures.ids, rising_more (ids_of c.self.inside.ids) c.args.id _ rising above c.push.ensures.ids)
