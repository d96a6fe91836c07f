use Rattle.std.proofs.Common.{◌∙◌, ◌++◌, ◌∷◌, sym, refl, decimal, codes}
use Rattle.std.proofs.lemmas.List.{append_cancel_left}
use Rattle.gd_cache.proofs.Commas.{decimal_plain}
use Rattle.gd_cache.proofs.part.dateline_in.Goals as goal

pub returns-in_err-rest : goal.returns-in_err-rest
returns-in_err-rest c = λ n rest low is. absurd (c.in_err-rest.ensures.none refl (decimal n ++ 44 ∷ rest) is)

pub returns : goal.returns
returns c = λ n rest low is.
    let here = append_cancel_left (codes ",\"dateline\":") c.in_ok-rest.rest.now (decimal n ++ 44 ∷ rest) (sym c.in_ok-rest.ensures.found ∙ is) in
    c.number_of.ensures n low (c.in_ok-digits.ensures.first (decimal n) rest (decimal_plain n) here).0
