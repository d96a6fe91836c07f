use Rattle.std.proofs.Common.{◌∙◌, ◌++◌, sym, ap, take}
use Rattle.gd_cache.proofs.Parts.{parted}
use Rattle.gd_cache.proofs.Commas.{plain_up_to, no_comma, first_comma, rest_of}
use Rattle.gd_cache.proofs.part.to_comma.Goals as goal

pub returns-in_err-place-clause-none : goal.returns-in_err-place-clause-none
returns-in_err-place-clause-none c = λ none front rest is. no_comma c.args.bytes.now front rest (sym c.comma.ensures ∙ c.in_err-place.was) is

pub returns-clause-found : goal.returns-clause-found
returns-clause-found c =
    let i = c.in_ok-place.place in
    let xs = c.args.bytes.now in
    (parted i xs ∙ ap (λ l. take i xs ++ l) (sym (rest_of xs i)), plain_up_to xs i (sym c.comma.ensures ∙ c.in_ok-place.was))

pub returns-clause-first : goal.returns-clause-first
returns-clause-first c = λ front rest plain is.
    let i = c.in_ok-place.place in
    let xs = c.args.bytes.now in
    let both = first_comma xs front rest i (sym c.comma.ensures ∙ c.in_ok-place.was) plain is in
    (both.0, rest_of xs i ∙ both.1)
