use Rattle.std.proofs.Common.{◌≡◌, ◌≤◌, ◌∙◌, List, ℕ, ap, subst, sym, length, true}
use Rattle.std.specs.Str.{is_utf8}
use Rattle.gd_dump.proofs.Steps.{text_is}
use Rattle.gd_dump.proofs.hex.text.Goals as goal

pub text_of_utf8-requires-clause-short : goal.text_of_utf8-requires-clause-short
text_of_utf8-requires-clause-short c =
    let is = text_is c.args.mark c.args.bytes.now c.in_ok-front.front.items c.in_ok-front.rest.now c.requires c.in_ok-front.ensures in
    subst (λ (l : List ℕ). length l ≤ 4096) (sym c.as_slice.ensures.value) is.0

pub text_of_utf8-requires-clause-utf8 : goal.text_of_utf8-requires-clause-utf8
text_of_utf8-requires-clause-utf8 c =
    let is = text_is c.args.mark c.args.bytes.now c.in_ok-front.front.items c.in_ok-front.rest.now c.requires c.in_ok-front.ensures in
    ap is_utf8 c.as_slice.ensures.value ∙ is.1
