use Rattle.std.proofs.Common.{◌≡◌, ◌≤◌, ◌∙◌, List, ℕ, ap, subst, sym, length, true}
use Rattle.std.specs.Str.{is_utf8}
use Rattle.gd_tplang.proofs.Texts.{text_is}
use Rattle.gd_tplang.proofs.text.string.Goals as goal

pub text_of_utf8-requires-clause-short : goal.text_of_utf8-requires-clause-short
text_of_utf8-requires-clause-short c =
    let is = text_is c.in_ok-rest.rest.now c.in_ok-text.text.items c.in_ok-text.rest.now c.in_ok-text.ensures in
    subst (λ (l : List ℕ). length l ≤ 4096) (sym c.deref.ensures.value) is.0

pub text_of_utf8-requires-clause-utf8 : goal.text_of_utf8-requires-clause-utf8
text_of_utf8-requires-clause-utf8 c =
    let is = text_is c.in_ok-rest.rest.now c.in_ok-text.text.items c.in_ok-text.rest.now c.in_ok-text.ensures in
    ap is_utf8 c.deref.ensures.value ∙ is.1
