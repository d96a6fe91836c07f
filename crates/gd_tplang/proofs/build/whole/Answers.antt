use Rattle.std.proofs.Common.{◌≡◌, ◌∙◌, ◌≤◌, sym, ap, subst, Ok}
use Rattle.std.proofs.lemmas.Result.{err_from_is_err_and}
use Rattle.gd_defs.specs.Template as defs
use Rattle.gd_tplang.specs.Building.{gathered, with_items}
use Rattle.gd_grammar.specs.Choice.{seen_at}
use Rattle.gd_tplang.specs.Stop.{Stopped}
use Rattle.gd_tplang.specs.Written.{items_at, template_at}
use Rattle.gd_tplang.proofs.Built.{template_made, template_items_stop, template_bracket_stop}
use Rattle.gd_tplang.proofs.build.whole.Goals as goal

pub returns-in_err-rest : goal.returns-in_err-rest
returns-in_err-rest c =
    let p = err_from_is_err_and c.from_residual.result c.from_residual.ensures.1 in
    let stopped = template_bracket_stop c.in_err-rest.field-0.0 31 c.args.bytes.now c.in_err-rest.ensures in
    rw (p.1, p.2) stopped

pub returns-in_err-parts : goal.returns-in_err-parts
returns-in_err-parts c =
    let p = err_from_is_err_and c.from_residual-in_err-parts.result c.from_residual-in_err-parts.ensures.1 in
    let inside = subst (λ g. Stopped c.in_err-parts.field-0.0 (seen_at (λ t. with_items t g) (items_at (template_at 31)) c.in_ok-rest.rest.now)) c.new.ensures c.in_err-parts.ensures in
    let stopped = template_items_stop c.in_err-parts.field-0.0 31 c.args.bytes.now c.in_ok-rest.rest.now c.in_ok-rest.ensures inside in
    rw (p.1, p.2) stopped

pub made-requires : goal.made-requires
made-requires c =
    let inside = subst (λ g. seen_at (λ t. with_items t g) (items_at (template_at 31)) c.in_ok-rest.rest.now ≡ Ok (gathered c.in_ok-parts.parts, c.in_ok-parts.rest.now)) c.new.ensures c.in_ok-parts.ensures in
    let m = template_made 31 c.args.bytes.now c.in_ok-rest.rest.now c.in_ok-parts.rest.now (gathered c.in_ok-parts.parts) c.in_ok-rest.ensures inside in
    subst (λ t. defs.depth t ≤ defs.max_depth) (sym m.same) (c.requires m.value c.in_ok-parts.rest.now m.read)

pub returns : goal.returns
returns c =
    let inside = subst (λ g. seen_at (λ t. with_items t g) (items_at (template_at 31)) c.in_ok-rest.rest.now ≡ Ok (gathered c.in_ok-parts.parts, c.in_ok-parts.rest.now)) c.new.ensures c.in_ok-parts.ensures in
    let m = template_made 31 c.args.bytes.now c.in_ok-rest.rest.now c.in_ok-parts.rest.now (gathered c.in_ok-parts.parts) c.in_ok-rest.ensures inside in
    m.means ∙ ap (λ x. Ok (x, c.in_ok-parts.rest.now)) (sym c.made.ensures)
