use Rattle.std.proofs.Common.{[], ◌∷◌, ◌++◌, ap, sym, subst, ◌∙◌}
use Rattle.std.specs.Str.{IsAscii}
use Rattle.std.proofs.lemmas.Str.{IsUtf8-from_ascii}
use Rattle.json.specs.Token.{string}
use Rattle.gd_defs.specs.Ids.{guid}
use Rattle.gd_shape.proofs.Guids.{guid_ascii}
use Rattle.gd_shape.proofs.datum.write_guid.Goals as goal

pub unreachable-requires : goal.unreachable-requires
unreachable-requires c = c.in-Err.ensures.cases.0 (IsUtf8-from_ascii c.guid_bytes-bytes.result (subst IsAscii (sym c.guid_bytes-bytes.ensures) (guid_ascii c.place.result)))

pub returns-clause-printed : goal.returns-clause-printed
returns-clause-printed c =
    c.in_ok-string-in-Ok.ensures.ok
    ∙ ap (λ t. c.args.out.now.tokens ++ string t ∷ []) (c.in-Ok.ensures.cases.0 ∙ c.guid_bytes-bytes.ensures ∙ ap guid c.place.ensures)
