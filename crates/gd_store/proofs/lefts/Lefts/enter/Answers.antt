use Rattle.std.proofs.Common.{◌+◌, ◌∙◌, ap, arith, length, refl, sym}
use Rattle.std.specs.Prelude.{position}
use Rattle.std.proofs.lemmas.Option.{slice_get_read}
use Rattle.gd_base.specs.Order.{datum_eq}
use Rattle.gd_store.proofs.LeftEnds.{lefts_entered, sees_by}
use Rattle.gd_store.proofs.Valued.{number_small}
use Rattle.gd_store.proofs.lefts.Lefts.enter.Goals as goal

pub enter-requires-3 : goal.enter-requires-3
enter-requires-3 c number is =
    let known = sym is ∙ c.number_of-number.ensures ∙ ap (position (datum_eq c.index-prims-place.result.value)) c.requires.values.numbers in
    let small = number_small c.index-prims-place.result.value c.args.prims.now (c.args.place + 1) number 2_097_151 known c.requires.few in
    omega (arith, small)

pub returns-clause-ok : goal.returns-clause-ok
returns-clause-ok c =
    lefts_entered c.args.self.now (record { right = c.enter.new.self; typ = c.enter-2.new.self; value = c.enter-3.new.self }) c.args.prims.now c.args.place c.index-prims-place.result
    (slice_get_read c.args.prims.now (length c.args.prims.now) c.args.place c.index-prims-place.result refl c.requires.there c.index-prims-place.is)
    c.requires.before
    (sees_by c.number_of.result c.index-prims-place.result.right c.index-prims-place.result.left c.args.self.now.right c.enter.new.self c.number_of.ensures.same c.in_ok-enter.ensures.ok)
    (sees_by c.number_of-2.result c.index-prims-place.result.typ c.index-prims-place.result.left c.args.self.now.typ c.enter-2.new.self c.number_of-2.ensures.same c.in_ok-enter-2.ensures.ok)
    (sees_by c.number_of-number.result _ c.index-prims-place.result.left c.args.self.now.value c.enter-3.new.self
    (c.number_of-number.ensures ∙ ap (position (datum_eq c.index-prims-place.result.value)) c.requires.values.numbers) c.in_ok-enter-3.ensures.ok)
