use Rattle.std.proofs.Common.{rules, ◌≡◌, true, subst}
use Rattle.std.specs.List.{list_all}
use Rattle.std.specs.Char.{is_ascii_digit}
use Rattle.std.specs.Str.Parse.{ParsesUnsigned}
use Rattle.gd_words.proofs.Numbers.{no_number}
use Rattle.gd_words.proofs.number.number.Goals as goal

pub returns-in_default-3 : goal.returns-in_default-3
returns-in_default-3 c =
    let digits : list_all is_ascii_digit c.args.text.now ≡ true = search rules in
    no_number c.args.low c.args.high c.args.text.now c.in_default.field-0 c.ranges.high.fits digits (subst (ParsesUnsigned 32 10 c.args.text.now) c.in_default.is c.parse.ensures.value.0)
