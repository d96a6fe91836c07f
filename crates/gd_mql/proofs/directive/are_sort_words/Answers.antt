use Rattle.std.proofs.Common.{◌∙◌, sym, true}
use Rattle.gd_mql.proofs.Literals.{sort_words-drop}
use Rattle.gd_mql.proofs.directive.are_sort_words.Goals as goal

pub loop-item-preserved : goal.loop-item-preserved
loop-item-preserved c = c.loop-item.invariant
    ∙ sort_words-drop c.args.items.now c.loop-item.item-index c.item-item.result true c.loop-item-test.true c.item-item.is (sym c.if-not-is_sort_word.false ∙ c.is_sort_word.ensures)
