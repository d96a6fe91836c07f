use Rattle.std.proofs.Common.{◌≡◌, true, length, sym, ap, ◌∙◌, arith}
use Rattle.std.specs.Int.{is_in_range}
use Rattle.gd_json.proofs.Parts.{items_len-items_view}
use Rattle.gd_mql.proofs.envelope.few.Goals as goal

pub returns-then-counts_to-clause-few : goal.returns-then-counts_to-clause-few
returns-then-counts_to-clause-few c =
    let counted : is_in_range 1 16 (length c.args.items.items) ≡ true = ap (is_in_range 1 16) (sym (items_len-items_view c.args.items.items)) ∙ sym (rw c.deref.ensures.value at c.if-counts_to.ensures) in
    grind arith
