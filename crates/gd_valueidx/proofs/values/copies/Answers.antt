use Rattle.std.proofs.Common.{[], ◌∷◌, ◌++◌, sym, ap, subst, ◌∙◌, append_assoc}
use Rattle.std.specs.List.{IsDistinct}
use Rattle.std.specs.Map.{keys_of}
use Rattle.gd_base.specs.contracts.datum.DatumPartialEq.TheImpl as equality
use Rattle.gd_lists.proofs.Last.{put_new}
use Rattle.gd_valueidx.proofs.EitherWay.{same_either_way}
use Rattle.gd_valueidx.proofs.values.copies.Goals as goal

pub loop-value-preserved : goal.loop-value-preserved
loop-value-preserved c =
    let done = c.loop-value.made.entries in
    let key = c.in-Some.value.now in
    let list = c.in-Some.list.now in
    let left = c.next.new.self in
    let all = ap (λ es. done ++ es) (sym c.in-Some.ensures.steps) ∙ c.loop-value.invariant in
    let last = put_new same_either_way done key list left (subst (λ es. IsDistinct (equality.ghosts).eq (keys_of es)) (sym all) c.iter-value-items.ensures.unique) in
    ap (λ es. es ++ left) (c.in_ok-insert.ensures.entries ∙ rw (c.in_ok-key.ensures, c.in_ok-same.ensures) last) ∙ append_assoc done ((key, list) ∷ []) left ∙ all
