use Rattle.std.proofs.Common.{[], ◌∷◌, ◌++◌, sym, ap, subst, ◌∙◌, append_assoc}
use Rattle.std.proofs.lemmas.Cmp.{nat_list_eq_equiv}
use Rattle.std.specs.List.{IsDistinct}
use Rattle.std.specs.Map.{keys_of}
use Rattle.std.specs.Str.{bytes_eq}
use Rattle.gd_lists.proofs.Last.{put_new}
use Rattle.gd_lists.proofs.texts.copies.Goals as goal

pub loop-text-preserved : goal.loop-text-preserved
loop-text-preserved c =
    let done = c.loop-text.made.entries in
    let key = c.in-Some.text.now in
    let list = c.in-Some.list.now in
    let left = c.next.new.self in
    let all = ap (λ es. done ++ es) (sym c.in-Some.ensures.steps) ∙ c.loop-text.invariant in
    let last = put_new nat_list_eq_equiv.symm done key list left (subst (λ es. IsDistinct bytes_eq (keys_of es)) (sym all) c.iter-text-items.ensures.unique) in
    ap (λ es. es ++ left) (c.in_ok-insert.ensures.entries ∙ rw (c.in_ok-name.ensures, c.in_ok-same.ensures) last) ∙ append_assoc done ((key, list) ∷ []) left ∙ all
