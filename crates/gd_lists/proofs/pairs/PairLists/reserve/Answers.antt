use Rattle.std.proofs.Common.{◌≡◌, ap, subst, refl, rules, List, [], ℕ}
use Rattle.std.specs.Prelude.{unwrap_or}
use Rattle.std.specs.Option.{IsSome}
use Rattle.std.specs.Ordering.{nat_cmp}
use Rattle.std.specs.Map.{lookup}
use Rattle.std.specs.BTreeMap.{is_at}
use Rattle.gd_lists.specs.Lists.{pair_list, text_list}
use Rattle.gd_lists.proofs.Each.{each_pair}
use Rattle.gd_postings.specs.Postings.{Places}
use Rattle.gd_lists.proofs.Each.{Sets, same_id}
use Rattle.std.specs.BTreeMap.{BTreeMap}
use Rattle.gd_lists.proofs.pairs.PairLists.reserve.Goals as goal

pub returns-in-Some-clause-same : goal.returns-in-Some-clause-same
returns-in-Some-clause-same c =
    let w = c.reserve.new.self in
    let held : c.in-Some.texts.now ≡ unwrap_or (lookup (is_at (nat_cmp c.args.namespace)) c.self.inside.texts.entries) [] = ap (λ o. unwrap_or o []) c.in-Some.ensures.value in
    let written = (c.get_mut.follows.holds w).3 (subst IsSome c.in-Some.ensures.value (search rules)) in
    subst (λ (es : List (ℕ × List (List ℕ × Places))). (n : ℕ) (k : List ℕ) → (pair_list (c.get_mut.follows.lender w).entries n k).ids ≡ (pair_list es n k).ids) c.self.view_is
    (each_pair (λ test old new. new ≡ old) (λ _. refl) c.self.inside.texts.entries _ c.args.namespace w c.args.key.now written.0
    (subst (λ (m : List (List ℕ × Places)). (t : List ℕ) → (text_list w t).ids ≡ (text_list m t).ids) held c.reserve.ensures.same))

pub returns-in_ok-insert-in-None-clause-same : goal.returns-in_ok-insert-in-None-clause-same
returns-in_ok-insert-in-None-clause-same c =
    let w = c.reserve-in-None.new.self in
    let held : [] ≡ unwrap_or (lookup (is_at (nat_cmp c.args.namespace)) c.self.inside.texts.entries) [] = ap (λ o. unwrap_or o []) c.in-None.ensures.value in
    let written : Sets same_id c.self.inside.texts.entries c.insert.new.self.entries c.args.namespace w =
    subst (λ (m : BTreeMap ℕ (List (List ℕ × Places))). Sets same_id m.entries c.insert.new.self.entries c.args.namespace w) c.get_mut.follows.holds-at-none
    c.in_ok-insert-in-None.ensures.updates.0 in
    let made : (t : List ℕ) → (text_list w t).ids ≡ (text_list [] t).ids =
    subst (λ (m : List (List ℕ × Places)). (t : List ℕ) → (text_list w t).ids ≡ (text_list m t).ids) c.new-texts.ensures c.reserve-in-None.ensures.same in
    subst (λ (es : List (ℕ × List (List ℕ × Places))). (n : ℕ) (k : List ℕ) → (pair_list c.insert.new.self.entries n k).ids ≡ (pair_list es n k).ids) c.self.view_is
    (each_pair (λ test old new. new ≡ old) (λ _. refl) c.self.inside.texts.entries _ c.args.namespace w c.args.key.now written
    (subst (λ (m : List (List ℕ × Places)). (t : List ℕ) → (text_list w t).ids ≡ (text_list m t).ids) held made))
