use Rattle.std.proofs.Common.{◌≡◌, ◌<◌, ap, sym, ◌∙◌, subst, refl, rules, List, [], ℕ, length, ◌==◌, ◌&&◌}
use Rattle.std.specs.Prelude.{unwrap_or}
use Rattle.std.specs.Option.{IsSome}
use Rattle.std.specs.Str.{bytes_eq}
use Rattle.std.specs.Ordering.{nat_cmp}
use Rattle.std.specs.Map.{lookup}
use Rattle.std.specs.BTreeMap.{is_at}
use Rattle.gd_lists.specs.Lists.{pair_list, text_list}
use Rattle.gd_lists.proofs.Each.{each_pair}
use Rattle.gd_postings.specs.Postings.{Places}
use Rattle.gd_lists.specs.Entries.{without_entry}
use Rattle.gd_lists.proofs.pairs.PairLists.pop.Goals as goal

pub pop-requires : goal.pop-requires
pop-requires c =
    let held : pair_list c.self.inside.texts.entries c.args.namespace c.args.key.now ≡ text_list c.in-Some.texts.now c.args.key.now =
    ap (λ o. text_list (unwrap_or o []) c.args.key.now) (sym c.in-Some.ensures.value) in
    subst (λ (p : Places). 0 < length p.ids) (ap (λ es. pair_list es c.args.namespace c.args.key.now) (sym c.self.view_is) ∙ held) c.requires

pub returns : goal.returns
returns c =
    let w = c.pop.new.self in
    let held : c.in-Some.texts.now ≡ unwrap_or (lookup (is_at (nat_cmp c.args.namespace)) c.self.inside.texts.entries) [] = ap (λ o. unwrap_or o []) c.in-Some.ensures.value in
    let written = (c.get_mut.follows.holds w).3 (subst IsSome c.in-Some.ensures.value (search rules)) in
    subst (λ (es : List (ℕ × List (List ℕ × Places))). (n : ℕ) (k : List ℕ) → (pair_list (c.get_mut.follows.lender w).entries n k).ids ≡ without_entry (c.args.namespace == n && bytes_eq k c.args.key.now) (pair_list es n k).ids) c.self.view_is
    (each_pair (λ test old new. new ≡ without_entry test old) (λ _. refl) c.self.inside.texts.entries _ c.args.namespace w c.args.key.now written.0
    (subst (λ (m : List (List ℕ × Places)). (t : List ℕ) → (text_list w t).ids ≡ without_entry (bytes_eq t c.args.key.now) (text_list m t).ids) held c.pop.ensures))
