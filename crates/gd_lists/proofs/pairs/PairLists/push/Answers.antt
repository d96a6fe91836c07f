use Rattle.std.proofs.Common.{◌≡◌, ◌<◌, ap, sym, ◌∙◌, subst, refl, rules, List, [], ℕ, ◌==◌, ◌&&◌}
use Rattle.std.specs.Prelude.{unwrap_or}
use Rattle.std.specs.Option.{IsSome}
use Rattle.std.specs.Str.{bytes_eq}
use Rattle.std.specs.Ordering.{nat_cmp}
use Rattle.std.specs.Map.{lookup}
use Rattle.std.specs.BTreeMap.{is_at}
use Rattle.gd_lists.specs.Lists.{pair_list, text_list}
use Rattle.gd_lists.proofs.Each.{each_pair}
use Rattle.gd_postings.specs.Postings.{Places, IsAbove}
use Rattle.gd_lists.specs.Entries.{with_entry}
use Rattle.gd_lists.proofs.pairs.PairLists.push.Goals as goal

seen : (c : goal.In-Some) → pair_list c.args.self.now c.args.namespace c.args.key.now ≡ text_list c.in-Some.texts.now c.args.key.now
seen c =
    ap (λ es. pair_list es c.args.namespace c.args.key.now) (sym c.self.view_is)
    ∙ ap (λ o. text_list (unwrap_or o []) c.args.key.now) (sym c.in-Some.ensures.value)

pub push-requires-clause-room : goal.push-requires-clause-room
push-requires-clause-room c = subst (λ (p : Places). 0 < p.spare) (seen c) c.requires.room

pub push-requires-clause-above : goal.push-requires-clause-above
push-requires-clause-above c = subst (λ (p : Places). IsAbove p.ids c.args.id) (seen c) c.requires.above

pub returns : goal.returns
returns c =
    let w = c.push.new.self in
    let held : c.in-Some.texts.now ≡ unwrap_or (lookup (is_at (nat_cmp c.args.namespace)) c.self.inside.texts.entries) [] = ap (λ o. unwrap_or o []) c.in-Some.ensures.value in
    let written = (c.get_mut.follows.holds w).3 (subst IsSome c.in-Some.ensures.value (search rules)) in
    subst (λ (es : List (ℕ × List (List ℕ × Places))). (n : ℕ) (k : List ℕ) → (pair_list (c.get_mut.follows.lender w).entries n k).ids ≡ with_entry (c.args.namespace == n && bytes_eq k c.args.key.now) c.args.id (pair_list es n k).ids) c.self.view_is
    (each_pair (λ test old new. new ≡ with_entry test c.args.id old) (λ _. refl) c.self.inside.texts.entries _ c.args.namespace w c.args.key.now written.0
    (subst (λ (m : List (List ℕ × Places)). (t : List ℕ) → (text_list w t).ids ≡ with_entry (bytes_eq t c.args.key.now) c.args.id (text_list m t).ids) held c.push.ensures))
