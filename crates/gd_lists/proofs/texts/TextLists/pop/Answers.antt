use Rattle.std.proofs.Common.{◌≡◌, ap, subst, refl, rules, List, ℕ, true}
use Rattle.std.specs.Prelude.{unwrap_or}
use Rattle.std.specs.Option.{IsSome}
use Rattle.std.specs.Str.{bytes_eq}
use Rattle.gd_postings.specs.Postings.{Places}
use Rattle.gd_lists.specs.Lists.{text_list, nothing}
use Rattle.gd_lists.specs.Entries.{without_entry}
use Rattle.gd_lists.proofs.Each.{each_text}
use Rattle.gd_lists.proofs.Entries.{popped}
use Rattle.gd_lists.proofs.texts.TextLists.pop.Goals as goal

pub returns : goal.returns
returns c =
    let w = c.pop_last-last.new.self in
    let held : c.in-Some.list.now ≡ text_list c.self.inside.lists.entries c.args.text.now = ap (λ o. unwrap_or o nothing) c.in-Some.ensures.value in
    let written = (c.get_mut.follows.holds w).3 (subst IsSome c.in-Some.ensures.value (search rules)) in
    let here = popped c.in-Some.list.now w c.pop_last-last.result c.pop_last-last.ensures.some c.pop_last-last.ensures.none in
    subst (λ (es : List (List ℕ × Places)). (t : List ℕ) → (text_list (c.get_mut.follows.lender w).entries t).ids ≡ without_entry (bytes_eq t c.args.text.now) (text_list es t).ids) c.self.view_is
    (each_text (λ test old new. new ≡ without_entry test old) (λ _. refl) c.self.inside.lists.entries _ c.args.text.now w written.0
    (subst (λ (p : Places). w.ids ≡ without_entry true p.ids) held here))
