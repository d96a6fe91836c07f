use Rattle.std.proofs.Common.{◌≡◌, ◌<◌, ap, sym, ◌∙◌, subst, refl, rules, List, ℕ, true}
use Rattle.std.specs.Prelude.{unwrap_or}
use Rattle.std.specs.Option.{IsSome}
use Rattle.std.specs.Str.{bytes_eq}
use Rattle.gd_postings.specs.Postings.{Places, IsAbove}
use Rattle.gd_lists.specs.Lists.{text_list, nothing}
use Rattle.gd_lists.specs.Entries.{with_entry}
use Rattle.gd_lists.proofs.Each.{each_text}
use Rattle.gd_lists.proofs.texts.TextLists.push.Goals as goal

seen : (c : goal.In-Some) → text_list c.args.self.now c.args.text.now ≡ c.in-Some.list.now
seen c = ap (λ es. text_list es c.args.text.now) (sym c.self.view_is) ∙ ap (λ o. unwrap_or o nothing) (sym c.in-Some.ensures.value)

pub push-requires-clause-room : goal.push-requires-clause-room
push-requires-clause-room c = subst (λ (p : Places). 0 < p.spare) (seen c) c.requires.room

pub push-requires-clause-above : goal.push-requires-clause-above
push-requires-clause-above c = subst (λ (p : Places). IsAbove p.ids c.args.id) (seen c) c.requires.above

pub returns : goal.returns
returns c =
    let w = c.push.new.self in
    let held : c.in-Some.list.now ≡ text_list c.self.inside.lists.entries c.args.text.now = ap (λ o. unwrap_or o nothing) c.in-Some.ensures.value in
    let written = (c.get_mut.follows.holds w).3 (subst IsSome c.in-Some.ensures.value (search rules)) in
    subst (λ (es : List (List ℕ × Places)). (t : List ℕ) → (text_list (c.get_mut.follows.lender w).entries t).ids ≡ with_entry (bytes_eq t c.args.text.now) c.args.id (text_list es t).ids) c.self.view_is
    (each_text (λ test old new. new ≡ with_entry test c.args.id old) (λ _. refl) c.self.inside.lists.entries _ c.args.text.now w written.0
    (subst (λ (p : Places). w.ids ≡ with_entry true c.args.id p.ids) held c.push.ensures.ids))
