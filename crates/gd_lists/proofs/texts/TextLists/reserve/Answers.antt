use Rattle.std.proofs.Common.{◌≡◌, ap, subst, refl, rules, List, ℕ, ◌∙◌}
use Rattle.std.specs.Prelude.{unwrap_or}
use Rattle.std.specs.Option.{IsSome}
use Rattle.std.specs.HashMap.{HashMap}
use Rattle.std.specs.Str.{bytes_eq}
use Rattle.gd_postings.specs.Postings.{Places}
use Rattle.gd_lists.specs.Lists.{text_list, nothing}
use Rattle.gd_lists.proofs.Each.{Sets, each_text}
use Rattle.gd_lists.proofs.texts.TextLists.reserve.Goals as goal

pub returns-in-Some-clause-same : goal.returns-in-Some-clause-same
returns-in-Some-clause-same c =
    let w = c.make_room.new.self in
    let held : c.in-Some.list.now ≡ text_list c.self.inside.lists.entries c.args.text.now = ap (λ o. unwrap_or o nothing) c.in-Some.ensures.value in
    let written = (c.get_mut.follows.holds w).3 (subst IsSome c.in-Some.ensures.value (search rules)) in
    subst (λ (es : List (List ℕ × Places)). (t : List ℕ) → (text_list (c.get_mut.follows.lender w).entries t).ids ≡ (text_list es t).ids) c.self.view_is
    (each_text (λ test old new. new ≡ old) (λ _. refl) c.self.inside.lists.entries _ c.args.text.now w written.0
    (subst (λ (p : Places). w.ids ≡ p.ids) held c.make_room.ensures.ids))

pub returns-in_ok-insert-in-None-clause-same : goal.returns-in_ok-insert-in-None-clause-same
returns-in_ok-insert-in-None-clause-same c =
    let w = c.make_room-in-None.new.self in
    let held : nothing ≡ text_list c.self.inside.lists.entries c.args.text.now = ap (λ o. unwrap_or o nothing) c.in-None.ensures.value in
    let written : Sets bytes_eq c.self.inside.lists.entries c.insert.new.self.entries c.args.text.now w =
    subst (λ (m : HashMap (List ℕ) Places _). Sets bytes_eq m.entries c.insert.new.self.entries c.args.text.now w) c.get_mut.follows.holds-at-none
    (subst (λ (k : List ℕ). Sets bytes_eq c.get_mut.follows.lender-at-none.entries c.insert.new.self.entries k w) c.in_ok-copy-in-None.ensures c.in_ok-insert-in-None.ensures.updates.0) in
    subst (λ (es : List (List ℕ × Places)). (t : List ℕ) → (text_list c.insert.new.self.entries t).ids ≡ (text_list es t).ids) c.self.view_is
    (each_text (λ test old new. new ≡ old) (λ _. refl) c.self.inside.lists.entries _ c.args.text.now w written
    (subst (λ (p : Places). w.ids ≡ p.ids) held (c.make_room-in-None.ensures.ids ∙ c.new-list.ensures)))
