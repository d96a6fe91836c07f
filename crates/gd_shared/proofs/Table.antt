-- Each step at the table keeps its rule.
use Rattle.std.proofs.Common.{◌≡◌, ◌≢◌, ℕ, List, [], ◌∷◌, ◌++◌, fold, set, refl, sym, ap, ◌∙◌, subst, ⊎_elim, None, Some}
use Rattle.core.specs.declared.option.Option.{Option}
use mathlib.Core.Option.{some}
use mathlib.Core.List.{IsPrefix}
use lib.ListN.{get_elem?}
use Rattle.crossbeam_utils.specs.Register.{Admits, TurnsAt, Forks, Merges}
use Rattle.atomic_table.proofs.Lists.{at_set, at_snoc}
use Rattle.gd_shared.specs.History.{FrontValue}
use Rattle.gd_shared.specs.declared.published.Published.{Published}
use Rattle.gd_shared.specs.declared.published.Op.{Op}
use Rattle.gd_shared.specs.Published.{GoesOn, IsTable, Takes, IsSeated, applied}
use Rattle.gd_shared.proofs.Fronts.{begins_itself, begins_then}

abbrev Known : Type 0
Known = Option FrontValue

-- a front goes on from what a place knows
abbrev Reaches : FrontValue → Known → Type 0
Reaches front known = (f : FrontValue) → known ≡ Some f → GoesOn front f

reaches_none : (front : FrontValue) → Reaches front None
reaches_none front f is = absurd (cc is)

reaches_itself : (front : FrontValue) → Reaches front (Some front)
reaches_itself front f is = let same : front ≡ f = cc is in subst (GoesOn front) same (refl, begins_itself front.list)

reaches_place : (copy : Published) (views : List Known) (place : ℕ) (known : Known) → IsTable copy views → get_elem? views place ≡ some known → Reaches copy.front known
reaches_place copy views place known table at f is = table.1 place f (subst (λ k. get_elem? views place ≡ some k) is at)

with_place : (copy : Published) (views : List Known) (place : ℕ) (known : Known) → IsTable copy views → Reaches copy.front known → IsTable copy (set views place known)
with_place copy views place known table reaches = (
  table.0,
  λ at f is. ⊎_elim (λ (here : (at ≡ place) × (known ≡ Some f)). reaches f here.1) (λ (there : (at ≢ place) × (get_elem? views at ≡ some (Some f))). table.1 at f there.1) (at_set views place at known (Some f) is),
)

place_more : (copy : Published) (views : List Known) (known : Known) → IsTable copy views → Reaches copy.front known → IsTable copy (views ++ known ∷ [])
place_more copy views known table reaches =
    (table.0, λ at f is. ⊎_elim (λ (there : get_elem? views at ≡ some (Some f)). table.1 at f there) (λ (here : known ≡ Some f). reaches f here) (at_snoc views known (Some f) at is))

-- a new place knows nothing
pub may_join : Admits IsTable None
may_join copy views table = place_more copy views None table (reaches_none copy.front)

-- a place takes the published copy, which may have gone on
pub may_take : (place : ℕ) (known : Known) (before after : Published) → after.front.history ≡ before.front.history → IsPrefix before.front.list after.front.list → (before.front.list ≡ before.store → after.front.list ≡ after.store)
    → TurnsAt IsTable place known before after (λ known before after knows. Takes known after knows)
may_take place known before after history more of_store views table at =
    let grown : IsTable after views = (of_store table.0, λ j f is. let goes = table.1 j f is in (goes.0 ∙ sym history, begins_then f.list before.front.list after.front.list goes.1 more)) in
    (Some after.front, with_place after views place (Some after.front) grown (reaches_itself after.front), (grown.0, reaches_place after views place known grown at, refl))

-- the publisher may tell what it knows
pub may_tell : (place : ℕ) (known : Known) → Forks IsTable place known known known
may_tell place known copy views table at = let reaches = reaches_place copy views place known table at in place_more copy (set views place known) known (with_place copy views place known table reaches) reaches

-- a new place may learn what it is told
pub may_learn : (place : ℕ) (known : Known) (teller : ℕ) (told : Known) → Merges IsTable place known teller told told None
may_learn place known teller told copy views table at apart there =
    let reaches : Reaches copy.front told = ⊎_elim (λ (here : (teller ≡ place) × (told ≡ told)). absurd (apart here.0))
    (λ (away : (teller ≢ place) × (get_elem? views teller ≡ some told)). reaches_place copy views teller told table away.1) (at_set views place teller told told there) in
    with_place copy (set views place told) teller None (with_place copy views place told table reaches) (reaches_none copy.front)

-- what is shown may be shown again
pub may_repeat : (place : ℕ) (known : Known) (before after : Published) (ops : List Op) → ops ≡ [] → after ≡ fold applied before ops → TurnsAt IsTable place known before after (λ known before after knows. Takes known after knows)
may_repeat place known before after ops none is =
    let same : before ≡ after = sym (is ∙ ap (fold applied before) none) in
    subst (λ copy. TurnsAt IsTable place known before copy (λ known before after knows. Takes known after knows)) same (may_take place known before before refl (begins_itself before.front.list) (λ of_store. of_store))

-- a seat that was turned away keeps what it kept
pub still_seated : (before after : Known) (entered told : FrontValue) → after ≡ before → IsSeated before entered told → IsSeated after entered told
still_seated before after entered told same seated = subst (λ known. IsSeated known entered told) (sym same) seated

-- also where its place has taken the published copy
pub taken_seated : (before after : Known) (copy : Published) (entered told : FrontValue) → Takes before copy after → IsSeated before entered told → IsSeated after entered told
taken_seated before after copy entered told takes seated =
    let goes = takes.1 seated.last seated.knows in
    record {
      last = copy.front;
      knows = takes.2;
      goes_on = (seated.goes_on.0 ∙ goes.0, begins_then entered.list seated.last.list copy.front.list seated.goes_on.1 goes.1);
      one_history = seated.one_history;
    }
