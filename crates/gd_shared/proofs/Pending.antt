-- What a publisher keeps as batches are appended and shown.
use Rattle.std.proofs.Common.{◌≡◌, ℕ, ◌+◌, List, [], ◌∷◌, ◌++◌, length, fold, drop, refl, sym, ap, ◌∙◌, subst, arith, append_assoc, append-nil, length-append, Some}
use Rattle.core.specs.declared.option.Option.{Option}
use mathlib.Core.List.{IsPrefix}
use Rattle.logbook.specs.Pages.{Named}
use Rattle.crossbeam_utils.specs.Register.{TurnsAt}
use Rattle.gd_prim.specs.declared.Batch.{Batch}
use Rattle.gd_shared.specs.History.{FrontValue, counter_of}
use Rattle.gd_shared.specs.declared.published.Published.{Published}
use Rattle.gd_shared.specs.declared.published.Op.{Op}
use Rattle.gd_shared.specs.declared.published.Op.TheVariants.{Add, Close}
use Rattle.gd_shared.specs.Published.{applied, added, IsTable, Takes, IsPublisher}
use Rattle.gd_shared.proofs.Fronts.{behind_front, begins_same, begins_longer}
use Rattle.gd_shared.proofs.Table.{may_take}

pub added_one : (ops : List Op) (b : Batch) → added (ops ++ Add b ∷ []) ≡ added ops ++ b ∷ []
added_one [] b = refl
added_one (Add c ∷ ops) b = ap (λ bs. c ∷ bs) (added_one ops b)
added_one (Close f ∷ ops) b = added_one ops b

pub added_none : (ops : List Op) (f : FrontValue) → added (ops ++ Close f ∷ []) ≡ added ops
added_none [] f = refl
added_none (Add c ∷ ops) f = ap (λ bs. c ∷ bs) (added_none ops f)
added_none (Close g ∷ ops) f = added_none ops f

-- a copy that has taken operations, the last of which closes it with a front
closed : (copy : Published) (ops : List Op) (f : FrontValue) → fold applied copy (ops ++ Close f ∷ []) ≡ record { store = copy.store ++ added ops; front = f }
closed copy [] f = ap (λ s. record { store = s; front = f }) (sym (append-nil copy.store))
closed copy (Add b ∷ ops) f = closed (applied copy (Add b)) ops f ∙ ap (λ s. record { store = s; front = f }) (append_assoc copy.store (b ∷ []) (added ops))
closed copy (Close g ∷ ops) f = closed (applied copy (Close g)) ops f

-- the copy that is shown next
pub shown_next : (shown next : Published) (ops all : List Op) (f : FrontValue) → f.list ≡ shown.store ++ added ops → all ≡ ops ++ Close f ∷ [] → next ≡ fold applied shown all → next ≡ record { store = f.list; front = f }
shown_next shown next ops all f list is now = now ∙ (ap (fold applied shown) is ∙ (closed shown ops f ∙ ap (λ s. record { store = s; front = f }) (sym list)))

-- it may be shown
pub may_show : (shown same next : Published) (ops all : List Op) (f : FrontValue) (place : ℕ) (known : Option FrontValue) → shown.front.list ≡ shown.store → f.history ≡ shown.front.history → f.list ≡ shown.store ++ added ops
    → same ≡ shown → all ≡ ops ++ Close f ∷ [] → next ≡ fold applied same all → TurnsAt IsTable place known same next (λ known before after knows. Takes known after knows)
may_show shown same next ops all f place known of_store history list is closes now =
    let new : next ≡ record { store = f.list; front = f } = shown_next shown next ops all f list closes (now ∙ ap (λ copy. fold applied copy all) is) in
    let front : next.front ≡ f = ap (λ copy. copy.front) new in
    let more : IsPrefix shown.front.list f.list = (added ops, ap (λ l. l ++ added ops) of_store ∙ sym list) in
    may_take place known same next (ap (λ g. g.history) front ∙ (history ∙ ap (λ copy. copy.front.history) (sym is)))
    (subst (λ g. IsPrefix same.front.list g.list) (sym front) (subst (λ copy. IsPrefix copy.front.list f.list) (sym is) more)) (λ e. ap (λ g. g.list) front ∙ ap (λ copy. copy.store) (sym new))

-- all of a publisher's batches: those that are shown, and those behind them
abbrev pub all_of : Published → List Op → List Batch
all_of shown ops = shown.store ++ added ops

module _ (shown : Published) (known : Option FrontValue) (ops : List Op) (counter : Named) (f : FrontValue) (total : ℕ) (keeps : IsPublisher shown known ops counter f total) where
  -- how many batches are not in the history yet
  pub unrecorded_length : length (drop (length f.list) (all_of shown ops)) + length f.list ≡ total
  unrecorded_length =
      let all = ap length (behind_front f.list (all_of shown ops) keeps.pending) in
      omega (arith, all, length-append f.list (drop (length f.list) (all_of shown ops)), keeps.number)

  pub all_recorded : (g : FrontValue) → g.list ≡ f.list ++ drop (length f.list) (all_of shown ops) → g.list ≡ all_of shown ops
  all_recorded g is = is ∙ behind_front f.list (all_of shown ops) keeps.pending

  -- the history has all batches
  pub recorded : (g : FrontValue) → g.history ≡ f.history → g.list ≡ all_of shown ops → IsPublisher shown known ops counter g total
  recorded g history all = record {
    of_store = keeps.of_store;
    one_history = keeps.one_history ∙ sym history;
    knows = keeps.knows;
    counts = keeps.counts ∙ ap counter_of (sym history);
    recorded = (added ops, sym all);
    pending = begins_same g.list (all_of shown ops) all;
    number = keeps.number;
  }

  -- one batch more is pending
  pub appended : (more : List Op) (b : Batch) → more ≡ ops ++ Add b ∷ [] → IsPublisher shown known more counter f (total + 1)
  appended more b is =
      let one : added more ≡ added ops ++ b ∷ [] = ap added is ∙ added_one ops b in
      let all : all_of shown more ≡ all_of shown ops ++ b ∷ [] = ap (λ l. shown.store ++ l) one ∙ sym (append_assoc shown.store (added ops) (b ∷ [])) in
      record {
        of_store = keeps.of_store;
        one_history = keeps.one_history;
        knows = keeps.knows;
        counts = keeps.counts;
        recorded = keeps.recorded;
        pending = subst (IsPrefix f.list) (sym all) (begins_longer f.list (all_of shown ops) (b ∷ []) keeps.pending);
        number = let long = ap length all in omega (arith, keeps.number, long, length-append (all_of shown ops) (b ∷ []));
      }

  -- nothing was shown, and what is pending is the same
  pub not_shown : (same : Published) (knows : Option FrontValue) (left : List Op) → same ≡ shown → knows ≡ known → added left ≡ added ops → IsPublisher same knows left counter f total
  not_shown same knows left is knows_is left_is =
      let all : all_of same left ≡ all_of shown ops = ap (λ copy. copy.store ++ added left) is ∙ ap (λ l. shown.store ++ l) left_is in
      record {
        of_store = ap (λ copy. copy.front.list) is ∙ (keeps.of_store ∙ ap (λ copy. copy.store) (sym is));
        one_history = ap (λ copy. copy.front.history) is ∙ keeps.one_history;
        knows = knows_is ∙ (keeps.knows ∙ ap (λ copy. Some copy.front) (sym is));
        counts = keeps.counts;
        recorded = subst (λ copy. IsPrefix copy.store f.list) (sym is) keeps.recorded;
        pending = subst (IsPrefix f.list) (sym all) keeps.pending;
        number = keeps.number ∙ ap length (sym all);
      }

  -- all is shown, and the history so far is the front of it
  pub all_shown : (next : Published) (knows : Option FrontValue) (left : List Op) → f.list ≡ all_of shown ops → next ≡ record { store = f.list; front = f } → knows ≡ Some f → left ≡ [] → IsPublisher next knows left counter f total
  all_shown next knows left all is knows_is none =
      let front : next.front ≡ f = ap (λ copy. copy.front) is in
      let store : next.store ≡ f.list = ap (λ copy. copy.store) is in
      let end : all_of next left ≡ next.store = ap (λ l. next.store ++ added l) none ∙ append-nil next.store in
      record {
        of_store = ap (λ g. g.list) front ∙ sym store;
        one_history = ap (λ g. g.history) front;
        knows = knows_is ∙ ap (λ (g : FrontValue). Some g) (sym front);
        counts = keeps.counts;
        recorded = begins_same next.store f.list store;
        pending = begins_same f.list (all_of next left) (sym store ∙ sym end);
        number = keeps.number ∙ ap length (sym all ∙ (sym store ∙ sym end));
      }

-- a publisher of two copies that were just made
pub new_publisher : (shown : Published) (known : Option FrontValue) (ops : List Op) (counter : Named) (f : FrontValue) (total : ℕ) (store : List Batch) → shown ≡ record { store = store; front = f } → f.list ≡ store → ops ≡ []
    → known ≡ Some shown.front → counter ≡ counter_of f.history → total ≡ length store → IsPublisher shown known ops counter f total
new_publisher shown known ops counter f total store is all none knows counts count =
    let front : shown.front ≡ f = ap (λ copy. copy.front) is in
    let list : shown.store ≡ f.list = ap (λ copy. copy.store) is ∙ sym all in
    let end : all_of shown ops ≡ shown.store = ap (λ l. shown.store ++ added l) none ∙ append-nil shown.store in
    record {
      of_store = ap (λ g. g.list) front ∙ sym list;
      one_history = ap (λ g. g.history) front;
      knows = knows;
      counts = counts;
      recorded = begins_same shown.store f.list list;
      pending = begins_same f.list (all_of shown ops) (sym list ∙ sym end);
      number = count ∙ ap length (sym all ∙ (sym list ∙ sym end));
    }
