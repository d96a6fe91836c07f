-- The exchange that adds a group keeps the rule of the history.
use Rattle.std.proofs.Common.{◌≡◌, ℕ, ◌+◌, ◌<◌, ◌==◌, Bool, true, false, List, [], ◌∷◌, ◌++◌, length, refl, ap, sym, subst, arith, inl, length-append, append-nil, None, MatchBool, ◌∙◌}
use Rattle.std.proofs.lemmas.Bool.Decides.{nat_tests}
use mathlib.Core.List.{IsPrefix}
use prog.Atomic.{either}
use Rattle.logbook.specs.Pages.{Cell, cell, keeps, no_nib, step, Moves, Goes}
use Rattle.gd_prim.specs.declared.Batch.{Batch}
use Rattle.gd_shared.specs.History.{CountsGroups, Adds, batches_of}
use Rattle.gd_shared.proofs.Fronts.{begins_whole, batches_one}

abbrev Groups : Type 0
Groups = List (List Batch)

abbrev pub shows_none : Groups → List (List Batch)
shows_none groups = []

abbrev pub any_move : List (List Batch) → List (List Batch) → ℕ → Type 0
any_move before after answer = Unit {0}

-- the two words, of which the first counts so many groups
abbrev words : ℕ → List Cell
words n = (n, true) ∷ (0, true) ∷ []

-- the step of an exchange that expects so many groups and adds one, where these were seen and those stand
abbrev Exchange : Groups → List Batch → ℕ → Groups → List Cell → Type 0
Exchange seen group old all cells = Goes CountsGroups shows_none any_move 0 (seen, (no_nib, None)) (λ n. either (n == old) (old + 1) n) (Adds (step 0 old (old + 1) group) (seen, (no_nib, None))) cells all

-- it goes on with these groups more, where the word counts them then
goes_on_with : (all seen more : Groups) (group : List Batch) (old : ℕ) → either (length all == old) (old + 1) (length all) ≡ length (all ++ more)
    → MatchBool (length all == old) (all ++ more ≡ seen ++ group ∷ []) (Unit {0}) → Exchange seen group old all (words (length all))
goes_on_with all seen more group old counted tells = (keeps, more, None, tt, ap words counted, inl (refl, refl), tells)

goes_on : (all seen : Groups) (group : List Batch) (old : ℕ) → length seen ≡ old → IsPrefix seen all → (found : Bool) → (length all == old) ≡ found → Exchange seen group old all (words (length all))
goes_on all seen group old long begins true is =
    let here : length all ≡ old = grind (arith, nat_tests) in
    let whole : seen ≡ all = begins_whole seen all begins (omega (arith, here, long)) in
    goes_on_with all seen (group ∷ []) group old (rw is (omega (arith, here, length-append all (group ∷ [])))) (rw is (ap (λ gs. gs ++ group ∷ []) (sym whole)))
goes_on all seen group old long begins false is = goes_on_with all seen [] group old (rw is (ap length (sym (append-nil all)))) (rw is tt)

-- whatever the history has come to, the exchange adds the group behind all that was seen, or adds nothing
pub exchange_moves : (seen : Groups) (group : List Batch) (old : ℕ) → length seen ≡ old
    → Moves CountsGroups shows_none any_move 0 (seen, (no_nib, None)) (λ n. either (n == old) (old + 1) n) (Adds (step 0 old (old + 1) group) (seen, (no_nib, None)))
exchange_moves seen group old long cells all counted begins away =
    subst (λ (c : List Cell). (0 < length c) × ((cell c 0).1 ≡ true) × Exchange seen group old all c) (sym counted) (omega arith, refl, goes_on all seen group old long begins (length all == old) refl)

-- where the word had the number that was expected, the group was added
pub group_added : (old found : ℕ) (seen after : Groups) (group : List Batch) → found ≡ old → MatchBool (found == old) (after ≡ seen ++ group ∷ []) (Unit {0}) → after ≡ seen ++ group ∷ []
group_added old found seen after group same tells =
    let is : (found == old) ≡ true = grind (arith, nat_tests) in subst (λ b. MatchBool b (after ≡ seen ++ group ∷ []) (Unit {0})) is tells

-- its batches stand behind those of the front
pub front_grown : (front seen after : Groups) (group : List Batch) → seen ≡ front → after ≡ seen ++ group ∷ [] → batches_of after ≡ batches_of front ++ group
front_grown front seen after group same is = ap batches_of is ∙ (batches_one seen group ∙ ap (λ gs. batches_of gs ++ group) same)
