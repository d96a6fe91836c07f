-- The laws of writes, proved.
use Rattle.std.proofs.Common.{◌≡◌, ◌<◌, ℕ, suc, List, [], ◌∷◌, ◌++◌, length, Bool, true, false, ◌&&◌, ◌||◌, ⊎_elim, Option, Some, None, refl, ap, sym, subst, ◌∙◌, arith, append_assoc, append-nil}
use Rattle.std.specs.Prelude.{if◌then◌else◌, is_some, is_none, nat_eq}
use Rattle.std.specs.List.{All}
use Rattle.std.specs.Option.{option_map_or}
use Rattle.std.proofs.lemmas.List.Elements.{All-nil, All-cons, All-weaker}
use Rattle.std.proofs.lemmas.Bool.{and_parts, and_from, false≢true, eqb-true, or_cases}
use Rattle.gd_base.specs.declared.datum.Datum.{Datum}
use Rattle.gd_prim.specs.declared.Primitive.{Primitive}
use Rattle.gd_prim.specs.Live.{refers, passes_at, is_current, is_object}
use Rattle.gd_prim.specs.History.{prims_of}
use Rattle.gd_defs.specs.Property.{Property, is_of, in_language, near_of, answers, expects_of, holds_expected, leads_to_object}
use Rattle.gd_defs.specs.Write.{changes_of}
use Rattle.gd_write_laws.specs.Sound.{Below, IsSound, EndsLink, ArePlaced}
use Rattle.gd_write_laws.specs.Values.{MayHold, IsTyped}
use Rattle.gd_write_laws.specs.Laws.{WritesFollow, HistoriesAreSound, HistoriesHaveFronts, HistoriesGrow, ListsStayTyped, PlainIsTyped, BatchesAreTyped, ObjectsStay, ResultsAreFlat, IsAnswer, AnswersStandAbove, LinksStandAbove, NewAnswersAreNew}
use Rattle.gd_write_laws.proofs.Places.{LiveAt, Rising, at_place, passes_kept}
use Rattle.gd_write_laws.proofs.Grows.{Sound-grown}
use Rattle.gd_write_laws.proofs.Links.{answer_test, answers-rising, still_current}
use Rattle.gd_write_laws.proofs.Follows.{executed, executed-follows}
use Rattle.gd_write_laws.proofs.Spelled.{held_by_all, set_typed_by_plain}
use Rattle.gd_write_laws.proofs.Histories.{history-sound, history-front, history-more, history-some}
use Rattle.gd_write_laws.proofs.Depths.{result-depth}

pub writes_follow : WritesFollow
writes_follow prims requests w moment b j sound some early is =
    executed-follows prims requests moment b early (executed MayHold prims requests w moment b j sound refl some (held_by_all (changes_of w.asks)) is)

pub histories_are_sound : HistoriesAreSound
histories_are_sound batches history = history-sound batches history

pub histories_have_fronts : HistoriesHaveFronts
histories_have_fronts batches n history = history-front batches n history

pub histories_grow : HistoriesGrow
histories_grow batches w moment b j history early is =
    history-more batches b history (writes_follow (prims_of batches) (length batches) w moment b j (history-sound batches history) (history-some batches) early is)

pub lists_stay_typed : ListsStayTyped
lists_stay_typed T prims requests w moment b j sound some spells is =
    let done = executed (IsTyped T) prims requests w moment b j sound refl some spells is in
    Sound-grown (IsTyped T) moment prims (prims ++ b.prims) sound (record { more = b.prims; is = refl; placed = done.placed })

all_placed : (V : Datum → Type 0) (moment : ℕ) (before ps : List Primitive) → ArePlaced V moment before ps → All (λ p. V p.value) ps × All (λ p. p.name ≡ None) ps
all_placed V moment before [] placed = (All-nil (λ p. V p.value), All-nil (λ (p : Primitive). p.name ≡ None))
all_placed V moment before (p ∷ ps) placed =
    let rest = all_placed V moment (before ++ p ∷ []) ps placed.1 in
    (All-cons (λ p. V p.value) p ps placed.0.value rest.0, All-cons (λ (p : Primitive). p.name ≡ None) p ps placed.0.unnamed rest.1)

pub plain_is_typed : PlainIsTyped
plain_is_typed T query a plain is = set_typed_by_plain T query a plain is

pub batches_are_typed : BatchesAreTyped
batches_are_typed T prims requests w moment b j sound some spells is =
    let done = executed (IsTyped T) prims requests w moment b j sound refl some spells is in
    let both = all_placed (IsTyped T) moment prims b.prims done.placed in record { values = both.0; unnamed = both.1 }

-- what names an object is no link
no_link : (r t : Option ℕ) (k : ℕ) (b : Bool) → (b && is_none t) ≡ true → is_some t ≡ true → refers r k ≡ false
no_link r None k b none some = absurd (false≢true some)
no_link r (Some x) k b none some = absurd (false≢true (sym (and-false b) ∙ none))
  where
    and-false : (a : Bool) → (a && false) ≡ false
    and-false true = refl
    and-false false = refl

other_successor : (before : List Primitive) (r : Option ℕ) (k : ℕ) → EndsLink before r → passes_at (λ p. p.live && is_none p.typ) before k ≡ true → refers r k ≡ false
other_successor before None k ends object = refl
other_successor before (Some n) k ends object = by (nat_eq n k) refl
  where
    by : (b : Bool) → nat_eq n k ≡ b → b ≡ false
    by false is = refl
    by true is =
        let same = eqb-true n k is in
        let found = at_place (λ p. p.live && is_none p.typ) before k object in
        let link : is_some found.prim.typ ≡ true = sym (ap (λ (o : Option Primitive). option_map_or (λ (q : Primitive). is_some q.typ) o false) found.at)
        ∙ subst (λ n. passes_at (λ q. is_some q.typ) before n ≡ true) same ends in
        sym is ∙ no_link (Some n) found.prim.typ k found.prim.live found.passes link

object_stays : (V : Datum → Type 0) (moment : ℕ) (before ps : List Primitive) (k : ℕ) → ArePlaced V moment before ps → is_object before k ≡ true → is_object (before ++ ps) k ≡ true
object_stays V moment before [] k placed object = subst (λ xs. is_object xs k ≡ true) (sym (append-nil before)) object
object_stays V moment before (p ∷ ps) k placed object =
    let both = and_parts (passes_at (λ p. p.live && is_none p.typ) before k) (is_current before k) object in
    let next : is_object (before ++ p ∷ []) k ≡ true = and_from (passes_at (λ p. p.live && is_none p.typ) (before ++ p ∷ []) k) (is_current (before ++ p ∷ []) k)
    (passes_kept (λ p. p.live && is_none p.typ) before (p ∷ []) k both.0) (still_current before p k both.1 (other_successor before p.previous k placed.0.ends_link both.0)) in
    subst (λ xs. is_object xs k ≡ true) (append_assoc before (p ∷ []) ps) (object_stays V moment (before ++ p ∷ []) ps k placed.1 next)

pub objects_stay : ObjectsStay
objects_stay prims requests w moment b j sound some is k object =
    object_stays MayHold moment prims b.prims k (executed MayHold prims requests w moment b j sound refl some (held_by_all (changes_of w.asks)) is).placed object

pub results_are_flat : ResultsAreFlat
results_are_flat prims requests query w moment b j spells is = result-depth prims requests query w moment b j spells is

-- ---- answers

-- a reference to an object is above it
names_above : (k o : ℕ) (r : Option ℕ) → Below k r → refers r o ≡ true → o < k
names_above k o None below is = absurd (false≢true is)
names_above k o (Some x) below is = let same = eqb-true x o is in omega arith

answer-is : (prims : List Primitive) (p : Property) (o k : ℕ) → IsSound MayHold prims → LiveAt (answer_test prims p o) prims k → IsAnswer prims p o k
unfolding answer_test
answer-is prims p o k sound found = by p.reversed refl found.passes
  where
    by : (b : Bool) → p.reversed ≡ b → (if b then is_of p found.prim && refers found.prim.right o && leads_to_object prims found.prim.left
        else is_of p found.prim && refers found.prim.left o && holds_expected prims (expects_of p.expected) found.prim) ≡ true → IsAnswer prims p o k
    by true turned passes =
        let both = and_parts (is_of p found.prim && refers found.prim.right o) (leads_to_object prims found.prim.left) passes in
        let link = and_parts (is_of p found.prim) (refers found.prim.right o) both.0 in
        let near = link.1 in
        let typ = (and_parts (refers found.prim.typ p.stored) (in_language p found.prim) link.0).0 in
        record {
          link = ap (λ (q : Option Primitive). option_map_or (λ (q : Primitive). refers q.typ p.stored && refers (near_of p q) o) q false) found.at
              ∙ ap (λ b. refers found.prim.typ p.stored && refers (if b then found.prim.right else found.prim.left) o) turned ∙ and_from _ _ typ near;
          above = names_above k o found.prim.right (sound.back k found.prim found.at).right near;
        }
    by false turned passes =
        let both = and_parts (is_of p found.prim && refers found.prim.left o) (holds_expected prims (expects_of p.expected) found.prim) passes in
        let link = and_parts (is_of p found.prim) (refers found.prim.left o) both.0 in
        let near = link.1 in
        let typ = (and_parts (refers found.prim.typ p.stored) (in_language p found.prim) link.0).0 in
        record {
          link = ap (λ (q : Option Primitive). option_map_or (λ (q : Primitive). refers q.typ p.stored && refers (near_of p q) o) q false) found.at
              ∙ ap (λ b. refers found.prim.typ p.stored && refers (if b then found.prim.right else found.prim.left) o) turned ∙ and_from _ _ typ near;
          above = names_above k o found.prim.left (sound.back k found.prim found.at).left near;
        }

all_rising : (P Q : ℕ → Type 0) (low : ℕ) (ks : List ℕ) → ((k : ℕ) → P k → Q k) → Rising P low ks → All Q ks
all_rising P Q low [] gives up = All-nil Q
all_rising P Q low (k ∷ ks) gives up = All-cons Q k ks (gives k up.1.0) (all_rising P Q (suc k) ks gives up.1.1)

pub answers_stand_above : AnswersStandAbove
answers_stand_above prims p o sound =
    all_rising (LiveAt (answer_test prims p o) prims) (IsAnswer prims p o) 0 (answers prims p o) (λ k found. answer-is prims p o k sound found) (answers-rising prims p o)

pub links_stand_above : LinksStandAbove
links_stand_above prims k q o sound at is =
    let back = sound.back k q at in
    ⊎_elim (λ first. ⊎_elim (λ second. ⊎_elim (λ left. names_above k o q.left back.left left) (λ right. names_above k o q.right back.right right) (or_cases (refers q.left o) (refers q.right o) second))
    (λ typ. names_above k o q.typ back.typ typ) (or_cases (refers q.left o || refers q.right o) (refers q.typ o) first))
    (λ scope. names_above k o q.scope back.scope scope) (or_cases (refers q.left o || refers q.right o || refers q.typ o) (refers q.scope o) is)

pub new_answers_are_new : NewAnswersAreNew
new_answers_are_new prims more p o sound new =
    All-weaker (IsAnswer (prims ++ more) p o) (λ k. length prims < k) (λ k answer. let above = answer.above in omega arith) (answers (prims ++ more) p o) (answers_stand_above (prims ++ more) p o sound)
