-- Lines that are answered over batches which stay.
use Rattle.std.proofs.Common.{◌≡◌, ℕ, ◌+◌, List, [], ◌∷◌, ◌++◌, Option, IfSome, Some, None, refl, sym, ap, subst, ◌∙◌, append_assoc}
use Rattle.std.specs.List.{AllZip, flat_map}
use Rattle.gd_prim.specs.declared.Batch.{Batch}
use Rattle.gd_prim.specs.History.{prims_of}
use Rattle.gd_runs.specs.Explained.{Numbered}
use Rattle.gd_answering.specs.Answering.{Replies, AnswersAll, AnswersTaken, AnswersFront}
use Rattle.gd_patterns.specs.Patterns.{IsAnswered, AnswersNewest, Answered, AnsweredAll, AnsweredTaken, AnsweredFront}

-- each line of these is answered over these batches
abbrev AreAnswered : List Batch → List Numbered → List (List ℕ) → Type 0
AreAnswered bs given replies = AllZip (λ (line : Numbered) reply. IsAnswered (prims_of bs) line.bytes reply) given replies

-- the replies of lines, and what they print
record Replied (bs : List Batch) (given : List Numbered) (output : List ℕ) : Type 0 where
  pub replies : List (List ℕ)
  pub each : AreAnswered bs given replies
  pub printed : output ≡ flat_map (λ reply. reply ++ 10 ∷ []) replies

-- a line more in front
replied_more : (bs : List Batch) (line : Numbered) (given : List Numbered) (output rest reply : List ℕ) → IsAnswered (prims_of bs) line.bytes reply → output ≡ reply ++ 10 ∷ rest → Replied bs given rest → Replied bs (line ∷ given) output
replied_more bs line given output rest reply first is more = record {
  replies = reply ∷ more.replies;
  each = (first, more.each);
  printed = is ∙ (ap (λ (out : List ℕ). reply ++ 10 ∷ out) more.printed ∙ sym (append_assoc reply (10 ∷ []) (flat_map (λ r. r ++ 10 ∷ []) more.replies)));
}

replied : (bs after : List Batch) (k : ℕ) (given : List Numbered) (output : List ℕ) → Replies AnswersNewest bs k given output after → Replied bs given output
replied bs after k [] output (none, same) = record { replies = []; each = tt; printed = none }
replied bs after k (line ∷ given) output (reply, next, rest, (first, same), is, others) =
    replied_more bs line given output rest reply first is (subst (λ (l : List Batch). Replied l given rest) same (replied next after (k + 1) given rest others))

answered : (bs after : List Batch) (given : List Numbered) (output : List ℕ) → Replies AnswersNewest bs 0 given output after → Answered (λ l. l ≡ bs) given output
answered bs after given output replies = let r = replied bs after 0 given output replies in record { loaded = bs; begun = refl; replies = r.replies; each = r.each; printed = r.printed }

-- ---- what an input came to

module _ (bs after : List Batch) (old new : Option (List ℕ)) where
  pub all_answered : (left : Option (List ℕ)) → IfSome left (AnswersAll AnswersNewest bs after old new) → IfSome left (AnsweredAll (λ l. l ≡ bs) old new)
  all_answered None all = tt
  all_answered (Some input) all = record { output = all.output; answered = answered bs after _ all.output all.replies; gained = all.gained }

  pub taken_answered : (left : Option (List ℕ)) → IfSome left (AnswersTaken AnswersNewest bs after old new) → IfSome left (AnsweredTaken (λ l. l ≡ bs) old new)
  taken_answered None taken = tt
  taken_answered (Some input) taken = record { taken = taken.taken; output = taken.output; answered = answered bs after _ taken.output taken.replies; gained = taken.gained }

  pub front_answered : (left : Option (List ℕ)) → IfSome left (AnswersFront AnswersNewest bs after old new) → IfSome left (AnsweredFront (λ l. l ≡ bs) old new)
  front_answered None front = tt
  front_answered (Some input) front = record { taken = front.taken; output = front.output; rest = front.rest; answered = answered bs after _ (front.output ++ front.rest) front.replies; gained = front.gained }

-- ---- over batches with which it may begin

module _ (loads also : List Batch → Type 0) (more : (l : List Batch) → loads l → also l) where
  answered_more : (given : List Numbered) (output : List ℕ) → Answered loads given output → Answered also given output
  answered_more given output a = record { loaded = a.loaded; begun = more a.loaded a.begun; replies = a.replies; each = a.each; printed = a.printed }

  module _ (old new : Option (List ℕ)) where
    pub all_more : (left : Option (List ℕ)) → IfSome left (AnsweredAll loads old new) → IfSome left (AnsweredAll also old new)
    all_more None all = tt
    all_more (Some input) all = record { output = all.output; answered = answered_more _ all.output all.answered; gained = all.gained }

    pub taken_more : (left : Option (List ℕ)) → IfSome left (AnsweredTaken loads old new) → IfSome left (AnsweredTaken also old new)
    taken_more None taken = tt
    taken_more (Some input) taken = record { taken = taken.taken; output = taken.output; answered = answered_more _ taken.output taken.answered; gained = taken.gained }

    pub front_more : (left : Option (List ℕ)) → IfSome left (AnsweredFront loads old new) → IfSome left (AnsweredFront also old new)
    front_more None front = tt
    front_more (Some input) front = record { taken = front.taken; output = front.output; rest = front.rest; answered = answered_more _ (front.output ++ front.rest) front.answered; gained = front.gained }
