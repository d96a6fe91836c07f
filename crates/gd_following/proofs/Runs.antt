-- Lines that a node over a disk has answered, as the definitions have them.
use Rattle.std.proofs.Common.{◌≡◌, ◌∙◌, inl, inr, refl, ℕ, ◌+◌, ◌≤◌, List, [], ◌∷◌, ◌++◌, Bool, true, false, if◌then◌else◌, Option, None, Some, IfSome, sym, ap, subst, arith, append_assoc}
use Rattle.gd_base.specs.Counts.{Rose, RoseBy}
use Rattle.gd_prim.specs.declared.Batch.{Batch}
use Rattle.gd_bytes.specs.File.{StandsFor, MayStandFor}
use Rattle.gd_runs.specs.Explained.{Numbered, tells_fault, faults_told}
use Rattle.gd_answering.specs.Answering.{Replies, AnswersAll, AnswersTaken, AnswersFront, Reaches}
use Rattle.gd_log.specs.Stored.{groups_in_doubt}
use Rattle.gd_replay_laws.specs.Faults.{IsCounted, faults_from}
use Rattle.gd_replay_laws.proofs.Plain.{Plain}
use Rattle.gd_replay_laws.proofs.Faults.{faults_line, rose_then}
use Rattle.gd_follow_laws.specs.World.{Node, certain}
use Rattle.gd_follow.specs.Node.{NodeValue, node_of, HoldsNode, StandsForNode}
use Rattle.gd_follow.proofs.Moments.{holds_means}
use Rattle.gd_following.specs.Follows.{Follows}
use Rattle.gd_following.specs.Given.{GoesOn, LineReply}
use Rattle.gd_following.specs.Runs.{Leaves, HasBatches, Accounts, FollowsAll, FollowsTaken, FollowsFront}
use Rattle.gd_following.proofs.Answered.{stays}
use Rattle.gd_following.proofs.Plain.{plain_reply}
use Rattle.gd_following.proofs.Grown.{IsLonger, follows_longer}

-- ---- counts

rose_told : (tells : Bool) (a b : ℕ) → (tells ≡ true → Rose a b) → a ≤ b → RoseBy a b (if tells then 1 else 0)
rose_told true a b cause later = cause refl
rose_told false a b cause later = omega (arith, later)

rose_more : (k a b c : ℕ) (reply rest output : List ℕ) → Plain reply → output ≡ reply ++ 10 ∷ rest → IsCounted k reply a b → a ≤ b → RoseBy b c (faults_from (k + 1) rest) → RoseBy a c (faults_from k output)
rose_more k a b c reply rest output plain prints counted later rose =
    let first = rose_told (tells_fault k reply) a b counted later in
    subst (RoseBy a c) (sym (ap (faults_from k) prints ∙ faults_line k reply rest plain)) (rose_then a b c (if tells_fault k reply then 1 else 0) (faults_from (k + 1) rest) first rose)

-- ---- what a stop leaves

-- what stands for a node stands for what it has, and for further batches
node_batches : (node : Node) (bs : List Batch) (file : List ℕ) → IsLonger bs node.list → StandsForNode node file → (more : List Batch) × StandsFor file (bs ++ more)
node_batches node bs file (more, is) stands = by node.doubt stands
  where
    grown : (g : List Batch) → StandsFor file (node.list ++ g) → (more : List Batch) × StandsFor file (bs ++ more)
    grown g s = (more ++ g, subst (λ l. StandsFor file l) (ap (λ l. l ++ g) is ∙ append_assoc bs more g) s)

    by : (d : Option (List Batch)) → MayStandFor node.list (groups_in_doubt d) file → (more : List Batch) × StandsFor file (bs ++ more)
    by None s = (more, subst (λ l. StandsFor file l) is s)
    by (Some g) (inl s) = (more, subst (λ l. StandsFor file l) is s)
    by (Some g) (inr s) = grown g s

module _ {D : Type 0} (content : D → Option (List ℕ)) (images : D → List ℕ → Type 0) (faults : D → ℕ) where
  on_then : (a b c : NodeValue D) → GoesOn content images faults a b → GoesOn content images faults b c → GoesOn content images faults a c
  on_then a b c first second = record {
    later = (let one = first.later in let two = second.later in omega (arith, one, two));
    told = second.told ∙ first.told;
    holds = λ h. second.holds (first.holds h);
  }

  -- what the lines come to: the definitions' lines, a disk that goes on, and a count that rose
  record Ran (before : NodeValue D) (k : ℕ) (lines : List Numbered) (output : List ℕ) (after : NodeValue D) : Type 0 where
    pub follows : Follows (node_of before) k lines output (node_of after)
    pub on : GoesOn content images faults before after
    pub rose : RoseBy (faults before.log.disk) (faults after.log.disk) (faults_from k output)

  ran : (before : NodeValue D) (k : ℕ) (lines : List Numbered) (output : List ℕ) (after : NodeValue D) → Replies (LineReply content images faults) before k lines output after → Ran before k lines output after
  ran before k [] output after (none, same) = record {
    follows = (none, ap node_of same);
    on = subst (λ (n : NodeValue D). GoesOn content images faults before n) (sym same) (stays content images faults before);
    rose = subst (λ (out : List ℕ). RoseBy (faults before.log.disk) (faults after.log.disk) (faults_from k out)) (sym none)
        (subst (λ (n : NodeValue D). RoseBy (faults before.log.disk) (faults n.log.disk) 0) (sym same) (omega arith));
  }
  ran before k (l ∷ ls) output after (reply, next, rest, line, prints, others) =
      let behind = ran next (k + 1) ls rest after others in
      record {
        follows = (reply, node_of next, rest, line.replies, prints, behind.follows);
        on = on_then before next after line.on behind.on;
        rose = rose_more k (faults before.log.disk) (faults next.log.disk) (faults after.log.disk) reply rest output (plain_reply (node_of before) k l.bytes reply (node_of next) line.replies) prints line.counted line.on.later behind.rose;
      }

  -- ---- what an input came to

  module _ (before after : NodeValue D) (none : before.doubt ≡ None) where
    begun : node_of before ≡ certain before.list
    begun = ap (λ (d : Option (List Batch)). record { list = before.list; doubt = d }) none

    accounts : (given : List Numbered) (output : List ℕ) → Replies (LineReply content images faults) before 0 given output after
        → Accounts (λ loaded. loaded ≡ before.list) (λ last. HoldsNode content images before → Leaves (images after.log.disk) last) (RoseBy (faults before.log.disk) (faults after.log.disk)) given output
    accounts given output replies =
        let r = ran before 0 given output after replies in
        record {
          loaded = before.list;
          node = node_of after;
          begun = refl;
          follows = subst (λ (n : Node). Follows n 0 given output (node_of after)) begun r.follows;
          left = λ holds file now. holds_means (content after.log.disk) (images after.log.disk) after.log.gate after.log.doubt after.list after.doubt (r.on.holds holds) file now;
          counted = r.rose;
        }

    module _ (old new : Option (List ℕ)) where
      pub all_follow : (left : Option (List ℕ)) → IfSome left (AnswersAll (LineReply content images faults) before after old new)
          → IfSome left (FollowsAll (λ loaded. loaded ≡ before.list) (λ last. HoldsNode content images before → Leaves (images after.log.disk) last) (RoseBy (faults before.log.disk) (faults after.log.disk)) old new)
      all_follow None all = tt
      all_follow (Some input) all = record { output = all.output; accounts = accounts _ all.output all.replies; gained = all.gained }

      pub taken_follow : (left : Option (List ℕ)) → IfSome left (AnswersTaken (LineReply content images faults) before after old new)
          → IfSome left (FollowsTaken (λ loaded. loaded ≡ before.list) (λ last. HoldsNode content images before → Leaves (images after.log.disk) last) (RoseBy (faults before.log.disk) (faults after.log.disk)) old new)
      taken_follow None taken = tt
      taken_follow (Some input) taken = record { taken = taken.taken; output = taken.output; accounts = accounts _ taken.output taken.replies; gained = taken.gained }

      pub front_follow : (left : Option (List ℕ)) → IfSome left (AnswersFront (LineReply content images faults) before after old new)
          → IfSome left (FollowsFront (λ loaded. loaded ≡ before.list) (λ last. HoldsNode content images before → Leaves (images after.log.disk) last) (RoseBy (faults before.log.disk) (faults after.log.disk)) old new)
      front_follow None front = tt
      front_follow (Some input) front = record { taken = front.taken; output = front.output; rest = front.rest; accounts = accounts _ (front.output ++ front.rest) front.replies; gained = front.gained }

  -- whatever the lines were
  pub reached_on : (before after : NodeValue D) → Reaches (LineReply content images faults) before after → GoesOn content images faults before after
  reached_on before after r = (ran before 0 r.lines r.output after r.replies).on

  pub reached_batches : (before after : NodeValue D) → Reaches (LineReply content images faults) before after → HoldsNode content images before → HasBatches (images after.log.disk) before.list
  reached_batches before after r holds file now =
      let all = ran before 0 r.lines r.output after r.replies in
      node_batches (node_of after) before.list file (follows_longer (node_of before) 0 r.lines r.output (node_of after) all.follows)
      (holds_means (content after.log.disk) (images after.log.disk) after.log.gate after.log.doubt after.list after.doubt (all.on.holds holds) file now)

-- ---- over lists with which a run may begin

module _ (loads also : List Batch → Type 0) (leaves left : Node → Type 0) (rises rose : ℕ → Type 0) (one : (l : List Batch) → loads l → also l) (two : (n : Node) → leaves n → left n) (three : (n : ℕ) → rises n → rose n) where
  accounts_more : (given : List Numbered) (output : List ℕ) → Accounts loads leaves rises given output → Accounts also left rose given output
  accounts_more given output a = record { loaded = a.loaded; node = a.node; begun = one a.loaded a.begun; follows = a.follows; left = two a.node a.left; counted = three (faults_told output) a.counted }

  module _ (old new : Option (List ℕ)) where
    pub all_more : (input : Option (List ℕ)) → IfSome input (FollowsAll loads leaves rises old new) → IfSome input (FollowsAll also left rose old new)
    all_more None all = tt
    all_more (Some input) all = record { output = all.output; accounts = accounts_more _ all.output all.accounts; gained = all.gained }

    pub taken_more : (input : Option (List ℕ)) → IfSome input (FollowsTaken loads leaves rises old new) → IfSome input (FollowsTaken also left rose old new)
    taken_more None taken = tt
    taken_more (Some input) taken = record { taken = taken.taken; output = taken.output; accounts = accounts_more _ taken.output taken.accounts; gained = taken.gained }

    pub front_more : (input : Option (List ℕ)) → IfSome input (FollowsFront loads leaves rises old new) → IfSome input (FollowsFront also left rose old new)
    front_more None front = tt
    front_more (Some input) front = record { taken = front.taken; output = front.output; rest = front.rest; accounts = accounts_more _ (front.output ++ front.rest) front.accounts; gained = front.gained }
