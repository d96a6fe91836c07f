-- What is told of write lines, one after another.
use Rattle.std.proofs.Common.{◌≡◌, refl, ℕ, ◌+◌, ◌-◌, ◌≤◌, ◌==◌, inl, inr, ⊎_elim, Bool, true, false, List, [], ◌∷◌, ◌++◌, length, map, set, Option, Some, None, slice_get, if◌then◌else◌, sym, subst, ap, ◌∙◌, arith, append_assoc}
use Rattle.std.proofs.lemmas.List.{length-set, length-map, map-set}
use Rattle.std.specs.List.{AllByRecursion}
use Rattle.gd_runs.specs.Side.{Kept, Told, told_of}
use Rattle.gd_runs.proofs.Rounds.{get_within}
use Rattle.gd_core_laws.specs.Bounds.{kept_of}
use Rattle.gd_core_laws.specs.Round.{kept_reply}
use Rattle.gd_core_laws.proofs.Reading.{same_number}
use Rattle.gd_core_laws.proofs.Lock.{same_numbers}
use Rattle.gd_writer.specs.declared.outcome.WriteOf.{WriteOf}
use Rattle.gd_writer.specs.Outcomes.{told_view}
use Rattle.gd_reply.specs.declared.reply.Reply.{Reply}
use Rattle.gd_round_lines.specs.declared.work.LineNumber.{LineNumber}
use Rattle.gd_reply.specs.Replies.{reply_text}
use Rattle.gd_round_lines.specs.declared.work.WriteLine.{WriteLine}
use Rattle.gd_caller.specs.Told.{line_number, number_or, reply_or, IsNumber, AreNumbers}
use Rattle.gd_round_lines.specs.Works.{no_number, IsWriteWithin}
use Rattle.gd_caller.specs.Joined.{IsOfWrites}
use Rattle.gd_caller.specs.Tells.{TellsOne, TellsAll, IsOutcomeWithin}
use Rattle.gd_round_lines.proofs.Read.{all_at}
use Rattle.gd_round_lines.proofs.Sets.{set_cases, there}

kept_here : (t : Told) (outs : List Told) (k : ℕ) → t.line ≡ k → kept_of (t ∷ outs) k ≡ Some t.kept
kept_here t outs k is = ap (λ (b : Bool). if b then Some t.kept else kept_of outs k) (ap (λ (n : ℕ). n == k) is ∙ same_number k)

kept_other : (t : Told) (outs : List Told) (k : ℕ) → (t.line ≡ k → ⊥) → kept_of (t ∷ outs) k ≡ kept_of outs k
kept_other t outs k other = by (t.line == k) refl
  where
    by : (b : Bool) → (t.line == k) ≡ b → kept_of (t ∷ outs) k ≡ kept_of outs k
    by true is = absurd (other (same_numbers t.line k is))
    by false is = ap (λ (b : Bool). if b then Some t.kept else kept_of outs k) is

-- nothing was told yet
pub tells_none : (first : ℕ) (numbers : List LineNumber) (texts : List (List ℕ)) → TellsAll first [] numbers numbers texts texts
tells_none first numbers texts = record {
  many = refl;
  count = refl;
  number = λ j n at. (n, at, refl);
  reply = λ j x at. (x, at, refl);
}

-- one line more, which stands in front of those
pub tells_more : (first : ℕ) (was : Told) (done : List Told) (a b c : List LineNumber) (x y z : List (List ℕ)) → TellsAll first done a b x y → TellsOne first was b c y z → TellsAll first (was ∷ done) a c x z
tells_more first was done a b c x y z all one =
    let low = one.low in
    let many : length c ≡ length a = ap length one.number ∙ length-set b (was.line - first) (line_number was.kept) ∙ all.many in
    let count : length z ≡ length x = ap length one.reply ∙ length-set y (was.line - first) (kept_reply was.line was.kept) ∙ all.count in
    record {
      many = many;
      count = count;
      number = λ j n at. ⊎_elim
          (λ (here, is).
          let within = get_within c j n at in
          let (m, at_m) = there a j (omega (arith, within, many)) in
          (m, at_m, is ∙ sym (ap (number_or m) (kept_here was done (first + j) (omega (arith, here, low))))))
          (λ (other, old).
          let (m, at_m, is) = all.number j n old in
          (m, at_m, is ∙ sym (ap (number_or m) (kept_other was done (first + j) (λ same. other (omega (arith, same)))))))
          (set_cases b (was.line - first) j (line_number was.kept) n (subst (λ (l : List LineNumber). slice_get l j ≡ Some n) one.number at));
      reply = λ j n at. ⊎_elim
          (λ (here, is).
          let within = get_within z j n at in
          let (m, at_m) = there x j (omega (arith, within, count)) in
          let line : was.line ≡ first + j = omega (arith, here, low) in
          (m, at_m, is ∙ ap (λ (k : ℕ). kept_reply k was.kept) line ∙ sym (ap (reply_or (first + j) m) (kept_here was done (first + j) line))))
          (λ (other, old).
          let (m, at_m, is) = all.reply j n old in
          (m, at_m, is ∙ sym (ap (reply_or (first + j) m) (kept_other was done (first + j) (λ same. other (omega (arith, same)))))))
          (set_cases y (was.line - first) j (kept_reply was.line was.kept) n (subst (λ (l : List (List ℕ)). slice_get l j ≡ Some n) one.reply at));
    }

-- what is left and what was told, where the last of what is left is told next
pub left_and_told : (all left rest done : List WriteOf) (w : WriteOf) → all ≡ left ++ done → left ≡ rest ++ w ∷ [] → all ≡ rest ++ w ∷ done
left_and_told all left rest done w is last = is ∙ ap (λ (l : List WriteOf). l ++ done) last ∙ append_assoc rest (w ∷ []) done

-- ---- what is told of one line

pub told_one : (first k : ℕ) (kept : Kept) (n : LineNumber) (r : Reply) (a b : List LineNumber) (x y : List Reply) → first ≤ k → n ≡ line_number kept → reply_text r ≡ kept_reply k kept → b ≡ set a (k - first) n → y ≡ set x (k - first) r
    → TellsOne first (told_of k kept) a b (map reply_text x) (map reply_text y)
told_one first k kept n r a b x y low number reply numbers replies = record {
  low = low;
  number = numbers ∙ ap (λ (m : LineNumber). set a (k - first) m) number;
  reply = ap (map reply_text) replies ∙ map-set reply_text x (k - first) r ∙ ap (λ (s : List ℕ). set (map reply_text x) (k - first) s) reply;
}

pub told_many : (first : ℕ) (was : Told) (a b : List LineNumber) (x y : List (List ℕ)) → TellsOne first was a b x y → length b ≡ length a
told_many first was a b x y one = ap length one.number ∙ length-set a (was.line - first) (line_number was.kept)

pub told_count : (first : ℕ) (was : Told) (a b : List LineNumber) (x y : List Reply) → TellsOne first was a b (map reply_text x) (map reply_text y) → length y ≡ length x
told_count first was a b x y one = sym (length-map y reply_text) ∙ ap length one.reply ∙ length-set (map reply_text x) (was.line - first) (kept_reply was.line was.kept) ∙ length-map x reply_text

-- all were told
pub tells_end : (first : ℕ) (all left done : List WriteOf) (a b : List LineNumber) (x y : List (List ℕ)) → left ≡ [] → all ≡ left ++ done → TellsAll first (map told_view done) a b x y → TellsAll first (map told_view all) a b x y
tells_end first all left done a b x y none is t = subst (λ (os : List WriteOf). TellsAll first (map told_view os) a b x y) (sym (is ∙ ap (λ (l : List WriteOf). l ++ done) none)) t

-- ---- numbers

number_none : (o : Option Kept) → IsNumber o (number_or no_number o)
number_none None = (refl, refl)
number_none (Some kept) = (refl, refl)

-- the numbers of a round whose lines had none are those of what is told
pub numbers_told : (first : ℕ) (was : List Told) (a b : List LineNumber) (x y : List (List ℕ)) (t : TellsAll first was a b x y) → AllByRecursion (λ (n : LineNumber). n ≡ no_number) a → AreNumbers first was b
numbers_told first was a b x y t none j n at =
    let (m, at_m, is) = t.number j n at in
    subst (IsNumber (kept_of was (first + j))) (sym (is ∙ ap (λ (k : LineNumber). number_or k (kept_of was (first + j))) (all_at (λ (k : LineNumber). k ≡ no_number) a j m none at_m))) (number_none (kept_of was (first + j)))

-- they are lines of the round
pub outcomes_within : (first end : ℕ) (writes : List WriteLine) (outcomes : List WriteOf) → AllByRecursion (IsWriteWithin first end) writes → AllByRecursion (IsOfWrites writes) (map told_view outcomes) → AllByRecursion (IsOutcomeWithin first end) outcomes
outcomes_within first end writes [] within all = tt
outcomes_within first end writes (o ∷ os) within ((x, w, at, is), all) =
    let in_it = all_at (IsWriteWithin first end) writes x w within at in
    let low = in_it.0 in
    let high = in_it.1 in
    ((omega (arith, low, is), omega (arith, high, is)), outcomes_within first end writes os within all)
