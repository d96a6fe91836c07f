-- What is known of a run by the words that name its verb.
use Rattle.std.proofs.Common.{◌≡◌, ℕ, List, Bool, Option, Some, None, ap, sym, subst, ◌∙◌, option_map, option_and_then}
use Rattle.gd_runs.proofs.Rounds.{some_same, no_some}
use Rattle.gd_words.specs.declared.verbs.Command.{Command}
use Rattle.gd_words.specs.Words.{command_of}
use Rattle.gd_words.specs.Verbs.{Verb, verb_in, file_of, verb_of, path_of}
use Rattle.gd_top.specs.declared.status.Status.{Status}
use Rattle.gd_top.specs.Verbs.{PrintsAt}

-- the words name the file that their command names
pub path_known : (words : List (List ℕ)) (c : Command) → command_of words ≡ Some c → path_of words ≡ file_of c
path_known words c is = ap (λ (o : Option Command). option_and_then file_of o) is

-- and their verb is its verb
pub verb_is : (v : Verb) (words : List (List ℕ)) (c : Command) → command_of words ≡ Some c → verb_of words ≡ Some v → verb_in c ≡ v
verb_is v words c is named = some_same (sym (ap (λ (o : Option Command). option_map verb_in o) is) ∙ named)

-- words out of the grammar have no verb
pub none_known : (v : Verb) (words : List (List ℕ)) → command_of words ≡ None → verb_of words ≡ Some v → ⊥
none_known v words is named = no_some (sym (ap (λ (o : Option Command). option_map verb_in o) is) ∙ named)

module _ (v : Verb) (s : Status) (may : ℕ → Bool) (content : List ℕ → Option (List ℕ)) (images : List ℕ → List ℕ → Type 0) (rises : Option (List ℕ) → ℕ → Type 0) (idle : Option (List ℕ) → Type 0) (left now old new : Option (List ℕ)) where
  -- what the verb of a command printed over the file that it names
  pub verb_known : (words : List (List ℕ)) (c : Command) → command_of words ≡ Some c → verb_of words ≡ Some v → PrintsAt (verb_in c) s may content images (file_of c) (rises (file_of c)) (idle (file_of c)) left now old new → PrintsAt v s may content images (path_of words) (rises (path_of words)) (idle (path_of words)) left now old new
  verb_known words c is named printed =
      let same : verb_in c ≡ v = verb_is v words c is named in
      subst (λ (path : Option (List ℕ)). PrintsAt v s may content images path (rises path) (idle path) left now old new) (sym (path_known words c is))
      (subst (λ (w : Verb). PrintsAt w s may content images (file_of c) (rises (file_of c)) (idle (file_of c)) left now old new) same printed)
