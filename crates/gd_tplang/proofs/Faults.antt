-- What is seen of a text, and why it means no template.
use Rattle.std.proofs.Common.{◌≡◌, ◌∙◌, refl, sym, ap, subst, ℕ, ◌-◌, ◌≤◌, List, [], ◌∷◌, Result, Ok, Err, length, length-append, arith}
use Rattle.gd_grammar.specs.Chain.{◌>>=◌}
use Rattle.gd_grammar.specs.Grammar.{Reads, ended, with_offset}
use Rattle.gd_grammar.proofs.Scans.{Says}
use Rattle.gd_tplang.specs.declared.stop.TplFault.{TplFault}
use Rattle.gd_tplang.specs.declared.stop.TplFault.TheVariants as fault
use Rattle.gd_tplang.specs.Cause.{Surveys, IsCause}
use Rattle.gd_tplang.specs.declared.stop.Stop.TheVariants.{Bad}
use Rattle.gd_tplang.specs.Stop.{Stopped}
use Rattle.gd_tplang.specs.Written.{Items, template_text, Fits, template_at, template_of}
use Rattle.gd_tplang.specs.Survey as walk
use Rattle.gd_tplang.specs.Survey.{marks_of, surveyed}
use Rattle.gd_tplang.proofs.Surveys.{sees}
use Rattle.gd_tplang.proofs.Templates.{Good-template}
use Rattle.gd_tplang.proofs.Whole.{template_says}

pub record Marked (bytes : List ℕ) (m : walk.Marks) : Type 0 where
  pub value : Items
  pub read : template_of bytes ≡ Ok value
  pub is : m ≡ marks_of value

-- the marks are those of the template that the bytes spell
pub marked : (bytes : List ℕ) (m : walk.Marks) → surveyed bytes ≡ Ok m → Marked bytes m
marked bytes m is = by (template_at (length bytes) bytes) refl is
  where
    same : (a b : walk.Marks) → ◌≡◌ {A = Result walk.Marks (List ℕ)} (Ok a) (Ok b) → a ≡ b
    same a b e = cc

    by : (r : Reads Items) → template_at (length bytes) bytes ≡ r → (sees marks_of r >>= ended) ≡ Ok m → Marked bytes m
    by (Ok (t, [])) read e = record { value = t; read = ap (λ (r : Reads Items). with_offset bytes (r >>= ended)) read; is = sym (same (marks_of t) m e) }
    by (Ok (t, c ∷ cs)) read e = cc
    by (Err rest) read e = cc

pub record Faulted (bytes : List ℕ) (left : ℕ) : Type 0 where
  pub read : template_of bytes ≡ Err (length bytes - left)
  pub within : left ≤ length bytes

-- where the walk stops, the bytes are the text of no template
pub faulted : (left : ℕ) (bytes : List ℕ) → Stopped (Bad left) (surveyed bytes) → Faulted bytes left
faulted left bytes s = by (template_at (length bytes) bytes) refl s
  where
    at : (rest : List ℕ) → left ≡ length rest → template_of bytes ≡ Err (length bytes - length rest) → length rest ≤ length bytes → Faulted bytes left
    at rest is read within = record { read = read ∙ ap (λ n. Err (length bytes - n)) (sym is); within = omega (arith, is, within) }

    by : (r : Reads Items) → template_at (length bytes) bytes ≡ r → Stopped (Bad left) (sees marks_of r >>= ended) → Faulted bytes left
    by (Ok (t, [])) read e = absurd e
    by (Ok (t, c ∷ cs)) read e =
        let f = (Good-template (length bytes)).scans.found bytes t (c ∷ cs) read in
        let split = ap length f.split in
        let sum = length-append f.text (c ∷ cs) in
        at (c ∷ cs) e (ap (λ (r : Reads Items). with_offset bytes (r >>= ended)) read) (omega (arith, split, sum))
    by (Err rest) read e =
        let f = (Good-template (length bytes)).scans.stops bytes rest read in
        let split = ap length f.split in
        let sum = length-append f.front rest in
        at rest e (ap (λ (r : Reads Items). with_offset bytes (r >>= ended)) read) (omega (arith, split, sum))

-- ---- what bytes mean

-- the text of a template says it
pub text_of : (bytes : List ℕ) (t : Items) → template_of bytes ≡ Ok t → Fits t × (bytes ≡ template_text t)
text_of bytes t is = subst (Says template_text Fits bytes) is (template_says bytes)

-- what was refused was refused for its cause
pub cause_of : (bytes : List ℕ) (e : TplFault) → Surveys bytes (Err e) → IsCause bytes e
cause_of bytes (fault.BadTemplate offset) is = subst (Says template_text Fits bytes) is (template_says bytes)
cause_of bytes fault.Memory is = tt
cause_of bytes fault.BadPattern is = absurd is
cause_of bytes fault.TooDeep is = absurd is
