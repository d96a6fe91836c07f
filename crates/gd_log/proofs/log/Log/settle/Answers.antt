use Rattle.std.proofs.Common.{[], ◌∷◌, ◌++◌, Bool, true, false}
use Rattle.std.specs.Prelude.{MatchBool}
use Rattle.std.proofs.lemmas.Result.{IfOk-weaker}
use Rattle.gd_log.proofs.Held.{hold, doubt, leaves}
use Rattle.gd_bytes.specs.File.{is_marked}
use Rattle.gd_log.proofs.Meaning.{push}
use Rattle.gd_log.proofs.log.Log.settle.Goals as goal

-- what follows in each of two cases
in_each : (b : Bool) {P Q R S : Type 0} → (P → R) → (Q → S) → MatchBool b P Q → MatchBool b R S
in_each true f g h = f h
in_each false f g h = g h

pub returns-clause-settled : goal.returns-clause-settled
returns-clause-settled g c = rw (← c.self.view_is) (IfOk-weaker c.settle.result _ _ (λ counts run next bs more is s.
    let d = g.D.Disk in
    let after = c.settle.new.self in
    in_each counts
    (λ one. hold (d.content after.disk) (d.images after.disk) after.gate s.version (s.payloads ++ s.last ∷ []) (bs ++ more) (push (is_marked s.version) [] s.payloads true bs s.last more s.groups s.next_group) one)
    (λ none. hold (d.content after.disk) (d.images after.disk) after.gate s.version s.payloads bs s.groups none)
    (run next s.version s.payloads s.last is s.doubt)) c.settle.ensures.settled)

pub returns-clause-unsure : goal.returns-clause-unsure
returns-clause-unsure g c = rw (← c.self.view_is) (λ failed next bs more is s.
    let d = g.D.Disk in
    let after = c.settle.new.self in
    doubt (d.content after.disk) (d.images after.disk) after.gate next s.version s.payloads s.last bs more s.groups s.next_group (c.settle.ensures.doubtful failed next s.version s.payloads s.last is s.doubt))

pub returns-clause-moments : goal.returns-clause-moments
returns-clause-moments g c = rw (← c.self.view_is) (λ next bs more is s.
    let d = g.D.Disk in
    leaves c.self.inside.journal.disk c.settle.new.self.disk s.version s.payloads s.last bs more s.groups s.next_group (c.settle.ensures.moments next s.version s.payloads s.last is s.doubt))
