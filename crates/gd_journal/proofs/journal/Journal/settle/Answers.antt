use Rattle.std.proofs.Common.{◌≡◌, ℕ, [], ◌∷◌, ◌++◌, Bool, Some, sym, ◌∙◌, ap, subst}
use Rattle.std.specs.Prelude.{MatchBool, Option}
use Rattle.std.specs.Option.{is_some}
use Rattle.gd_journal.specs.Shape.{IsAtRest}
use Rattle.gd_journal.specs.State.{Journaled}
use Rattle.gd_journal.specs.Versions.{version_seen}
use Rattle.gd_journal.proofs.Runs.{settle_leaves}
use Rattle.gd_journal.proofs.Kept.{settle, settled_standing, doubt_standing, doubt_of, doubt_long, added, doubted}
use Rattle.gd_journal.proofs.journal.Journal.settle.Goals as goal

pub settle_record-requires-clause-reach : goal.settle_record-requires-clause-reach
settle_record-requires-clause-reach g c = λ f is.
    let d = g.D.Disk in
    let i = c.self.inside in
    let k = doubt_of (d.content i.disk) (d.images i.disk) (version_seen i.version) i.gate i.doubt i.damaged (ap (λ (v : Journaled _). is_some v.doubt) c.self.view_is ∙ c.requires) (c.self.invariant (ap is_some is)) in
    doubt_long (d.content i.disk) (d.images i.disk) i.gate k.0 (version_seen i.version) k.3 k.4 f k.5 (g.met.D.Disk.reads_one i.disk f is)

pub invariant_of-self : goal.invariant_of-self
invariant_of-self g c = λ told.
    let d = g.D.Disk in
    let i = c.self.inside in
    let after = c.settle_record.new.disk in
    let k = doubt_of (d.content i.disk) (d.images i.disk) (version_seen i.version) i.gate i.doubt i.damaged (ap (λ (v : Journaled _). is_some v.doubt) c.self.view_is ∙ c.requires) (c.self.invariant (sym c.settle_record.ensures.told ∙ told)) in
    let s = k.5 in
    let run = c.settle_record.ensures.doubtful (version_seen i.version) k.3 k.4 s.rests in
    doubt_standing (d.content after) (d.images after) i.gate k.0 i.doubt i.damaged (version_seen i.version) k.3 k.4 k.1 k.2 (doubted (d.content after) (d.images after) i.gate k.0 (version_seen i.version) k.3 k.4 s.each s.last s.rests.place s.next_place s.near told run.now)

pub returns-in_err-settle_record-clause-doubtful : goal.returns-in_err-settle_record-clause-doubtful
returns-in_err-settle_record-clause-doubtful g c = rw (← c.self.view_is) (λ failed next v ps p is s.
    let d = g.D.Disk in
    let i = c.self.inside in
    let after = c.settle_record.new.disk in
    let run = c.settle_record.ensures.doubtful v ps p s.rests in
    doubted (d.content after) (d.images after) i.gate next v ps p s.each s.last s.rests.place s.next_place s.near (c.settle_record.ensures.told ∙ s.rests.told) run.now)

pub returns-in_err-settle_record-clause-moments : goal.returns-in_err-settle_record-clause-moments
returns-in_err-settle_record-clause-moments g c = rw (← c.self.view_is) (λ next v ps p is s.
    let d = g.D.Disk in
    let i = c.self.inside in
    settle_leaves i.disk c.settle_record.new.disk (d.content i.disk) i.gate next v ps p s (c.settle_record.ensures.doubtful v ps p s.rests))

pub returns-then-branch-clause-moments : goal.returns-then-branch-clause-moments
returns-then-branch-clause-moments g c = rw (← c.self.view_is) (λ next v ps p is s.
    let d = g.D.Disk in
    let i = c.self.inside in
    settle_leaves i.disk c.settle_record.new.disk (d.content i.disk) i.gate next v ps p s (c.settle_record.ensures.doubtful v ps p s.rests))

pub returns-clause-moments : goal.returns-clause-moments
returns-clause-moments g c = rw (← c.self.view_is) (λ next v ps p is s.
    let d = g.D.Disk in
    let i = c.self.inside in
    settle_leaves i.disk c.settle_record.new.disk (d.content i.disk) i.gate next v ps p s (c.settle_record.ensures.doubtful v ps p s.rests))

-- there is one next gate
one_next : (o : Option ℕ) (m n : ℕ) → o ≡ Some m → o ≡ Some n → m ≡ n
one_next o m n a b = cc

pub invariant_of-self-then-branch : goal.invariant_of-self-then-branch
invariant_of-self-then-branch g c = λ told.
    let d = g.D.Disk in
    let i = c.self.inside in
    let after = c.settle_record.new.disk in
    let k = doubt_of (d.content i.disk) (d.images i.disk) (version_seen i.version) i.gate i.doubt i.damaged (ap (λ (v : Journaled _). is_some v.doubt) c.self.view_is ∙ c.requires) (c.self.invariant (sym c.settle_record.ensures.told ∙ told)) in
    let v = version_seen i.version in
    let ps = k.3 in
    let p = k.4 in
    let s = k.5 in
    let behind = one_next i.doubt c.unwrap-self-inside.result k.0 c.unwrap-self-inside.ensures k.1 ∙ s.next_place in
    settled_standing (d.content after) (d.images after) c.unwrap-self-inside.result i.damaged v (ps ++ p ∷ []) k.2
    (added (d.content after) (d.images after) i.gate c.unwrap-self-inside.result v ps p s.each s.last s.rests.place behind told
    (λ f now. subst (λ (b : Bool). MatchBool b (IsAtRest v (ps ++ p ∷ []) f) (IsAtRest v ps f)) c.if-branch.true (c.in_ok-settle_record.ensures.settled v ps p s.rests f now)))

pub returns-then-branch-clause-settled : goal.returns-then-branch-clause-settled
returns-then-branch-clause-settled g c = rw (← c.self.view_is) (λ next v ps p is s.
    let d = g.D.Disk in
    let i = c.self.inside in
    let after = c.settle_record.new.disk in
    let behind = one_next i.doubt c.unwrap-self-inside.result next c.unwrap-self-inside.ensures is ∙ s.next_place in
    added (d.content after) (d.images after) i.gate c.unwrap-self-inside.result v ps p s.each s.last s.rests.place behind (c.settle_record.ensures.told ∙ s.rests.told)
    (λ f now. subst (λ (b : Bool). MatchBool b (IsAtRest v (ps ++ p ∷ []) f) (IsAtRest v ps f)) c.if-branch.true (c.in_ok-settle_record.ensures.settled v ps p s.rests f now)))

pub invariant_of-self-2 : goal.invariant_of-self-2
invariant_of-self-2 g c = λ told.
    let d = g.D.Disk in
    let i = c.self.inside in
    let after = c.settle_record.new.disk in
    let k = doubt_of (d.content i.disk) (d.images i.disk) (version_seen i.version) i.gate i.doubt i.damaged (ap (λ (v : Journaled _). is_some v.doubt) c.self.view_is ∙ c.requires) (c.self.invariant (sym c.settle_record.ensures.told ∙ told)) in
    let v = version_seen i.version in
    let ps = k.3 in
    let p = k.4 in
    let s = k.5 in
    settled_standing (d.content after) (d.images after) i.gate i.damaged v ps k.2 (settle (d.content after) (d.images after) i.gate v ps s.each (record {
      told = told;
      place = s.rests.place;
      left = λ f now. subst (λ (b : Bool). MatchBool b (IsAtRest v (ps ++ p ∷ []) f) (IsAtRest v ps f)) c.if-branch.false (c.in_ok-settle_record.ensures.settled v ps p s.rests f now);
    }))

pub returns-clause-settled : goal.returns-clause-settled
returns-clause-settled g c = rw (← c.self.view_is) (λ next v ps p is s.
    let d = g.D.Disk in
    let i = c.self.inside in
    let after = c.settle_record.new.disk in
    settle (d.content after) (d.images after) i.gate v ps s.each (record {
      told = c.settle_record.ensures.told ∙ s.rests.told;
      place = s.rests.place;
      left = λ f now. subst (λ (b : Bool). MatchBool b (IsAtRest v (ps ++ p ∷ []) f) (IsAtRest v ps f)) c.if-branch.false (c.in_ok-settle_record.ensures.settled v ps p s.rests f now);
    }))
