use Rattle.std.proofs.Common.{ℕ, ◌<◌, [], ◌∷◌, ◌++◌, Some, None, sym, ◌∙◌, ap, subst, arith}
use Rattle.std.specs.Prelude.{Option}
use Rattle.gd_journal.specs.Reading.{ComesNext, Moves, IsReady, IsRead}
use Rattle.gd_journal.specs.State.{HasEnd}
use Rattle.gd_journal.specs.Versions.{version_seen}
use Rattle.gd_journal.proofs.Ends.{sees_less}
use Rattle.gd_journal.proofs.OneByOne.{read_more, read_end, read_short, read_begins}
use Rattle.gd_journal.proofs.opening.Opening.next_payload.Goals as goal

pub returns-then-self-le-UNFINISHED-clause-next : goal.returns-then-self-le-UNFINISHED-clause-next
returns-then-self-le-UNFINISHED-clause-next g c = rw (← c.self.view_is) (λ f is read was.
    let h = (c.self.invariant.0 f is).1 in
    let short = c.if-self-le-UNFINISHED.true in
    read_short read c.self.inside.records.at f (omega (arith, h.size, short)) was ∙ ap (λ (o : Option ℕ). Some (record { list = read; damaged = o })) (sym (h.short short).1))

pub returns-in-End-clause-next : goal.returns-in-End-clause-next
returns-in-End-clause-next g c = rw (← c.self.view_is) (λ f is read was.
    let i = c.self.inside in
    let long : 9 < c.self.inside.len = omega (arith, c.if-self-le-UNFINISHED.false) in
    let h = (c.self.invariant.0 f is).1 in
    let comes = subst (ComesNext i.records.at c.next.new.self.at f) c.in-End.is (c.in_ok-next.ensures.comes f is) in
    let end = read_end read i.records.at i.len (version_seen i.end.version) i.end.marked i.end.gate i.end.damaged None f long h (c.self.invariant.1.within long) was comes in
    end.0 ∙ ap (λ (o : Option ℕ). Some (record { list = read; damaged = o })) end.1)

pub invariant_of-self-in-Torn : goal.invariant_of-self-in-Torn
invariant_of-self-in-Torn g c =
    let d = g.D.Disk in
    let i = c.self.inside in
    let u = c.next.ensures.untouched in
    let long : 9 < c.self.inside.len = omega (arith, c.if-self-le-UNFINISHED.false) in
    let moves = subst (Moves i.records.at c.next.new.self.at) c.in-Torn.is c.in_ok-next.ensures.moves in (
      λ f is.
          let was = sym u.same ∙ is in
          let s = c.self.invariant.0 f was in
          let r = c.self.invariant.2 f was in
          let comes = subst (ComesNext i.records.at c.next.new.self.at f) c.in-Torn.is (c.in_ok-next.ensures.comes f was) in
          let end = read_end r.0 i.records.at i.len (version_seen i.end.version) i.end.marked i.end.gate i.end.damaged (Some c.in-Torn.offset) f long s.1 (c.self.invariant.1.within long) r.1 (moves.1, comes) in
          (λ b now. s.0 b (u.now b now), subst (λ (o : Option ℕ). HasEnd f i.len (version_seen i.end.version) i.end.marked i.end.gate o) (sym end.1) s.1),
      subst (λ (n : ℕ). IsReady (d.content c.next.new.disk) n c.next.new.self.at c.next.new.self.window) c.self.invariant.1.size c.next.ensures.ready,
      λ f is.
          let r = c.self.invariant.2 f (sym u.same ∙ is) in
          (r.0, subst (λ (n : ℕ). IsRead r.0 n f) (sym moves.0) r.1),
    )

pub returns-in-Torn-clause-next : goal.returns-in-Torn-clause-next
returns-in-Torn-clause-next g c = rw (← c.self.view_is) (λ f is read was.
    let i = c.self.inside in
    let long : 9 < c.self.inside.len = omega (arith, c.if-self-le-UNFINISHED.false) in
    let moves = subst (Moves i.records.at c.next.new.self.at) c.in-Torn.is c.in_ok-next.ensures.moves in
    let comes = subst (ComesNext i.records.at c.next.new.self.at f) c.in-Torn.is (c.in_ok-next.ensures.comes f is) in
    (read_end read i.records.at i.len (version_seen i.end.version) i.end.marked i.end.gate i.end.damaged (Some c.in-Torn.offset) f long (c.self.invariant.0 f is).1 (c.self.invariant.1.within long) was (moves.1, comes)).0)

pub invariant_of-self-in-Record : goal.invariant_of-self-in-Record
invariant_of-self-in-Record g c =
    let d = g.D.Disk in
    let i = c.self.inside in
    let u = c.next.ensures.untouched in
    let p = c.in-Record.payload in
    let long : 9 < c.self.inside.len = omega (arith, c.if-self-le-UNFINISHED.false) in
    let moves = subst (Moves i.records.at c.next.new.self.at) c.in-Record.is c.in_ok-next.ensures.moves in (
      sees_less (d.content i.disk) (d.content c.next.new.disk) (d.images i.disk) (d.images c.next.new.disk) i.len (version_seen i.end.version) i.end.marked i.end.gate i.end.damaged u.same u.now c.self.invariant.0,
      subst (λ (n : ℕ). IsReady (d.content c.next.new.disk) n c.next.new.self.at c.next.new.self.window) c.self.invariant.1.size c.next.ensures.ready,
      λ f is.
          let was = sym u.same ∙ is in
          let r = c.self.invariant.2 f was in
          let comes = subst (ComesNext i.records.at c.next.new.self.at f) c.in-Record.is (c.in_ok-next.ensures.comes f was) in
          (r.0 ++ (p.offset, p.bytes) ∷ [], read_more r.0 i.records.at c.next.new.self.at f p (omega (arith, (c.self.invariant.0 f was).1.size, long)) r.1 comes moves.1),
    )

pub returns-in-Record-clause-next : goal.returns-in-Record-clause-next
returns-in-Record-clause-next g c = rw (← c.self.view_is) (λ f is read was.
    let i = c.self.inside in
    let p = c.in-Record.payload in
    let long : 9 < c.self.inside.len = omega (arith, c.if-self-le-UNFINISHED.false) in
    let h = (c.self.invariant.0 f is).1 in
    let moves = subst (Moves i.records.at c.next.new.self.at) c.in-Record.is c.in_ok-next.ensures.moves in
    let comes = subst (ComesNext i.records.at c.next.new.self.at f) c.in-Record.is (c.in_ok-next.ensures.comes f is) in
    let more = read_more read i.records.at c.next.new.self.at f p (omega (arith, h.size, long)) was comes moves.1 in
    let ready = subst (λ (n : ℕ). IsReady (g.D.Disk.content c.next.new.disk) n c.next.new.self.at c.next.new.self.window) c.self.invariant.1.size c.next.ensures.ready in
    (more, read_begins (read ++ (p.offset, p.bytes) ∷ []) c.next.new.self.at f (omega (arith, h.size, long)) (omega (arith, h.size, ready.within long)) more))
