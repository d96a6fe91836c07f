use Rattle.std.proofs.Common.{ℕ, List, Some, None, sym, ◌∙◌, subst, arith}
use Rattle.gd_disk.specs.Runs.{untouched_none, untouched_then}
use Rattle.gd_journal.specs.declared.payloads.Payload.{Payload}
use Rattle.gd_journal.specs.Found.{seen}
use Rattle.gd_journal.specs.Reading.{ComesNext, Moves, IsReady, IsRead}
use Rattle.gd_journal.proofs.OneByOne.{read_none, read_more, read_all_of, seen_push, found_is}
use Rattle.gd_journal.proofs.reading.read_records.Goals as goal

pub loop-records-init : goal.loop-records-init
loop-records-init g c = record {
  ready = c.none-records.ensures.ready (g.D.Disk.content c.args.disk.now) c.requires.len;
  read = λ f is. subst (λ (n : ℕ). IsRead (seen c.new-list.result.items) n f) (sym c.none-records.ensures.at) (subst (λ (l : List Payload). IsRead (seen l) 8 f) (sym c.new-list.ensures.items) (read_none f (λ _. c.requires.header f is)));
  untouched = untouched_none c.args.disk.now;
  faults = omega arith;
}

pub returns-in-End-clause-found : goal.returns-in-End-clause-found
returns-in-End-clause-found g c = λ f is.
    let l = c.loop-records in
    let i = l.invariant in
    let size = c.requires.len f is in
    let comes = subst (ComesNext l.records.at c.next.new.self.at f) c.in-End.is (c.in_ok-next.ensures.comes f (i.untouched.same ∙ is)) in
    found_is f c.found.result l.list.items None c.found.ensures.list c.found.ensures.damaged
    (read_all_of (seen l.list.items) l.records.at f None (omega (arith, size)) (omega (arith, size, i.ready.within c.requires.long)) (i.read f is) comes)

pub returns-in-Torn-clause-found : goal.returns-in-Torn-clause-found
returns-in-Torn-clause-found g c = λ f is.
    let l = c.loop-records in
    let i = l.invariant in
    let size = c.requires.len f is in
    let comes = subst (ComesNext l.records.at c.next.new.self.at f) c.in-Torn.is (c.in_ok-next.ensures.comes f (i.untouched.same ∙ is)) in
    let moves = subst (Moves l.records.at c.next.new.self.at) c.in-Torn.is c.in_ok-next.ensures.moves in
    found_is f c.found-in-Torn.result l.list.items (Some c.in-Torn.offset) c.found-in-Torn.ensures.list c.found-in-Torn.ensures.damaged
    (read_all_of (seen l.list.items) l.records.at f (Some c.in-Torn.offset) (omega (arith, size)) (omega (arith, size, i.ready.within c.requires.long)) (i.read f is) (moves.1, comes))

pub loop-records-preserved : goal.loop-records-preserved
loop-records-preserved g c =
    let d = g.D.Disk in
    let l = c.loop-records in
    let i = l.invariant in
    let p = c.in-Record.payload in
    let moves = subst (Moves l.records.at c.next.new.self.at) c.in-Record.is c.in_ok-next.ensures.moves in
    record {
      ready = subst (λ (n : ℕ). IsReady (d.content c.next.new.disk) n c.next.new.self.at c.next.new.self.window) i.ready.size c.next.ensures.ready;
      read = λ f is.
          let comes = subst (ComesNext l.records.at c.next.new.self.at f) c.in-Record.is (c.in_ok-next.ensures.comes f (i.untouched.same ∙ is)) in
          subst (λ (r : List (ℕ × List ℕ)). IsRead r c.next.new.self.at f) (sym (seen_push l.list.items c.push.new.self.items p c.in_ok-push-in-Record.ensures.items))
          (read_more (seen l.list.items) l.records.at c.next.new.self.at f p (omega (arith, c.requires.len f is)) (i.read f is) comes moves.1);
      untouched = untouched_then i.untouched c.next.ensures.untouched;
      faults = omega (arith, c.next.ensures.later);
    }
