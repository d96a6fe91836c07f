use Rattle.std.proofs.Common.{ℕ, List, [], ◌∷◌, ◌++◌, refl, sym, ◌∙◌, subst, arith}
use Rattle.std.specs.List.{AllByRecursion}
use Rattle.std.proofs.lemmas.Bool.{MatchBool-at_true, MatchBool-at_false}
use Rattle.gd_disk.specs.Runs.{untouched_none, untouched_then}
use Rattle.gd_journal.specs.Reading.{ReadsOn}
use Rattle.gd_log.specs.Opening.{IsTaken, IsRefused}
use Rattle.gd_log.specs.Stored.{IsEarly}
use Rattle.gd_prim.specs.declared.Batch.{Batch}
use Rattle.gd_log.proofs.Early.{taken_early}
use Rattle.gd_log.proofs.Replays.{starts_marked, record_taken, record_stops, records_done}
use Rattle.gd_log.proofs.replay.absorb_records.Goals as goal

pub loop-opening-init : goal.loop-opening-init
loop-opening-init g c =
    let o = c.args.opening.now in
    record {
      begins = c.version.ensures.header;
      read = λ f is. ([], c.requires.unread f is, (starts_marked o.version c.version.result c.version.ensures.number, sym c.requires.empty));
      version = refl;
      untouched = untouched_none o.disk;
      faults = omega arith;
      early = subst (λ (l : List Batch). AllByRecursion IsEarly l) (sym c.requires.empty) tt;
    }

pub returns-in-None-clause-taken : goal.returns-in-None-clause-taken
returns-in-None-clause-taken g c = λ f is.
    let l = c.loop-opening in
    let i = l.invariant in
    let o = c.next_payload.new.self in
    let r = i.read f is in
    records_done c.args.opening.now.version f r.0 o.damaged c.damaged.result l.marked l.store (i.begins f is) (subst (ReadsOn r.0 f o.damaged o.next) c.in-None.is (c.in_ok-next_payload.ensures.next f (i.untouched.same ∙ is) r.0 r.1)) r.2 c.damaged.ensures

pub returns-then-not-branch-clause-taken : goal.returns-then-not-branch-clause-taken
returns-then-not-branch-clause-taken g c = λ f is.
    let l = c.loop-opening in
    let o = c.next_payload.new.self in
    let p = c.in-Some.payload in
    let r = l.invariant.read f is in
    let more = subst (ReadsOn r.0 f o.damaged o.next) c.in-Some.is (c.in_ok-next_payload.ensures.next f (l.invariant.untouched.same ∙ is) r.0 r.1) in
    let refused = MatchBool-at_false (IsTaken l.marked l.store c.as_slice.result.now c.absorb_record.new.marked c.absorb_record.new.store) (IsRefused l.marked l.store c.as_slice.result.now) c.if-not-branch.true c.in_ok-absorb_record-in-Some.ensures in
    record_stops c.args.opening.now.version f r.0 (p.offset, p.bytes) l.marked l.store (l.invariant.begins f is) more.1 r.2 (subst (λ (b : List ℕ). IsRefused l.marked l.store b) c.as_slice.ensures refused)

pub loop-opening-preserved : goal.loop-opening-preserved
loop-opening-preserved g c =
    let d = g.D.Disk in
    let l = c.loop-opening in
    let o = c.next_payload.new.self in
    let p = c.in-Some.payload in
    let last = c.absorb_record.new.marked in
    let now = c.absorb_record.new.store in
    let taken = MatchBool-at_true (IsTaken l.marked l.store c.as_slice.result.now last now) (IsRefused l.marked l.store c.as_slice.result.now) c.if-not-branch.false c.in_ok-absorb_record-in-Some.ensures in
    record {
      begins = l.invariant.begins;
      read = λ f is.
          let r = l.invariant.read f is in
          let more = subst (ReadsOn r.0 f o.damaged o.next) c.in-Some.is (c.in_ok-next_payload.ensures.next f (l.invariant.untouched.same ∙ is) r.0 r.1) in
          (r.0 ++ (p.offset, p.bytes) ∷ [], more.0, record_taken _ r.0 (p.offset, p.bytes) l.marked last l.store now r.2 (subst (λ (b : List ℕ). IsTaken l.marked l.store b last now) c.as_slice.ensures taken));
      version = c.next_payload.ensures.version ∙ l.invariant.version;
      untouched = untouched_then l.invariant.untouched c.next_payload.ensures.untouched;
      faults = omega (arith, c.next_payload.ensures.later);
      early = taken_early l.marked l.store c.as_slice.result.now last now taken l.invariant.early;
    }
