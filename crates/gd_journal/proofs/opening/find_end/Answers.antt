use Rattle.std.proofs.Common.{◌≡◌, None, Some, refl, sym, ◌∙◌, ap, arith}
use Rattle.std.specs.Prelude.{Option}
use Rattle.std.specs.Option.{option_map}
use Rattle.gd_bytes.specs.File.{Version, version_of}
use Rattle.gd_journal.specs.declared.version.Version.{Version as Named}
use Rattle.gd_journal.specs.Versions.{version_seen}
use Rattle.gd_journal.proofs.Heads.{no_header}
use Rattle.gd_journal.proofs.opening.find_end.Goals as goal

-- the version that was read
none_read : (o : Option Named) (v : Option Version) → o ≡ None → option_map version_seen o ≡ v → v ≡ None
none_read o v is same = sym same ∙ ap (option_map version_seen) is

some_read : (o : Option Named) (w : Named) (v : Option Version) → o ≡ Some w → option_map version_seen o ≡ v → v ≡ Some (version_seen w)
some_read o w v is same = sym same ∙ ap (option_map version_seen) is

pub returns-then-len-le-UNFINISHED-clause-ends : goal.returns-then-len-le-UNFINISHED-clause-ends
returns-then-len-le-UNFINISHED-clause-ends g c = λ f is. record {
  size = c.requires.len f is;
  short = λ _. (refl, refl, refl);
  begins = λ long. absurd (omega arith);
  within = λ long. absurd (omega arith);
  ends = λ long. absurd (omega arith);
}

pub returns-in-None-clause-not_store : goal.returns-in-None-clause-not_store
returns-in-None-clause-not_store g c = λ said f is.
    no_header f (omega (arith, c.requires.len f is)) (none_read _ (version_of f) c.in-None.is (c.in_ok-read_version.ensures.value f is))

pub scan-requires-clause-header : goal.scan-requires-clause-header
scan-requires-clause-header g c = λ f is.
    some_read _ c.in-Some.version (version_of f) c.in-Some.is (c.in_ok-read_version.ensures.value f (sym c.read_version.ensures.untouched.same ∙ is))

pub returns-in_ok-end-in-Some-clause-ends : goal.returns-in_ok-end-in-Some-clause-ends
returns-in_ok-end-in-Some-clause-ends g c = λ f is. record {
  size = c.requires.len f is;
  short = λ short. absurd (omega arith);
  begins = λ _. some_read _ c.in-Some.version (version_of f) c.in-Some.is (c.in_ok-read_version.ensures.value f is) ∙ ap (λ (w : Named). Some (version_seen w)) (sym c.in_ok-end-in-Some.ensures.version);
  within = λ _. c.in_ok-end-in-Some.ensures.within;
  ends = λ _. rw c.in_ok-end-in-Some.ensures.version (c.in_ok-end-in-Some.ensures.walked f (c.read_version.ensures.untouched.same ∙ is));
}
