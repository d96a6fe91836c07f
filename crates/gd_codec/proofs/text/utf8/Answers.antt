use Rattle.std.proofs.Common.{◌≡◌, ◌-◌, ◌∙◌, Ok, ap, arith, drop, sym}
use Rattle.gd_grammar.specs.Reading.{byte_if}
use Rattle.gd_utf8.specs.Utf8.{may_come}
use Rattle.gd_utf8.proofs.Exact.{next_at, utf8_more}
use Rattle.gd_codec.proofs.text.utf8.Goals as goal

pub loop-at-preserved : goal.loop-at-preserved
loop-at-preserved c =
    let l = c.loop-at in
    let bytes = c.args.bytes.now in
    let s = l.state in
    let test = may_come (c.args.count - 1 - l.at) s in
    let is : byte_if test (drop l.at bytes) ≡ Ok (c.in_ok-byte.byte, c.in_ok-byte.behind.now) = ap (byte_if test) (sym l.invariant.rest) ∙ c.in_ok-byte.ensures in
    let (some, behind, front) = next_at test bytes l.at c.in_ok-byte.byte c.in_ok-byte.behind.now is in
    record {
      within = omega (arith, some);
      rest = behind;
      so_far = utf8_more bytes c.args.count l.at s c.after-state.result c.in_ok-byte.byte c.in_ok-byte.behind.now c.loop-at-test.true is c.after-state.ensures ∙ l.invariant.so_far;
    }
