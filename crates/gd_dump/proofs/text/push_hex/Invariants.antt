use Rattle.std.proofs.Common.{◌≡◌, ◌++◌, flat_map, drop}
use Rattle.gd_dump_laws.specs.Dump.{byte_text}
use Rattle.gd_dump.proofs.text.push_hex.Given as goal

abbrev pub invariant-loop-byte : goal.invariant-loop-byte
invariant-loop-byte l = l.out.items ++ flat_map byte_text (drop l.byte-index l.bytes) ≡ l.fn.out.items ++ flat_map byte_text l.bytes
