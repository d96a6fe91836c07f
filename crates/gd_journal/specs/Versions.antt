-- The versions of the format, as the code names them.
use Rattle.std.specs.Prelude.{ℕ}
use Rattle.gd_bytes.specs.File.{Version, first, second}
use Rattle.gd_journal.specs.declared.version.Version.{Version as Named}
use Rattle.gd_journal.specs.declared.version.Version.TheVariants.{One, Two}

abbrev pub version_seen : Named → Version
version_seen One = first
version_seen Two = second

abbrev pub number_of : Version → ℕ
number_of first = 1
number_of second = 2
