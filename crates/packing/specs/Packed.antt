-- An answer in one number, as the exported functions return it: bits 0 to 7 the number, 8 to 31 the place, 32 to 47 the count,
-- 48 to 63 the term that a yes names for a gap.
-- Assumes nothing.
use Rattle.std.specs.Prelude.{ℕ, ◌+◌, ◌*◌, ◌/◌, ◌%◌, ◌<◌}
use Rattle.facts.specs.declared.Code.{Code}

abbrev pub packed : Code → ℕ
packed c = c.number + 256 * c.place + 4294967296 * c.count + 281474976710656 * c.filling

unfoldable pub unpacked : ℕ → Code
unpacked r =
    record { number = r % 256; place = r / 256 % 16777216; count = r / 4294967296 % 65536; filling = r / 281474976710656 % 65536 }

-- each of the four fits its bits
pub record Small (c : Code) : Type 0 where
  pub number : c.number < 256
  pub place : c.place < 16777216
  pub count : c.count < 65536
  pub filling : c.filling < 65536
