-- The numbers that are drawn (docs/FORMATS.md, generated files): a linear congruential sequence of 64 bits, of which
-- the high bits are used. Multiplier and increment are those of Knuth's MMIX; that they are used here is this project's
-- own.
use Rattle.std.specs.Prelude.{ℕ, zero, suc, ◌+◌, ◌*◌, ◌/◌, ◌%◌, ◌^◌}

-- the number behind another
unfoldable pub next : ℕ → ℕ
next x = (x * 6364136223846793005 + 1442695040888963407) % 2 ^ 64

-- the number so many further on
unfoldable pub after : ℕ → ℕ → ℕ
after x zero = x
after x (suc t) = next (after x t)

-- what is drawn below k where the sequence has come to x
abbrev pub below : ℕ → ℕ → ℕ
below k x = x / 2 ^ 33 % k
