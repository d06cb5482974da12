-- The numbers that a seed decides, and what is drawn of them.
use Rattle.std.specs.Prelude.{ℕ, zero, suc, ◌+◌, ◌*◌, ◌/◌, ◌%◌}
use Rattle.an_trial.specs.declared.draws.Draws.{Draws}

-- the number behind this one
abbrev pub next : ℕ → ℕ
next x = (1103515245 * x + 12345) % 2147483648

-- the number behind so many draws from a seed
abbrev pub number_behind : ℕ → ℕ → ℕ
number_behind seed zero = seed
number_behind seed (suc draws) = next (number_behind seed draws)

-- a draw takes the next number, and gives it divided by 65,536
abbrev pub drawn_behind : ℕ → ℕ
drawn_behind x = next x / 65536

-- the next four draws: one for the group of an annotation, and one for each of its words
abbrev pub draws_behind : ℕ → Draws
draws_behind x = record {
  group = drawn_behind x;
  first = drawn_behind (next x);
  second = drawn_behind (next (next x));
  third = drawn_behind (next (next (next x)));
}
