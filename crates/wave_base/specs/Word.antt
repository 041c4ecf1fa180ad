-- Arithmetic on words of 64 bits: the true result, reduced once to the range from -2 ^ 63 to 2 ^ 63 - 1.
use Rattle.std.specs.Prelude.{ℤ, pos, ◌+ℤ◌, ◌-ℤ◌, ◌*ℤ◌, zero, suc, negsuc, int_lt, if◌then◌else◌}
use Rattle.std.specs.Int.{int_wrap, w64}
use Rattle.std.specs.Int.RustNames.{int_div}

-- the number of that range that equals z modulo 2 ^ 64
abbrev pub wrapped : ℤ → ℤ
wrapped z = int_wrap w64 z

abbrev pub wrapped_sum : ℤ → ℤ → ℤ
wrapped_sum a b = wrapped (a +ℤ b)

abbrev pub wrapped_difference : ℤ → ℤ → ℤ
wrapped_difference a b = wrapped (a -ℤ b)

abbrev pub wrapped_product : ℤ → ℤ → ℤ
wrapped_product a b = wrapped (a *ℤ b)

-- toward zero, and 0 for the divisor 0
abbrev pub wrapped_quotient : ℤ → ℤ → ℤ
wrapped_quotient a (pos zero) = pos zero
wrapped_quotient a (pos (suc b)) = wrapped (int_div a (pos (suc b)))
wrapped_quotient a (negsuc b) = wrapped (int_div a (negsuc b))

-- the lesser of two numbers, and the greater
abbrev pub lesser : ℤ → ℤ → ℤ
lesser a b = if int_lt b a then b else a

abbrev pub greater : ℤ → ℤ → ℤ
greater a b = if int_lt a b then b else a
