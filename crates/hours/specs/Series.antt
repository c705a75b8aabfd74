-- The powers of a series in a lent part.
use Rattle.std.specs.Prelude.{ℕ, ◌+◌, ◌-◌, ◌*◌, ◌≤◌, Bool, List, length, nat_le}
use Rattle.rules.specs.declared.Series.{Series}
use Rattle.rules.specs.Fields.{big_endian}

-- So many powers of a series stand in so many bytes: the last of them ends within.
unfoldable pub stands : ℕ → Series → ℕ → Bool
stands bytes x count = nat_le (x.start + x.step * count + 4) (bytes + x.step)

-- The same as a statement, of a part.
abbrev pub Stands : List ℕ → Series → ℕ → Type 0
Stands part x count = x.start + x.step * count + 4 ≤ length part + x.step

-- Power i of a series in a part.
abbrev pub power_in : List ℕ → Series → ℕ → ℕ
power_in part x i = big_endian 4 part (x.start + x.step * i)

-- Of hour i, the power of one series less that of another, not below 0. [Requests, 3]
abbrev pub net_in : List ℕ → Series → Series → ℕ → ℕ
net_in part of taken i = power_in part of i - power_in part taken i
