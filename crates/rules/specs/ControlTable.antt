-- The table of control weekdays, which control days are read from: for each weekday that a month may begin
-- on, Monday 1 to Sunday 7, which of its days fall on Monday to Friday. Days are counted from 0. [Requests,
-- 2, throughout]
use Rattle.std.specs.Prelude.{ℕ, zero, suc, Bool, not, cond, ◌&&◌, List, get_or, replicate, leb, eqb}
use Rattle.rules.specs.Range.{listed}
use Rattle.rules.specs.Month.{Header}
use Rattle.rules.specs.ControlHours.{control_weekday, holiday_on}

-- An entry that says yes, the letter y, and one that says no, a dash.
abbrev pub yes : ℕ
yes = 121

abbrev pub no : ℕ
no = 45

-- The table: a line of 31 entries for each first weekday, Monday to Sunday; 217 entries in all.
unfoldable pub control_weekdays : List (List ℕ)
control_weekdays = listed (λ i. listed (λ day. cond (control_weekday (suc i) day) yes no) 31) 7

-- The line of a first weekday; outside Monday 1 to Sunday 7 the table has none, and each entry says no.
unfoldable pub line_of : ℕ → List ℕ
line_of zero = replicate 31 no
line_of (suc i) = get_or control_weekdays i (replicate 31 no)

-- What the table says of a day; past a line's end nothing stands, which is no.
unfoldable pub says : ℕ → ℕ → Bool
says first day = eqb (get_or (line_of first) day 0) yes

-- A control day as it is read: yes in the table, and no holiday. [Control hours]
unfoldable pub table_day : Header → ℕ → Bool
table_day h day = says h.weekday day && not (holiday_on h day)

-- A month that the table has: it begins on Monday 1 to Sunday 7 and has at most 31 days.
unfoldable pub in_table : Header → Bool
in_table h = leb 1 h.weekday && leb h.weekday 7 && leb h.days 31
