-- The table of control weekdays against printed calendars, worked out by hand from request 2, and its ends.
use Rattle.std.specs.Prelude.{ℕ, zero, suc, cond, List, [], ◌∷◌, ◌++◌, length, get_or, ◌≡◌, refl}
use Rattle.rules.specs.Range.{sum, when}
use Rattle.rules.specs.Month.{Header}
use Rattle.rules.specs.ControlHours.{weekday_on}
use Rattle.rules.specs.ControlTable.{line_of, says, table_day, in_table}
use Rattle.rules.specs.Samples.{month, Figure, figure, wrong}
use Rattle.rules.specs.Open.{settlement, table}

-- Of the first so many days of a month those of which the table says no, counted from 1 as people do.
unfoldable pub days_off : ℕ → ℕ → List ℕ
days_off first zero = []
days_off first (suc day) = days_off first day ++ cond (says first day) [] (suc day ∷ [])

-- The Saturdays and Sundays of seven months of 31 days, as printed calendars have them: March 2021 begins on
-- a Monday, March 2022 on a Tuesday, and of 2021 December on a Wednesday, July on a Thursday, January on a
-- Friday, May on a Saturday, August on a Sunday.
pub march_2021 : days_off 1 31 ≡ 6 ∷ 7 ∷ 13 ∷ 14 ∷ 20 ∷ 21 ∷ 27 ∷ 28 ∷ []
unfolding settlement table days_off
march_2021 = refl

pub march_2022 : days_off 2 31 ≡ 5 ∷ 6 ∷ 12 ∷ 13 ∷ 19 ∷ 20 ∷ 26 ∷ 27 ∷ []
unfolding settlement table days_off
march_2022 = refl

pub december_2021 : days_off 3 31 ≡ 4 ∷ 5 ∷ 11 ∷ 12 ∷ 18 ∷ 19 ∷ 25 ∷ 26 ∷ []
unfolding settlement table days_off
december_2021 = refl

pub july_2021 : days_off 4 31 ≡ 3 ∷ 4 ∷ 10 ∷ 11 ∷ 17 ∷ 18 ∷ 24 ∷ 25 ∷ 31 ∷ []
unfolding settlement table days_off
july_2021 = refl

pub january_2021 : days_off 5 31 ≡ 2 ∷ 3 ∷ 9 ∷ 10 ∷ 16 ∷ 17 ∷ 23 ∷ 24 ∷ 30 ∷ 31 ∷ []
unfolding settlement table days_off
january_2021 = refl

pub may_2021 : days_off 6 31 ≡ 1 ∷ 2 ∷ 8 ∷ 9 ∷ 15 ∷ 16 ∷ 22 ∷ 23 ∷ 29 ∷ 30 ∷ []
unfolding settlement table days_off
may_2021 = refl

pub august_2021 : days_off 7 31 ≡ 1 ∷ 7 ∷ 8 ∷ 14 ∷ 15 ∷ 21 ∷ 22 ∷ 28 ∷ 29 ∷ []
unfolding settlement table days_off
august_2021 = refl

-- What the table says of a day: 1 for yes.
abbrev entry : ℕ → ℕ → ℕ
entry first day = when (says first day) 1

-- A header of so many days, first weekday and holidays; its control days by the table, 1 for each; whether
-- the table has it.
abbrev header : ℕ → ℕ → ℕ → Header
header days first holidays = (month days first holidays [] [] []).header

abbrev control : Header → ℕ
control h = sum (λ day. when (table_day h day) 1) 31

abbrev has : ℕ → ℕ → ℕ
has days first = when (in_table (header days first 0)) 1

unfoldable pub table_cases : List Figure
table_cases =
    -- 28 days are four weeks, with 20 control weekdays; days 29 to 31 fall on the first weekday and the two
    -- after it: from Monday, Tuesday and Wednesday all three count; from Thursday two, the third being a
    -- Saturday; from Friday the Friday alone; from Saturday the Monday alone; from Sunday two
    figure (control (header 31 1 0)) 23
    ∷ figure (control (header 31 2 0)) 23
    ∷ figure (control (header 31 3 0)) 23
    ∷ figure (control (header 31 4 0)) 22
    ∷ figure (control (header 31 5 0)) 21
    ∷ figure (control (header 31 6 0)) 21
    ∷ figure (control (header 31 7 0)) 22
    -- December 2021 begins on a Wednesday; the 1st, 16th and 17th are holidays, all on control weekdays: bits
    -- 1 + 32,768 + 65,536. 23 - 3
    ∷ figure (control (header 31 3 98305)) 20
    -- a holiday on the 4th, a Saturday (bit 8), takes none away
    ∷ figure (control (header 31 3 98313)) 20
    -- the 31st of a month that begins on a Thursday is 30 days, four weeks and two days, on: a Saturday; on a
    -- Wednesday: a Friday
    ∷ figure (weekday_on 4 30) 6
    ∷ figure (weekday_on 3 30) 5
    ∷ figure (entry 4 30) 0
    ∷ figure (entry 3 30) 1
    -- there is no 32nd: it would be a Thursday where the month begins on a Monday; and no 33rd
    ∷ figure (entry 1 31) 0
    ∷ figure (entry 1 32) 0
    -- the weekdays before Monday and after Sunday are none: no day of such a month is a control day
    ∷ figure (entry 0 0) 0
    ∷ figure (entry 0 1) 0
    ∷ figure (entry 8 0) 0
    ∷ figure (entry 255 30) 0
    ∷ figure (control (header 31 0 0)) 0
    ∷ figure (control (header 31 8 0)) 0
    -- every line has 31 entries: the letter y is 121, a dash 45
    ∷ figure (length (line_of 0)) 31
    ∷ figure (length (line_of 1)) 31
    ∷ figure (length (line_of 7)) 31
    ∷ figure (length (line_of 8)) 31
    ∷ figure (get_or (line_of 1) 4 0) 121
    ∷ figure (get_or (line_of 1) 5 0) 45
    ∷ figure (get_or (line_of 8) 4 0) 45
    -- the table has months that begin on 1 to 7, of at most 31 days
    ∷ figure (has 31 0) 0
    ∷ figure (has 31 1) 1
    ∷ figure (has 31 4) 1
    ∷ figure (has 31 7) 1
    ∷ figure (has 31 8) 0
    ∷ figure (has 32 4) 0
    ∷ figure (has 28 4) 1
    ∷ []

-- By computation: no figure is wrong.
pub table_cases_hold : wrong table_cases ≡ []
unfolding settlement table table_cases
table_cases_hold = refl
