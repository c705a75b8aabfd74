-- Lists of transfers of our own, worked out by hand from request 1: each number at its limit and just past
-- it, in its order, and the contract volumes that a list leaves. Figures are in tenths of a megawatt.
use Rattle.std.specs.Prelude.{ℕ, List, [], ◌∷◌, ◌++◌, get_or, replicate, ◌≡◌, refl}
use Rattle.rules.specs.Month.{Consumer}
use Rattle.rules.specs.Refusals.{first_of}
use Rattle.rules.specs.TransferList.{entries}
use Rattle.rules.specs.Outcome.{refused, written}
use Rattle.rules.specs.Transfers.{
  after_entries,
  list_tests,
  turn_tests,
  transfer_refusal,
  transfer_outcome,
  transferred,
  with_volumes,
}
use Rattle.rules.specs.Samples.{consumer, month, Figure, figure, wrong}
use Rattle.rules.specs.Open.{settlement, layout, transfers}

-- A consumer, 15 bytes: its contract volume in four bytes, peak 0, no mining days, z in tenths, price 0.
abbrev consumer_bytes : List ℕ → ℕ → List ℕ
consumer_bytes contract z = contract ++ replicate 6 0 ++ (z ∷ 0 ∷ 0 ∷ 0 ∷ 0 ∷ [])

-- A sheet of 28 days with no producer, no row and three consumers, 14 + 3 × 15 = 59 bytes: its version, three
-- contract volumes, the z of the last.
abbrev three_consumers : ℕ → List ℕ → List ℕ → List ℕ → ℕ → List ℕ
three_consumers version a b c z =
    (0 ∷ 0 ∷ 0 ∷ 59 ∷ version ∷ 28 ∷ 1 ∷ 0 ∷ 0 ∷ 0 ∷ 0 ∷ 0 ∷ 0 ∷ 3 ∷ [])
    ++ consumer_bytes a 10
    ++ consumer_bytes b 10
    ++ consumer_bytes c z

-- Contract volumes of 100.0 (1,000 = 3 × 256 + 232), 50.0 (500 = 256 + 244) and 9,900.0 (99,000 = 65,536 +
-- 130 × 256 + 184).
abbrev plain : List ℕ
plain = three_consumers 1 (0 ∷ 0 ∷ 3 ∷ 232 ∷ []) (0 ∷ 0 ∷ 1 ∷ 244 ∷ []) (0 ∷ 1 ∷ 130 ∷ 184 ∷ []) 10

-- A list: the last byte of its length field, its version, its entries. An entry: day, giver, taker, the
-- amount's last two bytes.
abbrev list_of : ℕ → ℕ → List ℕ → List ℕ
list_of length version rest = (0 ∷ 0 ∷ 0 ∷ length ∷ version ∷ []) ++ rest

abbrev filed : ℕ → ℕ → ℕ → ℕ → ℕ → List ℕ
filed day giver taker high low = day ∷ giver ∷ taker ∷ 0 ∷ 0 ∷ high ∷ low ∷ []

-- One entry, in a list of 12 bytes; two, in one of 19.
abbrev one : List ℕ → List ℕ
one a = list_of 12 1 a

abbrev two : List ℕ → List ℕ → List ℕ
two a b = list_of 19 1 (a ++ b)

-- A list by itself, for those three consumers: its number, and a consumer's contract volume after its
-- entries.
abbrev volumes : ℕ → ℕ
volumes c = get_or (1000 ∷ 500 ∷ 99000 ∷ []) c 0

abbrev number : List ℕ → ℕ
number l = first_of (list_tests 3 l ++ turn_tests volumes l)

abbrev volume_of : List ℕ → ℕ → ℕ
volume_of l c = after_entries volumes l (entries l) c

unfoldable pub list_cases : List Figure
list_cases =
    -- nothing; 4 bytes that say 4; 5 bytes, the list without entries; 5 bytes that say 4 and 6
    figure (number []) 13
    ∷ figure (number (0 ∷ 0 ∷ 0 ∷ 4 ∷ [])) 13
    ∷ figure (number (list_of 5 1 [])) 0
    ∷ figure (number (list_of 4 1 [])) 13
    ∷ figure (number (list_of 6 1 [])) 13
    -- half an entry: 6 and 11 bytes that say so; a whole one
    ∷ figure (number (list_of 6 1 (1 ∷ []))) 13
    ∷ figure (number (list_of 11 1 (1 ∷ 0 ∷ 1 ∷ 0 ∷ 0 ∷ 0 ∷ []))) 13
    ∷ figure (number (one (filed 1 0 1 0 1))) 0
    -- version 0 and 2
    ∷ figure (number (list_of 5 0 [])) 13
    ∷ figure (number (list_of 5 2 [])) 13
    -- days 0 and 1, 20 and 21, 31 and 32
    ∷ figure (number (one (filed 0 0 1 0 1))) 13
    ∷ figure (number (one (filed 20 0 1 0 1))) 0
    ∷ figure (number (one (filed 21 0 1 0 1))) 14
    ∷ figure (number (one (filed 31 0 1 0 1))) 14
    ∷ figure (number (one (filed 32 0 1 0 1))) 13
    -- consumers 2, 3 and 255 of three, as giver and as taker; one consumer twice, though nothing moves
    ∷ figure (number (one (filed 1 2 0 0 1))) 0
    ∷ figure (number (one (filed 1 3 0 0 1))) 13
    ∷ figure (number (one (filed 1 255 0 0 1))) 13
    ∷ figure (number (one (filed 1 0 3 0 1))) 13
    ∷ figure (number (one (filed 1 0 255 0 1))) 13
    ∷ figure (number (one (filed 1 1 1 0 0))) 13
    -- all that consumer 1 has, 50.0, and 0.1 more
    ∷ figure (number (one (filed 1 1 0 1 244))) 0
    ∷ figure (number (one (filed 1 1 0 1 245))) 15
    -- 100.0 brings consumer 2 to exactly 10,000.0; 100.1 (1,001) is one too much for consumer 0 as well.
    -- Consumer 0 first gets 0.1 from consumer 1 and then has 100.1, which brings consumer 2 to 10,000.1
    ∷ figure (number (one (filed 1 0 2 3 232))) 0
    ∷ figure (number (one (filed 1 0 2 3 233))) 15
    ∷ figure (number (two (filed 1 1 0 0 1) (filed 1 0 2 3 232))) 0
    ∷ figure (number (two (filed 1 1 0 0 1) (filed 1 0 2 3 233))) 15
    -- an amount of 2^24: no consumer has it
    ∷ figure (number (one (1 ∷ 2 ∷ 0 ∷ 1 ∷ 0 ∷ 0 ∷ 0 ∷ []))) 15
    -- consumer 1 gives all it has; 0.1 more is refused at its turn, though it had 50.0 before the list
    ∷ figure (number (two (filed 1 1 0 1 244) (filed 1 1 2 0 1))) 15
    -- consumer 2 would come above 10,000.0, though it gives some away afterwards; in the other order it does
    -- not
    ∷ figure (number (list_of 26 1 (filed 1 0 2 3 232 ++ filed 1 1 2 0 1 ++ filed 1 2 0 0 1))) 15
    ∷ figure (number (list_of 26 1 (filed 1 2 0 0 1 ++ filed 1 0 2 3 232 ++ filed 1 1 2 0 1))) 0
    -- the order of the numbers: a late entry and one past the month's days behind it; one that asks too much
    -- and a late one behind it
    ∷ figure (number (two (filed 21 0 1 0 1) (filed 0 0 1 0 1))) 13
    ∷ figure (number (two (filed 1 1 0 1 245) (filed 21 0 1 0 1))) 14
    -- with a sheet: no whole front; the last order again; then the sheet's numbers come first (z 0.9; version
    -- 4)
    ∷ figure (transfer_refusal plain []) 13
    ∷ figure (transfer_refusal plain (two (filed 1 1 0 1 245) (filed 21 0 1 0 1))) 14
    ∷ figure (transfer_refusal (three_consumers 1 (0 ∷ 0 ∷ 0 ∷ 0 ∷ []) (0 ∷ 0 ∷ 0 ∷ 0 ∷ []) (0 ∷ 0 ∷ 0 ∷ 0 ∷ []) 9) []) 12
    ∷ figure (transfer_refusal (three_consumers 4 (0 ∷ 0 ∷ 0 ∷ 0 ∷ []) (0 ∷ 0 ∷ 0 ∷ 0 ∷ []) (0 ∷ 0 ∷ 0 ∷ 0 ∷ []) 10) []) 3
    ∷ []

-- A chain: consumer 0 gives consumer 1 all its 100.0, and consumer 1, which had 50.0 and now has 150.0, gives
-- consumer 2 100.0. Without the first entry the second would be refused.
abbrev chain : List ℕ
chain = two (filed 3 0 1 3 232) (filed 20 1 2 3 232)

unfoldable pub volume_cases : List Figure
volume_cases =
    -- 100.0 - 100.0, 50.0 + 100.0 - 100.0, 9,900.0 + 100.0
    figure (volume_of chain 0) 0
    ∷ figure (volume_of chain 1) 500
    ∷ figure (volume_of chain 2) 100000
    ∷ figure (number (one (filed 20 1 2 3 232))) 15
    -- the other way round it is refused at its first entry
    ∷ figure (number (two (filed 20 1 2 3 232) (filed 3 0 1 3 232))) 15
    -- no entries, and an amount of 0, leave 100.0, 50.0 and 9,900.0
    ∷ figure (volume_of (list_of 5 1 []) 0) 1000
    ∷ figure (volume_of (one (filed 1 0 1 0 0)) 0) 1000
    ∷ figure (volume_of (one (filed 1 0 1 0 0)) 1) 500
    ∷ figure (volume_of (one (filed 1 0 1 0 0)) 2) 99000
    -- twice 25.0 (250) from consumer 1 to consumer 0: 50.0 - 50.0, 100.0 + 50.0
    ∷ figure (volume_of (two (filed 1 1 0 0 250) (filed 1 1 0 0 250)) 0) 1500
    ∷ figure (volume_of (two (filed 1 1 0 0 250) (filed 1 1 0 0 250)) 1) 0
    ∷ []

-- A consumer whose six figures are 1 to 6, with a contract volume of 7: all others stay.
abbrev restated : Consumer
restated = (with_volumes (month 28 1 0 [] [] (consumer 1 2 3 4 5 6 ∷ [])) (λ c. 7)).consumer 0

unfoldable pub restated_figures : List Figure
restated_figures =
    figure restated.contract 7
    ∷ figure restated.peak 2
    ∷ figure restated.supplier 3
    ∷ figure restated.grid 4
    ∷ figure restated.z 5
    ∷ figure restated.price 6
    ∷ []

pub restated_figures_hold : wrong restated_figures ≡ []
unfolding settlement restated_figures
restated_figures_hold = refl

-- By computation: no number and no volume is wrong.
pub list_cases_hold : wrong list_cases ≡ []
unfolding settlement layout transfers list_cases
list_cases_hold = refl

pub volume_cases_hold : wrong volume_cases ≡ []
unfolding settlement layout transfers volume_cases
volume_cases_hold = refl

-- The whole sheet after the chain: three contract volumes were written (100,000 = 65,536 + 134 × 256 + 160),
-- no other byte.
pub chain_applied : transferred plain chain
    ≡ three_consumers 1 (0 ∷ 0 ∷ 0 ∷ 0 ∷ []) (0 ∷ 0 ∷ 1 ∷ 244 ∷ []) (0 ∷ 1 ∷ 134 ∷ 160 ∷ []) 10
unfolding settlement layout transfers
chain_applied = refl

-- In version 3 too. [Requests, 7]
pub chain_applied_in_3 : transferred (three_consumers 3 (0 ∷ 0 ∷ 3 ∷ 232 ∷ []) (0 ∷ 0 ∷ 1 ∷ 244 ∷ []) (0 ∷ 1 ∷ 130 ∷ 184 ∷ []) 10) chain
    ≡ three_consumers 3 (0 ∷ 0 ∷ 0 ∷ 0 ∷ []) (0 ∷ 0 ∷ 1 ∷ 244 ∷ []) (0 ∷ 1 ∷ 134 ∷ 160 ∷ []) 10
unfolding settlement layout transfers
chain_applied_in_3 = refl

pub chain_outcome : transfer_outcome plain chain ≡ written 0
unfolding settlement layout transfers
chain_outcome = refl

-- A list whose second entry cannot be met leaves the sheet as it was: the first is not applied either.
abbrev unmet : List ℕ
unmet = two (filed 1 1 0 1 244) (filed 1 1 2 0 1)

pub unmet_outcome : transfer_outcome plain unmet ≡ refused 15
unfolding settlement layout transfers
unmet_outcome = refl

pub unmet_kept : transferred plain unmet ≡ plain
unfolding settlement layout transfers
unmet_kept = refl
