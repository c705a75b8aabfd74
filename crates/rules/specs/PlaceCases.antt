-- A sheet and a result of our own, written out byte by byte from document 01's widths, to be read and laid by
-- Sheet and Result.
use Rattle.std.specs.Prelude.{ℕ, List, [], ◌∷◌, ◌++◌, replicate, ◌≡◌, refl}
use Rattle.rules.specs.Month.{Month}
use Rattle.rules.specs.Fields.{width_of}
use Rattle.rules.specs.Sheet.{layout_of, month_of, length_field, sheet_length}
use Rattle.rules.specs.Result.{
  consumer_figures,
  consumer_fields,
  result_of,
  row_record_at,
  consumer_record_at,
  totals_at,
  read_row,
  read_consumer,
  read_totals,
}
use Rattle.rules.specs.Outcome.{hours_stretch, within}
use Rattle.rules.specs.Samples.{producer, row, consumer, month, every, Figure, figure, wrong}
use Rattle.rules.specs.Open.{settlement, layout}

-- One day keeps it short (no sheet of one day is accepted, but it is read alike): a producer's hours are 288
-- bytes, a producer 330, two of them with two rows and two consumers 14 + 2 × 330 + 2 × 10 + 2 × 15 = 724
-- bytes (2 × 256 + 212). Weekday 5, holidays 65,536 + 2.
unfoldable pub laid_sheet : List ℕ
laid_sheet =
    (0 ∷ 0 ∷ 2 ∷ 212 ∷ 1 ∷ 1 ∷ 5 ∷ 0 ∷ 1 ∷ 0 ∷ 2 ∷ 2 ∷ 2 ∷ 2 ∷ [])
    -- producer 0: all zero
    ++ replicate 330 0
    -- producer 1: attested 257, deductible 3, own needs 4; hours 5, 6, 256 + 7; k3 8, k6 9, k7 10, k8 11, k9
    -- 12, k10 13
    ++ (0 ∷ 0 ∷ 1 ∷ 1 ∷ 0 ∷ 0 ∷ 0 ∷ 3 ∷ 0 ∷ 0 ∷ 0 ∷ 4 ∷ 0 ∷ 5 ∷ 0 ∷ 6 ∷ 1 ∷ 7 ∷ [])
    ++ (0 ∷ 0 ∷ 0 ∷ 8 ∷ 0 ∷ 0 ∷ 0 ∷ 9 ∷ 0 ∷ 0 ∷ 0 ∷ 10 ∷ 0 ∷ 0 ∷ 0 ∷ 11 ∷ 0 ∷ 0 ∷ 0 ∷ 12 ∷ 0 ∷ 0 ∷ 0 ∷ 13 ∷ [])
    -- its hours 0 and 1: working, possible, outside use; the rest zero but the last hour's outside use
    ++ (0 ∷ 0 ∷ 0 ∷ 14 ∷ 0 ∷ 0 ∷ 0 ∷ 15 ∷ 0 ∷ 0 ∷ 0 ∷ 16 ∷ 0 ∷ 0 ∷ 0 ∷ 17 ∷ 0 ∷ 0 ∷ 0 ∷ 18 ∷ 0 ∷ 0 ∷ 0 ∷ 19 ∷ [])
    ++ replicate 260 0
    ++ (0 ∷ 0 ∷ 0 ∷ 20 ∷ [])
    -- row 0: producer 1, consumer 255, volume 21, price 22; row 1: producer 0, consumer 1, volume 23, price
    -- 24
    ++ (1 ∷ 255 ∷ 0 ∷ 0 ∷ 0 ∷ 21 ∷ 0 ∷ 0 ∷ 0 ∷ 22 ∷ 0 ∷ 1 ∷ 0 ∷ 0 ∷ 0 ∷ 23 ∷ 0 ∷ 0 ∷ 0 ∷ 24 ∷ [])
    -- consumer 0: contract volume 25, peak 26, T'' 27, T''' 28, z 29, price 30; consumer 1: 31 to 36
    ++ (0 ∷ 0 ∷ 0 ∷ 25 ∷ 0 ∷ 0 ∷ 0 ∷ 26 ∷ 27 ∷ 28 ∷ 29 ∷ 0 ∷ 0 ∷ 0 ∷ 30 ∷ [])
    ++ (0 ∷ 0 ∷ 0 ∷ 31 ∷ 0 ∷ 0 ∷ 0 ∷ 32 ∷ 33 ∷ 34 ∷ 35 ∷ 0 ∷ 0 ∷ 0 ∷ 36 ∷ [])

unfoldable pub readings : List Figure
readings =
    let m = month_of laid_sheet in
    figure (length_field laid_sheet) 724
    ∷ figure (sheet_length (layout_of laid_sheet)) 724
    ∷ figure m.header.days 1
    ∷ figure m.header.weekday 5
    ∷ figure m.header.holidays 65538
    ∷ figure m.header.producers 2
    ∷ figure m.header.rows 2
    ∷ figure m.header.consumers 2
    ∷ figure (m.producer 0).k10 0
    ∷ figure (m.producer 1).attested 257
    ∷ figure (m.producer 1).deductible 3
    ∷ figure (m.producer 1).own_needs 4
    ∷ figure (m.producer 1).no_upward_bid 5
    ∷ figure (m.producer 1).no_downward_bid 6
    ∷ figure (m.producer 1).no_plan 263
    ∷ figure (m.producer 1).k3 8
    ∷ figure (m.producer 1).k6 9
    ∷ figure (m.producer 1).k7 10
    ∷ figure (m.producer 1).k8 11
    ∷ figure (m.producer 1).k9 12
    ∷ figure (m.producer 1).k10 13
    ∷ figure ((m.producer 1).working 0) 14
    ∷ figure ((m.producer 1).possible 0) 15
    ∷ figure ((m.producer 1).outside_use 0) 16
    ∷ figure ((m.producer 1).working 1) 17
    ∷ figure ((m.producer 1).possible 1) 18
    ∷ figure ((m.producer 1).outside_use 1) 19
    ∷ figure ((m.producer 1).outside_use 23) 20
    ∷ figure (m.row 0).producer 1
    ∷ figure (m.row 0).consumer 255
    ∷ figure (m.row 0).volume 21
    ∷ figure (m.row 0).price 22
    ∷ figure (m.row 1).producer 0
    ∷ figure (m.row 1).consumer 1
    ∷ figure (m.row 1).volume 23
    ∷ figure (m.row 1).price 24
    ∷ figure (m.consumer 0).contract 25
    ∷ figure (m.consumer 0).peak 26
    ∷ figure (m.consumer 0).supplier 27
    ∷ figure (m.consumer 0).grid 28
    ∷ figure (m.consumer 0).z 29
    ∷ figure (m.consumer 0).price 30
    ∷ figure (m.consumer 1).contract 31
    ∷ figure (m.consumer 1).peak 32
    ∷ figure (m.consumer 1).supplier 33
    ∷ figure (m.consumer 1).grid 34
    ∷ figure (m.consumer 1).z 35
    ∷ figure (m.consumer 1).price 36
    ∷ []

-- A producer of attested capacity 33.0 and k3 0.5 with a bilateral row of 40.0 at 100 tiyn (after the cut
-- 30.0, actual 15.0, paid 1,500), a support row of 0.1 at 20 tiyn that is too late to be cut (actual 0.05
-- rounded 0.1, paid 2) and a bilateral row of 3.0 at 40 tiyn (actual 1.5, paid 60); the deductible of 0.1 is
-- covered by own needs of 0.2. The first consumer, of DO 10.0, peak 30.0, price 1,000, has a credit of 15.0:
-- counted peak 15.0, Do 4.5, p 450, n 1.7; 10 + 1.7 × (4.5 - 0.5) = 16.8, charged 16,800. The second, of DO
-- 2.0, peak 4.0, price 500, has a credit of 1.5: counted peak 2.5, Do 0.4, p 200, n 1.3; 2 + 1.3 × (0.4 -
-- 0.1) = 2.39, so 2.4, charged 1,200.
unfoldable pub laid_month : Month
laid_month =
    month 28 1 0
    (producer 330 1 2 0 0 0 (500000 ∷ []) (every 0) (every 0) (every 0) ∷ [])
    (row 0 0 400 100 ∷ row 0 255 1 20 ∷ row 0 1 30 40 ∷ [])
    (consumer 100 300 0 0 10 1000 ∷ consumer 20 40 0 0 10 500 ∷ [])

-- Length 21 + 3 × 16 + 2 × 25 = 119, version 1; rows; consumers (16,800 is 65 × 256 + 160, 1,200 is 4 × 256 +
-- 176); total paid 1,562 (6 × 256 + 26), total charged 18,000 (70 × 256 + 80).
unfoldable pub laid_result : List ℕ
laid_result =
    (0 ∷ 0 ∷ 0 ∷ 119 ∷ 1 ∷ [])
    ++ (0 ∷ 0 ∷ 1 ∷ 44 ∷ 0 ∷ 0 ∷ 0 ∷ 150 ∷ 0 ∷ 0 ∷ 0 ∷ 0 ∷ 0 ∷ 0 ∷ 5 ∷ 220 ∷ [])
    ++ (0 ∷ 0 ∷ 0 ∷ 1 ∷ 0 ∷ 0 ∷ 0 ∷ 1 ∷ 0 ∷ 0 ∷ 0 ∷ 0 ∷ 0 ∷ 0 ∷ 0 ∷ 2 ∷ [])
    ++ (0 ∷ 0 ∷ 0 ∷ 30 ∷ 0 ∷ 0 ∷ 0 ∷ 15 ∷ 0 ∷ 0 ∷ 0 ∷ 0 ∷ 0 ∷ 0 ∷ 0 ∷ 60 ∷ [])
    ++ (0 ∷ 0 ∷ 0 ∷ 150 ∷ 0 ∷ 0 ∷ 1 ∷ 194 ∷ 17 ∷ 0 ∷ 0 ∷ 0 ∷ 0 ∷ 0 ∷ 0 ∷ 0 ∷ 168 ∷ 0 ∷ 0 ∷ 0 ∷ 0 ∷ 0 ∷ 0 ∷ 65 ∷ 160 ∷ [])
    ++ (0 ∷ 0 ∷ 0 ∷ 15 ∷ 0 ∷ 0 ∷ 0 ∷ 200 ∷ 13 ∷ 0 ∷ 0 ∷ 0 ∷ 0 ∷ 0 ∷ 0 ∷ 0 ∷ 24 ∷ 0 ∷ 0 ∷ 0 ∷ 0 ∷ 0 ∷ 0 ∷ 4 ∷ 176 ∷ [])
    ++ (0 ∷ 0 ∷ 0 ∷ 0 ∷ 0 ∷ 0 ∷ 6 ∷ 26 ∷ 0 ∷ 0 ∷ 0 ∷ 0 ∷ 0 ∷ 0 ∷ 70 ∷ 80 ∷ [])

-- Read back from that result: row 2, consumer 1, the totals. A consumer's record is 4 + 4 + 1 + 8 + 8 bytes.
unfoldable pub back_readings : List Figure
back_readings =
    figure (read_row laid_result 2).after_cut 30
    ∷ figure (read_row laid_result 2).actual 15
    ∷ figure (read_row laid_result 2).payment 60
    ∷ figure (read_consumer laid_month.header laid_result 1).credit 15
    ∷ figure (read_consumer laid_month.header laid_result 1).percent 200
    ∷ figure (read_consumer laid_month.header laid_result 1).band 13
    ∷ figure (read_consumer laid_month.header laid_result 1).volume 24
    ∷ figure (read_consumer laid_month.header laid_result 1).charge 1200
    ∷ figure (read_totals laid_month.header laid_result).paid 1562
    ∷ figure (read_totals laid_month.header laid_result).charged 18000
    ∷ figure (width_of (consumer_fields (consumer_figures laid_month 0))) 25
    ∷ []

-- A version, and two producers with nothing but bytes 255, in 28 days: 14 + 2 × (42 + 288 × 28) = 14 + 2 ×
-- 8,106 = 16,226 bytes (63 × 256 + 98). Number 8 refuses version 1 of it; its hours are found all the same.
unfoldable pub hours_sheet : ℕ → List ℕ
hours_sheet version =
    (0 ∷ 0 ∷ 63 ∷ 98 ∷ version ∷ 28 ∷ 1 ∷ 0 ∷ 0 ∷ 0 ∷ 0 ∷ 2 ∷ 0 ∷ 0 ∷ []) ++ replicate 16212 255

unfoldable pub stretches : List Figure
stretches =
    -- producer 1: its hours follow 14 + 8,106 + 42 bytes and take 288 × 28
    figure (hours_stretch (hours_sheet 1) 1).place 8162
    ∷ figure (hours_stretch (hours_sheet 1) 1).bytes 8064
    -- in versions 2 and 3 too, by column the whole stretch; there is no producer 2; version 4 is refused
    ∷ figure (hours_stretch (hours_sheet 2) 1).place 8162
    ∷ figure (hours_stretch (hours_sheet 3) 1).place 8162
    ∷ figure (hours_stretch (hours_sheet 3) 1).bytes 8064
    ∷ figure (hours_stretch (hours_sheet 1) 2).place 0
    ∷ figure (hours_stretch (hours_sheet 4) 1).bytes 0
    ∷ []

-- By computation: the sheet is read as it was written out, and the month's result is laid as it was.
pub sheet_read : wrong readings ≡ []
unfolding settlement layout laid_sheet readings
sheet_read = refl

pub result_laid : result_of laid_month ≡ laid_result
unfolding settlement layout laid_month laid_result
result_laid = refl

pub result_read : wrong back_readings ≡ []
unfolding settlement layout row_record_at consumer_record_at totals_at read_row read_consumer read_totals laid_month laid_result back_readings
result_read = refl

-- A producer's hours are found; of a stretch of 3 bytes from place 2, bytes 2, 3 and 4 are taken.
pub hours_found : wrong stretches ≡ []
unfolding settlement layout hours_stretch hours_sheet stretches
hours_found = refl

pub hours_taken : within (record { place = 2; bytes = 3 }) (10 ∷ 11 ∷ 12 ∷ 13 ∷ 14 ∷ 15 ∷ [])
    ≡ 12 ∷ 13 ∷ 14 ∷ []
unfolding within
hours_taken = refl
