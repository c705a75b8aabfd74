-- Names for sets of definitions: a proof that is to compute says `unfolding settlement` and so opens them
-- all.
use Rattle.rules.specs.Range.{sum, any, when, listed}
use Rattle.rules.specs.Units.{rounded, in_hundredths, in_thousandths, in_millionths, to_tenths, money}
use Rattle.rules.specs.ControlHours.{
  weekday_on,
  control_weekday,
  holiday_on,
  control_day,
  control_hour,
  counted,
  control_sum,
  control_count,
  average,
  control_average,
}
use Rattle.rules.specs.ControlTable.{control_weekdays, line_of, says, table_day, in_table}
use Rattle.rules.specs.Bands.{bands, factor_of, band_of, over_nothing, parts_of, thousandths}
use Rattle.rules.specs.Cut.{
  owns,
  support,
  bilateral,
  own_volume,
  own_support,
  own_bilateral,
  support_volume,
  bilateral_volume,
  summed_capacity,
  excess,
  left_to_cut,
  after_cut,
  row_count,
  single,
}
use Rattle.rules.specs.Coefficients.{
  share,
  millionths_of,
  overuse,
  penalty,
  less_penalty,
  exact_k1,
  k1,
  k2,
  asked,
  met,
  met_over,
  exact_k4,
  k4,
  k5,
  from_k5,
  in_order,
  others,
  support_after,
  capacity_after,
  coefficients,
}
use Rattle.rules.specs.Rows.{
  as_one_fraction,
  begun,
  factors,
  running,
  days_covered,
  for_days,
  through,
  actual,
  payment,
}
use Rattle.rules.specs.Consumers.{
  credited,
  credit,
  counted_peak,
  over_contract,
  percent_of,
  bracket,
  mining,
  volume_of,
  percent,
  band,
  volume,
  charge,
}
use Rattle.rules.specs.Totals.{total_paid, total_charged}
use Rattle.rules.specs.Fields.{big_endian, bytes_from, bytes_of, laid, width_of, joined, over, over_at}
use Rattle.rules.specs.Sheet.{
  length_field,
  version,
  states_days,
  by_column,
  row_width,
  producer_at,
  hours_at,
  hour_series,
  power,
  row_at,
  day_at,
  consumer_at,
  sheet_length,
  with_contracts,
  with_peak,
  in_version_2,
  column,
  in_columns,
  rearranged,
}
use Rattle.rules.specs.Result.{result_length, row_record, consumer_record, result_of}
use Rattle.rules.specs.Refusals.{
  one_of,
  bad_version,
  bad_month,
  too_many,
  bad_share,
  too_high,
  high_hour,
  high_producer,
  high_row,
  high_consumer,
  bad_reference,
  too_dear,
  bad_factor,
  bad_days,
  front_tests,
  header_tests,
  form_tests,
  room_tests,
  figure_tests,
  sheet_tests,
  tests_for,
  tests,
  applies,
  first_of,
  refusal,
}
use Rattle.rules.specs.Outcome.{answered, lent_after, outcome, buffer_after}
use Rattle.rules.specs.TransferList.{list_length, list_version, entries, entry}
use Rattle.rules.specs.Transfers.{
  bad_entry,
  bad_front,
  late,
  moved,
  after_entries,
  overdrawn,
  overdrawn_at,
  list_tests,
  turn_tests,
  transfer_tests,
  transfer_refusal,
  transfer_outcome,
  volumes_after,
  transferred,
}
use Rattle.rules.specs.ComplexRecord.{record_length, complex, imported, drawn, sent}
use Rattle.rules.specs.Averaging.{
  bad_record,
  high_at,
  high_record,
  net,
  complex_peak,
  record_tests,
  average_tests,
  average_refusal,
  average_outcome,
  peak_written,
  averaged,
}
use Rattle.rules.specs.Text2015.{
  excess_of,
  bands_2015,
  factor_for,
  volume_for,
  factor_2015,
  volume_2015,
  charge_2015,
}
use Rattle.rules.specs.Result2015.{length_2015, record_2015, result_2015, record_2015_at, read_2015}
use Rattle.rules.specs.Outcome2015.{tests_2015, refusal_2015, outcome_2015, buffer_after_2015}
use Rattle.rules.specs.Samples.{month, wrong}

-- From a month to its totals.
unfoldable pub settlement : Unit {0}
unfolding sum any when rounded in_hundredths in_thousandths in_millionths to_tenths money weekday_on control_weekday holiday_on control_day control_hour counted control_sum control_count average control_average bands factor_of band_of over_nothing parts_of thousandths owns support bilateral own_volume own_support own_bilateral support_volume bilateral_volume summed_capacity excess left_to_cut after_cut row_count single share millionths_of overuse penalty less_penalty exact_k1 k1 k2 asked met met_over exact_k4 k4 k5 from_k5 in_order others support_after capacity_after coefficients as_one_fraction begun factors running days_covered for_days through actual payment credited credit counted_peak over_contract percent_of bracket mining volume_of percent band volume charge total_paid total_charged month wrong
settlement = tt

-- From a sheet's bytes to its month, its refusal, and the result's bytes.
unfoldable pub layout : Unit {0}
unfolding listed big_endian bytes_from bytes_of laid width_of joined over over_at length_field version states_days by_column row_width producer_at hours_at hour_series power row_at day_at consumer_at sheet_length with_contracts with_peak in_version_2 column in_columns rearranged result_length row_record consumer_record result_of one_of bad_version bad_month too_many bad_share too_high high_hour high_producer high_row high_consumer bad_reference too_dear bad_factor bad_days front_tests header_tests form_tests room_tests figure_tests sheet_tests tests_for tests applies first_of refusal answered lent_after outcome buffer_after
layout = tt

-- From a sheet and a list of transfers to the sheet afterwards.
unfoldable pub transfers : Unit {0}
unfolding list_length list_version entries entry bad_entry bad_front late moved after_entries overdrawn overdrawn_at list_tests turn_tests transfer_tests transfer_refusal transfer_outcome volumes_after transferred
transfers = tt

-- From a sheet and the record of an industrial complex to the sheet afterwards.
unfoldable pub averaging : Unit {0}
unfolding record_length complex imported drawn sent bad_record high_at high_record net complex_peak record_tests average_tests average_refusal average_outcome peak_written averaged
averaging = tt

-- The table of control weekdays.
unfoldable pub table : Unit {0}
unfolding listed control_weekdays line_of says table_day in_table
table = tt

-- From a month to its figures under the text of 2015, and from a sheet's bytes to that result.
unfoldable pub text_2015 : Unit {0}
unfolding excess_of bands_2015 factor_for volume_for factor_2015 volume_2015 charge_2015 length_2015 record_2015 result_2015 record_2015_at read_2015 tests_2015 refusal_2015 outcome_2015 buffer_after_2015
text_2015 = tt
