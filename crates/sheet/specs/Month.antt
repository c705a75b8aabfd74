-- The month that a sheet states under its layout.
use Rattle.rules.specs.Month.{Month}
use Rattle.rules.specs.Sheet.{month_under}
use Rattle.sheet.specs.declared.records.Sheet.{Sheet}

abbrev pub month_in : Sheet → Month
month_in s = month_under s.layout s.bytes.now
