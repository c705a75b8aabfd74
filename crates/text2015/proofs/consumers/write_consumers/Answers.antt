use Rattle.std.proofs.Common.{◌*◌, ◌+◌, ◌≤◌, length, ◌∙◌, sym, ap, arith}
use Rattle.rules.specs.Fields.{joined}
use Rattle.rules.specs.Sheet.{month_under}
use Rattle.rules.specs.Result2015.{record_2015}
use Rattle.laws.proofs.Text2015.{length-record_2015}
use Rattle.writing.proofs.Lent.{over_none, next_record}
use Rattle.text2015.specs.Lines.{line_of}
use Rattle.text2015.proofs.Parts.{line_record}
use Rattle.text2015.proofs.consumers.write_consumers.Goals as goal

pub loop-c-init : goal.loop-c-init
unfolding joined
loop-c-init c = sym (over_none _)

pub loop-c-preserved : goal.loop-c-preserved
loop-c-preserved c =
    let i = c.loop-c.c in
    let m = month_under c.args.sheet.now.layout c.args.sheet.now.bytes.now in
    let line = c.line_of-f.ensures ∙ ap line_of (c.consumer-k.ensures.there c.loop-c-test.true) in
    let room : 17 * i + 17 ≤ length c.args.out.now = omega (arith, c.loop-c-test.true, c.requires.room) in
    next_record 17 i (record_2015 m) _ _ (length-record_2015 m) room
    c.loop-c.invariant
    (line_record m i line)
    c.write_line.ensures
