use Rattle.std.proofs.Common.{sym, length, arith}
use Rattle.std.proofs.lemmas.Bool.{eqb-true}
use Rattle.hr_script.specs.Line.{line_meaning}
use Rattle.hr_script.specs.Text.{lines_of}
use Rattle.hr_script.proofs.MeaningLemmas.{refused}
use Rattle.hr_script.proofs.ReadingLemmas.{all_lines, bad_line, lines_empty, one_line}
use Rattle.hr_script.proofs.reading.read_lines.Goals as goal

pub loop-left-preserved : goal.loop-left-preserved
loop-left-preserved c =
    let more = one_line (lines_of c.args.text.now) _ _ c.loop-left.number c.loop-left.progress c.loop-left.lines c.split_line.result.0.now c.in-Ok-Some.line c.loop-left.invariant.were c.split_line.ensures.lines (rw c.in-Ok-Some.field-0-is at c.in-Ok-Some.ensures) in
    record {
      were = rw (c.after-progress.ensures, c.in_ok-push-in-Ok-Some.ensures.ok) more;
      few = omega (arith, c.split_line.ensures.shorter, c.loop-left.invariant.few);
    }

pub returns-in-Err-Bad : goal.returns-in-Err-Bad
returns-in-Err-Bad c =
    let bad = refused (line_meaning c.loop-left.progress c.split_line.result.0.now) c.in-Err-Bad.field-0 c.in-Err-Bad.why c.in-Err-Bad.field-0-is c.in-Err-Bad.ensures in
    record {
      ok = rw c.in-Err-Bad.why-is (bad_line (lines_of c.args.text.now) _ _ c.loop-left.number c.loop-left.progress c.loop-left.lines c.split_line.result.0.now c.in-Err-Bad.why c.loop-left.invariant.were c.split_line.ensures.lines bad);
    }

pub returns : goal.returns
returns c = record {
  ok = all_lines (lines_of c.args.text.now) _ c.loop-left.number c.loop-left.progress c.loop-left.lines c.loop-left.invariant.were
      (lines_empty c.loop-left.left.now (eqb-true (length c.loop-left.left.now) 0 (sym c.loop-left-test.ensures)));
}
