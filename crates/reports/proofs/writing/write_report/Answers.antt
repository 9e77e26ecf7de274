use Rattle.std.proofs.Common.{rules}
use Rattle.reports.proofs.ReadBack.{report_determines}
use Rattle.reports.proofs.writing.write_report.Goals as goal

pub returns-in_err-ask : goal.returns-in_err-ask
returns-in_err-ask g c = record { value = search rules; after = search rules; reads_back = report_determines }

pub returns : goal.returns
returns g c = record { value = search rules; after = search rules; reads_back = report_determines }
