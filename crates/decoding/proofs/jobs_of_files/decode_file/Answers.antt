use Rattle.std.proofs.Common.{rules}
use Rattle.decoding.specs.Decodings.{UnlessNoMemory}
use Rattle.decoding.specs.Files.{file_answer, file_output}
use Rattle.decoding.proofs.Within.{file_within}
use Rattle.decoding.proofs.jobs_of_files.decode_file.Goals as goal

pub returns-in-Ok : goal.returns-in-Ok
returns-in-Ok c =
    let file = c.args.file.now in
    let out = c.args.out.now in
    let value : UnlessNoMemory c.decode_job.result out c.decode_job.new.out (file_answer file out) (file_output file out) = search rules in
    record { value = value; bound = file_within file out c.decode_job.new.out c.decode_job.result value }
