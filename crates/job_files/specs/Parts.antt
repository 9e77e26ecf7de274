-- Parts of a file with their places. Assumes nothing.
use Rattle.std.specs.Prelude.{◌≡◌, ℕ, List, take, drop}
use Rattle.job_files.specs.declared.parts.Part.{Part}

-- the part is the file's `size` bytes from `at` on
pub record Cut (file : List ℕ) (at size : ℕ) (p : Part) : Type 0 where
  pub place : p.at ≡ at
  pub bytes : p.bytes.now ≡ take size (drop at file)
