-- The code that a value of `Tables` tells. Assumes nothing.
use Rattle.codes.specs.Layouts.{Layout}
use Rattle.tabled_codes.specs.declared.tables.Tables.{Tables}
use Rattle.tabled_codes.specs.Laid.{laid}

-- and of nodes that it has not, what another code tells of them
abbrev pub layout_of : Tables → Layout → Layout
layout_of t rest = laid t.checks t.generators t.by_check t.by_generator rest
