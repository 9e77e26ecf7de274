-- The code that a value of `Written` stands for. Assumes nothing.
use Rattle.matrices.specs.Adjacent.{lists}
use Rattle.codes.specs.Layouts.{Layout}
use Rattle.written_codes.specs.declared.written.Written.{Written}
use Rattle.written_codes.specs.Listing.{listed_code}

abbrev pub code_of : Written → Layout
code_of w = listed_code (lists w.checks.relation.rows.nodes) (lists w.checks.relation.columns.nodes) (lists w.generators.relation.rows.nodes) (lists w.generators.relation.columns.nodes)
