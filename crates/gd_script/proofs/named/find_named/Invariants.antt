use Rattle.std.proofs.Common.{◌≡◌, drop}
use Rattle.gd_script.specs.Reading.{value_named}
use Rattle.gd_script.proofs.named.find_named.Given as goal

-- what is still to be searched decides
abbrev pub invariant-loop-one : goal.invariant-loop-one
invariant-loop-one g l = value_named g.T.Named.name_of (drop l.one-index l.all) l.word ≡ value_named g.T.Named.name_of l.all l.word
