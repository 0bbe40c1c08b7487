-- A pattern of the code, as the definitions see it.
use Rattle.pattern.specs.declared.Pattern.{Pattern as Lent}
use Rattle.pattern.specs.Pattern.{Pattern, pattern_of}

abbrev pub pattern_in : Lent → Pattern
pattern_in p = pattern_of p.states p.letters p.finals p.rows.now
