-- `searching::turned`: the tables that were taken out fit the program that is compiled.
use Rattle.searching.proofs.Bridge.{sound-standing, sound-fit}
use Rattle.searching.proofs.turned.Goals as goal

pub moved-requires : goal.moved-requires
moved-requires c = (sound-standing c.requires, sound-fit c.requires c.compile-begin.ensures.automaton c.compile-begin.ensures.small)
